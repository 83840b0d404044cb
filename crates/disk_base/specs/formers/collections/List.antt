-- How a list keeps its items, so that a type may hold a list of itself.
use Rattle.std.specs.declared.alloc.Global.{Global}
use Rattle.std.specs.contracts.alloc.Global as allocator
use Rattle.std.specs.contracts.impls.GlobalAllocator.TheImpl as allocating
use Rattle.std.specs.formers.vec.Vec as vec
use Rattle.disk_base.specs.contracts.collections.List as whole
use Rattle.disk_base.specs.contracts.collections.List.TheInside as inside
use Rattle.disk_base.specs.declared.collections.List.TheInside.{Inside}
use Rattle.disk_base.specs.declared.collections.List.TheView.{view, invariant}
use base.Stored.{code_map}
use denote.Hole.Carrier.{listed, list-listed}
use denote.Hole.Fix.{over}
use denote.HoleLaws.{Alike}
use denote.HolePlaces.{Recodes, laid, struct_places}
use denote.Model.Placed.{view_places}
use denote.Param.Weighed.{Weighed, w_list}
use denote.RattleType.{RattleType}
use mathlib.Core.Former.{Former, children, list, this, via}
use mathlib.Core.List.{List, []}
use mathlib.Core.Path.{◌≡◌, refl, sym}

abbrev pub the_former : Former {0} → Former {0}
the_former item = list item

abbrev pub the_weighed : {item : Former {0}} → Weighed item → Weighed (the_former item)
the_weighed weight = w_list weight

pub the_empty : List ⊥
the_empty = []

abbrev pub the_items : (T : Type 0) → List T → List T
the_items T items = items

pub the_items_listed : (T : Type 0) (items : List T) → listed _ (children (the_former this) T items) ≡ the_items T items
the_items_listed T items = list-listed T items

-- the one field is the vector of the items
abbrev the_vector : Former {0}
the_vector = via (vec.the_former this Global) Inside (λ T l. l.items) (λ T items. record { items = items }) (λ T l. refl) (λ T items. refl)

module _ (T U : RattleType) (change : T.Denot → U.Denot) where
  pub the_places : Alike T U change → Alike (whole.the_row T) (whole.the_row U) ((the_former this).map T.Denot U.Denot change)
  the_places alike =
      let vectors = vec.the_places allocator.the_row allocating.ghosts T U change alike in
      let fields = struct_places (inside.the_type T) (inside.the_type U) (vec.mapped change, tt) _ (λ items. refl) refl (laid _ _ _ vectors, tt) in
      view_places the_vector (list this) view (λ A B f l. refl) (λ A l. refl) T.Denot U.Denot change (whole.the_row T).coded (whole.the_row U).coded
      (invariant T.Denot) (invariant U.Denot) (λ l p q. refl) (λ l p q. refl) (λ l same. tt) (λ l same. tt)
      (over (inside.the_row T)) (over (inside.the_row U)) fields

  pub the_codes_placed : Recodes T U change → Recodes (whole.the_row T) (whole.the_row U) ((the_former this).map T.Denot U.Denot change)
  the_codes_placed same items = sym (code_map T.coded.code U.coded.code change (λ item. sym (same item)) items)
