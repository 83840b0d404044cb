-- Places of names: the first of a name counts.
use Rattle.std.specs.Prelude.{◌≡◌, ℕ, suc, List, [], ◌∷◌, Option, Some, None, if◌then◌else◌}
use Rattle.std.specs.Borrow.{Bor}
use Rattle.std.specs.Str.{bytes_eq}
use Rattle.std.specs.Ordering.{nat_cmp}
use Rattle.std.specs.Cmp.Lexicographic.{slice_cmp}
use Rattle.std.specs.BTreeMap.{BTreeMap, get_by}
use Rattle.lvm_text.specs.declared.tree.Item.{Item}
use Rattle.lvm_group.specs.declared.types.PhysicalVolume.{PhysicalVolume}
use Rattle.lvm_group.specs.Lookup.{name_of}
use Rattle.lvm_group.specs.Spelt.{place_from}

-- the place of the first item of this name, counted from n
abbrev pub item_place : ℕ → List ℕ → List Item → Option ℕ
item_place n name [] = None
item_place n name (item ∷ items) = if bytes_eq (name_of item) name then Some n else item_place (suc n) name items

-- the places that a map has
abbrev pub place_in_names : BTreeMap (Bor (List ℕ)) ℕ → List ℕ → Option ℕ
place_in_names places name = get_by (λ k. slice_cmp nat_cmp name k.now) places

abbrev pub or_first : Option ℕ → Option ℕ → Option ℕ
or_first None other = other
or_first (Some n) other = Some n

-- this place, where the name is this one
abbrev pub place_if : List ℕ → ℕ → List ℕ → Option ℕ
place_if own n name = if bytes_eq own name then Some n else None

-- one more name, which has that place where it had none
abbrev pub AddsName : BTreeMap (Bor (List ℕ)) ℕ → List ℕ → ℕ → BTreeMap (Bor (List ℕ)) ℕ → Type 0
AddsName places own n more = (name : List ℕ) → place_in_names more name ≡ or_first (place_in_names places name) (place_if own n name)

-- the map has the place of each first item of a name, and of each first physical volume
abbrev pub AreItemPlaces : List Item → BTreeMap (Bor (List ℕ)) ℕ → Type 0
AreItemPlaces items places = (name : List ℕ) → place_in_names places name ≡ item_place 0 name items

abbrev pub AreVolumePlaces : List PhysicalVolume → BTreeMap (Bor (List ℕ)) ℕ → Type 0
AreVolumePlaces ps places = (name : List ℕ) → place_in_names places name ≡ place_from 0 name ps
