-- Where a placed partition comes from: its part, whose role it has, and the numbers of the parts before it.
use Rattle.std.proofs.Common.{◌≡◌, ◌≢◌, ℕ, ◌<◌, ◌==◌, if◌then◌else◌, Bool, true, false, List, length, slice_index_or, refl, sym, ◌∙◌, ap, inl, inr, arith, Contains, Option, Some, None}
use Rattle.std.proofs.lemmas.Bool.{cases_Bool, eq-eqb, ne_eqb}
use Rattle.std.proofs.lemmas.List.Elements.{Contains-get_or}
use Rattle.layout_plan.specs.declared.line.Piece.{Piece}
use Rattle.layout_plan.specs.declared.line.Spot.{Spot}
use Rattle.layout_plan.specs.declared.part.Fate.{Fate}
use Rattle.layout_plan.specs.declared.part.Kind.{Kind}
use Rattle.layout_plan.specs.declared.part.Part.{Part}
use Rattle.layout_plan.specs.declared.part.Placed.{Placed}
use Rattle.layout_plan.specs.declared.part.Role.{Role}
use Rattle.layout_plan.specs.declared.part.Role.TheVariants.{Slot, Extended, Logical}
use Rattle.layout_plan.specs.declared.wish.Layout.{Layout}
use Rattle.layout_plan.specs.declared.wish.What.{What}
use Rattle.layout_plan.specs.declared.wish.What.TheVariants.{Expand, Shrink, Resize, Force, Delete, Ignore}
use Rattle.layout_plan.specs.declared.wish.Wish.{Wish}
use Rattle.layout_plan.specs.Layouts.{piece_at, spot_at}
use Rattle.layout_plan.specs.Plans.{IsPlaced, IsPlan, Plan, role_by, role_of}
use Rattle.layout_plan.specs.Roles.{is_logical}
use Rattle.layout_plan.specs.Source.{IsSource}
use Rattle.layout_plan.specs.Wishes.{fate_under, number_of, remaining, settled, wanted, wish_of}
use Rattle.layout_plan.proofs.Named.{was_there}
use Rattle.layout_plan.proofs.Orders.{any_part}
use Rattle.layout_plan.proofs.Standing.{line, part_at, piece_is, pieces}

role_at : (what : Option What) (old new : ℕ) (bare : Bool) → role_by (fate_under Slot what old new) bare ≡ (if bare then Slot else Logical)
role_at None old new bare = elim (cases_Bool (new == old)) [ inl same ↦ rw same refl | inr other ↦ rw other refl ]
role_at (Some Expand) old new bare = elim (cases_Bool (new == old)) [ inl same ↦ rw same refl | inr other ↦ rw other refl ]
role_at (Some Shrink) old new bare = elim (cases_Bool (new == old)) [ inl same ↦ rw same refl | inr other ↦ rw other refl ]
role_at (Some (Resize size)) old new bare = elim (cases_Bool (new == old)) [ inl same ↦ rw same refl | inr other ↦ rw other refl ]
role_at (Some (Force size)) old new bare = elim (cases_Bool (new == old)) [ inl same ↦ rw same refl | inr other ↦ rw other refl ]
role_at (Some Delete) old new bare = elim (cases_Bool (new == old)) [ inl same ↦ rw same refl | inr other ↦ rw other refl ]
role_at (Some Ignore) old new bare = refl

role_at_logical : (what : Option What) (old new : ℕ) (bare : Bool) → role_by (fate_under Logical what old new) bare ≡ (if bare then Slot else Logical)
role_at_logical None old new bare = elim (cases_Bool (new == old)) [ inl same ↦ rw same refl | inr other ↦ rw other refl ]
role_at_logical (Some Expand) old new bare = elim (cases_Bool (new == old)) [ inl same ↦ rw same refl | inr other ↦ rw other refl ]
role_at_logical (Some Shrink) old new bare = elim (cases_Bool (new == old)) [ inl same ↦ rw same refl | inr other ↦ rw other refl ]
role_at_logical (Some (Resize size)) old new bare = elim (cases_Bool (new == old)) [ inl same ↦ rw same refl | inr other ↦ rw other refl ]
role_at_logical (Some (Force size)) old new bare = elim (cases_Bool (new == old)) [ inl same ↦ rw same refl | inr other ↦ rw other refl ]
role_at_logical (Some Delete) old new bare = elim (cases_Bool (new == old)) [ inl same ↦ rw same refl | inr other ↦ rw other refl ]
role_at_logical (Some Ignore) old new bare = refl

-- a placed partition tells the role of its part
role_told : (role : Role) (what : Option What) (old new ebr : ℕ) → (is_logical role ≡ false → ebr ≡ 0) → (is_logical role ≡ true → ebr ≢ 0) → role_by (fate_under role what old new) (ebr == 0) ≡ role
role_told Slot what old new ebr bare record_there = let none : (ebr == 0) ≡ true = eq-eqb ebr 0 (bare refl) in role_at what old new (ebr == 0) ∙ rw none refl
role_told Extended what old new ebr bare record_there = refl
role_told Logical what old new ebr bare record_there = let some : (ebr == 0) ≡ false = ne_eqb ebr 0 (record_there refl) in role_at_logical what old new (ebr == 0) ∙ rw some refl

-- what is known of a placed partition and its part
pub record IsMadeOf (wishes : List Wish) (parts : List Part) (part : Part) (placed : Placed) : Type 0 where
  pub there : Contains parts part
  pub from : placed.from ≡ part.number
  pub number : placed.number ≡ number_of wishes parts part
  pub role : role_of placed ≡ part.role
  pub no_record : is_logical part.role ≡ false → placed.ebr ≡ 0
  pub some_record : is_logical part.role ≡ true → placed.ebr ≢ 0

module _ (kind : Kind) (parts : List Part) (source : IsSource kind parts) (wishes : List Wish) (layout : Layout) (target : ℕ) (plan : Plan) (is : IsPlan kind parts wishes layout target plan) where
  abbrev pub all : List Wish
  all = settled is.sectors wishes

  abbrev pub rest : List Part
  rest = remaining all parts

  pub placed_as : (k : ℕ) (d : Placed) → k < length plan.parts → IsPlaced all parts is.laid is.spots (slice_index_or rest k any_part) (slice_index_or plan.parts k d)
  placed_as k d h = is.placed.each k any_part d h

  pub part_there : (k : ℕ) → k < length plan.parts → Contains parts (slice_index_or rest k any_part)
  part_there k h = was_there all parts (slice_index_or rest k any_part) (Contains-get_or rest k any_part (omega (arith, is.placed.as_many)))

  -- the piece at the place of a placed partition has the role of its part
  piece_role : (part : Part) (spot : Spot) (placed : Placed) → (x : IsPlaced all parts is.laid is.spots part placed)
      → (piece_at (pieces kind parts source wishes is.due.asked layout is.sectors is.laid is.spots is.order) x.stands.place).role ≡ part.role
  piece_role part spot placed x =
      ap (λ (piece : Piece). piece.role) (piece_is kind parts source wishes is.due.asked layout is.sectors is.laid is.spots is.order x.stands.place x.stands.within)
      ∙ ap (λ (one : Part). one.role) (part_at kind parts source wishes is.due.asked layout is.sectors is.laid is.spots is.order part x.spot x.stands)

  pub made_of : (k : ℕ) (d : Placed) → k < length plan.parts → IsMadeOf all parts (slice_index_or rest k any_part) (slice_index_or plan.parts k d)
  made_of k d h =
      let part = slice_index_or rest k any_part in
      let placed = slice_index_or plan.parts k d in
      let x = placed_as k d h in
      let past = (line kind parts source wishes is.due.asked layout is.sectors is.laid is.spots is.order x.stands.place x.stands.within).past in
      let role = ap is_logical (piece_role part x.spot placed x) in
      let record_is : placed.ebr ≡ (spot_at is.spots x.stands.place).ebr = x.same_record ∙ ap (λ (spot : Spot). spot.ebr) x.stands.there in
      let none : is_logical part.role ≡ false → placed.ebr ≡ 0 = λ plain. record_is ∙ past.no_record (role ∙ plain) in
      let some : is_logical part.role ≡ true → placed.ebr ≢ 0 = λ logical zero. past.some_record (role ∙ logical) (sym record_is ∙ zero) in
      record {
        there = part_there k h;
        from = x.from;
        number = x.number;
        role = ap (λ (fate : Fate). role_by fate (placed.ebr == 0)) x.fate ∙ role_told part.role (wish_of all part.number) part.count (wanted all part) placed.ebr none some;
        no_record = none;
        some_record = some;
      }
