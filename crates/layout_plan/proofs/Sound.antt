-- That the partitions of a plan lie apart, the logical ones inside the extended one, behind the table and before the limit.
use Rattle.std.proofs.Common.{◌≡◌, ◌≢◌, ℕ, ◌+◌, ◌-◌, ◌<◌, ◌≤◌, ◌==◌, if◌then◌else◌, Bool, true, false, not, List, length, map, slice_index_or, refl, sym, ◌∙◌, ap, subst, inl, inr, arith, All, AllPairs, Contains, Option, Some, None, IfSome}
use Rattle.std.proofs.lemmas.Bool.{both_ways, cases_Bool, cases_eq, cases_order, eq-eqb, ne_eqb, or_left, or_right}
use Rattle.std.proofs.lemmas.List.{get_or_default, get_or-map, length-map}
use Rattle.std.proofs.lemmas.List.Elements.{All-contains, Contains-get_or}
use Rattle.std.proofs.lemmas.List.Folds.{list_any_at}
use Rattle.layout_plan.specs.declared.line.Piece.{Piece}
use Rattle.layout_plan.specs.declared.line.Spot.{Spot}
use Rattle.layout_plan.specs.declared.part.Fate.{Fate}
use Rattle.layout_plan.specs.declared.part.Kind.{Kind}
use Rattle.layout_plan.specs.declared.part.Kind.TheVariants.{Mbr, Gpt}
use Rattle.layout_plan.specs.declared.part.Part.{Part}
use Rattle.layout_plan.specs.declared.part.Placed.{Placed}
use Rattle.layout_plan.specs.declared.part.Role.{Role}
use Rattle.layout_plan.specs.declared.part.Role.TheVariants.{Slot, Extended, Logical}
use Rattle.layout_plan.specs.declared.wish.Layout.{Layout}
use Rattle.layout_plan.specs.declared.wish.What.{What}
use Rattle.layout_plan.specs.declared.wish.What.TheVariants.{Expand, Shrink, Resize, Force, Delete, Ignore}
use Rattle.layout_plan.specs.declared.wish.Wish.{Wish}
use Rattle.layout_plan.specs.Faults.{AreAllowed}
use Rattle.layout_plan.specs.Layouts.{end_from, last_end, piece_at, spot_at}
use Rattle.layout_plan.specs.Plans.{Apart, AreFrom, AreNumbered, ArePlaced, ComesBefore, HasLength, IsAround, IsBehind, IsExtra, IsPlacedInside, IsLaid, IsLogicalEnd, IsPlaced, KeepApart, KeepApartAs, StandsAt, extended_start, first_of, role_by, role_of, turn}
use Rattle.layout_plan.specs.Roles.{is_extended_role, is_logical, same_class}
use Rattle.layout_plan.specs.Source.{IsPart, IsSource}
use Rattle.layout_plan.specs.Tables.{HasNumber, floor_of, last_number, most_numbers}
use Rattle.layout_plan.specs.Wishes.{fate_under, remaining, settled, wanted, wish_of}
use Rattle.layout_plan.proofs.Lines.{IsInLine, last_end_is, last_end_none}
use Rattle.layout_plan.proofs.Named.{isnt_gone, plain_logical, was_there}
use Rattle.layout_plan.proofs.Numbers.{new_number, still_lower}
use Rattle.layout_plan.proofs.Orders.{any_part}
use Rattle.layout_plan.proofs.Remains.{keeps_pairs}
use Rattle.layout_plan.proofs.Settled.{remaining_stays}
use Rattle.layout_plan.proofs.Spots.{first_sector}
use Rattle.layout_plan.proofs.Standing.{begin_behind, by_last, floor_some, line, one_outer, outer_before, outer_end, outer_first, outer_start, part_at, pieces, piece_is, some_parts, spots_many, was_left, was_part}

role_at : (what : Option What) (old new : ℕ) (bare : Bool) → role_by (fate_under Slot what old new) bare ≡ (if bare then Slot else Logical)
role_at None old new bare = elim (cases_Bool (new == old)) [ inl same ↦ rw same refl | inr other ↦ rw other refl ]
role_at (Some Expand) old new bare = elim (cases_Bool (new == old)) [ inl same ↦ rw same refl | inr other ↦ rw other refl ]
role_at (Some Shrink) old new bare = elim (cases_Bool (new == old)) [ inl same ↦ rw same refl | inr other ↦ rw other refl ]
role_at (Some (Resize size)) old new bare = elim (cases_Bool (new == old)) [ inl same ↦ rw same refl | inr other ↦ rw other refl ]
role_at (Some (Force size)) old new bare = elim (cases_Bool (new == old)) [ inl same ↦ rw same refl | inr other ↦ rw other refl ]
role_at (Some Delete) old new bare = elim (cases_Bool (new == old)) [ inl same ↦ rw same refl | inr other ↦ rw other refl ]
role_at (Some Ignore) old new bare = refl

role_at_logical : (what : Option What) (old new : ℕ) (bare : Bool) → role_by (fate_under Logical what old new) bare ≡ (if bare then Slot else Logical)
role_at_logical None old new bare = elim (cases_Bool (new == old)) [ inl same ↦ rw same refl | inr other ↦ rw other refl ]
role_at_logical (Some Expand) old new bare = elim (cases_Bool (new == old)) [ inl same ↦ rw same refl | inr other ↦ rw other refl ]
role_at_logical (Some Shrink) old new bare = elim (cases_Bool (new == old)) [ inl same ↦ rw same refl | inr other ↦ rw other refl ]
role_at_logical (Some (Resize size)) old new bare = elim (cases_Bool (new == old)) [ inl same ↦ rw same refl | inr other ↦ rw other refl ]
role_at_logical (Some (Force size)) old new bare = elim (cases_Bool (new == old)) [ inl same ↦ rw same refl | inr other ↦ rw other refl ]
role_at_logical (Some Delete) old new bare = elim (cases_Bool (new == old)) [ inl same ↦ rw same refl | inr other ↦ rw other refl ]
role_at_logical (Some Ignore) old new bare = refl

-- a placed part tells its role
role_told : (role : Role) (what : Option What) (old new ebr : ℕ) → (is_logical role ≡ false → ebr ≡ 0) → (is_logical role ≡ true → ebr ≢ 0) → role_by (fate_under role what old new) (ebr == 0) ≡ role
role_told Slot what old new ebr bare record_there = let none : (ebr == 0) ≡ true = eq-eqb ebr 0 (bare refl) in role_at what old new (ebr == 0) ∙ rw none refl
role_told Extended what old new ebr bare record_there = refl
role_told Logical what old new ebr bare record_there = let some : (ebr == 0) ≡ false = ne_eqb ebr 0 (record_there refl) in role_at_logical what old new (ebr == 0) ∙ rw some refl

pub length_of_plain : (role : Role) (wishes : List Wish) (laid : List Part) (spots : List Spot) (part : Part) (start count : ℕ) → is_extended_role role ≡ false → HasLength role wishes laid spots part start count
    → count ≡ wanted wishes part
length_of_plain Slot wishes laid spots part start count plain x = x
length_of_plain Extended wishes laid spots part start count plain x = absurd (cc plain)
length_of_plain Logical wishes laid spots part start count plain x = x

length_of_outer : (role : Role) (wishes : List Wish) (laid : List Part) (spots : List Spot) (part : Part) (start count : ℕ) → is_extended_role role ≡ true → HasLength role wishes laid spots part start count
    → IsLogicalEnd laid spots (start + count)
length_of_outer Slot wishes laid spots part start count extended x = absurd (cc extended)
length_of_outer Extended wishes laid spots part start count extended x = x
length_of_outer Logical wishes laid spots part start count extended x = absurd (cc extended)

end_plain : (role : Role) (count start : ℕ) → is_extended_role role ≡ false → end_from role count start ≡ start + count
end_plain Slot count start plain = refl
end_plain Extended count start plain = absurd (cc plain)
end_plain Logical count start plain = refl

flipped : (p q : Placed) → Apart p q → Apart q p
flipped p q (inl x) = inr x
flipped p q (inr x) = inl x

-- two partitions lie as they have to, by what they are
keep_apart_as : (r s : Role) (p q : Placed)
    → (is_extended_role r ≡ false → is_extended_role s ≡ false → Apart p q)
    → (is_extended_role r ≡ true → is_logical s ≡ true → IsAround p q) → (is_logical r ≡ true → is_extended_role s ≡ true → IsAround q p)
    → (is_extended_role r ≡ true → is_extended_role s ≡ false → is_logical s ≡ false → Apart p q) → (is_extended_role s ≡ true → is_extended_role r ≡ false → is_logical r ≡ false → Apart q p)
    → (is_extended_role r ≡ true → is_extended_role s ≡ true → ⊥) → KeepApartAs r s p q
keep_apart_as Slot Slot p q plain around inside outer inner both = plain refl refl
keep_apart_as Slot Extended p q plain around inside outer inner both = flipped q p (inner refl refl refl)
keep_apart_as Slot Logical p q plain around inside outer inner both = plain refl refl
keep_apart_as Extended Slot p q plain around inside outer inner both = outer refl refl refl
keep_apart_as Extended Extended p q plain around inside outer inner both = absurd (both refl refl)
keep_apart_as Extended Logical p q plain around inside outer inner both = around refl refl
keep_apart_as Logical Slot p q plain around inside outer inner both = plain refl refl
keep_apart_as Logical Extended p q plain around inside outer inner both = inside refl refl
keep_apart_as Logical Logical p q plain around inside outer inner both = plain refl refl

-- slots and entries have lower numbers than logical partitions
slots_first : (kind : Kind) (role : Role) (m n : ℕ) → is_logical role ≡ false → HasNumber kind role m → HasNumber kind Logical n → m < n
slots_first Mbr Slot m n plain x y = omega (arith, x.to_last, y.from_first)
slots_first Mbr Extended m n plain x y = omega (arith, x.to_last, y.from_first)
slots_first Mbr Logical m n plain x y = absurd (cc plain)
slots_first Gpt role m n plain x y = absurd (omega (arith, y.from_first, y.to_last))

most_is : (kind : Kind) → last_number kind Slot ≡ most_numbers kind
most_is Mbr = refl
most_is Gpt = refl

contains_map : (f : Part → ℕ) (parts : List Part) (part : Part) → Contains parts part → Contains (map f parts) (f part)
contains_map f parts part there =
    (there.0, omega (arith, length-map parts f, there.1), get_or-map f parts there.0 part (f part) there.1 ∙ ap f there.2)

module _ (kind : Kind) (parts : List Part) (source : IsSource kind parts) (wishes : List Wish) (fine : AreAllowed parts wishes) (layout : Layout) (sectors : ℕ) (laid : List Part) (spots : List Spot)
    (order : IsLaid kind parts (settled sectors wishes) layout laid spots)
    (some : (part : Part) → Contains (remaining wishes parts) part → 1 ≤ wanted (settled sectors wishes) part) where
  abbrev all : List Wish
  all = settled sectors wishes

  abbrev Made : Part → Placed → Type 0
  Made part one = IsPlaced all parts laid spots part one

  in_line_at : (k : ℕ) → k < length laid → IsInLine order.begin (pieces kind parts source wishes fine layout sectors laid spots order) spots k
  in_line_at k within = line kind parts source wishes fine layout sectors laid spots order k within

  piece_for : (part : Part) (spot : Spot) → (stands : StandsAt laid spots part spot) → piece_at (pieces kind parts source wishes fine layout sectors laid spots order) stands.place ≡ record { role = part.role; count = wanted all part }
  piece_for part spot stands =
      piece_is kind parts source wishes fine layout sectors laid spots order stands.place stands.within
      ∙ ap (λ (one : Part). record { role = one.role; count = wanted all one }) (part_at kind parts source wishes fine layout sectors laid spots order part spot stands)

  record_is : (part : Part) (one : Placed) → (x : Made part one) → one.ebr ≡ (spot_at spots x.stands.place).ebr
  record_is part one x = x.same_record ∙ ap (λ (spot : Spot). spot.ebr) x.stands.there

  start_is : (part : Part) (one : Placed) → (x : Made part one) → one.start ≡ (spot_at spots x.stands.place).start
  start_is part one x = x.same_start ∙ ap (λ (spot : Spot). spot.start) x.stands.there

  first_is : (part : Part) (one : Placed) → (x : Made part one) → first_of one ≡ first_sector (spot_at spots x.stands.place)
  first_is part one x =
      let First : ℕ → ℕ → ℕ = λ ebr start. if ebr == 0 then start else ebr in
      ap (λ ebr. First ebr one.start) (record_is part one x) ∙ ap (λ start. First (spot_at spots x.stands.place).ebr start) (start_is part one x)

  role_is : (part : Part) (one : Placed) → Made part one → role_of one ≡ part.role
  role_is part one x =
      let past = (in_line_at x.stands.place x.stands.within).past in
      let role = ap (λ (piece : Piece). is_logical piece.role) (piece_for part x.spot x.stands) in
      let is_record = record_is part one x in
      ap (λ (fate : Fate). role_by fate (one.ebr == 0)) x.fate
      ∙ role_told part.role (wish_of all part.number) part.count (wanted all part) one.ebr
      (λ plain. is_record ∙ past.no_record (role ∙ plain)) (λ logical none. past.some_record (role ∙ logical) (sym is_record ∙ none))

  count_is : (part : Part) (one : Placed) → Made part one → is_extended_role part.role ≡ false → one.count ≡ wanted all part
  count_is part one x plain = length_of_plain part.role all laid spots part one.start one.count plain x.count

  end_is : (part : Part) (one : Placed) → (x : Made part one) → is_extended_role part.role ≡ false → one.start + one.count ≡ (spot_at spots x.stands.place).end
  end_is part one x plain =
      let place = x.stands.place in
      let piece = piece_at (pieces kind parts source wishes fine layout sectors laid spots order) place in
      let past = (in_line_at place x.stands.within).past in
      let is_piece = piece_for part x.spot x.stands in
      let role : is_extended_role piece.role ≡ false = ap (λ (one : Piece). is_extended_role one.role) is_piece ∙ plain in
      let count : piece.count ≡ wanted all part = ap (λ (one : Piece). one.count) is_piece in
      omega (arith, count, count_is part one x plain, start_is part one x, past.ends, end_plain piece.role piece.count (spot_at spots place).start role)

  outer_ends : (part : Part) (one : Placed) → Made part one → is_extended_role part.role ≡ true → IsLogicalEnd laid spots (one.start + one.count)
  outer_ends part one x extended = length_of_outer part.role all laid spots part one.start one.count extended x.count

  -- the extended partition's spot, so far, ends at its start
  outer_starts : (part : Part) (one : Placed) → (x : Made part one) → is_extended_role part.role ≡ true → (spot_at spots x.stands.place).end ≡ one.start
  outer_starts part one x extended =
      sym (ap (λ (spot : Spot). spot.end) x.stands.there) ∙ outer_end kind parts source wishes fine layout sectors laid spots order part x.spot x.stands extended ∙ sym x.same_start

  outer_leads : (part : Part) (one : Placed) → (x : Made part one) → (extended : is_extended_role part.role ≡ true) → (last : ℕ) → (inner : IsLogicalEnd laid spots last) → x.stands.place < inner.place
  outer_leads part one x extended last inner = outer_first kind parts source wishes fine layout sectors laid spots order part x.spot last x.stands extended inner

  other_places : (one other : Part) (p q : Placed) → (x : Made one p) → (y : Made other q) → one.number ≢ other.number → x.stands.place ≢ y.stands.place
  other_places one other p q x y differ same =
      let first = part_at kind parts source wishes fine layout sectors laid spots order one x.spot x.stands in
      let second = part_at kind parts source wishes fine layout sectors laid spots order other y.spot y.stands in
      differ (ap (λ (part : Part). part.number) (sym first ∙ ap (λ (k : ℕ). slice_index_or laid k any_part) same ∙ second))

  plain_apart : (one other : Part) (p q : Placed) → Made one p → Made other q → one.number ≢ other.number → is_extended_role one.role ≡ false → is_extended_role other.role ≡ false → Apart p q
  plain_apart one other p q x y differ plain as_plain =
      elim (cases_order x.stands.place y.stands.place) [
        | inl same ↦ absurd (other_places one other p q x y differ same)
        | inr apart ↦ elim apart [
          | inl before ↦
              let behind = (in_line_at y.stands.place y.stands.within).behind x.stands.place before in
              inl (omega (arith, end_is one p x plain, first_is other q y, behind))
          | inr after ↦
              let behind = (in_line_at x.stands.place x.stands.within).behind y.stands.place after in
              inr (omega (arith, end_is other q y as_plain, first_is one p x, behind))
        ]
      ]

  role_there : (part : Part) (one : Placed) → (x : Made part one) → (test : Role → Bool) (b : Bool) → test part.role ≡ b → test (slice_index_or laid x.stands.place any_part).role ≡ b
  role_there part one x test b is = ap (λ (part : Part). test part.role) (part_at kind parts source wishes fine layout sectors laid spots order part x.spot x.stands) ∙ is

  around : (outer inner : Part) (p q : Placed) → Made outer p → Made inner q → is_extended_role outer.role ≡ true → is_logical inner.role ≡ true → IsAround p q
  around outer inner p q x y extended logical =
      let last = outer_ends outer p x extended in
      let to = y.stands.place in
      let within = y.stands.within in
      let at = in_line_at to within in
      let plain = plain_logical inner.role logical in
      let before : x.stands.place < to =
      outer_before kind parts source wishes fine layout sectors laid spots order x.stands.place to x.stands.within within (role_there outer p x is_extended_role true extended) (role_there inner q y is_logical true logical) in
      record {
        from = omega (arith, outer_starts outer p x extended, at.behind x.stands.place before, first_is inner q y);
        to = elim (cases_order to last.place) [
          | inl same ↦ let ends = ap (λ (k : ℕ). (spot_at spots k).end) same in omega (arith, end_is inner q y plain, ends, last.there)
          | inr apart ↦ elim apart [
            | inl early ↦
                let later = in_line_at last.place last.within in
                omega (arith, end_is inner q y plain, later.behind to early, later.rises, last.there)
            | inr late ↦ absurd (both_ways _ (last.no_later to any_part late within) (role_there inner q y is_logical true logical))
          ]
        ];
      }

  laid_part : (k : ℕ) → k < length laid → Contains parts (slice_index_or laid k any_part)
  laid_part k within = was_part kind parts source wishes fine layout sectors laid spots order (slice_index_or laid k any_part) (Contains-get_or laid k any_part within)

  no_later_turn : (one other : Part) → ComesBefore parts one other → turn parts one ≤ turn parts other
  no_later_turn one other before = elim before [ inl less ↦ omega arith | inr tie ↦ let same = tie.0 in omega arith ]

  outer_is_plain : (role : Role) → is_extended_role role ≡ true → is_logical role ≡ false
  outer_is_plain Slot extended = absurd (cc extended)
  outer_is_plain Extended extended = refl
  outer_is_plain Logical extended = absurd (cc extended)

  -- no slot stands between the extended partition and a logical one
  none_between : (e s p : ℕ) → e < s → s < p → p < length laid → is_extended_role (slice_index_or laid e any_part).role ≡ true → is_extended_role (slice_index_or laid s any_part).role ≡ false
      → is_logical (slice_index_or laid s any_part).role ≡ false → is_logical (slice_index_or laid p any_part).role ≡ true → ⊥
  none_between e s p early late within extended not_extended not_logical logical =
      let outer = slice_index_or laid e any_part in
      let slot = slice_index_or laid s any_part in
      let inner = slice_index_or laid p any_part in
      let x = laid_part e (omega arith) in
      let y = laid_part s (omega arith) in
      let turn_outer : turn parts outer ≡ outer.start = rw (outer_is_plain outer.role extended) refl in
      let turn_slot : turn parts slot ≡ slot.start = rw not_logical refl in
      let turn_inner : turn parts inner ≡ outer.start =
      let told : turn parts inner ≡ extended_start parts = rw logical refl in
      told ∙ outer_start kind parts source outer x extended in
      let first = no_later_turn outer slot (order.in_turn e s any_part early (omega arith)) in
      let second = no_later_turn slot inner (order.in_turn s p any_part late within) in
      let same : slot.start ≡ outer.start = omega arith in
      let at_y : (slice_index_or parts y.0 slot).start ≡ slot.start = ap (λ (part : Part). part.start) y.2 in
      let is_outer : slice_index_or parts x.0 slot ≡ outer = get_or_default parts x.0 slot outer x.1 ∙ x.2 in
      let at_x : (slice_index_or parts x.0 slot).start ≡ outer.start = ap (λ (part : Part). part.start) is_outer in
      let is_extended_x : is_extended_role (slice_index_or parts x.0 slot).role ≡ true = ap (λ (part : Part). is_extended_role part.role) is_outer ∙ extended in
      elim (cases_order x.0 y.0) [
        | inl place ↦
            let is : outer ≡ slot = sym is_outer ∙ ap (λ (k : ℕ). slice_index_or parts k slot) place ∙ y.2 in
            both_ways _ not_extended (sym (ap (λ (part : Part). is_extended_role part.role) is) ∙ extended)
        | inr apart ↦ elim apart [
          | inl before ↦ source.other_starts x.0 y.0 slot before y.1 (or_left _ (is_extended_role (slice_index_or parts y.0 slot).role) is_extended_x) (at_x ∙ sym same ∙ sym at_y)
          | inr after ↦ source.other_starts y.0 x.0 slot after x.1 (or_right (is_extended_role (slice_index_or parts y.0 slot).role) _ is_extended_x) (at_y ∙ same ∙ sym at_x)
        ]
      ]

  slot_apart : (outer slot : Part) (p q : Placed) → Made outer p → Made slot q → outer.number ≢ slot.number → is_extended_role outer.role ≡ true → is_extended_role slot.role ≡ false → is_logical slot.role ≡ false
      → Apart p q
  slot_apart outer slot p q x y differ extended not_extended not_logical =
      let last = outer_ends outer p x extended in
      let e = x.stands.place in
      let s = y.stands.place in
      elim (cases_order e s) [
        | inl same ↦ absurd (other_places outer slot p q x y differ same)
        | inr apart ↦ elim apart [
          | inr after ↦
              let behind = (in_line_at e x.stands.within).behind s after in
              inr (omega (arith, end_is slot q y not_extended, first_is outer p x, behind))
          | inl before ↦ elim (cases_order last.place s) [
            | inl here ↦
                let Is : ℕ → Type 0 = λ k. is_logical (slice_index_or laid k any_part).role ≡ true in
                absurd (both_ways _ (role_there slot q y is_logical false not_logical) (subst Is here (last.logical any_part)))
            | inr other ↦ elim other [
              | inl early ↦
                  let behind = (in_line_at s y.stands.within).behind last.place early in
                  inl (omega (arith, last.there, first_is slot q y, behind))
              | inr late ↦
                  absurd
                  (none_between e s last.place before late last.within (role_there outer p x is_extended_role true extended) (role_there slot q y is_extended_role false not_extended)
                  (role_there slot q y is_logical false not_logical) (last.logical any_part))
            ]
          ]
        ]
      ]

  keep_apart : (one other : Part) (p q : Placed) → Contains parts one → Contains parts other → Made one p → Made other q → one.number ≢ other.number → KeepApart p q
  keep_apart one other p q was as_was x y differ =
      let turned : other.number ≢ one.number = λ same. differ (sym same) in
      let As : Role → Role → Type 0 = λ r s. KeepApartAs r s p q in
      let First : Role → Type 0 = λ r. KeepApartAs r (role_of q) p q in
      let Second : Role → Type 0 = λ s. KeepApartAs one.role s p q in
      subst First (sym (role_is one p x))
      (subst Second (sym (role_is other q y))
      (keep_apart_as one.role other.role p q
      (plain_apart one other p q x y differ)
      (around one other p q x y)
      (λ logical extended. around other one q p y x extended logical)
      (slot_apart one other p q x y differ)
      (slot_apart other one q p y x turned)
      (λ extended as_extended. differ (ap (λ (part : Part). part.number) (one_outer kind parts source one other was as_was extended as_extended)))))

  -- what is left of a place in the line
  first_behind : (part : Part) (one : Placed) → Made part one → floor_of kind ≤ first_of one
  first_behind part one x =
      let low = begin_behind kind parts source wishes fine layout sectors laid spots order (some_parts kind parts source wishes fine layout sectors laid spots order x.stands.place x.stands.within) in
      omega (arith, low, first_is part one x, (in_line_at x.stands.place x.stands.within).past.from)

  record_first : (part : Part) (one : Placed) → Made part one → one.ebr < one.start
  record_first part one x = omega (arith, record_is part one x, start_is part one x, (in_line_at x.stands.place x.stands.within).past.record_before)

  by_the_last : (k : ℕ) → k < length laid → (spot_at spots k).end ≤ last_end (floor_of kind) spots
  by_the_last k within = by_last kind parts source wishes fine layout sectors laid spots order k within

  laid_some : (k : ℕ) → k < length laid → 1 ≤ wanted all (slice_index_or laid k any_part)
  laid_some k within =
      some (slice_index_or laid k any_part) (was_left kind parts source wishes fine layout sectors laid spots order (slice_index_or laid k any_part) (Contains-get_or laid k any_part within))

  placed_some : (part : Part) (one : Placed) → Contains (remaining wishes parts) part → Made part one → 1 ≤ one.count
  placed_some part one there x =
      elim (cases_Bool (is_extended_role part.role)) [
        | inr plain ↦ omega (arith, count_is part one x plain, some part there)
        | inl extended ↦
            let last = outer_ends part one x extended in
            let leads = outer_leads part one x extended (one.start + one.count) last in
            let at = in_line_at last.place last.within in
            let inner = slice_index_or laid last.place any_part in
            let piece = piece_at (pieces kind parts source wishes fine layout sectors laid spots order) last.place in
            let is_piece = piece_is kind parts source wishes fine layout sectors laid spots order last.place last.within in
            let role : is_extended_role piece.role ≡ false = ap (λ (one : Piece). is_extended_role one.role) is_piece ∙ plain_logical inner.role (last.logical any_part) in
            let count : piece.count ≡ wanted all inner = ap (λ (one : Piece). one.count) is_piece in
            let ends = at.past.ends ∙ end_plain piece.role piece.count (spot_at spots last.place).start role in
            omega (arith, outer_starts part one x extended, at.behind x.stands.place leads, at.past.to, ends, count, laid_some last.place last.within, last.there)
      ]

  placed_ends : (part : Part) (one : Placed) → Made part one → one.start + one.count ≤ last_end (floor_of kind) spots
  placed_ends part one x =
      elim (cases_Bool (is_extended_role part.role)) [
        | inr plain ↦ omega (arith, end_is part one x plain, by_the_last x.stands.place x.stands.within)
        | inl extended ↦ let last = outer_ends part one x extended in omega (arith, last.there, by_the_last last.place last.within)
      ]

  -- the layout ends at the floor or behind it
  last_behind : floor_of kind ≤ last_end (floor_of kind) spots
  last_behind =
      let long = spots_many kind parts source wishes fine layout sectors laid spots order in
      elim (cases_eq (length spots) 0) [
        | inl none ↦ omega (arith, last_end_none (floor_of kind) spots none)
        | inr more ↦
            let place = length spots - 1 in
            let within : place < length laid = omega arith in
            let at = in_line_at place within in
            let low = begin_behind kind parts source wishes fine layout sectors laid spots order (some_parts kind parts source wishes fine layout sectors laid spots order place within) in
            omega (arith, last_end_is (floor_of kind) spots (omega arith), at.ends, low)
      ]

  module _ (placed : List Placed) (are : ArePlaced all parts laid spots placed) where
    rest_is : remaining all parts ≡ remaining wishes parts
    rest_is = remaining_stays sectors wishes parts

    as_long : length placed ≡ length (remaining wishes parts)
    as_long = are.as_many ∙ ap (λ (rest : List Part). length rest) rest_is

    made_at : (k : ℕ) (d : Placed) → k < length placed → Made (slice_index_or (remaining wishes parts) k any_part) (slice_index_or placed k d)
    made_at k d within =
        let At : List Part → Type 0 = λ rest. Made (slice_index_or rest k any_part) (slice_index_or placed k d) in
        subst At rest_is (are.each k any_part d within)

    left_at : (k : ℕ) → k < length placed → Contains (remaining wishes parts) (slice_index_or (remaining wishes parts) k any_part)
    left_at k within = Contains-get_or (remaining wishes parts) k any_part (omega (arith, as_long))

    part_there : (k : ℕ) → k < length placed → Contains parts (slice_index_or (remaining wishes parts) k any_part)
    part_there k within = was_there wishes parts (slice_index_or (remaining wishes parts) k any_part) (left_at k within)

    lower_at : (i j : ℕ) → i < j → j < length placed → (slice_index_or (remaining wishes parts) i any_part).number < (slice_index_or (remaining wishes parts) j any_part).number
    lower_at i j before within =
        keeps_pairs (λ (one other : Part). one.number < other.number) wishes parts source.by_number i j any_part before (omega (arith, as_long))

    pub all_keep_apart : AllPairs KeepApart placed
    all_keep_apart i j d before within =
        let one = slice_index_or (remaining wishes parts) i any_part in
        let other = slice_index_or (remaining wishes parts) j any_part in
        let early : i < length placed = omega arith in
        let less = lower_at i j before within in
        keep_apart one other (slice_index_or placed i d) (slice_index_or placed j d) (part_there i early) (part_there j within) (made_at i d early) (made_at j d within) (omega arith)

    pub all_inside : (limit : ℕ) → last_end (floor_of kind) spots ≤ limit → All (IsPlacedInside kind limit) placed
    all_inside limit fits k d within =
        let part = slice_index_or (remaining wishes parts) k any_part in
        let one = slice_index_or placed k d in
        let x = made_at k d within in
        record {
          behind_table = first_behind part one x;
          record_before = record_first part one x;
          some = placed_some part one (left_at k within) x;
          before_limit = omega (arith, placed_ends part one x);
        }

    -- each number is one of the role's, and no two are the same
    number_at : (k : ℕ) (d : Placed) → k < length placed → HasNumber kind (slice_index_or (remaining wishes parts) k any_part).role (slice_index_or placed k d).number
    number_at k d within =
        let part = slice_index_or (remaining wishes parts) k any_part in
        let x = made_at k d within in
        let Has : ℕ → Type 0 = λ number. HasNumber kind part.role number in
        subst Has (sym x.number) (new_number kind parts source all part (part_there k within))

    other_classes : (r s : Role) (m n a b : ℕ) → (if is_logical r then is_logical s else not (is_logical s)) ≡ false → HasNumber kind r m → HasNumber kind s n → HasNumber kind r a → HasNumber kind s b → m < n → a < b
    other_classes Slot Slot m n a b other x y z w less = absurd (cc other)
    other_classes Slot Extended m n a b other x y z w less = absurd (cc other)
    other_classes Extended Slot m n a b other x y z w less = absurd (cc other)
    other_classes Extended Extended m n a b other x y z w less = absurd (cc other)
    other_classes Logical Logical m n a b other x y z w less = absurd (cc other)
    other_classes Slot Logical m n a b other x y z w less = slots_first kind Slot a b refl z w
    other_classes Extended Logical m n a b other x y z w less = slots_first kind Extended a b refl z w
    other_classes Logical Slot m n a b other x y z w less = absurd (omega (arith, slots_first kind Slot n m refl y x))
    other_classes Logical Extended m n a b other x y z w less = absurd (omega (arith, slots_first kind Extended n m refl y x))

    pub numbers_rise : (i j : ℕ) (d : Placed) → i < j → j < length placed → (slice_index_or placed i d).number < (slice_index_or placed j d).number
    numbers_rise i j d before within =
        let one = slice_index_or (remaining wishes parts) i any_part in
        let other = slice_index_or (remaining wishes parts) j any_part in
        let early : i < length placed = omega arith in
        let less = lower_at i j before within in
        elim (cases_Bool (same_class one other)) [
          | inl same ↦
              let In : List Part → Type 0 = λ rest. Contains rest one in
              let made = isnt_gone all parts one (subst In (sym rest_is) (left_at i early)) in
              let lower = still_lower kind parts source all one other (part_there i early) (part_there j within) made same less in
              omega (arith, lower, (made_at i d early).number, (made_at j d within).number)
          | inr differ ↦
              let old = All-contains (IsPart kind) parts one source.each (part_there i early) in
              let as_old = All-contains (IsPart kind) parts other source.each (part_there j within) in
              other_classes one.role other.role one.number other.number _ _ differ old.numbered as_old.numbered (number_at i d early) (number_at j d within) less
        ]

    pub are_numbered : AreNumbered kind placed
    are_numbered = record {
      each = λ k d within.
          let Has : Role → Type 0 = λ role. HasNumber kind role (slice_index_or placed k d).number in
          subst Has (sym (role_is (slice_index_or (remaining wishes parts) k any_part) (slice_index_or placed k d) (made_at k d within))) (number_at k d within);
      other_numbers = λ i j d before within same. let less = numbers_rise i j d before within in omega (arith, less, same);
    }

    pub are_from : AreFrom parts placed
    are_from = record {
      each = λ k d within.
          let part = slice_index_or (remaining wishes parts) k any_part in
          let In : ℕ → Type 0 = λ number. Contains (map (λ (part : Part). part.number) parts) number in
          subst In (sym (made_at k d within).from) (contains_map (λ (part : Part). part.number) parts part (part_there k within));
      by_number = λ i j d before within. omega (arith, lower_at i j before within, (made_at i d (omega arith)).from, (made_at j d within).from);
    }

    pub extra_behind : (limit : ℕ) (extra : Option Placed) → IsExtra kind layout (last_end (floor_of kind) spots) placed limit extra → IfSome extra (IsBehind kind placed limit)
    extra_behind limit None is = tt
    extra_behind limit (Some one) is =
        let none : one.ebr ≡ 0 = is.no_boot_record in
        let first : first_of one ≡ one.start = rw none refl in
        let behind = is.behind.above in
        record {
          inside = record {
            behind_table = omega (arith, last_behind, first, behind);
            record_before = omega (arith, last_behind, floor_some kind, behind, none);
            some = omega (arith, is.enough);
            before_limit = omega (arith, is.to_limit);
          };
          last = λ k d within. omega (arith, placed_ends (slice_index_or (remaining wishes parts) k any_part) (slice_index_or placed k d) (made_at k d within), behind);
          numbered = record { from_first = is.number.from_one; to_last = omega (arith, is.number.up_to_most, most_is kind) };
          other_numbers = λ k d within same.
              both_ways _ is.number.free (list_any_at (λ (part : Placed). part.number == one.number) placed k d within (eq-eqb _ _ same));
        }
