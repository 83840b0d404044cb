-- How the parts that remain stand in a line: the extended one before the logical ones, each behind the one before it.
use Rattle.std.proofs.Common.{◌≡◌, ℕ, ◌<◌, ◌≤◌, ◌&&◌, nat_lt, not, true, false, List, length, map, slice_index_or, refl, sym, ◌∙◌, ap, subst, inl, inr, arith, All, Contains, IsPermutation}
use Rattle.std.specs.List.{list_any}
use Rattle.std.proofs.lemmas.Bool.{and_parts, both_ways, cases_Bool, cases_order, false_from_ne_true, not-false, not-true, or_parts}
use Rattle.std.proofs.lemmas.List.{get_or_default, get_or-map, length-map}
use Rattle.std.proofs.lemmas.List.Elements.{All-contains, All-map, Contains-get_or}
use Rattle.std.proofs.lemmas.List.Folds.{Any-from_list_any, list_any_at}
use Rattle.std.proofs.lemmas.List.Sorted.{Contains-permutation, IsPermutation-sym}
use Rattle.layout_plan.specs.declared.line.Piece.{Piece}
use Rattle.layout_plan.specs.declared.line.Spot.{Spot}
use Rattle.layout_plan.specs.declared.part.Kind.{Kind}
use Rattle.layout_plan.specs.declared.part.Kind.TheVariants.{Mbr, Gpt}
use Rattle.layout_plan.specs.declared.part.Part.{Part}
use Rattle.layout_plan.specs.declared.part.Role.{Role}
use Rattle.layout_plan.specs.declared.part.Role.TheVariants.{Slot, Extended, Logical}
use Rattle.layout_plan.specs.declared.wish.Layout.{Layout}
use Rattle.layout_plan.specs.declared.wish.Wish.{Wish}
use Rattle.layout_plan.specs.Faults.{AreAllowed}
use Rattle.layout_plan.specs.Layouts.{end_from, last_end, no_piece, piece_at, spot_at}
use Rattle.layout_plan.specs.Plans.{ComesBefore, IsLaid, IsLogicalEnd, StandsAt, extended_start, laid_piece, start_of, turn}
use Rattle.layout_plan.specs.Roles.{is_extended_role, is_logical}
use Rattle.layout_plan.specs.Source.{IsPart, IsSource, opens_before}
use Rattle.layout_plan.specs.Tables.{HasNumber, floor_of}
use Rattle.layout_plan.specs.Wishes.{is_deleted, is_gone, keeps_logical, remaining, settled}
use Rattle.layout_plan.proofs.Lines.{IsInLine, NoLogicalFirst, ends_by_last, in_line}
use Rattle.layout_plan.proofs.Named.{finds, found_passes, found_there, isnt_gone, outer_stays, plain_logical, some_left, stays, was_there}
use Rattle.layout_plan.proofs.Orders.{any_part, some_part}
use Rattle.layout_plan.proofs.Settled.{remaining_stays}

pub floor_some : (kind : Kind) → 1 ≤ floor_of kind
floor_some Mbr = omega arith
floor_some Gpt = omega arith

-- a table gives the extended partition a lower number than a logical one
lower_number : (kind : Kind) (outer inner : Role) (m n : ℕ) → is_extended_role outer ≡ true → is_logical inner ≡ true → HasNumber kind outer m → HasNumber kind inner n → m < n
lower_number kind Slot inner m n extended logical x y = absurd (cc extended)
lower_number kind Logical inner m n extended logical x y = absurd (cc extended)
lower_number kind Extended Slot m n extended logical x y = absurd (cc logical)
lower_number kind Extended Extended m n extended logical x y = absurd (cc logical)
lower_number Mbr Extended Logical m n extended logical x y = omega (arith, x.to_last, y.from_first)
lower_number Gpt Extended Logical m n extended logical x y = absurd (omega (arith, x.from_first, x.to_last))

end_outer : (role : Role) (count start : ℕ) → is_extended_role role ≡ true → end_from role count start ≡ start
end_outer Slot count start extended = absurd (cc extended)
end_outer Extended count start extended = refl
end_outer Logical count start extended = absurd (cc extended)

-- where the extended partition remains, a logical one does
inner_left : (wishes : List Wish) (parts : List Part) (outer : Part) → Contains (remaining wishes parts) outer → is_extended_role outer.role ≡ true
    → (inner : Part) × (Contains (remaining wishes parts) inner × (is_logical inner.role ≡ true))
unfolding keeps_logical
inner_left wishes parts outer there extended =
    let made = or_parts (is_deleted wishes outer) (is_extended_role outer.role && not (keeps_logical wishes parts)) (isnt_gone wishes parts outer there) in
    let none_gone : (true && not (keeps_logical wishes parts)) ≡ false = rw extended at made.1 in
    let left : keeps_logical wishes parts ≡ true = not-false (keeps_logical wishes parts) none_gone in
    let any = Any-from_list_any (λ (part : Part). is_logical part.role && not (is_deleted wishes part)) parts left in
    let inner = any.1 in
    let both = and_parts (is_logical inner.role) (not (is_deleted wishes inner)) any.4 in
    let deleted : is_deleted wishes inner ≡ false = not-true (is_deleted wishes inner) both.1 in
    let plain = plain_logical inner.role both.0 in
    let gone : is_gone wishes parts inner ≡ false = rw (deleted, plain) refl in
    (inner, (stays wishes parts inner (any.0, any.2, any.3) gone, both.0))

module _ (kind : Kind) (parts : List Part) (source : IsSource kind parts) where
  -- of the parts one alone is extended
  pub one_outer : (one other : Part) → Contains parts one → Contains parts other → is_extended_role one.role ≡ true → is_extended_role other.role ≡ true → one ≡ other
  one_outer one other x y is_one is_other =
      let Extended_at : Part → Type 0 = λ part. is_extended_role part.role ≡ true in
      let first : Extended_at (slice_index_or parts x.0 one) = subst Extended_at (sym x.2) is_one in
      let second : Extended_at (slice_index_or parts y.0 one) = subst Extended_at (sym (get_or_default parts y.0 one other y.1 ∙ y.2)) is_other in
      elim (cases_order x.0 y.0) [
        | inl same ↦ sym x.2 ∙ ap (λ (k : ℕ). slice_index_or parts k one) same ∙ get_or_default parts y.0 one other y.1 ∙ y.2
        | inr apart ↦ elim apart [
          | inl before ↦ absurd (both_ways _ (source.one_extended x.0 y.0 one before y.1 first) second)
          | inr after ↦ absurd (both_ways _ (source.one_extended y.0 x.0 one after x.1 second) first)
        ]
      ]

  pub outer_start : (outer : Part) → Contains parts outer → is_extended_role outer.role ≡ true → extended_start parts ≡ outer.start
  unfolding extended_start
  outer_start outer there extended =
      let test = λ (part : Part). is_extended_role part.role in
      let found = finds test parts outer there extended in
      let same = one_outer found.0 outer (found_there test parts found.0 found.1) there (found_passes test parts found.0 found.1) extended in
      ap start_of found.1 ∙ ap (λ (part : Part). part.start) same

  -- a logical partition has one that it stands in
  outer_of : (part : Part) → Contains parts part → is_logical part.role ≡ true → (outer : Part) × (Contains parts outer × (is_extended_role outer.role ≡ true))
  outer_of part there logical =
      let Inside : Part → Type 0 = λ one. is_logical one.role ≡ true → opens_before parts one.start ≡ true in
      let opens = All-contains Inside parts part source.inside there logical in
      let any = Any-from_list_any (λ (one : Part). is_extended_role one.role && nat_lt one.start part.start) parts opens in
      let outer = any.1 in
      let both = and_parts (is_extended_role outer.role) (nat_lt outer.start part.start) any.4 in
      (outer, ((any.0, any.2, any.3), both.0))

  turn_plain : (part : Part) → is_logical part.role ≡ false → turn parts part ≡ part.start
  turn_plain part plain = rw plain refl

  turn_inner : (part : Part) → is_logical part.role ≡ true → turn parts part ≡ extended_start parts
  turn_inner part logical = rw logical refl

  outer_plain : (role : Role) → is_extended_role role ≡ true → is_logical role ≡ false
  outer_plain Slot extended = absurd (cc extended)
  outer_plain Extended extended = refl
  outer_plain Logical extended = absurd (cc extended)

  -- a logical partition comes behind the extended one
  pub inner_later : (outer inner : Part) → Contains parts outer → Contains parts inner → is_extended_role outer.role ≡ true → is_logical inner.role ≡ true → ComesBefore parts inner outer → ⊥
  inner_later outer inner x y extended logical before =
      let tie : turn parts inner ≡ turn parts outer = turn_inner inner logical ∙ outer_start outer x extended ∙ sym (turn_plain outer (outer_plain outer.role extended)) in
      let is_outer = All-contains (IsPart kind) parts outer source.each x in
      let is_inner = All-contains (IsPart kind) parts inner source.each y in
      let numbers = lower_number kind outer.role inner.role outer.number inner.number extended logical is_outer.numbered is_inner.numbered in
      elim before [ inl less ↦ omega (arith, tie) | inr same ↦ let less = same.1 in omega (arith, numbers) ]

  module _ (wishes : List Wish) (fine : AreAllowed parts wishes) (layout : Layout) (sectors : ℕ) (laid : List Part) (spots : List Spot)
      (order : IsLaid kind parts (settled sectors wishes) layout laid spots) where
    abbrev pub pieces : List Piece
    pieces = map (laid_piece (settled sectors wishes)) laid

    pub is_remaining : IsPermutation (remaining wishes parts) laid
    is_remaining = let Of : List Part → Type 0 = λ rest. IsPermutation rest laid in subst Of (remaining_stays sectors wishes parts) order.the_remaining

    pub is_laid : (part : Part) → Contains (remaining wishes parts) part → Contains laid part
    is_laid part there = Contains-permutation (remaining wishes parts) laid part is_remaining there

    pub was_left : (part : Part) → Contains laid part → Contains (remaining wishes parts) part
    was_left part there = Contains-permutation laid (remaining wishes parts) part (IsPermutation-sym (remaining wishes parts) laid is_remaining) there

    pub was_part : (part : Part) → Contains laid part → Contains parts part
    was_part part there = was_there wishes parts part (was_left part there)

    pub at_place : (k : ℕ) → k < length laid → Contains laid (slice_index_or laid k any_part)
    at_place k within = Contains-get_or laid k any_part within

    -- where a logical partition is laid out, the extended one is
    pub outer_laid : (part : Part) → Contains laid part → is_logical part.role ≡ true → (outer : Part) × (Contains laid outer × (is_extended_role outer.role ≡ true))
    outer_laid part there logical =
        let found = outer_of part (was_part part there) logical in
        let left = some_left wishes parts part (was_left part there) logical in
        (found.0, (is_laid found.0 (outer_stays parts wishes found.0 fine found.1.0 found.1.1 left), found.1.1))

    -- and it stands before it
    pub outer_before : (e j : ℕ) → e < length laid → j < length laid → is_extended_role (slice_index_or laid e any_part).role ≡ true → is_logical (slice_index_or laid j any_part).role ≡ true → e < j
    outer_before e j in_e in_j extended logical =
        let outer = slice_index_or laid e any_part in
        let inner = slice_index_or laid j any_part in
        elim (cases_order e j) [
          | inl same ↦
              let plain = plain_logical inner.role logical in
              let is : is_extended_role inner.role ≡ true = ap (λ (k : ℕ). is_extended_role (slice_index_or laid k any_part).role) (sym same) ∙ extended in
              absurd (both_ways _ plain is)
          | inr apart ↦ elim apart [
            | inl before ↦ before
            | inr after ↦ absurd (inner_later outer inner (was_part outer (at_place e in_e)) (was_part inner (at_place j in_j)) extended logical (order.in_turn j e any_part after in_e))
          ]
        ]

    pub piece_is : (k : ℕ) → k < length laid → piece_at pieces k ≡ laid_piece (settled sectors wishes) (slice_index_or laid k any_part)
    piece_is k within = get_or-map (laid_piece (settled sectors wishes)) laid k any_part no_piece within

    pub no_logical_first : NoLogicalFirst pieces
    no_logical_first some =
        let within : 0 < length laid = omega (arith, length-map laid (laid_piece (settled sectors wishes))) in
        let first = slice_index_or laid 0 any_part in
        let role : (piece_at pieces 0).role ≡ first.role = ap (λ (piece : Piece). piece.role) (piece_is 0 within) in
        ap is_logical role ∙ false_from_ne_true (is_logical first.role) (λ logical.
        let outer = outer_laid first (at_place 0 within) logical in
        let place = outer.1.0 in
        let Is : Part → Type 0 = λ part. is_extended_role part.role ≡ true in
        let extended : Is (slice_index_or laid place.0 any_part) = subst Is (sym (get_or_default laid place.0 any_part outer.0 place.1 ∙ place.2)) outer.1.1 in
        omega (arith, outer_before place.0 0 place.1 within extended logical))

    pub begin_behind : 0 < length parts → floor_of kind ≤ order.begin
    begin_behind some =
        elim (cases_Bool layout.always) [
          | inl always ↦ (order.begins.aligned always).above
          | inr never ↦
              let Behind : ℕ → Type 0 = λ start. floor_of kind ≤ start in
              let low : All Behind (map (λ (part : Part). part.start) parts) = All-map Behind (λ (part : Part). part.start) parts (λ k d within. (source.each k d within).behind_table) in
              All-contains Behind (map (λ (part : Part). part.start) parts) order.begin low ((order.begins.stays never).attained some)
        ]

    pub some_parts : (k : ℕ) → k < length laid → 0 < length parts
    some_parts k within = some_part kind parts (settled sectors wishes) layout laid order.the_remaining (omega arith)

    -- each piece stands in line
    pub line : (k : ℕ) → k < length laid → IsInLine order.begin pieces spots k
    line k within =
        let low = begin_behind (some_parts k within) in
        in_line layout.align order.begin pieces spots (omega (arith, low, floor_some kind)) no_logical_first order.stand k (omega (arith, length-map laid (laid_piece (settled sectors wishes))))

    pub spots_many : length spots ≡ length laid
    spots_many = order.stand.as_many ∙ length-map laid (laid_piece (settled sectors wishes))

    pub by_last : (k : ℕ) → k < length laid → (spot_at spots k).end ≤ last_end (floor_of kind) spots
    by_last k within =
        let long = length-map laid (laid_piece (settled sectors wishes)) in
        ends_by_last (floor_of kind) order.begin pieces spots order.stand.as_many (λ i inside. line i (omega (arith, long))) k (omega (arith, long))

    -- where the extended partition is laid out, a logical one is
    pub some_inner : (outer : Part) → Contains laid outer → is_extended_role outer.role ≡ true → list_any (λ (part : Part). is_logical part.role) laid ≡ true
    some_inner outer there extended =
        let inner = inner_left wishes parts outer (was_left outer there) extended in
        let at = is_laid inner.0 inner.1.0 in
        let Is : Part → Type 0 = λ part. is_logical part.role ≡ true in
        list_any_at (λ (part : Part). is_logical part.role) laid at.0 inner.0 at.1 (subst Is (sym at.2) inner.1.1)

    pub part_at : (part : Part) (spot : Spot) → (stands : StandsAt laid spots part spot) → slice_index_or laid stands.place any_part ≡ part
    part_at part spot stands = get_or_default laid stands.place any_part part stands.within ∙ stands.is_part

    -- the extended partition's spot ends with its start
    pub outer_end : (outer : Part) (spot : Spot) → StandsAt laid spots outer spot → is_extended_role outer.role ≡ true → spot.end ≡ spot.start
    outer_end outer spot stands extended =
        let place = stands.place in
        let piece = piece_at pieces place in
        let role : is_extended_role piece.role ≡ true =
        ap (λ (one : Piece). is_extended_role one.role) (piece_is place stands.within) ∙ ap (λ (part : Part). is_extended_role part.role) (part_at outer spot stands) ∙ extended in
        let ends = (line place stands.within).past.ends in
        ap (λ (one : Spot). one.end) stands.there ∙ ends ∙ end_outer piece.role piece.count (spot_at spots place).start role ∙ sym (ap (λ (one : Spot). one.start) stands.there)

    pub outer_first : (outer : Part) (spot : Spot) (last : ℕ) → (stands : StandsAt laid spots outer spot) → is_extended_role outer.role ≡ true → (inner : IsLogicalEnd laid spots last)
        → stands.place < inner.place
    outer_first outer spot last stands extended inner =
        let Is : Part → Type 0 = λ part. is_extended_role part.role ≡ true in
        outer_before stands.place inner.place stands.within inner.within (subst Is (sym (part_at outer spot stands)) extended) (inner.logical any_part)

    -- and the last logical partition ends behind it
    pub outer_around : (outer : Part) (spot : Spot) (last : ℕ) → StandsAt laid spots outer spot → is_extended_role outer.role ≡ true → IsLogicalEnd laid spots last → spot.start ≤ last
    outer_around outer spot last stands extended inner =
        let before = outer_first outer spot last stands extended inner in
        let at = line inner.place inner.within in
        let ends = ap (λ (one : Spot). one.end) stands.there in
        omega (arith, outer_end outer spot stands extended, ends, at.behind stands.place before, at.rises, inner.there)
