-- The extended partition of a plan: it is there where a logical one is, round them all, and the first record stands on
-- its first sector.
use Rattle.std.proofs.Common.{◌≡◌, ◌≢◌, ℕ, suc, ◌+◌, ◌<◌, ◌≤◌, true, false, List, length, slice_index_or, refl, sym, ◌∙◌, ap, subst, inl, inr, arith, AllPairs, Contains}
use Rattle.std.proofs.lemmas.Bool.{cases_Bool, cases_eq, cases_order, or_left, or_right}
use Rattle.std.proofs.lemmas.List.{get_or_default, length-map}
use Rattle.std.proofs.lemmas.List.Elements.{Contains-get_or}
use Rattle.std.proofs.lemmas.List.Folds.{Any-from_list_any}
use Rattle.layout_plan.specs.declared.line.Piece.{Piece}
use Rattle.layout_plan.specs.declared.line.Spot.{Spot}
use Rattle.layout_plan.specs.declared.part.Fate.TheVariants.{Kept}
use Rattle.layout_plan.specs.declared.part.Kind.{Kind}
use Rattle.layout_plan.specs.declared.part.Part.{Part}
use Rattle.layout_plan.specs.declared.part.Placed.{Placed}
use Rattle.layout_plan.specs.declared.part.Role.{Role}
use Rattle.layout_plan.specs.declared.part.Role.TheVariants.{Slot, Extended, Logical}
use Rattle.layout_plan.specs.declared.wish.Layout.{Layout}
use Rattle.layout_plan.specs.declared.wish.Wish.{Wish}
use Rattle.layout_plan.specs.Layouts.{Stands, piece_at, spot_at}
use Rattle.layout_plan.specs.Plans.{Apart, AreFrom, ComesBefore, IsAround, IsPlan, KeepApart, KeepApartAs, Plan, extended_start, laid_piece, role_of, turn}
use Rattle.layout_plan.specs.Roles.{is_extended_role, is_logical}
use Rattle.layout_plan.specs.Source.{IsSource}
use Rattle.layout_plan.specs.Wishes.{remaining, settled}
use Rattle.layout_plan.proofs.Orders.{any_part}
use Rattle.layout_plan.proofs.Settled.{remaining_stays}
use Rattle.layout_plan.proofs.Standing.{is_laid, one_outer, outer_before, outer_end, outer_laid, outer_start, part_at, piece_is, pieces, some_inner, was_left, was_part}
use Rattle.target_table.proofs.Placements.{made_of, part_there, placed_as, rest}

-- what a list of placed partitions is read with beyond its end
abbrev pub nowhere : Placed
nowhere = record { from = 0; number = 0; ebr = 0; start = 0; count = 0; fate = Kept }

pub is_outer : (role : Role) → is_extended_role role ≡ true → role ≡ Extended
is_outer Slot extended = absurd (cc extended)
is_outer Extended extended = refl
is_outer Logical extended = absurd (cc extended)

pub is_inner : (role : Role) → is_logical role ≡ true → role ≡ Logical
is_inner Slot logical = absurd (cc logical)
is_inner Extended logical = absurd (cc logical)
is_inner Logical logical = refl

outer_plain : (role : Role) → is_extended_role role ≡ true → is_logical role ≡ false
outer_plain Slot extended = absurd (cc extended)
outer_plain Extended extended = refl
outer_plain Logical extended = absurd (cc extended)

-- a record behind the extended partition stands where that so far ends
on_outer : (align : ℕ) (before : Role) (behind : ℕ) (role : Role) (count : ℕ) (spot : Spot) → is_extended_role before ≡ true → is_logical role ≡ true
    → Stands align before behind role count spot → spot.ebr ≡ behind
on_outer align Slot behind role count spot extended logical x = absurd (cc extended)
on_outer align Logical behind role count spot extended logical x = absurd (cc extended)
on_outer align Extended behind Slot count spot extended logical x = absurd (cc logical)
on_outer align Extended behind Extended count spot extended logical x = absurd (cc logical)
on_outer align Extended behind Logical count spot extended logical x = x.record_place

same_record_at : (spots : List Spot) (m n : ℕ) → m ≡ n → (spot_at spots m).ebr ≡ (spot_at spots n).ebr
same_record_at spots m n same = ap (λ k. (spot_at spots k).ebr) same

not_before_itself : (parts : List Part) (part : Part) → ComesBefore parts part part → ⊥
not_before_itself parts part (inl less) = omega arith
not_before_itself parts part (inr same) = let less = same.1 in omega arith

no_later_turn : (parts : List Part) (one other : Part) → ComesBefore parts one other → turn parts one ≤ turn parts other
no_later_turn parts one other before = elim before [ inl less ↦ omega arith | inr tie ↦ let same = tie.0 in omega arith ]

-- of two parts that have one turn, the one of the lower number comes before the other
by_number_then : (parts : List Part) (one other : Part) → turn parts one ≡ turn parts other → ComesBefore parts one other → one.number < other.number
by_number_then parts one other same (inl less) = absurd (omega (arith, same))
by_number_then parts one other same (inr tie) = tie.1

around_as : (r s : Role) (p q : Placed) → r ≡ Extended → s ≡ Logical → KeepApartAs r s p q → IsAround p q
around_as Extended Logical p q a b keeps = keeps
around_as Slot s p q a b keeps = absurd (cc a)
around_as Logical s p q a b keeps = absurd (cc a)
around_as Extended Slot p q a b keeps = absurd (cc b)
around_as Extended Extended p q a b keeps = absurd (cc b)

inside_as : (r s : Role) (p q : Placed) → r ≡ Logical → s ≡ Extended → KeepApartAs r s p q → IsAround q p
inside_as Logical Extended p q a b keeps = keeps
inside_as Slot s p q a b keeps = absurd (cc a)
inside_as Extended s p q a b keeps = absurd (cc a)
inside_as Logical Slot p q a b keeps = absurd (cc b)
inside_as Logical Logical p q a b keeps = absurd (cc b)

apart_as : (r s : Role) (p q : Placed) → is_extended_role r ≡ false → is_extended_role s ≡ false → KeepApartAs r s p q → Apart p q
apart_as Extended s p q a b keeps = absurd (cc a)
apart_as Slot Extended p q a b keeps = absurd (cc b)
apart_as Logical Extended p q a b keeps = absurd (cc b)
apart_as Slot Slot p q a b keeps = keeps
apart_as Slot Logical p q a b keeps = keeps
apart_as Logical Slot p q a b keeps = keeps
apart_as Logical Logical p q a b keeps = keeps

flipped : (p q : Placed) → Apart p q → Apart q p
flipped p q (inl x) = inr x
flipped p q (inr x) = inl x

-- any two of a plan that aren't extended lie apart
pub lie_apart : (placed : List Placed) → AllPairs KeepApart placed → (i j : ℕ) (d : Placed) → i < length placed → j < length placed → i ≢ j
    → is_extended_role (role_of (slice_index_or placed i d)) ≡ false → is_extended_role (role_of (slice_index_or placed j d)) ≡ false
    → Apart (slice_index_or placed i d) (slice_index_or placed j d)
lie_apart placed apart i j d in_i in_j differ plain as_plain =
    let p = slice_index_or placed i d in
    let q = slice_index_or placed j d in
    elim (cases_order i j) [
      | inl same ↦ absurd (differ same)
      | inr other ↦ elim other [
        | inl before ↦ apart_as (role_of p) (role_of q) p q plain as_plain (apart i j d before in_j)
        | inr after ↦ flipped q p (apart_as (role_of q) (role_of p) q p as_plain plain (apart j i d after in_i))
      ]
    ]

-- an extended one lies round a logical one
pub lies_around : (placed : List Placed) → AllPairs KeepApart placed → (i j : ℕ) (d : Placed) → i < length placed → j < length placed
    → role_of (slice_index_or placed i d) ≡ Extended → role_of (slice_index_or placed j d) ≡ Logical → IsAround (slice_index_or placed i d) (slice_index_or placed j d)
lies_around placed apart i j d in_i in_j outer inner =
    let p = slice_index_or placed i d in
    let q = slice_index_or placed j d in
    elim (cases_order i j) [
      | inl same ↦
          let Is : ℕ → Type 0 = λ k. role_of (slice_index_or placed k d) ≡ Extended in
          absurd (cc (sym (subst Is same outer) ∙ inner))
      | inr other ↦ elim other [
        | inl before ↦ around_as (role_of p) (role_of q) p q outer inner (apart i j d before in_j)
        | inr after ↦ inside_as (role_of q) (role_of p) q p inner outer (apart j i d after in_i)
      ]
    ]

-- a placed partition of that role
pub record HasRole (placed : List Placed) (role : Role) : Type 0 where
  pub place : ℕ
  pub within : place < length placed
  pub role_is : (d : Placed) → role_of (slice_index_or placed place d) ≡ role

-- the first record of a plan stands on that sector
pub record HasFirstRecord (placed : List Placed) (sector : ℕ) : Type 0 where
  pub place : ℕ
  pub within : place < length placed
  pub logical : (d : Placed) → role_of (slice_index_or placed place d) ≡ Logical
  pub stands : (d : Placed) → (slice_index_or placed place d).ebr ≡ sector
  pub no_earlier : (k : ℕ) (d : Placed) → k < place → is_logical (role_of (slice_index_or placed k d)) ≡ false

module _ (kind : Kind) (parts : List Part) (source : IsSource kind parts) (wishes : List Wish) (layout : Layout) (target : ℕ) (plan : Plan) (is : IsPlan kind parts wishes layout target plan)
    (froms : AreFrom parts plan.parts) where
  laid_at : (k : ℕ) → k < length is.laid → Part
  laid_at k h = slice_index_or is.laid k any_part

  abbrev part_for : ℕ → Part
  part_for k = slice_index_or (rest kind parts source wishes layout target plan is) k any_part

  abbrev placed_at : ℕ → Placed
  placed_at k = slice_index_or plan.parts k nowhere

  rest_is : rest kind parts source wishes layout target plan is ≡ remaining wishes parts
  rest_is = remaining_stays is.sectors wishes parts

  as_many : length plan.parts ≡ length (rest kind parts source wishes layout target plan is)
  as_many = is.placed.as_many

  -- the role of a placed partition's part
  role_as : (k : ℕ) → k < length plan.parts → role_of (placed_at k) ≡ (part_for k).role
  role_as k h = (made_of kind parts source wishes layout target plan is k nowhere h).role

  from_as : (k : ℕ) → k < length plan.parts → (placed_at k).from ≡ (part_for k).number
  from_as k h = (made_of kind parts source wishes layout target plan is k nowhere h).from

  was_laid : (k : ℕ) → k < length plan.parts → Contains is.laid (part_for k)
  was_laid k h =
      let In : List Part → Type 0 = λ left. Contains left (part_for k) in
      is_laid kind parts source wishes is.due.asked layout is.sectors is.laid is.spots is.order (part_for k)
      (subst In rest_is (Contains-get_or (rest kind parts source wishes layout target plan is) k any_part (omega (arith, as_many))))

  -- a part that is laid out is placed
  record IsPlacedAt (part : Part) : Type 0 where
    place : ℕ
    within : place < length plan.parts
    part_is : part_for place ≡ part

  placed_for : (part : Part) → Contains is.laid part → IsPlacedAt part
  placed_for part there =
      let In : List Part → Type 0 = λ left. Contains left part in
      let left = subst In (sym rest_is) (was_left kind parts source wishes is.due.asked layout is.sectors is.laid is.spots is.order part there) in
      record {
        place = left.0;
        within = omega (arith, left.1, as_many);
        part_is = get_or_default (rest kind parts source wishes layout target plan is) left.0 any_part part left.1 ∙ left.2;
      }

  -- where a logical partition is placed, the extended one is
  pub has_outer : (k : ℕ) → k < length plan.parts → role_of (placed_at k) ≡ Logical → HasRole plan.parts Extended
  has_outer k h logical =
      let inner = part_for k in
      let role : is_logical inner.role ≡ true = ap is_logical (sym (role_as k h) ∙ logical) in
      let outer = outer_laid kind parts source wishes is.due.asked layout is.sectors is.laid is.spots is.order inner (was_laid k h) role in
      let at = placed_for outer.0 outer.1.0 in
      record {
        place = at.place;
        within = at.within;
        role_is = λ d.
            ap role_of (get_or_default plan.parts at.place d nowhere at.within) ∙ role_as at.place at.within
            ∙ ap (λ (part : Part). part.role) at.part_is ∙ is_outer outer.0.role outer.1.1;
      }

  -- one alone is extended
  pub one_is_outer : (i j : ℕ) → i < length plan.parts → j < length plan.parts → role_of (placed_at i) ≡ Extended → role_of (placed_at j) ≡ Extended → i ≡ j
  one_is_outer i j in_i in_j one other =
      let first = ap is_extended_role (sym (role_as i in_i) ∙ one) in
      let second = ap is_extended_role (sym (role_as j in_j) ∙ other) in
      let same = one_outer kind parts source (part_for i) (part_for j) (part_there kind parts source wishes layout target plan is i in_i) (part_there kind parts source wishes layout target plan is j in_j) first second in
      let number : (placed_at i).from ≡ (placed_at j).from = from_as i in_i ∙ ap (λ (part : Part). part.number) same ∙ sym (from_as j in_j) in
      elim (cases_order i j) [
        | inl here ↦ here
        | inr apart ↦ elim apart [
          | inl before ↦ let less = froms.by_number i j nowhere before in_j in absurd (omega (arith, less, number))
          | inr after ↦ let less = froms.by_number j i nowhere after in_i in absurd (omega (arith, less, number))
        ]
      ]

  -- a part is laid out at one place
  one_place : (a b : ℕ) → a < length is.laid → b < length is.laid → slice_index_or is.laid a any_part ≡ slice_index_or is.laid b any_part → a ≡ b
  one_place a b in_a in_b same =
      elim (cases_order a b) [
        | inl here ↦ here
        | inr apart ↦ elim apart [
          | inl before ↦
              let Before : Part → Type 0 = λ part. ComesBefore parts part (slice_index_or is.laid b any_part) in
              absurd (not_before_itself parts (slice_index_or is.laid b any_part) (subst Before same (is.order.in_turn a b any_part before in_b)))
          | inr after ↦
              let Before : Part → Type 0 = λ part. ComesBefore parts (slice_index_or is.laid b any_part) part in
              absurd (not_before_itself parts (slice_index_or is.laid b any_part) (subst Before same (is.order.in_turn b a any_part after in_a)))
        ]
      ]

  laid_part : (k : ℕ) → k < length is.laid → Contains parts (slice_index_or is.laid k any_part)
  laid_part k h = was_part kind parts source wishes is.due.asked layout is.sectors is.laid is.spots is.order (slice_index_or is.laid k any_part) (Contains-get_or is.laid k any_part h)

  turn_inner : (part : Part) → is_logical part.role ≡ true → turn parts part ≡ extended_start parts
  turn_inner part logical = rw logical refl

  turn_plain : (part : Part) → is_logical part.role ≡ false → turn parts part ≡ part.start
  turn_plain part plain = rw plain refl

  -- parts that start at one sector, one of them extended, are one part
  one_start : (outer other : Part) → Contains parts outer → Contains parts other → is_extended_role outer.role ≡ true → outer.start ≡ other.start → outer ≡ other
  one_start outer other x y extended same =
      let is_other : slice_index_or parts y.0 outer ≡ other = get_or_default parts y.0 outer other y.1 ∙ y.2 in
      let starts : (slice_index_or parts x.0 outer).start ≡ (slice_index_or parts y.0 outer).start =
      ap (λ (part : Part). part.start) x.2 ∙ same ∙ sym (ap (λ (part : Part). part.start) is_other) in
      let is_extended : is_extended_role (slice_index_or parts x.0 outer).role ≡ true = ap (λ (part : Part). is_extended_role part.role) x.2 ∙ extended in
      elim (cases_order x.0 y.0) [
        | inl place ↦ sym x.2 ∙ ap (λ (k : ℕ). slice_index_or parts k outer) place ∙ is_other
        | inr apart ↦ elim apart [
          | inl before ↦
              absurd (source.other_starts x.0 y.0 outer before y.1 (or_left _ (is_extended_role (slice_index_or parts y.0 outer).role) is_extended) starts)
          | inr after ↦
              absurd (source.other_starts y.0 x.0 outer after x.1 (or_right (is_extended_role (slice_index_or parts y.0 outer).role) _ is_extended) (sym starts))
        ]
      ]

  -- what is laid out between the extended partition and a logical one is logical
  between : (e s p : ℕ) → e < s → s < p → p < length is.laid → is_extended_role (slice_index_or is.laid e any_part).role ≡ true
      → is_logical (slice_index_or is.laid p any_part).role ≡ true → is_logical (slice_index_or is.laid s any_part).role ≡ true
  between e s p early late within extended logical =
      let outer = slice_index_or is.laid e any_part in
      let slot = slice_index_or is.laid s any_part in
      let inner = slice_index_or is.laid p any_part in
      let in_e : e < length is.laid = omega arith in
      let in_s : s < length is.laid = omega arith in
      elim (cases_Bool (is_logical slot.role)) [
        | inl is_it ↦ is_it
        | inr plain ↦
            let first = no_later_turn parts outer slot (is.order.in_turn e s any_part early in_s) in
            let second = no_later_turn parts slot inner (is.order.in_turn s p any_part late within) in
            let starts = outer_start kind parts source outer (laid_part e in_e) extended in
            let same : outer.start ≡ slot.start = omega (arith, first, second, turn_plain outer (outer_plain outer.role extended), turn_plain slot plain, turn_inner inner logical, starts) in
            let is_one = one_start outer slot (laid_part e in_e) (laid_part s in_s) extended same in
            absurd (omega (arith, early, one_place e s in_e in_s is_one))
      ]

  -- what is laid out behind the extended partition is its first logical one
  behind_outer : (e : ℕ) → e < length is.laid → is_extended_role (slice_index_or is.laid e any_part).role ≡ true
      → (suc e < length is.laid) × (is_logical (slice_index_or is.laid (suc e) any_part).role ≡ true)
  behind_outer e in_e extended =
      let outer = slice_index_or is.laid e any_part in
      let any = Any-from_list_any (λ (part : Part). is_logical part.role) is.laid
      (some_inner kind parts source wishes is.due.asked layout is.sectors is.laid is.spots is.order outer (Contains-get_or is.laid e any_part in_e) extended) in
      let j = any.0 in
      let is_j : slice_index_or is.laid j any_part ≡ any.1 = get_or_default is.laid j any_part any.1 any.2 ∙ any.3 in
      let logical : is_logical (slice_index_or is.laid j any_part).role ≡ true = ap (λ (part : Part). is_logical part.role) is_j ∙ any.4 in
      let before = outer_before kind parts source wishes is.due.asked layout is.sectors is.laid is.spots is.order e j in_e any.2 extended logical in
      let within : suc e < length is.laid = omega (arith, any.2) in (
        within,
        elim (cases_eq (suc e) j) [
          | inl here ↦ ap (λ k. is_logical (slice_index_or is.laid k any_part).role) here ∙ logical
          | inr other ↦ between e (suc e) j (omega arith) (omega arith) any.2 extended logical
        ],
      )

  record_behind : (e : ℕ) → suc e < length is.laid → is_extended_role (slice_index_or is.laid e any_part).role ≡ true
      → is_logical (slice_index_or is.laid (suc e) any_part).role ≡ true → (spot_at is.spots (suc e)).ebr ≡ (spot_at is.spots e).end
  record_behind e within extended logical =
      let line = pieces kind parts source wishes is.due.asked layout is.sectors is.laid is.spots is.order in
      let before = piece_is kind parts source wishes is.due.asked layout is.sectors is.laid is.spots is.order e (omega arith) in
      let here = piece_is kind parts source wishes is.due.asked layout is.sectors is.laid is.spots is.order (suc e) within in
      let next : e + 1 ≡ suc e = omega arith in
      let At : ℕ → Type 0 = λ k. Stands layout.align (piece_at line e).role (spot_at is.spots e).end (piece_at line k).role (piece_at line k).count (spot_at is.spots k) in
      let stands = subst At next (is.order.stand.following e (omega (arith, within, length-map is.laid (laid_piece (settled is.sectors wishes))))) in
      on_outer layout.align (piece_at line e).role (spot_at is.spots e).end (piece_at line (suc e)).role (piece_at line (suc e)).count (spot_at is.spots (suc e))
      (ap (λ (piece : Piece). is_extended_role piece.role) before ∙ extended) (ap (λ (piece : Piece). is_logical piece.role) here ∙ logical) stands

  abbrev place_of : (k : ℕ) → k < length plan.parts → ℕ
  place_of k h = (placed_as kind parts source wishes layout target plan is k nowhere h).stands.place

  in_laid : (k : ℕ) → (h : k < length plan.parts) → place_of k h < length is.laid
  in_laid k h = (placed_as kind parts source wishes layout target plan is k nowhere h).stands.within

  stands_for : (k : ℕ) → (h : k < length plan.parts) → slice_index_or is.laid (place_of k h) any_part ≡ part_for k
  stands_for k h =
      let x = placed_as kind parts source wishes layout target plan is k nowhere h in
      part_at kind parts source wishes is.due.asked layout is.sectors is.laid is.spots is.order (part_for k) x.spot x.stands

  -- the first record stands on the extended partition's first sector
  pub first_record : (e : ℕ) → e < length plan.parts → role_of (placed_at e) ≡ Extended → HasFirstRecord plan.parts (placed_at e).start
  first_record e in_e outer_role =
      let x = placed_as kind parts source wishes layout target plan is e nowhere in_e in
      let at = place_of e in_e in
      let extended_part : is_extended_role (part_for e).role ≡ true = ap is_extended_role (sym (role_as e in_e) ∙ outer_role) in
      let extended : is_extended_role (slice_index_or is.laid at any_part).role ≡ true = ap (λ (part : Part). is_extended_role part.role) (stands_for e in_e) ∙ extended_part in
      let behind = behind_outer at (in_laid e in_e) extended in
      let inner = slice_index_or is.laid (suc at) any_part in
      let found = placed_for inner (Contains-get_or is.laid (suc at) any_part behind.0) in
      let k = found.place in
      let y = placed_as kind parts source wishes layout target plan is k nowhere found.within in
      let place : place_of k found.within ≡ suc at = one_place (place_of k found.within) (suc at) (in_laid k found.within) behind.0 (stands_for k found.within ∙ found.part_is) in
      let ends = outer_end kind parts source wishes is.due.asked layout is.sectors is.laid is.spots is.order (part_for e) x.spot x.stands extended_part in
      let y_there : y.spot.ebr ≡ (spot_at is.spots y.stands.place).ebr = ap (λ (spot : Spot). spot.ebr) y.stands.there in
      let y_place = same_record_at is.spots (place_of k found.within) (suc at) place in
      let x_spot : (spot_at is.spots at).end ≡ x.spot.start = sym (ap (λ (spot : Spot). spot.end) x.stands.there) ∙ ends in
      let ebr : (placed_at k).ebr ≡ (placed_at e).start = omega (arith, y.same_record, y_there, y_place, record_behind at behind.0 extended behind.1, x_spot, x.same_start) in
      record {
        place = k;
        within = found.within;
        logical = λ d. ap role_of (get_or_default plan.parts k d nowhere found.within) ∙ role_as k found.within ∙ ap (λ (part : Part). part.role) found.part_is ∙ is_inner inner.role behind.1;
        stands = λ d. ap (λ (one : Placed). one.ebr) (get_or_default plan.parts k d nowhere found.within) ∙ ebr;
        no_earlier = λ j d early.
            let in_j : j < length plan.parts = omega (arith, found.within) in
            let less = froms.by_number j k nowhere early found.within in
            let same : role_of (slice_index_or plan.parts j d) ≡ (part_for j).role = ap role_of (get_or_default plan.parts j d nowhere in_j) ∙ role_as j in_j in
            elim (cases_Bool (is_logical (part_for j).role)) [
              | inr plain ↦ ap is_logical same ∙ plain
              | inl logical ↦ absurd (none_earlier at j k in_j found.within behind.0 extended behind.1 logical found.part_is less)
            ];
      }
    where
      none_earlier : (at j k : ℕ) → (in_j : j < length plan.parts) → (in_k : k < length plan.parts) → suc at < length is.laid
          → is_extended_role (slice_index_or is.laid at any_part).role ≡ true → is_logical (slice_index_or is.laid (suc at) any_part).role ≡ true
          → is_logical (part_for j).role ≡ true → part_for k ≡ slice_index_or is.laid (suc at) any_part → (placed_at j).from < (placed_at k).from → ⊥
      none_earlier at j k in_j in_k within extended first logical part_is less =
          let inner = slice_index_or is.laid (suc at) any_part in
          let z = place_of j in_j in
          let in_z = in_laid j in_j in
          let at_z : is_logical (slice_index_or is.laid z any_part).role ≡ true = ap (λ (part : Part). is_logical part.role) (stands_for j in_j) ∙ logical in
          let behind = outer_before kind parts source wishes is.due.asked layout is.sectors is.laid is.spots is.order at z (omega arith) in_z extended at_z in
          let number_z : (slice_index_or is.laid z any_part).number ≡ (placed_at j).from = ap (λ (part : Part). part.number) (stands_for j in_j) ∙ sym (from_as j in_j) in
          let number_k : inner.number ≡ (placed_at k).from = ap (λ (part : Part). part.number) (sym part_is) ∙ sym (from_as k in_k) in
          elim (cases_eq (suc at) z) [
            | inl here ↦
                let number = ap (λ n. (slice_index_or is.laid n any_part).number) here in
                omega (arith, number, number_z, number_k, less)
            | inr other ↦
                let later : suc at < z = omega (arith, behind) in
                let tie : turn parts inner ≡ turn parts (slice_index_or is.laid z any_part) = turn_inner inner first ∙ sym (turn_inner (slice_index_or is.laid z any_part) at_z) in
                let before = by_number_then parts inner (slice_index_or is.laid z any_part) tie (is.order.in_turn (suc at) z any_part later in_z) in
                omega (arith, before, number_z, number_k, less)
          ]
