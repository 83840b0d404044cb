-- Without wishes each part keeps its number and its length.
use Rattle.std.proofs.Common.{◌≡◌, ℕ, ◌-◌, ◌&&◌, nat_lt, not, true, false, List, [], ◌∷◌, length, count_by, filter, suc, slice_index_or, refl, sym, ◌∙◌, ap, subst, inl, inr, arith, All}
use Rattle.std.specs.List.{list_any}
use Rattle.std.proofs.lemmas.Bool.{and_right, cases_Bool}
use Rattle.layout_plan.specs.declared.line.Spot.{Spot}
use Rattle.layout_plan.specs.declared.part.Part.{Part}
use Rattle.layout_plan.specs.declared.part.Placed.{Placed}
use Rattle.layout_plan.specs.Plans.{ArePlaced, IsPlaced, IsSameOrder, NoneHollow}
use Rattle.layout_plan.specs.Roles.{has_logical, is_extended_role, is_logical, same_class}
use Rattle.layout_plan.specs.Wishes.{is_deleted, is_gone, keeps_logical, makes_room, number_of, remaining}
use Rattle.layout_plan.proofs.Numbers.{count_no}
use Rattle.layout_plan.proofs.Sound.{length_of_plain}

none_deleted : (parts : List Part) → has_logical parts ≡ list_any (λ (part : Part). is_logical part.role && not (is_deleted [] part)) parts
none_deleted [] = refl
none_deleted (part ∷ parts) =
    let rest = none_deleted parts in
    elim (cases_Bool (is_logical part.role)) [ inl logical ↦ rw logical refl | inr plain ↦ rw plain rest ]

logical_left : (parts : List Part) → has_logical parts ≡ true → keeps_logical [] parts ≡ true
unfolding keeps_logical
logical_left parts some = sym (none_deleted parts) ∙ some

none_gone : (all : List Part) (part : Part) → (is_extended_role part.role ≡ true → has_logical all ≡ true) → is_gone [] all part ≡ false
none_gone all part solid =
    elim (cases_Bool (is_extended_role part.role)) [
      | inl outer ↦ let left = logical_left all (solid outer) in rw (outer, left) refl
      | inr plain ↦ rw plain refl
    ]

abbrev Solid : List Part → List Part → Type 0
Solid all parts = All (λ (part : Part). is_extended_role part.role ≡ true → has_logical all ≡ true) parts

all_remain_of : (all parts : List Part) → Solid all parts → filter (λ (part : Part). not (is_gone [] all part)) parts ≡ parts
all_remain_of all [] solid = refl
all_remain_of all (part ∷ parts) solid =
    let stays = none_gone all part (solid 0 part (omega arith)) in
    rw stays (ap (λ (rest : List Part). part ∷ rest) (all_remain_of all parts (λ k d within. solid (suc k) d (omega arith))))

no_room : (all : List Part) (part : Part) (parts : List Part) → Solid all parts → count_by (makes_room [] all part) parts ≡ 0
no_room all part [] solid = refl
no_room all part (other ∷ parts) solid =
    let stays = none_gone all other (solid 0 other (omega arith)) in
    let rest = no_room all part parts (λ k d within. solid (suc k) d (omega arith)) in
    let none : makes_room [] all part other ≡ false = rw stays (and_right (same_class part other) (nat_lt other.number part.number && false) (and_right (nat_lt other.number part.number) false refl)) in
    count_no (makes_room [] all part) other parts none ∙ rest

same_number : (parts : List Part) (part : Part) → NoneHollow parts → number_of [] parts part ≡ part.number
same_number parts part solid = ap (λ (n : ℕ). part.number - n) (no_room parts part parts solid) ∙ omega arith

pub in_same_order : (parts laid : List Part) (spots : List Spot) (placed : List Placed) → NoneHollow parts → ArePlaced [] parts laid spots placed → IsSameOrder parts placed
in_same_order parts laid spots placed solid are =
    let rest : remaining [] parts ≡ parts = all_remain_of parts parts solid in
    let many : length placed ≡ length parts = are.as_many ∙ ap (λ (left : List Part). length left) rest in
    record {
      as_many = many;
      each = λ k p q within.
          let part = slice_index_or parts k p in
          let At : List Part → Type 0 = λ left. IsPlaced [] parts laid spots (slice_index_or left k p) (slice_index_or placed k q) in
          let one = subst At rest (are.each k p q (omega (arith, many))) in
          (one.from, one.number ∙ same_number parts part solid, λ plain. length_of_plain part.role [] laid spots part _ _ plain one.count);
    }
