-- Parts by turn, and by number where they have one turn.
use Rattle.std.proofs.Common.{◌≡◌, ◌≢◌, ℕ, zero, suc, ◌+◌, ◌<◌, ◌≤◌, ◌==◌, false, List, length, slice_index_or, refl, sym, ◌∙◌, inl, inr, arith, add-one, AllPairs, IsPermutation}
use Rattle.std.specs.List.{IsDistinct}
use Rattle.std.specs.List.Sorted.{IsNonDecreasingBy, IsSortedByKey, IsStableByKey}
use Rattle.std.specs.Ordering.{is_lt, nat_cmp}
use Rattle.std.proofs.lemmas.Bool.{cases_Bool, cases_eq, cases_lt, le-ltb, ne_eqb, eqb-false}
use Rattle.std.proofs.lemmas.List.Sorted.{ties_still_rise}
use Rattle.std.proofs.lemmas.Map.Keys.{IsDistinct-IsPermutation, IsDistinct-from_apart, apart_from_distinct}
use Rattle.layout_plan.specs.declared.part.Part.{Part}
use Rattle.layout_plan.specs.Plans.{ComesBefore, turn}

abbrev pub ByNumber : List Part → Type 0
ByNumber parts = AllPairs (λ (before after : Part). before.number < after.number) parts

abbrev pub OtherNumbers : List Part → Type 0
OtherNumbers parts = AllPairs (λ (one other : Part). one.number ≢ other.number) parts

flips : (a b : ℕ) → (a == b) ≡ (b == a)
flips a b =
    elim (cases_eq a b) [
      | inl same ↦ rw same
      | inr other ↦ let turned : b ≢ a = λ e. other (sym e) in ne_eqb a b other ∙ sym (ne_eqb b a turned)
    ]

-- parts in any order have different numbers
pub other_numbers : (xs ys : List Part) → IsPermutation xs ys → ByNumber xs → OtherNumbers ys
other_numbers xs ys same rising i j d before within =
    let e = λ (p q : Part). p.number == q.number in
    let apart : IsDistinct e xs = IsDistinct-from_apart e xs (λ i j d low high. let less = rising i j d low high in ne_eqb _ _ (omega arith)) in
    let distinct : IsDistinct e ys = IsDistinct-IsPermutation e (λ p q. flips p.number q.number) xs ys same apart in
    let differs : e (slice_index_or ys i d) (slice_index_or ys j d) ≡ false = apart_from_distinct e ys i j d distinct before within in
    eqb-false _ _ differs

not_less : (a b : ℕ) → b ≤ a → is_lt (nat_cmp a b) ≡ false
not_less a b more =
    let over = le-ltb a b more in
    elim (cases_Bool (a == b)) [ inl same ↦ rw (over, same) refl | inr other ↦ rw (over, other) refl ]

pub sorted_by_number : (parts : List Part) → ByNumber parts → IsSortedByKey (λ (part : Part). part.number) nat_cmp parts
sorted_by_number parts rising k d low within =
    let less : (slice_index_or parts k d).number < (slice_index_or parts (k + 1) d).number = rising k (k + 1) d (omega arith) within in
    not_less (slice_index_or parts (k + 1) d).number (slice_index_or parts k d).number (omega arith)

module _ (all : List Part) where
  -- parts that have one turn stand by number
  ties_far : (xs ys : List Part) → IsSortedByKey (λ (part : Part). part.number) nat_cmp xs → IsStableByKey (turn all) nat_cmp xs ys → IsNonDecreasingBy (turn all) ys
      → (i j : ℕ) (d : Part) → i < j → j < length ys → turn all (slice_index_or ys i d) ≡ turn all (slice_index_or ys j d)
      → (slice_index_or ys i d).number ≤ (slice_index_or ys j d).number
  ties_far xs ys sorted stable order i zero d before within tie = absurd (omega arith)
  ties_far xs ys sorted stable order i (suc j) d before within tie =
      let more : j + 1 < length ys = omega arith in
      let first = order i j d (omega arith) (omega arith) in
      let last : turn all (slice_index_or ys j d) ≤ turn all (slice_index_or ys (suc j) d) = order j (suc j) d (omega arith) within in
      let tied : turn all (slice_index_or ys j d) ≡ turn all (slice_index_or ys (suc j) d) = omega arith in
      let near : (slice_index_or ys j d).number ≤ (slice_index_or ys (suc j) d).number =
      rw (← add-one j) (ties_still_rise (λ (part : Part). part.number) (turn all) xs ys sorted stable j d more (rw (← add-one j) at tied)) in
      elim (cases_eq i j) [
        | inl same ↦ rw same near
        | inr other ↦
            let far = ties_far xs ys sorted stable order i j d (omega arith) (omega arith) (omega arith) in
            omega arith
      ]

  pub in_turn : (xs ys : List Part) → ByNumber xs → IsPermutation xs ys → IsStableByKey (turn all) nat_cmp xs ys → IsNonDecreasingBy (turn all) ys
      → AllPairs (ComesBefore all) ys
  in_turn xs ys rising same stable order i j d before within =
      elim (cases_lt (turn all (slice_index_or ys i d)) (turn all (slice_index_or ys j d))) [
        | inl less ↦ inl less
        | inr more ↦
            let no_less = order i j d (omega arith) within in
            let tie : turn all (slice_index_or ys i d) ≡ turn all (slice_index_or ys j d) = omega arith in
            let numbers = ties_far xs ys (sorted_by_number xs rising) stable order i j d before within tie in
            let differ : (slice_index_or ys i d).number ≢ (slice_index_or ys j d).number = other_numbers xs ys same rising i j d before within in
            inr (tie, omega arith)
      ]
