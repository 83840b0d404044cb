-- The tests that the words of a set of numbers spell.
use Rattle.std.proofs.Common.{◌≡◌, ◌≢◌, ℕ, ◌*◌, ◌/◌, ◌%◌, ◌^◌, ◌<◌, ◌≤◌, inl, inr, Bool, true, false, eqb, List, length, get_or, set, replicate, bit_or, sym, ap, ◌∙◌, arith, w64}
use Rattle.std.specs.Int.{bit_at}
use Rattle.std.proofs.lemmas.Bool.{cases_eq}
use Rattle.std.proofs.lemmas.List.{same_lists, length-set, get_or-set_same, get_or-set_other}
use Rattle.std.proofs.lemmas.List.FromFn.{length-map-range_with_len, get_or-map-range_with_len}
use Rattle.std.proofs.lemmas.Nat.Bits.{bit_at-zero, bit_at_set_same, bit_at_set_other}
use Rattle.std.proofs.lemmas.Simd.{length-replicate, get_or-replicate}
use Rattle.run_set.specs.inside.Words.{has_bit, tests_of}

pub length-tests : (bound : ℕ) (words : List ℕ) → length (tests_of bound words) ≡ bound
unfolding tests_of
length-tests bound words = length-map-range_with_len (has_bit words) 0 bound

pub test-at : (bound : ℕ) (words : List ℕ) (number : ℕ) (d : Bool) → number < bound → get_or (tests_of bound words) number d ≡ has_bit words number
unfolding tests_of
test-at bound words number d below = get_or-map-range_with_len (has_bit words) 0 bound number number d below (omega arith)

zero_word : (n k : ℕ) → k < n → let zeros : List ℕ = replicate n 0 in get_or zeros k 0 ≡ 0
zero_word n k below = get_or-replicate n k 0 0 below

-- words of zeros are the empty set
pub tests_empty : (bound n : ℕ) → bound ≤ 64 * n → tests_of bound (replicate n 0) ≡ replicate bound false
tests_empty bound n room =
    let ws : List ℕ = replicate n 0 in
    let none : (k : ℕ) (d : Bool) → k < length (tests_of bound ws) → get_or (tests_of bound ws) k d ≡ get_or (replicate bound false) k d =
    λ k d below.
    let inside : k < bound = omega (arith, length-tests bound ws) in
    let word : get_or ws (k / 64) 0 ≡ 0 = zero_word n (k / 64) (omega arith) in
    test-at bound ws k d inside ∙ ap (λ w. eqb (bit_at w (k % 64)) 1) word ∙ ap (λ b. eqb b 1) (bit_at-zero (k % 64)) ∙ sym (get_or-replicate bound k false d inside)
    in same_lists (tests_of bound ws) (replicate bound false) (length-tests bound ws ∙ sym (length-replicate bound false)) none

-- the word with one more bit set
abbrev pub with_bit : ℕ → ℕ → ℕ
with_bit word k = bit_or word (1 * 2 ^ k % 2 ^ 64)

module _ (words : List ℕ) (x : ℕ) (within : x / 64 < length words) where
  abbrev more : List ℕ
  more = set words (x / 64) (with_bit (get_or words (x / 64) 0) (x % 64))

  bit_same : has_bit more x ≡ true
  bit_same =
      ap (λ w. eqb (bit_at w (x % 64)) 1) (get_or-set_same words (x / 64) (with_bit (get_or words (x / 64) 0) (x % 64)) 0 within)
      ∙ ap (λ b. eqb b 1) (bit_at_set_same w64 (get_or words (x / 64) 0) (x % 64) (omega arith))

  bit_other : (y : ℕ) → y ≢ x → has_bit more y ≡ has_bit words y
  bit_other y apart =
      elim (cases_eq (y / 64) (x / 64)) [
        | inl same ↦
            let there : get_or more (y / 64) 0 ≡ with_bit (get_or words (x / 64) 0) (x % 64) = ap (λ k. get_or more k 0) same ∙ get_or-set_same words (x / 64) (with_bit (get_or words (x / 64) 0) (x % 64)) 0 within in
            let kept : bit_at (with_bit (get_or words (x / 64) 0) (x % 64)) (y % 64) ≡ bit_at (get_or words (x / 64) 0) (y % 64) = bit_at_set_other w64 (get_or words (x / 64) 0) (x % 64) (omega arith) (y % 64) (λ e. apart (omega arith)) in
            ap (λ w. eqb (bit_at w (y % 64)) 1) there ∙ ap (λ b. eqb b 1) kept ∙ ap (λ k. eqb (bit_at (get_or words k 0) (y % 64)) 1) (sym same)
        | inr differs ↦ ap (λ w. eqb (bit_at w (y % 64)) 1) (get_or-set_other words (x / 64) (y / 64) (with_bit (get_or words (x / 64) 0) (x % 64)) 0 differs)
      ]

-- with the bit of a number set, the set has that number too
pub tests_more : (bound : ℕ) (words : List ℕ) (x : ℕ) → x < bound → bound ≤ 64 * length words
    → tests_of bound (set words (x / 64) (with_bit (get_or words (x / 64) 0) (x % 64))) ≡ set (tests_of bound words) x true
tests_more bound words x below room =
    let within : x / 64 < length words = omega arith in
    let new : List ℕ = set words (x / 64) (with_bit (get_or words (x / 64) 0) (x % 64)) in
    let each : (k : ℕ) (d : Bool) → k < length (tests_of bound new) → get_or (tests_of bound new) k d ≡ get_or (set (tests_of bound words) x true) k d =
    λ k d short.
    let inside : k < bound = omega (arith, length-tests bound new) in
    elim (cases_eq k x) [
      | inl same ↦
          test-at bound new k d inside ∙ ap (has_bit new) same ∙ bit_same words x within
          ∙ sym (ap (λ j. get_or (set (tests_of bound words) x true) j d) same ∙ get_or-set_same (tests_of bound words) x true d (omega (arith, length-tests bound words)))
      | inr apart ↦
          test-at bound new k d inside ∙ bit_other words x within k apart ∙ sym (test-at bound words k d inside)
          ∙ sym (get_or-set_other (tests_of bound words) x k true d apart)
    ]
    in same_lists (tests_of bound new) (set (tests_of bound words) x true) (length-tests bound new ∙ sym (length-set (tests_of bound words) x true ∙ length-tests bound words)) each
