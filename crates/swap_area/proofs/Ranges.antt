-- Which numbers a range has, and what volumes that differ in it alone share.
use Rattle.std.proofs.Common.{◌≡◌, ◌≢◌, ℕ, zero, suc, ◌+◌, ◌<◌, ◌≤◌, ◌↔◌, List, [], ◌∷◌, arith, sym, ap, subst, inl, inr}
use Rattle.std.specs.List.{range_with_len}
use Rattle.std.proofs.lemmas.Bool.{cases_order}
use Rattle.std.proofs.lemmas.Bool.Decides.{nat_tests}
use Rattle.block_claims.specs.Agreement.{times_in, AgreeElsewhere}
use Rattle.block_claims.proofs.Agreements.{times_in-append, times_itself}
use Rattle.disk_base.specs.Fields.{little_at}
use Rattle.swap_area.specs.declared.header.Swap.{Swap}
use Rattle.swap_area.specs.Header.{IsSwap, swap_in, swap_free}
use Rattle.swap_area.specs.Laws.{SaysSame, IsFreePage}

times_other : (n x : ℕ) → n ≢ x → times_in n (x ∷ []) ≡ 0
times_other n x h = grind (arith, nat_tests)

times_first : (n x : ℕ) → n ≡ x → times_in n (x ∷ []) ≡ 1
times_first n x h = subst (λ (m : ℕ). times_in n (m ∷ []) ≡ 1) h (times_itself n)

pub in_range : (a m n : ℕ) → 0 < times_in n (range_with_len a m) → (a ≤ n) × (n < a + m)
in_range a zero n some = absurd (omega (arith, some))
in_range a (suc m) n some =
    elim (cases_order n a) [
      | inl same ↦ (omega arith, omega arith)
      | inr other ↦
          let apart : n ≢ a = elim other [ inl less ↦ omega arith | inr more ↦ omega arith ] in
          let later = in_range (a + 1) m n (omega (arith, some, times_in-append n (a ∷ []) (range_with_len (a + 1) m), times_other n a apart)) in
          (omega (arith, later.0), omega (arith, later.1))
    ]

pub range_has : (a m n : ℕ) → a ≤ n → n < a + m → 0 < times_in n (range_with_len a m)
range_has a zero n low high = absurd (omega (arith, low, high))
range_has a (suc m) n low high =
    let more = times_in-append n (a ∷ []) (range_with_len (a + 1) m) in
    elim (cases_order n a) [
      | inl same ↦ omega (arith, more, times_first n a same)
      | inr other ↦
          let later = range_has (a + 1) m n (elim other [ inl less ↦ omega (arith, less, low) | inr behind ↦ omega (arith, behind) ]) (omega (arith, high)) in
          omega (arith, more, later)
    ]

pub first_page_stays : (swap : Swap) (old new : ℕ → List ℕ) → AgreeElsewhere (swap_free swap) old new → new 0 ≡ old 0
first_page_stays swap old new agree =
    agree 0 (elim (cases_order (times_in 0 (range_with_len 1 swap.last_page)) 0) [
      | inl none ↦ none
      | inr other ↦ elim other [
        | inl less ↦ absurd (omega (arith, less))
        | inr some ↦ let found = in_range 1 swap.last_page 0 some in absurd (omega (arith, found.0))
      ]
    ])

pub says_same : (swap : Swap) (old new : ℕ → List ℕ) → AgreeElsewhere (swap_free swap) old new → SaysSame (old 0) (new 0)
says_same swap old new agree =
    let same = first_page_stays swap old new agree in
    record {
      swap = ap swap_in same;
      valid = λ sectors. (subst (λ (page : List ℕ). IsSwap page sectors) same, subst (λ (page : List ℕ). IsSwap page sectors) (sym same));
    }

pub are_free_pages : (page : List ℕ) (sectors n : ℕ) → IsSwap page sectors → (0 < times_in n (swap_free (swap_in page))) ↔ IsFreePage page sectors n
are_free_pages page sectors n swap = (
  λ some. let found = in_range 1 (little_at 4 page 1028) n some in
      record { behind_header = found.0; within = omega (arith, found.1); inside = omega (arith, found.1, swap.fits) },
  λ free. range_has 1 (little_at 4 page 1028) n free.behind_header (omega (arith, free.within)),
)
