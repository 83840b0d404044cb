-- Lists of numbers that rise and hold the same numbers are equal; so two trees hold the same runs where their runs, put in
-- one order, are equal.
use Rattle.std.proofs.Common.{◌≡◌, ℕ, suc, ◌+◌, ◌*◌, ◌/◌, ◌%◌, ◌^◌, ◌<◌, ◌≤◌, true, false, ◌&&◌, ◌==◌, IsTrue, List, [], ◌∷◌, length, drop, get_or, map, inl, inr, refl, sym, ap, ◌∙◌, arith}
use Rattle.std.specs.Prelude.{count_by}
use Rattle.std.specs.List.{All}
use Rattle.std.specs.List.Sorted.{IsPermutation}
use Rattle.std.specs.Ordering.{is_lt, nat_cmp, ordering_then}
use Rattle.std.proofs.lemmas.Bool.{cases_lt}
use Rattle.std.proofs.lemmas.Bool.Decides.{nat_tests}
use Rattle.std.proofs.lemmas.List.{get_or-map, length-map}
use Rattle.std.proofs.lemmas.List.Elements.{All-head, All-tail, All-cons}
use Rattle.std.proofs.lemmas.List.Sums.{sum_by-append}
use Rattle.std.proofs.lemmas.List.Sorted.{sum_by-IsPermutation, IsPermutation-map, All-permutation}
use Rattle.block_claims.specs.Agreement.{times_in}
use Rattle.block_claims.proofs.Agreements.{times_in-append, times_itself}
use Rattle.xfs_tree.specs.Records.{by_start, by_count, lower, are_short}
use Rattle.xfs_tree.specs.Tree.{AreInOrder}
use Rattle.xfs_tree.specs.declared.free_run.ByCount.{ByCount}
use Rattle.xfs_tree.specs.declared.free_run.ByStart.{ByStart}
use Rattle.xfs_alloc.specs.Free.{start_times, count_times, AreSameRuns}

-- ---- numbers

-- each number is at most those behind it
abbrev Rises : List ℕ → Type 0
Rises [] = Unit {0}
Rises (x ∷ xs) = ((n : ℕ) → 0 < times_in n xs → x ≤ n) × Rises xs

abbrev Steps : List ℕ → Type 0
Steps xs = (k : ℕ) → suc k < length xs → get_or xs k 0 ≤ get_or xs (suc k) 0

times_other : (n x : ℕ) → n < x → times_in n (x ∷ []) ≡ 0
times_other n x h = grind (arith, nat_tests)

least_first : (x : ℕ) (xs : List ℕ) (n : ℕ) → ((m : ℕ) → 0 < times_in m xs → x ≤ m) → 0 < times_in n (x ∷ xs) → x ≤ n
least_first x xs n rest some = elim (cases_lt n x) [ inl lt ↦ rest n (omega (arith, some, times_in-append n (x ∷ []) xs, times_other n x lt)) | inr le ↦ le ]

rises : (xs : List ℕ) → Steps xs → Rises xs
rises [] steps = tt
rises (x ∷ []) steps = ((λ n none. absurd (omega (arith, none))), tt)
rises (x ∷ y ∷ ys) steps =
    let below : Rises (y ∷ ys) = rises (y ∷ ys) (λ k lt. steps (suc k) (omega (arith, lt))) in
    let here : x ≤ y = steps 0 (omega arith) in
    ((λ n some. let next : y ≤ n = least_first y ys n below.0 some in omega arith), below)

same_rising : (xs ys : List ℕ) → Rises xs → Rises ys → ((n : ℕ) → times_in n xs ≡ times_in n ys) → xs ≡ ys
same_rising [] [] p q same = refl
same_rising [] (y ∷ ys) p q same = absurd (omega (arith, same y, times_in-append y (y ∷ []) ys, times_itself y))
same_rising (x ∷ xs) [] p q same = absurd (omega (arith, same x, times_in-append x (x ∷ []) xs, times_itself x))
same_rising (x ∷ xs) (y ∷ ys) p q same =
    let low : x ≤ y = least_first x xs y p.0 (omega (arith, same y, times_in-append y (y ∷ []) ys, times_itself y)) in
    let high : y ≤ x = least_first y ys x q.0 (omega (arith, same x, times_in-append x (x ∷ []) xs, times_itself x)) in
    let is : x ≡ y = omega arith in
    let rest : xs ≡ ys = same_rising xs ys p.1 q.1 (λ n. omega (arith, same n, times_in-append n (x ∷ []) xs, times_in-append n (y ∷ []) ys, ap (λ (m : ℕ). times_in n (m ∷ [])) is)) in
    ap (λ (m : ℕ). m ∷ xs) is ∙ ap (λ (l : List ℕ). y ∷ l) rest

-- ---- pairs of two short numbers, of which the first counts more

abbrev number : ℕ × ℕ → ℕ
number p = p.0 * 2 ^ 32 + p.1

abbrev IsShort : ℕ × ℕ → Type 0
IsShort p = p.1 < 2 ^ 32

same_pair : (a b c d : ℕ) → b < 2 ^ 32 → d < 2 ^ 32 → a * 2 ^ 32 + b ≡ c * 2 ^ 32 + d → (a ≡ c) × (b ≡ d)
same_pair a b c d p q e = (omega arith, omega arith)

same_pairs : (ps qs : List (ℕ × ℕ)) → All IsShort ps → All IsShort qs → map number ps ≡ map number qs → ps ≡ qs
same_pairs [] [] p q e = refl
same_pairs [] (y ∷ ys) p q e = absurd (omega (arith, ap (λ (l : List ℕ). length l) e))
same_pairs (x ∷ xs) [] p q e = absurd (omega (arith, ap (λ (l : List ℕ). length l) e))
same_pairs (x ∷ xs) (y ∷ ys) p q e =
    let first : number x ≡ number y = ap (λ (l : List ℕ). get_or l 0 0) e in
    let is = same_pair x.0 x.1 y.0 y.1 (All-head IsShort x xs p) (All-head IsShort y ys q) first in
    let rest : xs ≡ ys = same_pairs xs ys (All-tail IsShort x xs p) (All-tail IsShort y ys q) (ap (λ (l : List ℕ). drop 1 l) e) in
    ap (λ (a : ℕ). (a, x.1) ∷ xs) is.0 ∙ ap (λ (b : ℕ). (y.0, b) ∷ xs) is.1 ∙ ap (λ (l : List (ℕ × ℕ)). y ∷ l) rest

-- a pair as often as its number
abbrev pair_times : ℕ → ℕ → List (ℕ × ℕ) → ℕ
pair_times start count ps = count_by (λ p. p.1 == start && p.0 == count) ps

pair_test : (n c s : ℕ) → s < 2 ^ 32 → (n == c * 2 ^ 32 + s) ≡ (s == n % 2 ^ 32 && c == n / 2 ^ 32)
pair_test n c s short = grind (arith, nat_tests)

one_pair : (n : ℕ) (p : ℕ × ℕ) → IsShort p → times_in n (number p ∷ []) ≡ pair_times (n % 2 ^ 32) (n / 2 ^ 32) (p ∷ [])
one_pair n p short = let same = pair_test n p.0 p.1 short in grind (arith, nat_tests)

pair_times-cons : (s c : ℕ) (p : ℕ × ℕ) (ps : List (ℕ × ℕ)) → pair_times s c (p ∷ ps) ≡ pair_times s c (p ∷ []) + pair_times s c ps
pair_times-cons s c p ps = sum_by-append _ (p ∷ []) ps

pair_numbers : (n : ℕ) (ps : List (ℕ × ℕ)) → All IsShort ps → times_in n (map number ps) ≡ pair_times (n % 2 ^ 32) (n / 2 ^ 32) ps
pair_numbers n [] short = refl
pair_numbers n (p ∷ ps) short =
    omega (arith, times_in-append n (number p ∷ []) (map number ps), one_pair n p (All-head IsShort p ps short), pair_numbers n ps (All-tail IsShort p ps short), pair_times-cons (n % 2 ^ 32) (n / 2 ^ 32) p ps)

start_pairs : (s c : ℕ) (runs : List ByStart) → start_times s c runs ≡ pair_times s c (map (λ r. (r.count, r.start)) runs)
start_pairs s c [] = refl
start_pairs s c (r ∷ rs) = sum_by-append _ (r ∷ []) rs ∙ ap (λ (n : ℕ). start_times s c (r ∷ []) + n) (start_pairs s c rs) ∙ sym (sum_by-append _ ((r.count, r.start) ∷ []) (map (λ (q : ByStart). (q.count, q.start)) rs))

count_pairs : (s c : ℕ) (runs : List ByCount) → count_times s c runs ≡ pair_times s c (map (λ r. (r.count, r.start)) runs)
count_pairs s c [] = refl
count_pairs s c (r ∷ rs) = sum_by-append _ (r ∷ []) rs ∙ ap (λ (n : ℕ). count_times s c (r ∷ []) + n) (count_pairs s c rs) ∙ sym (sum_by-append _ ((r.count, r.start) ∷ []) (map (λ (q : ByCount). (q.count, q.start)) rs))

-- ---- pairs in order

abbrev Sorted : List (ℕ × ℕ) → Type 0
Sorted ps = (k : ℕ) (d : ℕ × ℕ) → 0 ≤ k → k + 1 < length ps → is_lt (ordering_then (nat_cmp (get_or ps (k + 1) d).0 (get_or ps k d).0) (nat_cmp (get_or ps (k + 1) d).1 (get_or ps k d).1)) ≡ false

not_after : (a b c d : ℕ) → b < 2 ^ 32 → d < 2 ^ 32 → is_lt (ordering_then (nat_cmp c a) (nat_cmp d b)) ≡ false → a * 2 ^ 32 + b ≤ c * 2 ^ 32 + d
not_after a b c d p q h = grind (arith, nat_tests)

sorted_steps : (ps : List (ℕ × ℕ)) → All IsShort ps → Sorted ps → Steps (map number ps)
sorted_steps ps short sorted k lt =
    let z : ℕ × ℕ = (0, 0) in
    let inside : k + 1 < length ps = omega (arith, lt, length-map ps number) in
    let next : suc k ≡ k + 1 = omega arith in
    let here : get_or (map number ps) k 0 ≡ number (get_or ps k z) = get_or-map number ps k z 0 (omega arith) in
    let there : get_or (map number ps) (suc k) 0 ≡ number (get_or ps (k + 1) z) = ap (λ (n : ℕ). get_or (map number ps) n 0) next ∙ get_or-map number ps (k + 1) z 0 inside in
    let le = not_after (get_or ps k z).0 (get_or ps k z).1 (get_or ps (k + 1) z).0 (get_or ps (k + 1) z).1 (short k z (omega arith)) (short (k + 1) z inside) (sorted k z (omega arith) inside) in
    rw (here, there) le

before_next : (a b c d : ℕ) → b < 2 ^ 32 → d < 2 ^ 32 → lower a b c d ≡ true → a * 2 ^ 32 + b ≤ c * 2 ^ 32 + d
before_next a b c d p q h = grind (arith, nat_tests)

count_steps : (runs : List ByCount) → All (λ r. r.start < 2 ^ 32) runs → AreInOrder by_count runs → Steps (map number (map (λ r. (r.count, r.start)) runs))
count_steps runs short order k lt =
    let z : ByCount = record { start = 0; count = 0 } in
    let pairs : List (ℕ × ℕ) = map (λ (r : ByCount). (r.count, r.start)) runs in
    let long : length (map number pairs) ≡ length pairs = length-map pairs number in
    let many : length pairs ≡ length runs = length-map runs (λ (r : ByCount). (r.count, r.start)) in
    let inside : k + 1 < length runs = omega (arith, lt, long, many) in
    let next : suc k ≡ k + 1 = omega arith in
    let a : ByCount = get_or runs k z in
    let b : ByCount = get_or runs (k + 1) z in
    let here : get_or (map number pairs) k 0 ≡ number (a.count, a.start) =
    get_or-map number pairs k (0, 0) 0 (omega arith) ∙ ap number (get_or-map (λ (r : ByCount). (r.count, r.start)) runs k z (0, 0) (omega arith)) in
    let there : get_or (map number pairs) (suc k) 0 ≡ number (b.count, b.start) =
    ap (λ (n : ℕ). get_or (map number pairs) n 0) next ∙ get_or-map number pairs (k + 1) (0, 0) 0 (omega arith) ∙ ap number (get_or-map (λ (r : ByCount). (r.count, r.start)) runs (k + 1) z (0, 0) inside) in
    let le = before_next a.count a.start b.count b.start (short k z (omega arith)) (short (k + 1) z inside) (order k inside z) in
    rw (here, there) le

-- ---- runs of two trees

first_short : (m n : ℕ) → are_short m n ≡ true → m < 2 ^ 32
first_short m n h = grind (arith, nat_tests)

short_starts : (runs : List ByStart) → All (λ r. IsTrue (by_start.fits r)) runs → All IsShort (map (λ r. (r.count, r.start)) runs)
short_starts [] fit = λ k d lt. absurd (omega arith)
short_starts (r ∷ rs) fit =
    All-cons IsShort (r.count, r.start) (map (λ (r : ByStart). (r.count, r.start)) rs) (first_short r.start r.count (All-head (λ (r : ByStart). IsTrue (by_start.fits r)) r rs fit)) (short_starts rs (All-tail (λ (r : ByStart). IsTrue (by_start.fits r)) r rs fit))

short_counts : (runs : List ByCount) → All (λ r. IsTrue (by_count.fits r)) runs → All IsShort (map (λ r. (r.count, r.start)) runs)
short_counts [] fit = λ k d lt. absurd (omega arith)
short_counts (r ∷ rs) fit =
    All-cons IsShort (r.count, r.start) (map (λ (r : ByCount). (r.count, r.start)) rs) (first_short r.start r.count (All-head (λ (r : ByCount). IsTrue (by_count.fits r)) r rs fit)) (short_counts rs (All-tail (λ (r : ByCount). IsTrue (by_count.fits r)) r rs fit))

starts_short : (runs : List ByCount) → All (λ r. IsTrue (by_count.fits r)) runs → All (λ r. r.start < 2 ^ 32) runs
starts_short runs fit = λ k d lt. first_short (get_or runs k d).start (get_or runs k d).count (fit k d lt)

module _ (starts : List ByStart) (counts : List ByCount) (pairs : List (ℕ × ℕ)) (moved : IsPermutation (map (λ r. (r.count, r.start)) starts) pairs) where
  abbrev starts_of : List (ℕ × ℕ)
  starts_of = map (λ (r : ByStart). (r.count, r.start)) starts

  abbrev counts_of : List (ℕ × ℕ)
  counts_of = map (λ (r : ByCount). (r.count, r.start)) counts

  -- equal lists hold the same runs
  pub same_if_equal : pairs ≡ map (λ r. (r.count, r.start)) counts → AreSameRuns starts counts
  same_if_equal is = λ s c.
      start_pairs s c starts ∙ sym (sum_by-IsPermutation _ starts_of pairs moved) ∙ ap (λ (l : List (ℕ × ℕ)). pair_times s c l) is ∙ sym (count_pairs s c counts)

  -- and the same runs in one order are equal
  pub equal_if_same : Sorted pairs → All (λ r. IsTrue (by_start.fits r)) starts → All (λ r. IsTrue (by_count.fits r)) counts → AreInOrder by_count counts → AreSameRuns starts counts
      → pairs ≡ map (λ r. (r.count, r.start)) counts
  equal_if_same sorted fit_starts fit_counts order same =
      let short : All IsShort starts_of = short_starts starts fit_starts in
      let short_pairs : All IsShort pairs = All-permutation IsShort starts_of pairs moved short in
      let others : All IsShort counts_of = short_counts counts fit_counts in
      let times : (n : ℕ) → times_in n (map number pairs) ≡ times_in n (map number counts_of) =
      λ n.
      sum_by-IsPermutation _ (map number starts_of) (map number pairs) (IsPermutation-map number starts_of pairs moved)
      ∙ pair_numbers n starts_of short ∙ sym (start_pairs (n % 2 ^ 32) (n / 2 ^ 32) starts) ∙ same (n % 2 ^ 32) (n / 2 ^ 32) ∙ count_pairs (n % 2 ^ 32) (n / 2 ^ 32) counts ∙ sym (pair_numbers n counts_of others) in
      same_pairs pairs counts_of short_pairs others
      (same_rising (map number pairs) (map number counts_of) (rises (map number pairs) (sorted_steps pairs short_pairs sorted)) (rises (map number counts_of) (count_steps counts (starts_short counts fit_counts) order)) times)

-- pairs of which the two numbers are equal
pub pair_is : (p q : ℕ × ℕ) → p.0 ≡ q.0 → p.1 ≡ q.1 → p ≡ q
pair_is p q a b = ap (λ (n : ℕ). (n, p.1)) a ∙ ap (λ (n : ℕ). (q.0, n)) b
