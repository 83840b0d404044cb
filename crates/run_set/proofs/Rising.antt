-- Lists of runs that rise, and the numbers that they have.
use Rattle.std.proofs.Common.{◌≡◌, ℕ, zero, suc, ◌+◌, ◌-◌, ◌^◌, ◌<◌, ◌≤◌, ◌⊎◌, ◌↔◌, Bool, true, false, ltb, List, [], ◌∷◌, ◌++◌, All, AllPairs, length, get_or, take, drop, sum_by, ap, sym, subst, inl, inr, arith, ◌∙◌, Some, slice_get, length-drop, IsTrue}
use Rattle.std.proofs.lemmas.List.Elements.{All-nil, All-cons, All-head, All-tail, All-weaker}
use Rattle.std.proofs.lemmas.Bool.{ltb-true, ltb-false, cases_eq}
use Rattle.std.proofs.lemmas.Option.{slice_get-get_or}
use Rattle.std.proofs.lemmas.List.{length-take-le, get_or-take, get_or-drop, take-append-drop, drop_more, take_all}
use Rattle.std.proofs.lemmas.List.Sums.{sum_by-cons}
use Rattle.std.specs.List.{AllWithin}
use Rattle.std.specs.List.Sorted.{IsNonDecreasingBy}
use Rattle.run_set.specs.declared.run.Run.{Run}
use Rattle.run_set.specs.Runs.{IsInRange, Holds, IsRun, EndsBelow, RisesFrom, AreRuns, past_of}

pub RisesFrom-lower : (low higher : ℕ) (runs : List Run) → low ≤ higher → RisesFrom higher runs → RisesFrom low runs
RisesFrom-lower low higher [] le rises = tt
RisesFrom-lower low higher (run ∷ runs) le rises = (omega arith, rises.1, rises.2)

-- no run starts below low
pub RisesFrom-starts : (low : ℕ) (runs : List Run) → RisesFrom low runs → All (λ run. low ≤ run.start) runs
RisesFrom-starts low [] rises = All-nil (λ run. low ≤ run.start)
RisesFrom-starts low (run ∷ runs) rises =
    All-cons (λ other. low ≤ other.start) run runs rises.0 (RisesFrom-starts low runs (RisesFrom-lower low (past_of run + 1) runs (omega arith) rises.2))

pub RisesFrom-runs : (low : ℕ) (runs : List Run) → RisesFrom low runs → All IsRun runs
RisesFrom-runs low [] rises = All-nil IsRun
RisesFrom-runs low (run ∷ runs) rises = All-cons IsRun run runs rises.1 (RisesFrom-runs (past_of run + 1) runs rises.2)

AllPairs-cons : (R : Run → Run → Type 0) (x : Run) (xs : List Run) → All (R x) xs → AllPairs R xs → AllPairs R (x ∷ xs)
AllPairs-cons R x xs first rest zero zero d lt within = absurd (omega arith)
AllPairs-cons R x xs first rest zero (suc j) d lt within = first j d (omega arith)
AllPairs-cons R x xs first rest (suc i) zero d lt within = absurd (omega arith)
AllPairs-cons R x xs first rest (suc i) (suc j) d lt within = rest i j d (omega arith) (omega arith)

pub RisesFrom-pairs : (low : ℕ) (runs : List Run) → RisesFrom low runs → AllPairs EndsBelow runs
RisesFrom-pairs low [] rises = λ i j d lt within. absurd (omega arith)
RisesFrom-pairs low (run ∷ runs) rises =
    AllPairs-cons EndsBelow run runs (λ k d within. let h : past_of run + 1 ≤ (get_or runs k d).start = RisesFrom-starts (past_of run + 1) runs rises.2 k d within in omega arith) (RisesFrom-pairs (past_of run + 1) runs rises.2)

-- the runs' counts add up to no more than what lies between low and their bound
pub RisesFrom-sum : (low : ℕ) (runs : List Run) → low ≤ 2 ^ 63 + 1 → RisesFrom low runs → low + sum_by (λ run. run.count) runs ≤ 2 ^ 63 + 1
RisesFrom-sum low [] fits rises = omega arith
RisesFrom-sum low (run ∷ runs) fits rises =
    let within : past_of run ≤ 2 ^ 63 = rises.1.1 in
    let rest : past_of run + 1 + sum_by (λ run. run.count) runs ≤ 2 ^ 63 + 1 = RisesFrom-sum (past_of run + 1) runs (omega arith) rises.2 in
    let starts : low ≤ run.start = rises.0 in
    let sum : sum_by (λ run. run.count) (run ∷ runs) ≡ run.count + sum_by (λ run. run.count) runs = sum_by-cons (λ run. run.count) run runs in
    omega arith

-- Holds over lists that are joined

pub Holds-append_left : (xs ys : List Run) (x : ℕ) → Holds xs x → Holds (xs ++ ys) x
Holds-append_left [] ys x holds = absurd holds
Holds-append_left (run ∷ xs) ys x holds = elim holds [ inl here ↦ inl here | inr there ↦ inr (Holds-append_left xs ys x there) ]

pub Holds-append_right : (xs ys : List Run) (x : ℕ) → Holds ys x → Holds (xs ++ ys) x
Holds-append_right [] ys x holds = holds
Holds-append_right (run ∷ xs) ys x holds = inr (Holds-append_right xs ys x holds)

pub Holds-append : (xs ys : List Run) (x : ℕ) → Holds (xs ++ ys) x → Holds xs x ⊎ Holds ys x
Holds-append [] ys x holds = inr holds
Holds-append (run ∷ xs) ys x holds =
    elim holds [
      | inl here ↦ inl (inl here)
      | inr there ↦ elim (Holds-append xs ys x there) [ inl h ↦ inl (inr h) | inr h ↦ inr h ]
    ]

-- a number that is held is no lower than all runs' starts, and below the end of one of them
pub Holds-from : (low : ℕ) (runs : List Run) (x : ℕ) → RisesFrom low runs → Holds runs x → low ≤ x
Holds-from low [] x rises holds = absurd holds
Holds-from low (run ∷ runs) x rises holds =
    elim holds [
      | inl here ↦ omega arith
      | inr there ↦ let h : past_of run + 1 ≤ x = Holds-from (past_of run + 1) runs x rises.2 there in omega arith
    ]

pub Holds-below : (bound : ℕ) (runs : List Run) (x : ℕ) → All (λ run. past_of run ≤ bound) runs → Holds runs x → x < bound
Holds-below bound [] x below holds = absurd holds
Holds-below bound (run ∷ runs) x below holds =
    elim holds [
      | inl here ↦ let h : past_of run ≤ bound = All-head (λ run. past_of run ≤ bound) run runs below in omega arith
      | inr there ↦ Holds-below bound runs x (All-tail (λ run. past_of run ≤ bound) run runs below) there
    ]

-- the two parts of a list

pub RisesFrom-front : (low : ℕ) (xs ys : List Run) → RisesFrom low (xs ++ ys) → RisesFrom low xs
RisesFrom-front low [] ys rises = tt
RisesFrom-front low (run ∷ xs) ys rises = (rises.0, rises.1, RisesFrom-front (past_of run + 1) xs ys rises.2)

pub RisesFrom-back : (low : ℕ) (xs ys : List Run) → RisesFrom low (xs ++ ys) → RisesFrom low ys
RisesFrom-back low [] ys rises = rises
RisesFrom-back low (run ∷ xs) ys rises =
    RisesFrom-lower low (past_of run + 1) ys (omega arith) (RisesFrom-back (past_of run + 1) xs ys rises.2)

-- other runs in place of the last ones
pub RisesFrom-replaced : (start low : ℕ) (xs ys zs : List Run) → ((from : ℕ) → from ≤ start → RisesFrom from ys → RisesFrom from zs) → low ≤ start → All (λ run. past_of run < start) xs → RisesFrom low (xs ++ ys) → RisesFrom low (xs ++ zs)
RisesFrom-replaced start low [] ys zs step le below rises = step low le rises
RisesFrom-replaced start low (run ∷ xs) ys zs step le below rises =
    let h : past_of run < start = All-head (λ run. past_of run < start) run xs below in
    (rises.0, rises.1, RisesFrom-replaced start (past_of run + 1) xs ys zs step (omega arith) (All-tail (λ run. past_of run < start) run xs below) rises.2)

-- what the search for a place finds

pub ends_rise : (runs : List Run) → AreRuns runs → IsNonDecreasingBy past_of runs
ends_rise runs rises i j d le within =
    elim (cases_eq i j) [
      | inl same ↦ rw same (omega arith)
      | inr other ↦
          let apart : past_of (get_or runs i d) < (get_or runs j d).start = RisesFrom-pairs 0 runs rises i j d (omega arith) within in
          omega arith
    ]

pub last_ends_below : (runs : List Run) (last : Run) (number : ℕ) → AreRuns runs → slice_get runs (length runs - 1) ≡ Some last → past_of last < number → All (λ run. past_of run < number) runs
last_ends_below runs last number rises is below k d within =
    let found : Some last ≡ Some (get_or runs (length runs - 1) d) = sym is ∙ slice_get-get_or runs (length runs - 1) d (omega arith) in
    let same : last ≡ get_or runs (length runs - 1) d = cc in
    let ends : past_of last ≡ past_of (get_or runs (length runs - 1) d) = ap past_of same in
    let rise : past_of (get_or runs k d) ≤ past_of (get_or runs (length runs - 1) d) = ends_rise runs rises k (length runs - 1) d (omega arith) (omega arith) in
    omega arith

pub last_starts_by : (runs : List Run) (last : Run) (number : ℕ) → AreRuns runs → slice_get runs (length runs - 1) ≡ Some last → last.start ≤ number → All (λ run. past_of run < number) (take (length runs - 1) runs)
last_starts_by runs last number rises is starts k d within =
    let n : length (take (length runs - 1) runs) ≡ length runs - 1 = length-take-le (length runs - 1) runs (omega arith) in
    let lt : k < length runs - 1 = omega arith in
    let found : Some last ≡ Some (get_or runs (length runs - 1) d) = sym is ∙ slice_get-get_or runs (length runs - 1) d (omega arith) in
    let same : last ≡ get_or runs (length runs - 1) d = cc in
    let start : last.start ≡ (get_or runs (length runs - 1) d).start = ap (λ (run : Run). run.start) same in
    let apart : past_of (get_or runs k d) < (get_or runs (length runs - 1) d).start = RisesFrom-pairs 0 runs rises k (length runs - 1) d lt (omega arith) in
    rw (get_or-take (length runs - 1) runs k d lt) (omega arith)

pub all_below_place : (runs : List Run) (number i : ℕ) → i ≤ length runs → AllWithin (λ run. ltb (past_of run) number ≡ true) runs 0 i → All (λ run. past_of run < number) (take i runs)
all_below_place runs number i le within k d lt =
    let n : length (take i runs) ≡ i = length-take-le i runs le in
    let k_lt : k < i = omega arith in
    rw (get_or-take i runs k d k_lt) (ltb-true (past_of (get_or runs k d)) number (within k d (omega arith) k_lt))

pub all_past_place : (runs : List Run) (number i : ℕ) → AllWithin (λ run. ltb (past_of run) number ≡ false) runs i (length runs) → All (λ run. number ≤ past_of run) (drop i runs)
all_past_place runs number i within k d lt =
    let n : length (drop i runs) ≡ length runs - i = length-drop i runs in
    rw (get_or-drop i runs k d) (ltb-false (past_of (get_or runs (i + k) d)) number (within (i + k) d (omega arith) (omega arith)))

-- a run of the list has its numbers
pub in_run : (runs : List Run) (d : Run) (at x : ℕ) → at < length runs → IsInRange (get_or runs at d).start (get_or runs at d).count x → Holds runs x
in_run runs d at x within in' =
    let split : take at runs ++ (get_or runs at d ∷ drop (at + 1) runs) ≡ runs = rw (← drop_more runs at d within) (take-append-drop at runs) in
    rw (← split) (Holds-append_right (take at runs) (get_or runs at d ∷ drop (at + 1) runs) x (inl in'))

not_in_front : (runs : List Run) (x at : ℕ) → All (λ run. past_of run < x) (take at runs) → Holds (take at runs) x → ⊥
not_in_front runs x at below holds =
    let h : x < x = Holds-below x (take at runs) x (All-weaker (λ run. past_of run < x) (λ run. past_of run ≤ x) (λ run h. omega arith) (take at runs) below) holds in
    omega arith

-- where a number is held, it is in the run at its place
pub held_at_place : (runs : List Run) (d : Run) (at x : ℕ) → AreRuns runs → at < length runs → All (λ run. past_of run < x) (take at runs) → All (λ run. x ≤ past_of run) (drop at runs) → Holds runs x → IsInRange (get_or runs at d).start (get_or runs at d).count x
held_at_place runs d at x set within below rest holds =
    let split : take at runs ++ (get_or runs at d ∷ drop (at + 1) runs) ≡ runs = rw (← drop_more runs at d within) (take-append-drop at runs) in
    elim (Holds-append (take at runs) (get_or runs at d ∷ drop (at + 1) runs) x (rw split holds)) [
      | inl front ↦ absurd (not_in_front runs x at below front)
      | inr (inl here) ↦ here
      | inr (inr later) ↦
          let rises : RisesFrom 0 (get_or runs at d ∷ drop (at + 1) runs) = RisesFrom-back 0 (take at runs) (get_or runs at d ∷ drop (at + 1) runs) (rw split set) in
          let past : past_of (get_or runs at d) + 1 ≤ x = Holds-from (past_of (get_or runs at d) + 1) (drop (at + 1) runs) x rises.2 later in
          let cons : drop at runs ≡ get_or runs at d ∷ drop (at + 1) runs = drop_more runs at d within in
          let here : x ≤ past_of (get_or runs at d) = All-head (λ run. x ≤ past_of run) (get_or runs at d) (drop (at + 1) runs) (rw cons at rest) in
          absurd (omega arith)
    ]

pub none_at_end : (runs : List Run) (at x : ℕ) → length runs ≤ at → All (λ run. past_of run < x) (take at runs) → Holds runs x → ⊥
none_at_end runs at x le below holds = not_in_front runs x at below (rw (take_all at runs le) holds)

pub sum_fits : (runs : List Run) → AreRuns runs → sum_by (λ run. run.count) runs < 2 ^ 64
sum_fits runs set =
    let h : 0 + sum_by (λ run. run.count) runs ≤ 2 ^ 63 + 1 = RisesFrom-sum 0 runs (omega arith) set in
    omega arith

pub has_at_place : (runs : List Run) (run : Run) (at x : ℕ) (has : Bool) → AreRuns runs → at < length runs → run ≡ get_or runs at run → All (λ run. past_of run < x) (take at runs) → All (λ run. x ≤ past_of run) (drop at runs) → (IsTrue has ↔ IsInRange run.start run.count x) → IsTrue has ↔ Holds runs x
has_at_place runs run at x has set within read below rest says = (
  λ yes. in_run runs run at x within (subst (λ (r : Run). IsInRange r.start r.count x) read (says.0 yes)),
  λ holds. says.1 (subst (λ (r : Run). IsInRange r.start r.count x) (sym read) (held_at_place runs run at x set within below rest holds)),
)

-- a run that is read at an index is a run
pub run_read : (runs : List Run) (run : Run) (index : ℕ) → AreRuns runs → index < length runs → run ≡ get_or runs index run → IsRun run
run_read runs run index set within read = subst IsRun (sym read) (RisesFrom-runs 0 runs set index run within)
