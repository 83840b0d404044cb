-- What numbers become among the runs that they touch.
use Rattle.std.proofs.Common.{◌≡◌, ℕ, suc, ◌+◌, ◌-◌, ◌^◌, ◌<◌, ◌≤◌, ◌⊎◌, ◌↔◌, List, [], ◌∷◌, ◌++◌, All, length, take, drop, max, get_or, subst, inl, inr, arith, add-one, set, ◌∙◌}
use Rattle.std.proofs.lemmas.Bool.{cases_order}
use Rattle.std.proofs.lemmas.List.{take_rest, set_split, length-take-le, take-append-le, take-take, drop_at, drop-drop, take-append-drop}
use Rattle.std.proofs.lemmas.List.Edits.{length-remove}
use Rattle.std.specs.List.{remove}
use Rattle.std.proofs.lemmas.List.Elements.{All-nil, All-cons}
use Rattle.run_set.specs.declared.run.Run.{Run}
use Rattle.run_set.specs.Runs.{IsInRange, Holds, IsLeastCommon, RisesFrom, AreRuns, past_of}
use Rattle.run_set.specs.inside.Joins.{Joins}
use Rattle.run_set.proofs.Rising.{RisesFrom-lower, RisesFrom-starts, Holds-from, Holds-below, Holds-append, Holds-append_left, Holds-append_right, RisesFrom-back, RisesFrom-replaced}

swapped : (P Q : Type 0) → (P ⊎ Q) ↔ (Q ⊎ P)
swapped P Q = (λ h. elim h [ inl p ↦ inr p | inr q ↦ inl q ], λ h. elim h [ inl q ↦ inr q | inr p ↦ inl p ])

-- the numbers touch no run
pub joins_apart : (later : List Run) (start n : ℕ) → 1 ≤ n → start + n ≤ 2 ^ 63 → RisesFrom (start + n + 1) later → Joins later start n (record { start = start; count = n }) 0
joins_apart later start n some end apart = record {
  within = omega arith;
  added = λ x. swapped (IsInRange start n x) (Holds later x);
  free = λ x holds in'. let h : start + n + 1 ≤ x = Holds-from (start + n + 1) later x apart holds in omega arith;
  rises = λ low le rises. (le, (some, end), apart);
}

grown_both : (start n : ℕ) (after : Run) (rest : List Run) (x : ℕ) → after.start ≡ start + n → Holds (record { start = start; count = n + after.count } ∷ rest) x ↔ (Holds (after ∷ rest) x ⊎ IsInRange start n x)
grown_both start n after rest x touch = (
  λ h. elim h [
    | inl here ↦ elim (cases_order x (start + n)) [
      | inl same ↦ inl (inl (omega arith, omega arith))
      | inr (inl less) ↦ inr (omega arith, omega arith)
      | inr (inr more) ↦ inl (inl (omega arith, omega arith))
    ]
    | inr there ↦ inl (inr there)
  ],
  λ h. elim h [
    | inl (inl in_after) ↦ inl (omega arith, omega arith)
    | inl (inr there) ↦ inr there
    | inr new ↦ inl (omega arith, omega arith)
  ],
)

-- the numbers end where a run starts
pub joins_after : (after : Run) (rest : List Run) (start n : ℕ) → 1 ≤ n → AreRuns (after ∷ rest) → after.start ≡ start + n → Joins (after ∷ rest) start n (record { start = start; count = n + after.count }) 1
joins_after after rest start n some set touch = record {
  within = omega arith;
  added = λ x. grown_both start n after rest x touch;
  free = λ x holds in'. let h : start + n ≤ x = Holds-from (start + n) (after ∷ rest) x (omega arith, set.1, set.2) holds in omega arith;
  rises = λ low le rises. (le, (omega arith, omega arith), RisesFrom-lower (start + (n + after.count) + 1) (past_of after + 1) rest (omega arith) rises.2);
}

-- the numbers meet a run that doesn't end before them
pub common_after : (after : Run) (rest : List Run) (start n : ℕ) → 1 ≤ n → AreRuns (after ∷ rest) → start < past_of after → after.start < start + n → IsLeastCommon (after ∷ rest) start n (max start after.start)
common_after after rest start n some set past meets = record {
  common = (inl (omega arith, omega arith), (omega arith, omega arith));
  none_below = λ x both. let h : after.start ≤ x = Holds-from after.start (after ∷ rest) x (omega arith, set.1, set.2) both.0 in omega arith;
}

before_both : (before : Run) (start n : ℕ) (run : Run) (later rest : List Run) (x : ℕ) → past_of before ≡ start → run.start ≡ start → (Holds (run ∷ rest) x ↔ (Holds later x ⊎ IsInRange start n x)) → Holds (record { start = before.start; count = before.count + run.count } ∷ rest) x ↔ (Holds (before ∷ later) x ⊎ IsInRange start n x)
before_both before start n run later rest x touch starts added = (
  λ h. elim h [
    | inl here ↦ elim (cases_order x start) [
      | inl same ↦ elim (added.0 (inl (omega arith, omega arith))) [ inl there ↦ inl (inr there) | inr new ↦ inr new ]
      | inr (inl less) ↦ inl (inl (omega arith, omega arith))
      | inr (inr more) ↦ elim (added.0 (inl (omega arith, omega arith))) [ inl there ↦ inl (inr there) | inr new ↦ inr new ]
    ]
    | inr there ↦ elim (added.0 (inr there)) [ inl old ↦ inl (inr old) | inr new ↦ inr new ]
  ],
  λ h. elim h [
    | inl (inl in_before) ↦ inl (omega arith, omega arith)
    | inl (inr old) ↦ elim (added.1 (inl old)) [ inl here ↦ inl (omega arith, omega arith) | inr there ↦ inr there ]
    | inr new ↦ elim (added.1 (inr new)) [ inl here ↦ inl (omega arith, omega arith) | inr there ↦ inr there ]
  ],
)

before_rises : (before : Run) (start n : ℕ) (run : Run) (replaced : ℕ) (later : List Run) (low : ℕ) → past_of before ≡ start → run.start ≡ start → Joins later start n run replaced → RisesFrom low (before ∷ later) → RisesFrom low (record { start = before.start; count = before.count + run.count } ∷ drop replaced later)
before_rises before start n run replaced later low touch starts joins rises =
    let above : RisesFrom start later = RisesFrom-lower start (past_of before + 1) later (omega arith) rises.2 in
    let inner : RisesFrom start (run ∷ drop replaced later) = joins.rises start (omega arith) above in
    let fits : past_of run ≤ 2 ^ 63 = inner.1.1 in
    let some : 1 ≤ before.count = rises.1.0 in
    (rises.0, (omega arith, omega arith), RisesFrom-lower (before.start + (before.count + run.count) + 1) (past_of run + 1) (drop replaced later) (omega arith) inner.2)

-- a run ends where the numbers start
pub joins_before : (before : Run) (later : List Run) (start n : ℕ) (run : Run) (replaced : ℕ) → past_of before ≡ start → run.start ≡ start → Joins later start n run replaced → Joins (before ∷ later) start n (record { start = before.start; count = before.count + run.count }) (suc replaced)
joins_before before later start n run replaced touch starts joins = record {
  within = let h : replaced ≤ length later = joins.within in omega arith;
  added = λ x. before_both before start n run later (drop replaced later) x touch starts (joins.added x);
  free = λ x holds in'. elim holds [ inl here ↦ omega arith | inr there ↦ joins.free x there in' ];
  rises = λ low le rises. before_rises before start n run replaced later low touch starts joins rises;
}

pub common_before : (before : Run) (later : List Run) (start n least : ℕ) → past_of before ≡ start → IsLeastCommon later start n least → IsLeastCommon (before ∷ later) start n least
common_before before later start n least touch common = record {
  common = (inr common.common.0, common.common.1);
  none_below = λ x both. elim both.0 [ inl here ↦ absurd (omega (arith, both.1)) | inr there ↦ common.none_below x (there, both.1) ];
}

-- all that came before the place stays

pub joined_set : (xs ys : List Run) (start n : ℕ) (run : Run) (replaced : ℕ) → All (λ run. past_of run < start) xs → AreRuns (xs ++ ys) → Joins ys start n run replaced → AreRuns (xs ++ run ∷ drop replaced ys)
joined_set xs ys start n run replaced below set joins =
    RisesFrom-replaced start 0 xs ys (run ∷ drop replaced ys) joins.rises (omega arith) below set

pub joined_holds : (xs ys : List Run) (start n : ℕ) (run : Run) (replaced x : ℕ) → Joins ys start n run replaced → Holds (xs ++ run ∷ drop replaced ys) x ↔ (Holds (xs ++ ys) x ⊎ IsInRange start n x)
joined_holds xs ys start n run replaced x joins = (
  λ h. elim (Holds-append xs (run ∷ drop replaced ys) x h) [
    | inl front ↦ inl (Holds-append_left xs ys x front)
    | inr back ↦ elim ((joins.added x).0 back) [ inl old ↦ inl (Holds-append_right xs ys x old) | inr new ↦ inr new ]
  ],
  λ h. elim h [
    | inl old ↦ elim (Holds-append xs ys x old) [
      | inl front ↦ Holds-append_left xs (run ∷ drop replaced ys) x front
      | inr back ↦ Holds-append_right xs (run ∷ drop replaced ys) x ((joins.added x).1 (inl back))
    ]
    | inr new ↦ Holds-append_right xs (run ∷ drop replaced ys) x ((joins.added x).1 (inr new))
  ],
)

pub joined_free : (xs ys : List Run) (start n : ℕ) (run : Run) (replaced x : ℕ) → All (λ run. past_of run < start) xs → Joins ys start n run replaced → Holds (xs ++ ys) x → IsInRange start n x → ⊥
joined_free xs ys start n run replaced x below joins holds in' =
    elim (Holds-append xs ys x holds) [
      | inl front ↦ let h : x < start = Holds-below start xs x (λ k d lt. let e : past_of (get_or xs k d) < start = below k d lt in omega arith) front in omega arith
      | inr back ↦ joins.free x back in'
    ]

pub common_set : (xs ys : List Run) (start n least : ℕ) → All (λ run. past_of run < start) xs → IsLeastCommon ys start n least → IsLeastCommon (xs ++ ys) start n least
common_set xs ys start n least below common = record {
  common = (Holds-append_right xs ys least common.common.0, common.common.1);
  none_below = λ x both. elim (Holds-append xs ys x both.0) [
    | inl front ↦ let h : x < start = Holds-below start xs x (λ k d lt. let e : past_of (get_or xs k d) < start = below k d lt in omega arith) front in absurd (omega (arith, both.1))
    | inr back ↦ common.none_below x (back, both.1)
  ];
}

-- the same for the first of some runs, as the code reads it

pub joins_first : (later : List Run) (d : Run) (start n : ℕ) → 1 ≤ length later → 1 ≤ n → AreRuns later → (get_or later 0 d).start ≡ start + n → Joins later start n (record { start = start; count = n + (get_or later 0 d).count }) 1
joins_first [] d start n len some set touch = absurd (omega arith)
joins_first (after ∷ rest) d start n len some set touch = joins_after after rest start n some set touch

pub joins_below_first : (later : List Run) (d : Run) (start n : ℕ) → 1 ≤ length later → 1 ≤ n → start + n ≤ 2 ^ 63 → AreRuns later → start + n < (get_or later 0 d).start → Joins later start n (record { start = start; count = n }) 0
joins_below_first [] d start n len some end set apart = absurd (omega arith)
joins_below_first (after ∷ rest) d start n len some end set apart =
    joins_apart (after ∷ rest) start n some end (omega arith, set.1, set.2)

pub common_first : (later : List Run) (d : Run) (start n : ℕ) → 1 ≤ length later → 1 ≤ n → AreRuns later → All (λ run. start < past_of run) later → (get_or later 0 d).start < start + n → IsLeastCommon later start n (max start (get_or later 0 d).start)
common_first [] d start n len some set past meets = absurd (omega arith)
common_first (after ∷ rest) d start n len some set past meets =
    common_after after rest start n some set (past 0 d (omega arith)) meets

-- no later run ends where the numbers start, once the first doesn't, or once it is taken away

tail_past : (rest : List Run) (d : Run) (start : ℕ) → AreRuns rest → past_of (get_or rest 0 d) ≡ start → All (λ run. start < past_of run) (drop 1 rest)
tail_past [] d start set touch = All-nil (λ run. start < past_of run)
tail_past (before ∷ later) d start set touch =
    λ k e lt. let starts : past_of before + 1 ≤ (get_or later k e).start = RisesFrom-starts (past_of before + 1) later set.2 k e lt in omega arith

pub later_past : (rest : List Run) (d : Run) (start : ℕ) → AreRuns rest → past_of (get_or rest 0 d) ≡ start → All (λ run. start < past_of run) (take (length rest - 1) (drop 1 rest))
later_past rest d start set touch = rw (take_rest rest 1) (tail_past rest d start set touch)

pub rest_past : (rest : List Run) (d : Run) (start : ℕ) → AreRuns rest → All (λ run. start ≤ past_of run) rest → (1 ≤ length rest → past_of (get_or rest 0 d) ≡ start → ⊥) → All (λ run. start < past_of run) rest
rest_past [] d start set place apart = All-nil (λ run. start < past_of run)
rest_past (before ∷ later) d start set place apart =
    let at : start ≤ past_of before = place 0 d (omega arith) in
    let ne : past_of before ≡ start → ⊥ = apart (omega arith) in
    let here : start < past_of before = omega arith in
    All-cons (λ run. start < past_of run) before later here
    (λ k e lt. let starts : past_of before + 1 ≤ (get_or later k e).start = RisesFrom-starts (past_of before + 1) later set.2 k e lt in omega arith)

-- what the first run and the ones after it become

pub joins_with_first : (rest : List Run) (d : Run) (start n : ℕ) (run : Run) (replaced : ℕ) → 1 ≤ length rest → past_of (get_or rest 0 d) ≡ start → run.start ≡ start → Joins (take (length rest - 1) (drop 1 rest)) start n run replaced → Joins rest start n (record { start = (get_or rest 0 d).start; count = (get_or rest 0 d).count + run.count }) (replaced + 1)
joins_with_first [] d start n run replaced len touch starts joins = absurd (omega arith)
joins_with_first (before ∷ later) d start n run replaced len touch starts joins =
    let same : take (length (before ∷ later) - 1) (drop 1 (before ∷ later)) ≡ later = take_rest (before ∷ later) 1 in
    rw add-one (joins_before before later start n run replaced touch starts (subst (λ (l : List Run). Joins l start n run replaced) same joins))

pub common_with_first : (rest : List Run) (d : Run) (start n least : ℕ) → 1 ≤ length rest → past_of (get_or rest 0 d) ≡ start → IsLeastCommon (take (length rest - 1) (drop 1 rest)) start n least → IsLeastCommon rest start n least
common_with_first [] d start n least len touch common = absurd (omega arith)
common_with_first (before ∷ later) d start n least len touch common =
    let same : take (length (before ∷ later) - 1) (drop 1 (before ∷ later)) ≡ later = take_rest (before ∷ later) 1 in
    common_before before later start n least touch (subst (λ (l : List Run). IsLeastCommon l start n least) same common)

-- the counts of the two don't overflow
pub counts_fit : (rest : List Run) (d : Run) (start n : ℕ) (run : Run) (replaced : ℕ) → AreRuns rest → 1 ≤ length rest → past_of (get_or rest 0 d) ≡ start → run.start ≡ start → Joins (take (length rest - 1) (drop 1 rest)) start n run replaced → (get_or rest 0 d).count + run.count ≤ 2 ^ 63
counts_fit rest d start n run replaced set len touch starts joins =
    let both = joins_with_first rest d start n run replaced len touch starts joins in
    let fits : (get_or rest 0 d).start + ((get_or rest 0 d).count + run.count) ≤ 2 ^ 63 = (both.rises 0 (omega arith) set).1.1 in
    omega arith

-- one run in place of one or two others

pub set_one : (runs : List Run) (at : ℕ) (run : Run) → at < length runs → set runs at run ≡ take at runs ++ run ∷ drop (at + 1) runs
set_one runs at run lt = rw add-one (set_split runs at run lt)

pub set_two : (runs : List Run) (at : ℕ) (run : Run) → at + 2 ≤ length runs → set (remove runs (at + 1)) at run ≡ take at runs ++ run ∷ drop (at + 2) runs
set_two runs at run le =
    let n : length (take (at + 1) runs) ≡ at + 1 = length-take-le (at + 1) runs (omega arith) in
    let shorter : length (remove runs (at + 1)) + 1 ≡ length runs = length-remove runs (at + 1) (omega arith) in
    let front : take at (remove runs (at + 1)) ≡ take at runs = take-append-le at (take (at + 1) runs) (drop (suc (at + 1)) runs) (omega arith) ∙ take-take at (at + 1) runs (omega arith) in
    let back : drop (at + 1) (remove runs (at + 1)) ≡ drop (suc (at + 1)) runs = drop_at (take (at + 1) runs) (drop (suc (at + 1)) runs) (at + 1) n in
    let two : suc (at + 1) ≡ at + 2 = omega arith in
    set_one (remove runs (at + 1)) at run (omega arith) ∙ rw (front, back, two)

-- what an `add` reads and writes, by the place of its numbers: the runs from there on are `take (length runs - at) (drop at runs)`

pub rest_set : (runs : List Run) (at : ℕ) → AreRuns runs → AreRuns (take (length runs - at) (drop at runs))
rest_set runs at set =
    rw take_rest (RisesFrom-back 0 (take at runs) (drop at runs) (rw take-append-drop set))

pub new_set : (runs : List Run) (at start n : ℕ) (run : Run) (replaced : ℕ) → AreRuns runs → All (λ run. past_of run < start) (take at runs) → Joins (take (length runs - at) (drop at runs)) start n run replaced → AreRuns (take at runs ++ run ∷ drop (at + replaced) runs)
new_set runs at start n run replaced set below joins =
    rw (← drop-drop replaced at runs) (joined_set (take at runs) (drop at runs) start n run replaced below (rw take-append-drop set) (rw take_rest at joins))

pub new_holds : (runs : List Run) (at start n : ℕ) (run : Run) (replaced x : ℕ) → Joins (take (length runs - at) (drop at runs)) start n run replaced → Holds (take at runs ++ run ∷ drop (at + replaced) runs) x ↔ (Holds runs x ⊎ IsInRange start n x)
new_holds runs at start n run replaced x joins =
    let whole : Holds (take at runs ++ run ∷ drop replaced (drop at runs)) x ↔ (Holds (take at runs ++ drop at runs) x ⊎ IsInRange start n x) = joined_holds (take at runs) (drop at runs) start n run replaced x (rw take_rest at joins) in
    rw (← drop-drop replaced at runs) (rw (take-append-drop at runs) at whole)

pub new_free : (runs : List Run) (at start n : ℕ) (run : Run) (replaced x : ℕ) → All (λ run. past_of run < start) (take at runs) → Joins (take (length runs - at) (drop at runs)) start n run replaced → Holds runs x → IsInRange start n x → ⊥
new_free runs at start n run replaced x below joins holds in' =
    joined_free (take at runs) (drop at runs) start n run replaced x below (rw take_rest at joins) (rw (take-append-drop at runs) holds) in'

pub common_whole : (runs : List Run) (at start n least : ℕ) → All (λ run. past_of run < start) (take at runs) → IsLeastCommon (take (length runs - at) (drop at runs)) start n least → IsLeastCommon runs start n least
common_whole runs at start n least below common =
    let whole : IsLeastCommon (take at runs ++ drop at runs) start n least = common_set (take at runs) (drop at runs) start n least below (rw take_rest at common) in
    rw (take-append-drop at runs) at whole
