-- Runs that lie apart have no more sectors than their disk.
use Rattle.std.proofs.Common.{arith, ◌≡◌, ℕ, zero, suc, ◌+◌, ◌-◌, ◌<◌, ◌≤◌, List, [], ◌∷◌, refl, min, inl, inr, All, AllPairs}
use Rattle.std.proofs.lemmas.Bool.{cases_lt}
use Rattle.std.proofs.lemmas.List.Elements.{All-head, All-tail}
use Rattle.disk_base.specs.Run.{IsWithin, AreApart, end_of}
use Rattle.disk_base.specs.declared.run.Run.{Run}
use Rattle.disk_view.specs.Join.{total}
use Rattle.disk_view.specs.inside.Lengths.{total-cons}

-- the first of runs that lie apart, and the later ones
pub first_apart : (run : Run) (later : List Run) → AllPairs AreApart (run ∷ later) → All (AreApart run) later
first_apart run later apart = λ k d h. apart 0 (suc k) d (omega arith) (omega (arith, h))

pub later_apart : (run : Run) (later : List Run) → AllPairs AreApart (run ∷ later) → AllPairs AreApart later
later_apart run later apart = λ i j d l h. apart (suc i) (suc j) d (omega (arith, l)) (omega (arith, h))

-- how many sectors of a run, and of runs, stand below sector `m` of the disk
abbrev below : Run → ℕ → ℕ
below run m = min (end_of run) m - run.start

abbrev all_below : List Run → ℕ → ℕ
all_below [] m = 0
all_below (run ∷ later) m = below run m + all_below later m

none_below : (runs : List Run) → all_below runs 0 ≡ 0
none_below [] = refl
none_below (run ∷ later) = let rest = none_below later in let here : below run 0 ≡ 0 = omega arith in omega (arith, rest, here)

-- a sector of one run is in no run that is apart from it
others_stay : (run : Run) (runs : List Run) (m : ℕ) → All (AreApart run) runs → run.start ≤ m → m < end_of run → all_below runs (m + 1) ≡ all_below runs m
others_stay run [] m apart low high = refl
others_stay run (next ∷ later) m apart low high =
    let rest = others_stay run later m (All-tail (AreApart run) next later apart) low high in
    let here : below next (m + 1) ≡ below next m = elim (All-head (AreApart run) next later apart) [ inl h ↦ omega (arith, h, low, high) | inr h ↦ omega (arith, h, low, high) ] in
    omega (arith, rest, here)

one_more : (runs : List Run) (m : ℕ) → AllPairs AreApart runs → all_below runs (m + 1) ≤ all_below runs m + 1
one_more [] m apart = omega arith
one_more (run ∷ later) m apart =
    let rest = one_more later m (later_apart run later apart) in
    elim (cases_lt m run.start) [
      | inl before ↦ let here : below run (m + 1) ≡ below run m = omega (arith, before) in omega (arith, rest, here)
      | inr low ↦ elim (cases_lt m (end_of run)) [
        | inl high ↦
            let stay = others_stay run later m (first_apart run later apart) low high in
            let here : below run (m + 1) ≡ below run m + 1 = omega (arith, low, high) in
            omega (arith, stay, here)
        | inr behind ↦ let here : below run (m + 1) ≡ below run m = omega (arith, behind) in omega (arith, rest, here)
      ]
    ]

no_more_below : (runs : List Run) → AllPairs AreApart runs → (m : ℕ) → all_below runs m ≤ m
no_more_below runs apart zero = omega (arith, none_below runs)
no_more_below runs apart (suc m) =
    let before = no_more_below runs apart m in
    let step = one_more runs m apart in
    let next : suc m ≡ m + 1 = omega arith in
    rw next (omega (arith, before, step))

total_below : (size : ℕ) (runs : List Run) → All (IsWithin size) runs → all_below runs size ≡ total runs
total_below size [] on = refl
total_below size (run ∷ later) on =
    let rest = total_below size later (All-tail (IsWithin size) run later on) in
    let h : end_of run ≤ size = All-head (IsWithin size) run later on in
    let here : below run size ≡ run.count = omega (arith, h) in
    omega (arith, rest, here, total-cons run later)

pub total_fits : (size : ℕ) (runs : List Run) → All (IsWithin size) runs → AllPairs AreApart runs → total runs ≤ size
total_fits size runs on apart = let all = total_below size runs on in let few = no_more_below runs apart size in omega (arith, all, few)
