-- Runs that lie apart, from one of them on.
use Rattle.std.proofs.Common.{arith, ◌≡◌, ℕ, zero, suc, ◌+◌, ◌-◌, ◌<◌, ◌≤◌, List, [], ◌∷◌, length, take, drop, sym, subst, slice_index_or, length-drop, All, AllPairs}
use Rattle.std.proofs.lemmas.List.{drop_more, take_all}
use Rattle.std.proofs.lemmas.List.Kept.{AllPairs-cons}
use Rattle.disk_base.specs.Run.{AreApart, run_of}
use Rattle.disk_base.specs.declared.run.Run.{Run}
use Rattle.disk_view.proofs.Counts.{first_apart, later_apart}

-- a slice to the end
pub to_the_last : (runs : List Run) (i : ℕ) → take (length runs - i) (drop i runs) ≡ drop i runs
to_the_last runs i = take_all _ _ (omega (arith, length-drop i runs))

apart_from : (runs : List Run) (i : ℕ) → AllPairs AreApart runs → AllPairs AreApart (drop i runs)
apart_from runs zero apart = apart
apart_from [] (suc i) apart = apart
apart_from (run ∷ later) (suc i) apart = apart_from later i (later_apart run later apart)

pub each_apart : (runs : List Run) (i : ℕ) → i < length runs → AllPairs AreApart runs → All (AreApart (slice_index_or runs i (run_of 0 0))) (drop (i + 1) runs)
each_apart runs i inside apart =
    first_apart (slice_index_or runs i (run_of 0 0)) (drop (i + 1) runs) (subst (AllPairs AreApart) (drop_more runs i (run_of 0 0) inside) (apart_from runs i apart))

pub one_more_apart : (runs : List Run) (i : ℕ) → i < length runs → All (AreApart (slice_index_or runs i (run_of 0 0))) (drop (i + 1) runs) → AllPairs AreApart (drop (i + 1) runs)
    → AllPairs AreApart (drop i runs)
one_more_apart runs i inside one rest =
    subst (AllPairs AreApart) (sym (drop_more runs i (run_of 0 0) inside)) (AllPairs-cons AreApart (slice_index_or runs i (run_of 0 0)) (drop (i + 1) runs) one rest)

pub none_left : (runs : List Run) (i : ℕ) → length runs ≤ i → AllPairs AreApart (drop i runs)
none_left runs i behind = λ k j d l h. absurd (omega (arith, behind, h, length-drop i runs))
