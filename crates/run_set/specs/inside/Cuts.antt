-- What of a run lies outside other runs.
use Rattle.std.specs.Prelude.{ℕ, ◌⊎◌, ◌↔◌, List}
use Rattle.run_set.specs.declared.run.Run.{Run}
use Rattle.run_set.specs.Runs.{Holds, IsInRange}

-- beside what was there, the numbers of the run that no hole holds
abbrev pub KeepsOf : Run → List Run → List Run → List Run → Type 0
KeepsOf run holes old new =
    (x : ℕ) → Holds new x ↔ (Holds old x ⊎ (IsInRange run.start run.count x × (Holds holes x → ⊥)))
