-- Runs that are joined one after another.
use Rattle.std.specs.Prelude.{ℕ, ◌<◌, ◌≤◌, ◌⊎◌, ◌↔◌, All, List, ◌∷◌, length, drop}
use Rattle.run_set.specs.Runs.{IsInRange, Holds, IsFree, RisesFrom, past_of}
use Rattle.run_set.specs.declared.run.Run.{Run}

-- the runs lie below a bound and don't touch it
pub record LiesBelow (bound : ℕ) (runs : List Run) : Type 0 where
  pub rises : RisesFrom 0 runs
  pub below : All (λ run. past_of run < bound) runs

-- run in place of the first few runs adds the n numbers from start on, of which none was held, and keeps the runs rising
pub record Joins (runs : List Run) (start : ℕ) (n : ℕ) (run : Run) (replaced : ℕ) : Type 0 where
  pub within : replaced ≤ length runs
  pub added : (x : ℕ) → Holds (run ∷ drop replaced runs) x ↔ (Holds runs x ⊎ IsInRange start n x)
  pub free : IsFree runs start n
  pub rises : (low : ℕ) → low ≤ start → RisesFrom low runs → RisesFrom low (run ∷ drop replaced runs)
