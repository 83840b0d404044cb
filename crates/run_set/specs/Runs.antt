-- A set of numbers as its runs: each has a first number and a count of numbers.
use Rattle.std.specs.Prelude.{ℕ, ◌+◌, ◌^◌, ◌<◌, ◌≤◌, ◌⊎◌, List, [], ◌∷◌}
use Rattle.run_set.specs.declared.run.Run.{Run}
use Rattle.run_set.specs.declared.fault.RunFault.{RunFault}
use Rattle.run_set.specs.declared.fault.RunFault.TheVariants.{Overlap, Memory}

-- x is one of the n numbers from start on
abbrev pub IsInRange : ℕ → ℕ → ℕ → Type 0
IsInRange start n x = (start ≤ x) × (x < start + n)

-- the first number past a run
abbrev pub past_of : Run → ℕ
past_of run = run.start + run.count

-- some run has x
abbrev pub Holds : List Run → ℕ → Type 0
Holds [] x = ⊥
Holds (run ∷ runs) x = IsInRange run.start run.count x ⊎ Holds runs x

-- a run isn't empty, and ends at 2 ^ 63 at most
abbrev pub IsRun : Run → Type 0
IsRun run = (1 ≤ run.count) × (past_of run ≤ 2 ^ 63)

-- a run ends strictly below where a later one starts, so the two neither meet nor touch
abbrev pub EndsBelow : Run → Run → Type 0
EndsBelow run later = past_of run < later.start

-- runs that rise from low on, each strictly past the end of the one before
abbrev pub RisesFrom : ℕ → List Run → Type 0
RisesFrom low [] = Unit {0}
RisesFrom low (run ∷ runs) = (low ≤ run.start) × IsRun run × RisesFrom (past_of run + 1) runs

-- the runs of a set: rising, disjoint, and as few as can be, since none touches another
abbrev pub AreRuns : List Run → Type 0
AreRuns runs = RisesFrom 0 runs

-- x is held, and is one of the n numbers from start on
abbrev pub IsCommon : List Run → ℕ → ℕ → ℕ → Type 0
IsCommon runs start n x = Holds runs x × IsInRange start n x

-- the least number that is held and is one of the n numbers from start on
pub record IsLeastCommon (runs : List Run) (start : ℕ) (n : ℕ) (least : ℕ) : Type 0 where
  pub common : IsCommon runs start n least
  pub none_below : (x : ℕ) → IsCommon runs start n x → least ≤ x

-- none of the n numbers from start on is held
abbrev pub IsFree : List Run → ℕ → ℕ → Type 0
IsFree runs start n = (x : ℕ) → Holds runs x → IsInRange start n x → ⊥

-- when an `add` of n numbers from start on to a set gives each fault; memory is asked for only once the numbers are seen to be free
abbrev pub HasFault : List Run → ℕ → ℕ → RunFault → Type 0
HasFault runs start n (Overlap least) = IsLeastCommon runs start n least
HasFault runs start n Memory = IsFree runs start n
