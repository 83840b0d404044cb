-- Runs of sectors, or of other things that are numbered: `count` of them from number `start` on.
use Rattle.std.specs.Prelude.{ℕ, ◌+◌, ◌<◌, ◌≤◌, ◌⊎◌}
use Rattle.disk_base.specs.declared.run.Run.{Run}

-- the run of `count` numbers from `start` on
abbrev pub run_of : ℕ → ℕ → Run
run_of start count = record { start = start; count = count }

-- the first number behind it
abbrev pub end_of : Run → ℕ
end_of run = run.start + run.count

-- a number of the run
pub record IsIn (run : Run) (k : ℕ) : Type 0 where
  pub from : run.start ≤ k
  pub before : k < end_of run

-- the run lies below `limit`
abbrev pub IsWithin : ℕ → Run → Type 0
IsWithin limit run = end_of run ≤ limit

-- two runs share no number
abbrev pub AreApart : Run → Run → Type 0
AreApart one other = (end_of one ≤ other.start) ⊎ (end_of other ≤ one.start)

-- each number of the first run is one of the second
pub record IsInside (inner outer : Run) : Type 0 where
  pub from : outer.start ≤ inner.start
  pub before : end_of inner ≤ end_of outer
