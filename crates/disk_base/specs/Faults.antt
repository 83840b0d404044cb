-- Counts of faults: a device's count never falls, and a call answers its fault only where the count rose.
use Rattle.std.specs.Prelude.{ℕ, ◌+◌, ◌-◌, ◌^◌, ◌≤◌, min, Result, OnErr}

-- one more, or the counter's last value
abbrev pub counted : ℕ → ℕ
counted n = min (n + 1) (2 ^ 64 - 1)

-- the count is greater than before, or stands at the counter's last value
abbrev pub Rose : ℕ → ℕ → Type 0
Rose before now = counted before ≤ now

-- a call whose error comes only where the count of faults rose in that call
pub record HasCause {T E : Type 0} (before now : ℕ) (result : Result T E) : Type 0 where
  pub later : before ≤ now
  pub failed : OnErr result (Rose before now)
