use Rattle.std.proofs.Common.{◌≡◌, ℕ, ◌<◌, ◌≤◌, true}
use Rattle.layout_plan.specs.Plans.{is_taken}
use Rattle.layout_plan.proofs.extra.least_free.Given as goal

abbrev pub invariant-loop-number : goal.invariant-loop-number
invariant-loop-number l = (lower : ℕ) → 1 ≤ lower → lower < l.number → is_taken l.placed lower ≡ true
