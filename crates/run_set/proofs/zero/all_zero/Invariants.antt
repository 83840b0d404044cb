use Rattle.std.proofs.Common.{◌≡◌, ◌≤◌, ◌-◌, All, length, take}
use Rattle.run_set.proofs.zero.all_zero.Given as goal

abbrev pub invariant-loop-at : goal.invariant-loop-at
invariant-loop-at l = (l.at ≤ length l.bytes) × All (λ byte. byte ≡ 0) (take l.at l.bytes)

abbrev pub decreases-loop-at : goal.decreases-loop-at
decreases-loop-at l = length l.initial.bytes - l.at
