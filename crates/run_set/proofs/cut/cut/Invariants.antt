use Rattle.std.proofs.Common.{◌-◌, length}
use Rattle.run_set.proofs.Cutting.{IsCut}
use Rattle.run_set.proofs.cut.cut.Given as goal

abbrev pub invariant-loop-at : goal.invariant-loop-at
invariant-loop-at l = IsCut l.fn.out.items l.out.items l.holes l.fn.run l.from l.at

abbrev pub decreases-loop-at : goal.decreases-loop-at
decreases-loop-at l = length l.initial.holes - l.at
