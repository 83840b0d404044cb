use Rattle.std.proofs.Common.{◌-◌}
use Rattle.layout_plan.proofs.Ends.{IsBetween}
use Rattle.layout_plan.proofs.flexing.greatest.Given as goal

abbrev pub invariant-loop-fitting : goal.invariant-loop-fitting
invariant-loop-fitting l = IsBetween l.task.kind l.task.parts.now l.task.wishes.now l.task.layout.now l.task.limit l.low l.high l.fitting l.too_many

abbrev pub decreases-loop-fitting : goal.decreases-loop-fitting
decreases-loop-fitting l = l.too_many - l.fitting
