use Rattle.run_set.proofs.Cutting.{IsMinus}
use Rattle.run_set.proofs.Runs.minus.Given as goal

abbrev pub invariant-loop-run : goal.invariant-loop-run
invariant-loop-run l = IsMinus l.runs.items l.run-items l.other-inside.runs.items l.run-index l.past
