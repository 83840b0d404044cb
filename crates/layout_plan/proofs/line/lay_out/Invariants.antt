use Rattle.layout_plan.proofs.Lines.{LaidSoFar}
use Rattle.layout_plan.proofs.line.lay_out.Given as goal

abbrev pub invariant-loop-index : goal.invariant-loop-index
invariant-loop-index l = LaidSoFar l.floor l.align l.begin l.pieces l.index l.spots.items l.before l.last
