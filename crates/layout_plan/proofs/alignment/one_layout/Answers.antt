use Rattle.layout_plan.proofs.Lines.{one_at_most, one_at_least}
use Rattle.layout_plan.proofs.alignment.one_layout.Goals as goal

pub returns : goal.returns
returns c = λ align begin counts some. (one_at_least align begin counts some, one_at_most align begin counts)
