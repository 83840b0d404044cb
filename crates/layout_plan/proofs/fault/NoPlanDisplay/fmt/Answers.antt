-- What is written of three numbers is the text.
use Rattle.layout_plan.proofs.fault.NoPlanDisplay.fmt.Goals as goal

pub returns-in-WouldCut-clause-writes : goal.returns-in-WouldCut-clause-writes
returns-in-WouldCut-clause-writes g c = rw c.in-WouldCut.is c.write-in-WouldCut.ensures.writes
