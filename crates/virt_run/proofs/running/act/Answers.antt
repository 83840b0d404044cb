use Rattle.virt_run.proofs.RunLemmas.{ended_misused}
use Rattle.virt_run.proofs.running.act.Goals as goal

pub returns-in-Err-clause-ended : goal.returns-in-Err-clause-ended
returns-in-Err-clause-ended g c = rw c.refusal_of.ensures (ended_misused _ _ c.in-Err.usage (g.met.T.Disk.stops_are c.args.target.now) c.in-Err.ensures.answer)
