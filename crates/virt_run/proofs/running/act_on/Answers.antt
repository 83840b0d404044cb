use Rattle.run_end.specs.declared.end.Refusal.TheVariants.{NotYet}
use Rattle.run_end.proofs.EndLemmas.{uncalled}
use Rattle.virt_run.proofs.running.act_on.Goals as goal

pub returns-in-Sparsify-clause-ended : goal.returns-in-Sparsify-clause-ended
returns-in-Sparsify-clause-ended g c = rw c.in-Sparsify.is (uncalled _ NotYet (g.met.T.Disk.stops_are c.args.target.now))
