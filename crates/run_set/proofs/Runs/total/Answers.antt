use Rattle.run_set.proofs.Rising.{sum_fits}
use Rattle.run_set.proofs.Runs.total.Goals as goal

pub total_of-requires : goal.total_of-requires
total_of-requires c = rw c.deref.ensures.value (sum_fits c.self.inside.runs.items c.self.invariant)
