use Rattle.run_set.proofs.Rising.{RisesFrom-runs, RisesFrom-pairs}
use Rattle.run_set.proofs.Runs.count.Goals as goal

pub returns-clause-runs : goal.returns-clause-runs
returns-clause-runs c = rw (← c.self.view_is) (RisesFrom-runs 0 c.self.inside.runs.items c.self.invariant)

pub returns-clause-rising : goal.returns-clause-rising
returns-clause-rising c = rw (← c.self.view_is) (RisesFrom-pairs 0 c.self.inside.runs.items c.self.invariant)
