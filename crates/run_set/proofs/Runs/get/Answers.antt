use Rattle.std.proofs.Common.{◌<◌, length}
use Rattle.run_set.specs.Runs.{IsRun}
use Rattle.run_set.proofs.Rising.{run_read}
use Rattle.run_set.proofs.Runs.get.Goals as goal

pub returns-clause-some : goal.returns-clause-some
returns-clause-some c =
    let within : c.args.index < length c.self.inside.runs.items = rw c.self.view_is c.requires in
    let is_run : IsRun c.index-run.result.now = run_read c.self.inside.runs.items c.index-run.result.now c.args.index c.self.invariant within c.index-run.ensures in
    is_run.0

pub returns-clause-end : goal.returns-clause-end
returns-clause-end c =
    let within : c.args.index < length c.self.inside.runs.items = rw c.self.view_is c.requires in
    let is_run : IsRun c.index-run.result.now = run_read c.self.inside.runs.items c.index-run.result.now c.args.index c.self.invariant within c.index-run.ensures in
    is_run.1
