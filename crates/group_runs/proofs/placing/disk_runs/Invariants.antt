use Rattle.std.proofs.Common.{◌≡◌, take}
use Rattle.group_runs.specs.Places.{disk_runs}
use Rattle.group_runs.proofs.placing.disk_runs.Given as goal

abbrev pub invariant-loop-run : goal.invariant-loop-run
invariant-loop-run l = l.placed.items ≡ disk_runs l.members (take l.run-index l.runs)
