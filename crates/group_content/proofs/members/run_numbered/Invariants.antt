use Rattle.std.proofs.Common.{◌≡◌, drop}
use Rattle.group_content.specs.Grouped.{run_numbered}
use Rattle.group_content.proofs.members.run_numbered.Given as goal

abbrev pub invariant-loop-partition : goal.invariant-loop-partition
invariant-loop-partition l = run_numbered l.number (drop l.partition-index l.partitions) ≡ run_numbered l.number l.partitions
