use Rattle.std.proofs.Common.{◌≡◌, ◌++◌, drop}
use Rattle.group_content.specs.Grouped.{members_with}
use Rattle.group_content.proofs.members.members_with.Given as goal

abbrev pub invariant-loop-partition : goal.invariant-loop-partition
invariant-loop-partition l = l.members ++ members_with l.text (drop l.partition-index l.partitions) ≡ members_with l.text l.partitions
