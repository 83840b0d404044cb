use Rattle.std.proofs.Common.{◌≡◌, take}
use Rattle.group_content.specs.Grouped.{member_runs}
use Rattle.group_content.proofs.members.member_runs.Given as goal

abbrev pub invariant-loop-m : goal.invariant-loop-m
invariant-loop-m l = l.runs.items ≡ member_runs l.partitions (take l.m l.group.members)
