use Rattle.std.proofs.Common.{◌≡◌, ◌≤◌, drop}
use Rattle.group_content.specs.Grouped.{members_with}
use Rattle.group_content.proofs.members.first_with.Given as goal

abbrev pub invariant-loop-k : goal.invariant-loop-k
invariant-loop-k l = record {
  before : l.k ≤ l.end;
  passed : members_with l.text (drop l.k l.partitions) ≡ members_with l.text l.partitions;
}
