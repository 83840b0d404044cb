use Rattle.std.proofs.Common.{◌≡◌, ◌+◌, ◌++◌, drop}
use Rattle.guest_view.specs.Partitions.{named_from, logical_partition}
use Rattle.guest_view.proofs.partitions.add_logicals.Given as goal

abbrev pub invariant-loop-i : goal.invariant-loop-i
invariant-loop-i l = l.partitions.items ++ named_from logical_partition (5 + l.i) (drop l.i l.logicals) ≡ l.initial.partitions.items ++ named_from logical_partition 5 l.logicals
