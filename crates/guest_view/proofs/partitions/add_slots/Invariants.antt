use Rattle.std.proofs.Common.{◌≡◌, ◌+◌, ◌++◌, drop}
use Rattle.guest_view.specs.Partitions.{named_from, slot_partition}
use Rattle.guest_view.proofs.partitions.add_slots.Given as goal

abbrev pub invariant-loop-i : goal.invariant-loop-i
invariant-loop-i l = l.partitions.items ++ named_from slot_partition (1 + l.i) (drop l.i l.slots) ≡ l.initial.partitions.items ++ named_from slot_partition 1 l.slots
