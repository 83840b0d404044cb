use Rattle.std.proofs.Common.{◌≡◌, ◌-◌, ◌+◌, ◌++◌, drop}
use Rattle.guest_view.specs.Partitions.{entry_partition, named_from}
use Rattle.guest_view.proofs.partitions.add_entries.Given as goal

abbrev pub invariant-loop-number : goal.invariant-loop-number
invariant-loop-number l =
    l.partitions.items ++ named_from entry_partition (1 + (l.number - 1)) (drop (l.number - 1) l.gpt.entries)
    ≡ l.initial.partitions.items ++ named_from entry_partition 1 l.gpt.entries
