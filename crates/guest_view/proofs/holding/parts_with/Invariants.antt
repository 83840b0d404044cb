use Rattle.std.proofs.Common.{◌≡◌, ◌+◌, ◌++◌, drop, length}
use Rattle.std.specs.Vec.Iter.{into_iter_items, into_iter_len}
use Rattle.guest_view.specs.Contents.{parts_with}
use Rattle.guest_view.proofs.holding.parts_with.Given as goal

abbrev pub invariant-loop-partition : goal.invariant-loop-partition
invariant-loop-partition l = record {
  parts : l.parts.items ++ parts_with (drop l.partition-index l.partitions) (into_iter_items l.found) (into_iter_items l.standings)
      ≡ parts_with l.partitions l.fn.found.items l.fn.standings.items;
  found_left : into_iter_len l.found + l.partition-index ≡ length l.partitions;
  standings_left : into_iter_len l.standings + l.partition-index ≡ length l.partitions;
}
