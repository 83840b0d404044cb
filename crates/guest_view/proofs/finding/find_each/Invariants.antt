use Rattle.std.proofs.Common.{IsTrue, take}
use Rattle.std.specs.List.{AllZip}
use Rattle.guest_view.specs.Contents.{IsFoundPartition}
use Rattle.guest_view.specs.inside.Sound.{StandFor}
use Rattle.guest_view.proofs.finding.find_each.Given as goal

abbrev pub invariant-loop-partition : goal.invariant-loop-partition
invariant-loop-partition g l = record {
  read : g.B.Blocks.only_read l.initial.disk l.disk;
  found : IsTrue g.B.Blocks.tells
      → AllZip (IsFoundPartition (g.B.Blocks.image l.initial.disk)) (take l.partition-index l.partitions) l.found.items;
  stand : StandFor (take l.partition-index l.partitions) l.found.items;
}
