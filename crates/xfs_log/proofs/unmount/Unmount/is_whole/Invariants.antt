use Rattle.std.proofs.Common.{IsTrue}
use Rattle.xfs_super.specs.Super.{geometry_of}
use Rattle.xfs_log.specs.inside.Finding.{sector_of_log}
use Rattle.xfs_log.specs.inside.Judging.{HaveDue}
use Rattle.xfs_log.proofs.unmount.Unmount.is_whole.Given as goal

abbrev pub invariant-loop-j : goal.invariant-loop-j
invariant-loop-j g l = record {
  read : g.B.Blocks.only_read l.initial.disk l.disk;
  due : IsTrue g.B.Blocks.tells → HaveDue (sector_of_log (geometry_of l.geo) (g.B.Blocks.image l.initial.disk)) l.self l.j;
}
