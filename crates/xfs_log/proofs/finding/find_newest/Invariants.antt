use Rattle.std.proofs.Common.{◌*◌, ◌<◌, IfSome, IsTrue}
use Rattle.xfs_super.specs.Super.{geometry_of}
use Rattle.xfs_log.specs.inside.Finding.{sector_of_log, FindsNewest}
use Rattle.xfs_log.proofs.finding.find_newest.Given as goal

abbrev pub invariant-loop-at : goal.invariant-loop-at
invariant-loop-at g l = record {
  read : g.B.Blocks.only_read l.initial.disk l.disk;
  inside : IfSome l.newest (λ n. n.place < 8 * l.at);
  newest : IsTrue g.B.Blocks.tells → FindsNewest (sector_of_log (geometry_of l.geo) (g.B.Blocks.image l.initial.disk)) (8 * l.at) l.newest;
}
