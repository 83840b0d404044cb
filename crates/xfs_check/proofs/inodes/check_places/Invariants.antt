use Rattle.std.proofs.Common.{◌≡◌, ℕ, ◌+◌, ◌*◌, ◌^◌, IsTrue}
use Rattle.block_claims.specs.Agreement.{block}
use Rattle.xfs_check.proofs.Rows.{first_inodes}
use Rattle.xfs_check.specs.Seen.{inode_at_place}
use Rattle.xfs_check.specs.Valid.{has_root}
use Rattle.xfs_check.specs.inside.Steps.{AreChecked}
use Rattle.xfs_super.specs.Super.{geometry_of}
use Rattle.xfs_tree.specs.Marks.{marked}
use Rattle.xfs_check.proofs.inodes.check_places.Given as goal

abbrev pub invariant-loop-k : goal.invariant-loop-k
invariant-loop-k g l = record {
  read : g.B.Blocks.only_read l.initial.disk l.disk;
  checked : IsTrue g.B.Blocks.tells → AreChecked (geometry_of l.geo)
      (first_inodes (λ k. inode_at_place (geometry_of l.geo) (block (g.B.Blocks.image l.initial.disk)) l.at.group l.at.chunk.now l.bytes (2 ^ l.geo.inopblog * l.at.block + k) k) (2 ^ l.geo.inopblog) (geometry_of l.geo) l.k)
      (marked l.geo.agblocks (g.M.Mark.claimed l.initial.marks)) (marked l.geo.agblocks (g.M.Mark.claimed l.marks));
  root : IsTrue g.B.Blocks.tells → l.root ≡ has_root (geometry_of l.geo)
      (first_inodes (λ k. inode_at_place (geometry_of l.geo) (block (g.B.Blocks.image l.initial.disk)) l.at.group l.at.chunk.now l.bytes (2 ^ l.geo.inopblog * l.at.block + k) k) (2 ^ l.geo.inopblog) (geometry_of l.geo) l.k);
  admits : (h b : ℕ) → g.M.Mark.admits l.marks h b ≡ g.M.Mark.admits l.initial.marks h b;
}
