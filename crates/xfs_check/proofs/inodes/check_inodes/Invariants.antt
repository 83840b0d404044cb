use Rattle.std.proofs.Common.{◌≡◌, ℕ, ◌*◌, length, take, IsTrue}
use Rattle.std.specs.List.{flat_map}
use Rattle.block_claims.specs.Agreement.{block}
use Rattle.xfs_check.specs.Valid.{has_root}
use Rattle.xfs_check.specs.inside.Reading.{inodes_of_chunk}
use Rattle.xfs_check.specs.inside.Steps.{AreChecked}
use Rattle.xfs_inode.specs.Chunks.{chunk_len}
use Rattle.xfs_super.specs.Super.{geometry_of}
use Rattle.xfs_tree.specs.Marks.{marked}
use Rattle.xfs_check.proofs.inodes.check_inodes.Given as goal

abbrev pub invariant-loop-chunk : goal.invariant-loop-chunk
invariant-loop-chunk g l = record {
  read : g.B.Blocks.only_read l.initial.disk l.disk;
  long : length l.buffer.items ≡ 4096 * chunk_len (geometry_of l.geo);
  checked : IsTrue g.B.Blocks.tells → AreChecked (geometry_of l.geo)
      (flat_map (inodes_of_chunk (geometry_of l.geo) (block (g.B.Blocks.image l.initial.disk)) l.group) (take l.chunk-index l.chunks))
      (marked l.geo.agblocks (g.M.Mark.claimed l.initial.marks)) (marked l.geo.agblocks (g.M.Mark.claimed l.marks));
  root : IsTrue g.B.Blocks.tells → l.root ≡ has_root (geometry_of l.geo)
      (flat_map (inodes_of_chunk (geometry_of l.geo) (block (g.B.Blocks.image l.initial.disk)) l.group) (take l.chunk-index l.chunks));
  admits : (h b : ℕ) → g.M.Mark.admits l.marks h b ≡ g.M.Mark.admits l.initial.marks h b;
}
