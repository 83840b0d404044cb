use Rattle.std.proofs.Common.{◌≡◌, ℕ, take}
use Rattle.xfs_super.specs.Super.{geometry_of}
use Rattle.xfs_tree.specs.Marks.{AreClaimed}
use Rattle.xfs_inode.specs.Chunks.{chunks_blocks}
use Rattle.xfs_inode.proofs.chunks.claim_chunks.Given as goal

abbrev pub invariant-loop-chunk : goal.invariant-loop-chunk
invariant-loop-chunk g l = record {
  claimed : AreClaimed l.geo (g.M.Mark.claimed l.initial.marks) (chunks_blocks (geometry_of l.geo) l.group (take l.chunk-index l.chunks)) (g.M.Mark.claimed l.marks);
  admits : (h b : ℕ) → g.M.Mark.admits l.marks h b ≡ g.M.Mark.admits l.initial.marks h b;
}
