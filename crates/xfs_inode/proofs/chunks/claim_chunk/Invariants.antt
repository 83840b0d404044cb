use Rattle.std.proofs.Common.{◌≡◌, ℕ, take}
use Rattle.std.specs.List.{flat_map, range_with_len}
use Rattle.xfs_super.specs.Super.{geometry_of}
use Rattle.xfs_tree.specs.Marks.{AreClaimed}
use Rattle.xfs_inode.specs.Chunks.{chunk_block, chunk_len}
use Rattle.xfs_inode.proofs.chunks.claim_chunk.Given as goal

abbrev pub invariant-loop-j : goal.invariant-loop-j
invariant-loop-j g l = record {
  claimed : AreClaimed l.geo (g.M.Mark.claimed l.initial.marks)
      (flat_map (chunk_block (geometry_of l.geo) l.group l.chunk) (take l.j (range_with_len 0 (chunk_len (geometry_of l.geo))))) (g.M.Mark.claimed l.marks);
  admits : (h b : ℕ) → g.M.Mark.admits l.marks h b ≡ g.M.Mark.admits l.initial.marks h b;
}
