use Rattle.std.proofs.Common.{ℕ, ◌<◌, slice_index_or}
use Rattle.xfs_super.specs.Super.{geometry_of}
use Rattle.xfs_tree.specs.declared.sparse_chunk.SparseChunk.{SparseChunk}
use Rattle.xfs_inode.specs.Chunks.{IsSoundChunk}
use Rattle.xfs_inode.proofs.chunk.first_unsound.Given as goal

abbrev pub invariant-loop-i : goal.invariant-loop-i
invariant-loop-i l = (k : ℕ) (d : SparseChunk) → k < l.i → IsSoundChunk (geometry_of l.geo) l.group (slice_index_or l.chunks k d)
