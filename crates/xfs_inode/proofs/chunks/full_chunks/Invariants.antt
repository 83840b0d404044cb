use Rattle.std.proofs.Common.{◌≡◌, map, take}
use Rattle.xfs_inode.specs.Chunks.{full_chunk}
use Rattle.xfs_inode.proofs.chunks.full_chunks.Given as goal

abbrev pub invariant-loop-chunk : goal.invariant-loop-chunk
invariant-loop-chunk l = l.full ≡ map full_chunk (take l.chunk-index l.chunks)
