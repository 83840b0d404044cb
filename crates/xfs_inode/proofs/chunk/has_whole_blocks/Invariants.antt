use Rattle.std.proofs.Common.{◌≡◌, ℕ, ◌<◌, ◌/◌, ◌*◌}
use Rattle.xfs_inode.specs.Chunks.{is_hole}
use Rattle.xfs_inode.proofs.chunk.has_whole_blocks.Given as goal

abbrev pub invariant-loop-i : goal.invariant-loop-i
invariant-loop-i l = (k : ℕ) → k < l.i → is_hole l.chunk k ≡ is_hole l.chunk (k / l.width * l.width)
