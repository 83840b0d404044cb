use Rattle.std.proofs.Common.{ℕ, ◌<◌}
use Rattle.xfs_super.specs.Super.{geometry_of}
use Rattle.xfs_inode.specs.inside.Searching.{IsSoundAt}
use Rattle.xfs_inode.proofs.extent.are_sound.Given as goal

abbrev pub invariant-loop-i : goal.invariant-loop-i
invariant-loop-i l = (k : ℕ) → k < l.i → IsSoundAt (geometry_of l.geo) l.extents k
