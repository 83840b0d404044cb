use Rattle.std.proofs.Common.{◌≡◌}
use Rattle.xfs_inode.specs.Extents.{listed_extents}
use Rattle.xfs_inode.proofs.extent.listed_extents.Given as goal

abbrev pub invariant-loop-k : goal.invariant-loop-k
invariant-loop-k l = l.extents ≡ listed_extents l.fork l.k
