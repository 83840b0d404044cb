use Rattle.std.proofs.Common.{◌-◌}
use Rattle.xfs_inode.specs.inside.Searching.{IsNarrowed}
use Rattle.xfs_inode.proofs.search.parted_at.Given as goal

abbrev pub invariant-loop-range : goal.invariant-loop-range
invariant-loop-range l = IsNarrowed l.block l.extents l.range.0 l.range.1

abbrev pub decreases-loop-range : goal.decreases-loop-range
decreases-loop-range l = l.range.1 - l.range.0
