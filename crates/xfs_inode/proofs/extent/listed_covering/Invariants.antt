use Rattle.std.proofs.Common.{◌≡◌, ◌-◌, map}
use Rattle.std.specs.List.{range_with_len}
use Rattle.xfs_inode.specs.Extents.{listed_extent, listed_extents, covering}
use Rattle.xfs_inode.proofs.extent.listed_covering.Given as goal

abbrev pub invariant-loop-k : goal.invariant-loop-k
invariant-loop-k l =
    covering l.block (map (listed_extent l.fork) (range_with_len l.k (l.count - l.k))) ≡ covering l.block (listed_extents l.fork l.count)
