-- Forks and extents as data.
use Rattle.xfs_tree.specs.declared.extent.Extent.{Extent}
use Rattle.xfs_super.specs.Geometry.{Geometry}
use Rattle.std.specs.List.{flat_map}
use Rattle.xfs_inode.specs.declared.fork.Fork.{Fork}
use Rattle.xfs_inode.specs.Core.{InodeFork}
use Rattle.xfs_inode.specs.Extents.{extent_blocks}
use Rattle.std.specs.Prelude.{ℕ, true, List}

-- a fork that lies in its inode, as data
abbrev pub fork_as_data : Fork → InodeFork
fork_as_data f = record { ino = f.ino; lies = true; format = f.format; count = f.count; local = f.local; bytes = f.bytes.now }

-- the blocks of extents, one extent after the other
abbrev pub extents_blocks : Geometry → List Extent → List ℕ
extents_blocks geo extents = flat_map (extent_blocks geo) extents
