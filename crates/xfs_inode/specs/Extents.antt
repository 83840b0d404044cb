-- The extents of a fork: which blocks of the file and of the volume they are (XFS Algorithms & Data Structures, 'Data
-- Extents'). An extent's `block` names its first block of the volume, with the group in its upper bits.
use Rattle.std.specs.Prelude.{ℕ, ◌+◌, ◌*◌, ◌/◌, ◌%◌, ◌^◌, ◌<◌, Bool, ◌&&◌, nat_le, nat_lt, cond, IsTrue, Option, Some, None, List, [], ◌∷◌, map}
use Rattle.std.specs.List.{All, range_with_len}
use Rattle.disk_base.specs.Image.{bytes_at}
use Rattle.xfs_super.specs.Geometry.{Geometry}
use Rattle.xfs_tree.specs.Records.{by_file}
use Rattle.xfs_tree.specs.Tree.{AreInOrder}
use Rattle.xfs_tree.specs.declared.extent.Extent.{Extent}

-- the block of the volume that a block number names
abbrev pub block_named : Geometry → ℕ → ℕ
block_named geo number = number / 2 ^ geo.agblklog * geo.agblocks + number % 2 ^ geo.agblklog

-- the blocks of an extent, by their numbers in the volume
abbrev pub extent_blocks : Geometry → Extent → List ℕ
extent_blocks geo e = range_with_len (block_named geo e.block) e.count

-- extent k of a list that stands in a fork, and `count` of them
abbrev pub listed_extent : List ℕ → ℕ → Extent
listed_extent fork k = by_file.record_of (bytes_at fork (16 * k) 16)

abbrev pub listed_extents : List ℕ → ℕ → List Extent
listed_extents fork count = map (listed_extent fork) (range_with_len 0 count)

-- it covers that block of the file
abbrev pub covers : ℕ → Extent → Bool
covers block e = nat_le e.file block && nat_lt block (e.file + e.count)

-- the first extent that covers it
abbrev pub covering : ℕ → List Extent → Option Extent
covering block [] = None
covering block (e ∷ es) = cond (covers block e) (Some e) (covering block es)

-- each has a block, lies in one group of the volume, and ends in the file where the next one begins, or before it
pub record AreSoundExtents (geo : Geometry) (extents : List Extent) : Type 0 where
  pub some : All (λ e. 0 < e.count) extents
  pub inside : All (λ e. IsTrue (by_file.inside geo 0 e)) extents
  pub order : AreInOrder by_file extents
