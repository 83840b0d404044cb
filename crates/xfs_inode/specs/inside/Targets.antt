-- The block in which the target of a link stands, as it is looked for in the extents that the inode lists.
use Rattle.std.specs.Prelude.{◌≡◌, ℕ, ◌<◌, ◌≤◌, Option, Some, None, List, ◌⊎◌}
use Rattle.xfs_super.specs.Geometry.{Geometry}
use Rattle.xfs_tree.specs.declared.extent.Extent.{Extent}
use Rattle.xfs_inode.specs.declared.core_fields.Core.{Core}
use Rattle.xfs_inode.specs.Core.{data_fork}
use Rattle.xfs_inode.specs.Extents.{block_named, listed_extents, covering}

-- the extent that covers the first block of the file
abbrev pub target_extent : Geometry → Core → List ℕ → Option Extent
target_extent geo core bytes = covering 0 (listed_extents (data_fork geo core bytes).bytes core.nextents)

-- that block of the volume is its first, which lies in the volume
pub record IsPlace (geo : Geometry) (found : Option Extent) (at : ℕ) : Type 0 where
  pub extent : Extent
  pub is : found ≡ Some extent
  pub place : at ≡ block_named geo extent.block
  pub inside : at < geo.dblocks

-- there is none, or it begins behind the volume
pub record BeginsBehindVolume (geo : Geometry) (found : Option Extent) : Type 0 where
  pub extent : Extent
  pub is : found ≡ Some extent
  pub outside : geo.dblocks ≤ block_named geo extent.block

abbrev pub HasNoPlace : Geometry → Option Extent → Type 0
HasNoPlace geo found = (found ≡ None) ⊎ BeginsBehindVolume geo found
