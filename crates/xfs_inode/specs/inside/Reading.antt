-- The extents of a fork as they are read, before they are judged.
use Rattle.std.specs.Prelude.{◌≡◌, ℕ, List, ◌⊎◌}
use Rattle.xfs_super.specs.Geometry.{Geometry}
use Rattle.xfs_tree.specs.Fork.{IsRootFault}
use Rattle.xfs_tree.specs.Tree.{HasTreeFault}
use Rattle.xfs_tree.specs.declared.extent.Extent.{Extent}
use Rattle.xfs_tree.specs.declared.fault.TreeFault.{TreeFault}
use Rattle.xfs_tree.specs.declared.fault.TreeFault.TheVariants.{Memory}
use Rattle.xfs_inode.specs.Core.{InodeFork}
use Rattle.xfs_inode.specs.ForkReading.{IsSoundForkTree}
use Rattle.xfs_inode.specs.Seen.{fork_tree, fork_extents, extent_setting}

-- the tree of the fork is sound, and these are the fork's extents
pub record IsReadFork (geo : Geometry) (volume : ℕ → List ℕ) (f : InodeFork) (extents : List Extent) : Type 0 where
  pub tree : IsSoundForkTree geo f (fork_tree volume geo f)
  pub extents_are : extents ≡ fork_extents geo f (fork_tree volume geo f)

-- memory was refused, or the fork holds the root of a tree, which isn't one
abbrev pub IsReadFault : Geometry → (ℕ → List ℕ) → InodeFork → (ℕ → ℕ) → TreeFault → Type 0
IsReadFault geo volume f claimed fault =
    (fault ≡ Memory)
    ⊎ ((f.format ≡ 3)
    × (IsRootFault (extent_setting geo f.ino) geo f.bytes fault
    ⊎ HasTreeFault (extent_setting geo f.ino) geo (fork_tree volume geo f) claimed fault))
