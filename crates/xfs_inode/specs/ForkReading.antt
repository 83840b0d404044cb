-- When a fork that is seen is sound, and which reasons speak against it.
use Rattle.std.specs.Prelude.{◌≡◌, ℕ, Bool, true, false, List, ◌⊎◌}
use Rattle.block_claims.specs.Agreement.{block, IsTwice}
use Rattle.xfs_super.specs.Geometry.{Geometry}
use Rattle.xfs_super.specs.Super.{geometry_of}
use Rattle.xfs_super.specs.declared.geometry.Super.{Super}
use Rattle.xfs_super.specs.declared.reason.CheckFault.{CheckFault}
use Rattle.xfs_super.specs.declared.reason.CheckFault.TheVariants as check
use Rattle.xfs_super.specs.declared.reason.Reason.{Reason}
use Rattle.xfs_super.specs.declared.reason.Reason.TheVariants as why
use Rattle.xfs_tree.specs.Block.{Sight}
use Rattle.xfs_tree.specs.Fork.{IsSoundRoot, IsRootFault}
use Rattle.xfs_tree.specs.Marks.{Claims, marked, AreFree, AreClaimed}
use Rattle.xfs_tree.specs.Tree.{blocks_of, IsSoundTree, HasTreeFault}
use Rattle.xfs_tree.specs.declared.fault.TreeFault.{TreeFault}
use Rattle.xfs_tree.specs.declared.fault.TreeFault.TheVariants as tree
use Rattle.xfs_inode.specs.declared.core_fields.Core.{Core}
use Rattle.xfs_inode.specs.Core.{InodeFork, fork_of, fork_holds}
use Rattle.xfs_inode.specs.Extents.{AreSoundExtents}
use Rattle.xfs_inode.specs.Inode.{front_inode}
use Rattle.xfs_inode.specs.Seen.{SeenFork, fork_seen, fork_claims, extents_seen, extent_setting}

-- ---- when it is sound

-- the tree of extents is, where the fork has one
pub record IsSoundForkTree (geo : Geometry) (f : InodeFork) (levels : List (List Sight)) : Type 0 where
  pub root : f.format ≡ 3 → IsSoundRoot (extent_setting geo f.ino) geo f.bytes
  pub tree : IsSoundTree (extent_setting geo f.ino) geo levels

-- the fork holds what it has to, its tree and its extents are sound, and no block of them is claimed twice
pub record IsSoundFork (geo : Geometry) (f : InodeFork) (s : SeenFork) (claimed : ℕ → ℕ) : Type 0 where
  pub holds : fork_holds f ≡ true
  pub tree : IsSoundForkTree geo f s.levels
  pub extents : AreSoundExtents geo (extents_seen s)
  pub free : AreFree claimed (fork_claims s)

-- ---- which reasons speak against it

-- a fault names that block, and speaks of the block itself
abbrev pub NamesTreeBlock : ℕ → ℕ → TreeFault → Type 0
NamesTreeBlock g b (tree.Checksum h k) = (h ≡ g) × (k ≡ b)
NamesTreeBlock g b (tree.Header h k) = (h ≡ g) × (k ≡ b)
NamesTreeBlock g b (tree.Level h k) = (h ≡ g) × (k ≡ b)
NamesTreeBlock g b (tree.Order h k) = (h ≡ g) × (k ≡ b)
NamesTreeBlock g b (tree.Range h k) = (h ≡ g) × (k ≡ b)
NamesTreeBlock g b (tree.Marked h k) = ⊥
NamesTreeBlock g b tree.Device = ⊥
NamesTreeBlock g b tree.Memory = ⊥

-- the fork holds the root of a tree, and the root or a block of the tree has such a fault there
pub record IsBadForkTree (geo : Geometry) (f : InodeFork) (levels : List (List Sight)) (g b : ℕ) : Type 0 where
  pub rooted : f.format ≡ 3
  pub fault : TreeFault
  pub names : NamesTreeBlock g b fault
  pub due :
      IsRootFault (extent_setting geo f.ino) geo f.bytes fault
      ⊎ HasTreeFault (extent_setting geo f.ino) geo levels (λ n. 0) fault

-- block n is claimed twice by the tree, or the extents are sound and it is by the tree and them
abbrev pub HasTwiceInFork : Geometry → SeenFork → (ℕ → ℕ) → ℕ → Type 0
HasTwiceInFork geo s claimed n =
    IsTwice claimed (blocks_of s.levels) n ⊎ (AreSoundExtents geo (extents_seen s) × IsTwice claimed (fork_claims s) n)

abbrev pub SpeaksAgainstFork : Geometry → InodeFork → SeenFork → (ℕ → ℕ) → Reason → Type 0
SpeaksAgainstFork geo f s claimed (why.Inode n) = (n ≡ f.ino) × (fork_holds f ≡ false)
SpeaksAgainstFork geo f s claimed (why.Tree g b) = (fork_holds f ≡ true) × IsBadForkTree geo f s.levels g b
SpeaksAgainstFork geo f s claimed (why.Extent n) =
    (n ≡ f.ino) × (fork_holds f ≡ true) × (AreSoundExtents geo (extents_seen s) → ⊥)
SpeaksAgainstFork geo f s claimed (why.ClaimedTwice n) = (fork_holds f ≡ true) × HasTwiceInFork geo s claimed n
SpeaksAgainstFork geo f s claimed _ = ⊥

abbrev pub HasFaultInFork : Geometry → InodeFork → SeenFork → (ℕ → ℕ) → CheckFault → Type 0
HasFaultInFork geo f s claimed (check.Bad reason) = SpeaksAgainstFork geo f s claimed reason
HasFaultInFork geo f s claimed check.Device = Unit {0}
HasFaultInFork geo f s claimed check.Memory = Unit {0}

-- ---- the same of a volume on an image, where some blocks are claimed, and of an inode at the front of a buffer

abbrev pub fork_in_buffer : Super → Core → List ℕ → Bool → InodeFork
fork_in_buffer geo core buffer attribute = fork_of (geometry_of geo) core (front_inode geo buffer) attribute

abbrev pub fork_on : Super → InodeFork → List ℕ → SeenFork
fork_on geo f image = fork_seen (block image) (geometry_of geo) f

abbrev pub IsSoundForkOn : Super → InodeFork → List ℕ → Claims → Type 0
IsSoundForkOn geo f image claimed = IsSoundFork (geometry_of geo) f (fork_on geo f image) (marked geo.agblocks claimed)

abbrev pub HasFaultInForkOn : Super → InodeFork → List ℕ → Claims → CheckFault → Type 0
HasFaultInForkOn geo f image claimed = HasFaultInFork (geometry_of geo) f (fork_on geo f image) (marked geo.agblocks claimed)

abbrev pub ClaimedByFork : Super → InodeFork → List ℕ → Claims → Claims → Type 0
ClaimedByFork geo f image old new = AreClaimed geo old (fork_claims (fork_on geo f image)) new
