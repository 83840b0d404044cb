-- What holds of every inode, fork and chunk that is seen.
use Rattle.std.specs.Prelude.{◌≡◌, ℕ, true, ◌∷◌, List}
use Rattle.block_claims.specs.Agreement.{AgreeOn}
use Rattle.xfs_super.specs.Geometry.{Geometry}
use Rattle.xfs_super.specs.declared.agi.Agi.{Agi}
use Rattle.xfs_super.specs.declared.reason.Reason.{Reason}
use Rattle.xfs_tree.specs.Block.{Sight}
use Rattle.xfs_tree.specs.Tree.{blocks_of}
use Rattle.xfs_inode.specs.Chunks.{inode_tree, AreSoundChunks, SpeaksAgainstChunks}
use Rattle.xfs_inode.specs.Content.{content_in}
use Rattle.xfs_inode.specs.Core.{core_of, InodeFork}
use Rattle.xfs_inode.specs.ForkReading.{IsSoundFork, SpeaksAgainstFork}
use Rattle.xfs_inode.specs.Inode.{is_sound_inode, SpeaksAgainstInode}
use Rattle.xfs_inode.specs.Seen.{SeenFork, SeenInode, fork_seen, fork_claims, inode_block, inode_of, inode_seen, inode_claims, inode_content, extents_seen}

-- a fork and the chunks of a group depend on the blocks that they claim alone, and so does an inode, beside the block that
-- it stands in
pub record InodesStandInClaims : Type 0 where
  pub fork :
      (geo : Geometry) (f : InodeFork) (volume other : ℕ → List ℕ)
      → AgreeOn (fork_claims (fork_seen volume geo f)) volume other → fork_seen other geo f ≡ fork_seen volume geo f
  pub chunks :
      (geo : Geometry) (group : ℕ) (agi : Agi) (volume other : ℕ → List ℕ)
      → AgreeOn (blocks_of (inode_tree geo group agi volume)) volume other
      → inode_tree geo group agi other ≡ inode_tree geo group agi volume
  pub inode :
      (geo : Geometry) (ino : ℕ) (volume other : ℕ → List ℕ)
      → AgreeOn (inode_block geo ino ∷ inode_claims (inode_seen geo volume ino)) volume other
      → inode_seen geo other ino ≡ inode_seen geo volume ino

-- what an inode contains as it is seen is what its blocks hold
abbrev pub ContentIsRead : Type 0
ContentIsRead =
    (geo : Geometry) (volume : ℕ → List ℕ) (ino : ℕ) (bytes : List ℕ)
    → inode_content geo (inode_of geo volume ino bytes)
    ≡ content_in volume geo (core_of geo bytes) bytes (extents_seen (inode_of geo volume ino bytes).contents)

-- growth, which changes how many blocks and groups there are, leaves each inode and the chunks of each group as they are seen
pub record InodesStayInGrowth : Type 0 where
  pub inode :
      (geo : Geometry) (dblocks agcount ino : ℕ) (volume : ℕ → List ℕ)
      → inode_seen (record geo { dblocks = dblocks; agcount = agcount }) volume ino ≡ inode_seen geo volume ino
  pub chunks :
      (geo : Geometry) (dblocks agcount group : ℕ) (agi : Agi) (volume : ℕ → List ℕ)
      → inode_tree (record geo { dblocks = dblocks; agcount = agcount }) group agi volume ≡ inode_tree geo group agi volume

-- against what is sound no reason speaks
pub record NoInodeReason : Type 0 where
  pub fork :
      (geo : Geometry) (f : InodeFork) (s : SeenFork) (claimed : ℕ → ℕ) (reason : Reason)
      → IsSoundFork geo f s claimed → SpeaksAgainstFork geo f s claimed reason → ⊥
  pub chunks :
      (geo : Geometry) (group : ℕ) (levels : List (List Sight)) (claimed : ℕ → ℕ) (reason : Reason)
      → AreSoundChunks geo group levels claimed → SpeaksAgainstChunks geo group levels claimed reason → ⊥
  pub inode :
      (geo : Geometry) (i : SeenInode) (reason : Reason)
      → is_sound_inode geo i ≡ true → SpeaksAgainstInode geo i reason → ⊥
