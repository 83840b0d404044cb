-- What of a volume has a use: its parts, the blocks that each of them claims, and the blocks that are free.
use Rattle.std.specs.Prelude.{◌≡◌, ℕ, ◌+◌, ◌*◌, ◌==◌, true, cond, List, [], ◌∷◌, ◌++◌, map, ◌⊎◌}
use Rattle.std.specs.List.{All, flat_map, range_with_len}
use Rattle.block_claims.specs.Agreement.{IsTwice}
use Rattle.xfs_alloc.specs.Free.{group_setting, runs_blocks, start_runs, tree_claims}
use Rattle.xfs_check.specs.Seen.{SeenGroup, SeenVolume, agf_seen, geometry_seen, inodes_of_group}
use Rattle.xfs_inode.specs.Chunks.{IsSoundChunk, chunks_blocks, tree_chunks}
use Rattle.xfs_inode.specs.Core.{InodeFork, fork_holds}
use Rattle.xfs_inode.specs.Extents.{AreSoundExtents}
use Rattle.xfs_inode.specs.Seen.{SeenFork, SeenInode, extent_claims, extents_seen, shown_attributes, shown_data}
use Rattle.xfs_log.specs.Log.{log_blocks}
use Rattle.xfs_super.specs.Geometry.{Geometry}
use Rattle.xfs_super.specs.Headers.{IsAgf, IsAgfl, IsAgi, are_used_inside, used_entries}
use Rattle.xfs_super.specs.declared.reason.Reason.{Reason}
use Rattle.xfs_super.specs.declared.reason.Reason.TheVariants as why
use Rattle.xfs_tree.specs.Records.{by_start}
use Rattle.xfs_tree.specs.Tree.{blocks_of, IsSoundTree}

-- ---- the parts

pub data Part : Type 0 where
  Headers : SeenGroup → Part
  FreeList : SeenGroup → Part
  FreeTrees : SeenGroup → Part
  FreeRuns : SeenGroup → Part
  InodeTree : SeenGroup → Part
  Chunks : SeenGroup → Part
  FreeInodeTree : SeenGroup → Part
  ForkTree : InodeFork → SeenFork → Part
  ForkExtents : InodeFork → SeenFork → Part
  LogBlocks : Part

-- the four headers of a group, each in a sector of the file system, lie in its first blocks
abbrev pub header_blocks : Geometry → ℕ
header_blocks geo = cond (geo.sectsize == 4096) 4 1

abbrev pub header_claims : Geometry → ℕ → List ℕ
header_claims geo group = range_with_len (group * geo.agblocks) (header_blocks geo)

-- the blocks that its list of free blocks has, which are kept for the trees of free space
abbrev pub free_list_claims : Geometry → SeenGroup → List ℕ
free_list_claims geo x = map (λ b. x.number * geo.agblocks + b) (used_entries (agf_seen x.head) x.head.agfl)

-- the blocks of its free runs
abbrev pub group_free : Geometry → SeenGroup → List ℕ
group_free geo x = runs_blocks geo x.number (start_runs geo x.number x.free)

-- what a part claims: free runs, too, so that what is free has no other use
abbrev pub part_claims : Geometry → Part → List ℕ
part_claims geo (Headers x) = header_claims geo x.number
part_claims geo (FreeList x) = free_list_claims geo x
part_claims geo (FreeTrees x) = tree_claims x.free
part_claims geo (FreeRuns x) = group_free geo x
part_claims geo (InodeTree x) = blocks_of x.inode_levels
part_claims geo (Chunks x) = chunks_blocks geo x.number (tree_chunks geo x.number x.inode_levels)
part_claims geo (FreeInodeTree x) = blocks_of x.free_inode_levels
part_claims geo (ForkTree f s) = blocks_of s.levels
part_claims geo (ForkExtents f s) = flat_map extent_claims s.extents
part_claims geo LogBlocks = log_blocks geo

abbrev pub parts_claims : Geometry → List Part → List ℕ
parts_claims geo parts = flat_map (part_claims geo) parts

-- the parts of an inode that isn't the chunk's: the trees and the extents of its two forks
abbrev pub fork_parts : InodeFork → SeenFork → List Part
fork_parts f s = ForkTree f s ∷ (ForkExtents f s ∷ [])

abbrev pub inode_parts : Geometry → SeenInode → List Part
inode_parts geo i =
    fork_parts (shown_data geo i.ino i.bytes) i.contents ++ fork_parts (shown_attributes geo i.ino i.bytes) i.attributes

abbrev pub inodes_parts : Geometry → List SeenInode → List Part
inodes_parts geo inodes = flat_map (inode_parts geo) inodes

-- the parts of a group, and of the volume
abbrev pub space_parts : SeenGroup → List Part
space_parts x = Headers x ∷ (FreeList x ∷ (FreeTrees x ∷ (FreeRuns x ∷ [])))

abbrev pub chunk_parts : SeenGroup → List Part
chunk_parts x = InodeTree x ∷ (Chunks x ∷ (FreeInodeTree x ∷ []))

abbrev pub group_parts : Geometry → SeenGroup → List Part
group_parts geo x = space_parts x ++ (chunk_parts x ++ inodes_parts geo (inodes_of_group x))

abbrev pub groups_parts : Geometry → List SeenGroup → List Part
groups_parts geo groups = flat_map (group_parts geo) groups

abbrev pub volume_parts : Geometry → SeenVolume → List Part
volume_parts geo s = groups_parts geo s.groups ++ (LogBlocks ∷ [])

-- all blocks that are claimed, and those of them that are free
abbrev pub volume_claims : SeenVolume → List ℕ
volume_claims s = parts_claims (geometry_seen s) (volume_parts (geometry_seen s) s)

abbrev pub groups_free : Geometry → List SeenGroup → List ℕ
groups_free geo groups = flat_map (group_free geo) groups

abbrev pub volume_free : SeenVolume → List ℕ
volume_free s = groups_free (geometry_seen s) s.groups

-- ---- blocks with two uses

-- a part has a meaning where that is sound which says where it lies
abbrev pub HasMeaning : Geometry → Part → Type 0
HasMeaning geo (Headers x) = Unit {0}
HasMeaning geo (FreeList x) =
    IsAgf geo x.number x.head.agf × IsAgfl geo x.number x.head.agfl
    × (are_used_inside geo x.number (agf_seen x.head) x.head.agfl ≡ true)
HasMeaning geo (FreeTrees x) = IsAgf geo x.number x.head.agf
HasMeaning geo (FreeRuns x) = IsAgf geo x.number x.head.agf × IsSoundTree (group_setting by_start geo x.number) geo x.free.starts
HasMeaning geo (InodeTree x) = IsAgi geo x.number x.head.agi
HasMeaning geo (Chunks x) =
    IsAgi geo x.number x.head.agi × All (IsSoundChunk geo x.number) (tree_chunks geo x.number x.inode_levels)
HasMeaning geo (FreeInodeTree x) = IsAgi geo x.number x.head.agi
HasMeaning geo (ForkTree f s) = fork_holds f ≡ true
HasMeaning geo (ForkExtents f s) = (fork_holds f ≡ true) × AreSoundExtents geo (extents_seen s)
HasMeaning geo LogBlocks = Unit {0}

-- the first list is the second one, some of it left out
abbrev pub IsLeftOf : {X : Type 0} → List X → List X → Type 0
IsLeftOf [] ys = Unit {0}
IsLeftOf (x ∷ xs) [] = ⊥
IsLeftOf (x ∷ xs) (y ∷ ys) = ((x ≡ y) × IsLeftOf xs ys) ⊎ IsLeftOf (x ∷ xs) ys

-- where blocks were claimed before, some of the parts, each of which has a meaning, claim block n a second time
pub record AreTwice (geo : Geometry) (before : ℕ → ℕ) (parts : List Part) (n : ℕ) : Type 0 where
  pub some : List Part
  pub among : IsLeftOf some parts
  pub meaning : All (HasMeaning geo) some
  pub twice : IsTwice before (parts_claims geo some) n

abbrev pub ClaimTwice : Geometry → (ℕ → ℕ) → List Part → Reason → Type 0
ClaimTwice geo before parts (why.ClaimedTwice n) = AreTwice geo before parts n
ClaimTwice geo before parts _ = ⊥
