-- When a volume is valid, and which reasons speak against it. A reason speaks of a part only where the reasons before it leave
-- the part a meaning.
use Rattle.std.specs.Prelude.{◌≡◌, ℕ, Bool, true, false, ◌==◌, List, ◌⊎◌}
use Rattle.std.specs.List.{All, Contains, list_any}
use Rattle.block_claims.specs.Agreement.{StandApart}
use Rattle.xfs_alloc.specs.Free.{IsFreeSpace, SpeaksAgainstFree}
use Rattle.xfs_check.specs.Parts.{ClaimTwice, volume_claims, volume_parts}
use Rattle.xfs_check.specs.Seen.{GroupHead, SeenGroup, SeenVolume, agf_seen, geometry_seen, inodes_of_group, inodes_of_groups}
use Rattle.xfs_files.specs.Directory.{IsSoundDirectory, SpeaksAgainstDirectory}
use Rattle.xfs_inode.specs.Chunks.{AreSoundChunks, SpeaksAgainstChunks, chunk_setting}
use Rattle.xfs_inode.specs.Core.{core_of}
use Rattle.xfs_inode.specs.Extents.{AreSoundExtents}
use Rattle.xfs_inode.specs.ForkReading.{IsSoundFork, NamesTreeBlock, SpeaksAgainstFork}
use Rattle.xfs_inode.specs.Inode.{SpeaksAgainstInode, is_sound_inode}
use Rattle.xfs_inode.specs.Seen.{SeenInode, extents_seen, shown_attributes, shown_data}
use Rattle.xfs_log.specs.Log.{IsCleanLog, SpeaksAgainstLog, log_sectors}
use Rattle.xfs_super.specs.Geometry.{Geometry}
use Rattle.xfs_super.specs.Headers.{IsAgf, IsAgfl, IsAgi, SpeaksAgainstAgf, SpeaksAgainstAgfl, SpeaksAgainstAgi, SpeaksAgainstUsed, are_used_inside}
use Rattle.xfs_super.specs.Superblock.{IsSuperblock, SpeaksAgainst}
use Rattle.xfs_super.specs.declared.reason.CheckFault.{CheckFault}
use Rattle.xfs_super.specs.declared.reason.CheckFault.TheVariants as check
use Rattle.xfs_super.specs.declared.reason.Reason.{Reason}
use Rattle.xfs_super.specs.declared.reason.Reason.TheVariants as why
use Rattle.xfs_tree.specs.Block.{Sight}
use Rattle.xfs_tree.specs.Records.{by_free_inode, by_free_sparse_inode}
use Rattle.xfs_tree.specs.Tree.{HasTreeFault, IsSoundTree}
use Rattle.xfs_tree.specs.declared.fault.TreeFault.{TreeFault}

-- no block is claimed before a group, an inode or a tree is judged by itself
abbrev pub unclaimed : ℕ → ℕ
unclaimed n = 0

-- ---- an inode that is in use

pub record IsSoundSeen (geo : Geometry) (i : SeenInode) : Type 0 where
  pub inode : is_sound_inode geo i ≡ true
  pub contents : IsSoundFork geo (shown_data geo i.ino i.bytes) i.contents unclaimed
  pub attributes : IsSoundFork geo (shown_attributes geo i.ino i.bytes) i.attributes unclaimed
  pub directory : IsSoundDirectory geo (core_of geo i.bytes) i.bytes i.contents.extents

-- its core, one of its forks, or what it has as a directory
abbrev pub SpeaksAgainstForks : Geometry → SeenInode → Reason → Type 0
SpeaksAgainstForks geo i reason =
    SpeaksAgainstFork geo (shown_data geo i.ino i.bytes) i.contents unclaimed reason
    ⊎ SpeaksAgainstFork geo (shown_attributes geo i.ino i.bytes) i.attributes unclaimed reason

abbrev pub SpeaksAgainstEntries : Geometry → SeenInode → Reason → Type 0
SpeaksAgainstEntries geo i reason =
    AreSoundExtents geo (extents_seen i.contents)
    × SpeaksAgainstDirectory geo (core_of geo i.bytes) i.bytes i.contents.extents reason

abbrev pub SpeaksAgainstSeen : Geometry → SeenInode → Reason → Type 0
SpeaksAgainstSeen geo i reason =
    SpeaksAgainstInode geo i reason
    ⊎ ((is_sound_inode geo i ≡ true) × (SpeaksAgainstForks geo i reason ⊎ SpeaksAgainstEntries geo i reason))

-- one of them is refused
pub record HasBadInode (geo : Geometry) (inodes : List SeenInode) (reason : Reason) : Type 0 where
  pub inode : SeenInode
  pub stands : Contains inodes inode
  pub refused : SpeaksAgainstSeen geo inode reason

-- ---- the tree of the chunks with free inodes, which is read and not compared

pub record IsSoundFreeInodeTree (geo : Geometry) (group : ℕ) (levels : List (List Sight)) : Type 0 where
  pub sparse : geo.finobt ≡ true → geo.sparse ≡ true → IsSoundTree (chunk_setting by_free_sparse_inode geo group) geo levels
  pub full : geo.finobt ≡ true → geo.sparse ≡ false → IsSoundTree (chunk_setting by_free_inode geo group) geo levels

abbrev pub HasFreeInodeTreeFault : Geometry → ℕ → List (List Sight) → (ℕ → ℕ) → TreeFault → Type 0
HasFreeInodeTreeFault geo group levels claimed fault =
    (geo.finobt ≡ true)
    × (((geo.sparse ≡ true) × HasTreeFault (chunk_setting by_free_sparse_inode geo group) geo levels claimed fault)
    ⊎ ((geo.sparse ≡ false) × HasTreeFault (chunk_setting by_free_inode geo group) geo levels claimed fault))

pub record IsBadFreeInodeTree (geo : Geometry) (group : ℕ) (levels : List (List Sight)) (g b : ℕ) : Type 0 where
  pub fault : TreeFault
  pub names : NamesTreeBlock g b fault
  pub due : HasFreeInodeTreeFault geo group levels unclaimed fault

abbrev pub SpeaksAgainstFreeInodes : Geometry → ℕ → List (List Sight) → Reason → Type 0
SpeaksAgainstFreeInodes geo group levels (why.Tree g b) = IsBadFreeInodeTree geo group levels g b
SpeaksAgainstFreeInodes geo group levels _ = ⊥

-- ---- a group

pub record IsSoundHead (geo : Geometry) (group : ℕ) (head : GroupHead) : Type 0 where
  pub agf : IsAgf geo group head.agf
  pub agi : IsAgi geo group head.agi
  pub agfl : IsAgfl geo group head.agfl
  pub used : are_used_inside geo group (agf_seen head) head.agfl ≡ true

pub record AreSoundInodeTrees (geo : Geometry) (x : SeenGroup) : Type 0 where
  pub chunks : AreSoundChunks geo x.number x.inode_levels unclaimed
  pub free : IsSoundFreeInodeTree geo x.number x.free_inode_levels

pub record IsSoundGroup (geo : Geometry) (x : SeenGroup) : Type 0 where
  pub head : IsSoundHead geo x.number x.head
  pub free : IsFreeSpace geo x.number (agf_seen x.head) x.free unclaimed
  pub trees : AreSoundInodeTrees geo x
  pub inodes : All (IsSoundSeen geo) (inodes_of_group x)

-- one of its headers
abbrev pub SpeaksAgainstHead : Geometry → ℕ → GroupHead → Reason → Type 0
SpeaksAgainstHead geo group head reason =
    SpeaksAgainstAgf geo group head.agf reason
    ⊎ (SpeaksAgainstAgi geo group head.agi reason
    ⊎ (SpeaksAgainstAgfl geo group head.agfl reason
    ⊎ ((IsAgf geo group head.agf × IsAgfl geo group head.agfl) × SpeaksAgainstUsed geo group (agf_seen head) head.agfl reason)))

-- the trees, where the headers name them
abbrev pub SpeaksAgainstSpace : Geometry → SeenGroup → Reason → Type 0
SpeaksAgainstSpace geo x reason =
    IsAgf geo x.number x.head.agf × SpeaksAgainstFree geo x.number (agf_seen x.head) x.free unclaimed reason

abbrev pub SpeaksAgainstInodes : Geometry → SeenGroup → Reason → Type 0
SpeaksAgainstInodes geo x reason =
    IsAgi geo x.number x.head.agi
    × (SpeaksAgainstChunks geo x.number x.inode_levels unclaimed reason
    ⊎ (SpeaksAgainstFreeInodes geo x.number x.free_inode_levels reason
    ⊎ (AreSoundInodeTrees geo x × HasBadInode geo (inodes_of_group x) reason)))

abbrev pub SpeaksAgainstGroup : Geometry → SeenGroup → Reason → Type 0
SpeaksAgainstGroup geo x reason =
    SpeaksAgainstHead geo x.number x.head reason ⊎ (SpeaksAgainstSpace geo x reason ⊎ SpeaksAgainstInodes geo x reason)

pub record HasBadGroup (geo : Geometry) (groups : List SeenGroup) (reason : Reason) : Type 0 where
  pub group : SeenGroup
  pub stands : Contains groups group
  pub refused : SpeaksAgainstGroup geo group reason

-- ---- the volume

-- the root of the files is an inode that is in use; that it is a directory is said of that inode
abbrev pub has_root : Geometry → List SeenInode → Bool
has_root geo inodes = list_any (λ i. i.ino == geo.rootino) inodes

-- a volume of that many sectors
pub record IsValidVolume (sectors : ℕ) (s : SeenVolume) : Type 0 where
  pub superblock : IsSuperblock sectors s.superblock
  pub groups : All (IsSoundGroup (geometry_seen s)) s.groups
  pub root : has_root (geometry_seen s) (inodes_of_groups s.groups) ≡ true
  pub apart : StandApart (volume_claims s)
  pub log : IsCleanLog (log_sectors s.log)

-- all groups are sound, and none of their inodes is the root
abbrev pub LacksRoot : Geometry → List SeenGroup → Reason → Type 0
LacksRoot geo groups (why.Inode n) =
    (n ≡ geo.rootino) × All (IsSoundGroup geo) groups × (has_root geo (inodes_of_groups groups) ≡ false)
LacksRoot geo groups _ = ⊥

-- behind the superblock: a group, the root, a block with two uses, or the log
abbrev pub SpeaksBehind : SeenVolume → Reason → Type 0
SpeaksBehind s reason =
    HasBadGroup (geometry_seen s) s.groups reason
    ⊎ (LacksRoot (geometry_seen s) s.groups reason
    ⊎ (ClaimTwice (geometry_seen s) unclaimed (volume_parts (geometry_seen s) s) reason
    ⊎ SpeaksAgainstLog (log_sectors s.log) reason))

abbrev pub SpeaksAgainstVolume : ℕ → SeenVolume → Reason → Type 0
SpeaksAgainstVolume sectors s reason =
    SpeaksAgainst sectors s.superblock reason ⊎ (IsSuperblock sectors s.superblock × SpeaksBehind s reason)

abbrev pub HasCheckFault : ℕ → SeenVolume → CheckFault → Type 0
HasCheckFault sectors s (check.Bad reason) = SpeaksAgainstVolume sectors s reason
HasCheckFault sectors s check.Device = Unit {0}
HasCheckFault sectors s check.Memory = Unit {0}
