-- What of a volume on an image is read.
use Rattle.std.specs.Prelude.{◌≡◌, ℕ, ◌+◌, ◌*◌, ◌/◌, ◌^◌, List, take, ◌⊎◌}
use Rattle.block_claims.specs.Agreement.{block}
use Rattle.xfs_check.specs.Seen.{GroupHead, SeenGroup, agf_seen, agi_seen, chunk_block_seen, chunk_seen, chunks_seen, group_seen, head_seen, inodes_of_blocks}
use Rattle.xfs_check.specs.Valid.{IsSoundHead, SpeaksAgainstHead}
use Rattle.xfs_check.specs.declared.head.Head.{Head}
use Rattle.xfs_inode.specs.Inode.{front_inode}
use Rattle.xfs_inode.specs.Seen.{SeenInode, inode_of}
use Rattle.xfs_super.specs.Geometry.{Geometry}
use Rattle.xfs_super.specs.Headers.{IsAgf, IsAgfl, SpeaksAgainstAgf, SpeaksAgainstAgfl, SpeaksAgainstAgi, SpeaksAgainstUsed}
use Rattle.xfs_super.specs.Super.{geometry_of}
use Rattle.xfs_super.specs.declared.geometry.Super.{Super}
use Rattle.xfs_super.specs.declared.reason.CheckFault.{CheckFault}
use Rattle.xfs_super.specs.declared.reason.CheckFault.TheVariants as check
use Rattle.xfs_super.specs.declared.reason.Reason.{Reason}
use Rattle.xfs_tree.specs.declared.sparse_chunk.SparseChunk.{SparseChunk}

abbrev pub head_on : Super → ℕ → List ℕ → GroupHead
head_on geo group image = head_seen (geometry_of geo) (block image) group

abbrev pub group_on : Super → ℕ → List ℕ → SeenGroup
group_on geo group image = group_seen (geometry_of geo) (block image) group

-- the headers that were read are those of the group, and sound
pub record IsHeadRead (geo : Geometry) (group : ℕ) (seen : GroupHead) (head : Head) : Type 0 where
  pub agf : head.agf ≡ agf_seen seen
  pub agi : head.agi ≡ agi_seen seen
  pub agfl : take geo.sectsize head.agfl ≡ seen.agfl
  pub sound : IsSoundHead geo group seen

-- the inodes of some chunks on an image
abbrev pub inodes_of_chunks : Geometry → (ℕ → List ℕ) → ℕ → List SparseChunk → List SeenInode
inodes_of_chunks geo volume group chunks = inodes_of_blocks (chunks_seen geo volume group chunks)

abbrev pub inodes_of_chunk : Geometry → (ℕ → List ℕ) → ℕ → SparseChunk → List SeenInode
inodes_of_chunk geo volume group c = inodes_of_blocks (chunk_seen geo volume group c)

-- which of its headers is refused
abbrev pub IsHeadRefused : (Reason → Type 0) → CheckFault → Type 0
IsHeadRefused speaks (check.Bad reason) = speaks reason
IsHeadRefused speaks check.Device = Unit {0}
IsHeadRefused speaks check.Memory = ⊥

abbrev pub HasHeadFault : Geometry → ℕ → GroupHead → CheckFault → Type 0
HasHeadFault geo group seen fault = IsHeadRefused (SpeaksAgainstHead geo group seen) fault

abbrev pub HasAgfFault : Geometry → ℕ → GroupHead → CheckFault → Type 0
HasAgfFault geo group seen fault = IsHeadRefused (SpeaksAgainstAgf geo group seen.agf) fault

abbrev pub HasAgiFault : Geometry → ℕ → GroupHead → CheckFault → Type 0
HasAgiFault geo group seen fault = IsHeadRefused (SpeaksAgainstAgi geo group seen.agi) fault

-- the list itself, or an entry of it
abbrev pub SpeaksAgainstList : Geometry → ℕ → GroupHead → Reason → Type 0
SpeaksAgainstList geo group seen reason =
    SpeaksAgainstAgfl geo group seen.agfl reason
    ⊎ ((IsAgf geo group seen.agf × IsAgfl geo group seen.agfl) × SpeaksAgainstUsed geo group (agf_seen seen) seen.agfl reason)

abbrev pub HasAgflFault : Geometry → ℕ → GroupHead → CheckFault → Type 0
HasAgflFault geo group seen fault = IsHeadRefused (SpeaksAgainstList geo group seen) fault

-- an inode that stands at the front of a buffer, on an image
abbrev pub inode_in_buffer : Super → ℕ → List ℕ → List ℕ → SeenInode
inode_in_buffer geo ino buffer image = inode_of (geometry_of geo) (block image) ino (front_inode geo buffer)

-- those in block `j` of a chunk
abbrev pub inodes_of_chunk_block : Geometry → (ℕ → List ℕ) → ℕ → SparseChunk → ℕ → List SeenInode
inodes_of_chunk_block geo volume group c j = inodes_of_blocks (chunk_block_seen geo volume group c j)

-- which block of the volume that is
abbrev pub chunk_place : Geometry → ℕ → SparseChunk → ℕ → ℕ
chunk_place geo group c j = group * geo.agblocks + c.start / 2 ^ geo.inopblog + j
