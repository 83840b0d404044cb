-- The chunks of inodes of a group: what is seen of their tree, which inodes and blocks they are, and which reasons speak
-- against them (XFS Algorithms & Data Structures, 'Inode B+tree' and 'Sparse Inodes'). A volume is a function from a
-- block's number to its bytes.
use Rattle.std.specs.Prelude.{◌≡◌, ℕ, ◌+◌, ◌-◌, ◌*◌, ◌/◌, ◌%◌, ◌^◌, ◌<◌, Bool, true, false, not, ◌==◌, ◌&&◌, cond, IsTrue, List, [], ◌∷◌, ◌++◌, map, length, slice_index_or, ◌⊎◌}
use Rattle.std.specs.Int.{bit_at}
use Rattle.std.specs.List.{All, flat_map, range_with_len}
use Rattle.block_claims.specs.Agreement.{block, IsTwice}
use Rattle.xfs_super.specs.Geometry.{Geometry}
use Rattle.xfs_super.specs.Super.{geometry_of}
use Rattle.xfs_super.specs.declared.agi.Agi.{Agi}
use Rattle.xfs_super.specs.declared.geometry.Super.{Super}
use Rattle.xfs_super.specs.declared.reason.CheckFault.{CheckFault}
use Rattle.xfs_super.specs.declared.reason.CheckFault.TheVariants as check
use Rattle.xfs_super.specs.declared.reason.Reason.{Reason}
use Rattle.xfs_super.specs.declared.reason.Reason.TheVariants as why
use Rattle.xfs_tree.specs.Block.{Sight}
use Rattle.xfs_tree.specs.Form.{Form, Setting, setting_of}
use Rattle.xfs_tree.specs.Marks.{Claims, marked, AreFree, AreClaimed}
use Rattle.xfs_tree.specs.Records.{by_inode, by_sparse_inode, chunk_inside}
use Rattle.xfs_tree.specs.Tree.{levels_below, blocks_of, records_of, IsSoundTree, HasTreeFault}
use Rattle.xfs_tree.specs.declared.chunk.Chunk.{Chunk}
use Rattle.xfs_tree.specs.declared.fault.TreeFault.{TreeFault}
use Rattle.xfs_tree.specs.declared.sparse_chunk.SparseChunk.{SparseChunk}
use Rattle.xfs_inode.specs.ForkReading.{NamesTreeBlock}

-- ---- the inodes of a chunk

-- inode `i` of the 64 isn't there: a bit of the mask speaks of four
abbrev pub is_hole : SparseChunk → ℕ → Bool
is_hole c i = bit_at c.holemask (i / 4) == 1

-- it is there, and in use
abbrev pub is_allocated : SparseChunk → ℕ → Bool
is_allocated c i = not (is_hole c i) && not (bit_at c.free i == 1)

-- its number in the volume has the group in its upper bits
abbrev pub inode_number : Geometry → ℕ → SparseChunk → ℕ → ℕ
inode_number geo group c i = group * 2 ^ (geo.agblklog + geo.inopblog) + c.start + i

-- a chunk without holes as one that may have some: of the number of free inodes the lowest byte is kept
abbrev pub full_chunk : Chunk → SparseChunk
full_chunk c = record { start = c.start; holemask = 0; count = 64; freecount = c.freecount % 256; free = c.free }

-- ---- the blocks of a chunk

abbrev pub chunk_len : Geometry → ℕ
chunk_len geo = 64 / 2 ^ geo.inopblog

-- block `j` of a chunk, by its number in the volume, where it isn't a hole
abbrev pub chunk_block : Geometry → ℕ → SparseChunk → ℕ → List ℕ
chunk_block geo group c j =
    cond (is_hole c (2 ^ geo.inopblog * j)) [] ((group * geo.agblocks + c.start / 2 ^ geo.inopblog + j) ∷ [])

abbrev pub chunk_blocks : Geometry → ℕ → SparseChunk → List ℕ
chunk_blocks geo group c = flat_map (chunk_block geo group c) (range_with_len 0 (chunk_len geo))

-- no hole splits a block: each inode is there where the first one of its block is
abbrev pub HasWholeBlocks : Geometry → SparseChunk → Type 0
HasWholeBlocks geo c = (i : ℕ) → i < 64 → is_hole c i ≡ is_hole c (i / 2 ^ geo.inopblog * 2 ^ geo.inopblog)

-- a chunk lies in its group, begins with a block, and no hole of it splits one
pub record IsSoundChunk (geo : Geometry) (group : ℕ) (c : SparseChunk) : Type 0 where
  pub inside : IsTrue (chunk_inside geo group c.start)
  pub aligned : c.start % 2 ^ geo.inopblog ≡ 0
  pub whole : HasWholeBlocks geo c

-- ---- the tree of the chunks, in which they may have holes where the superblock says so

abbrev pub chunk_setting : {R : Type 0} → Form R → Geometry → ℕ → Setting R
chunk_setting form geo group = setting_of form geo group group

abbrev pub chunk_levels : {R : Type 0} → Form R → Geometry → ℕ → Agi → (ℕ → List ℕ) → List (List Sight)
chunk_levels form geo group agi volume =
    levels_below (chunk_setting form geo group) volume (agi.level - 1) 0 ((group * geo.agblocks + agi.root) ∷ [])

abbrev pub inode_tree : Geometry → ℕ → Agi → (ℕ → List ℕ) → List (List Sight)
inode_tree geo group agi volume =
    cond geo.sparse (chunk_levels by_sparse_inode geo group agi volume) (chunk_levels by_inode geo group agi volume)

-- the chunks that it has
abbrev pub tree_chunks : Geometry → ℕ → List (List Sight) → List SparseChunk
tree_chunks geo group levels =
    cond geo.sparse (records_of (chunk_setting by_sparse_inode geo group) levels)
    (map full_chunk (records_of (chunk_setting by_inode geo group) levels))

-- what the group claims by its inodes: the blocks of the tree, and those of the chunks
abbrev pub chunks_blocks : Geometry → ℕ → List SparseChunk → List ℕ
chunks_blocks geo group chunks = flat_map (chunk_blocks geo group) chunks

abbrev pub chunk_claims : Geometry → ℕ → List (List Sight) → List ℕ
chunk_claims geo group levels = blocks_of levels ++ chunks_blocks geo group (tree_chunks geo group levels)

-- ---- when they are sound, and which reasons speak against them

pub record IsSoundInodeTree (geo : Geometry) (group : ℕ) (levels : List (List Sight)) : Type 0 where
  pub sparse : geo.sparse ≡ true → IsSoundTree (chunk_setting by_sparse_inode geo group) geo levels
  pub full : geo.sparse ≡ false → IsSoundTree (chunk_setting by_inode geo group) geo levels

abbrev pub HasInodeTreeFault : Geometry → ℕ → List (List Sight) → (ℕ → ℕ) → TreeFault → Type 0
HasInodeTreeFault geo group levels claimed fault =
    ((geo.sparse ≡ true) × HasTreeFault (chunk_setting by_sparse_inode geo group) geo levels claimed fault)
    ⊎ ((geo.sparse ≡ false) × HasTreeFault (chunk_setting by_inode geo group) geo levels claimed fault)

-- the tree and each chunk are sound, and no block of them is claimed twice
pub record AreSoundChunks (geo : Geometry) (group : ℕ) (levels : List (List Sight)) (claimed : ℕ → ℕ) : Type 0 where
  pub tree : IsSoundInodeTree geo group levels
  pub chunks : All (IsSoundChunk geo group) (tree_chunks geo group levels)
  pub free : AreFree claimed (chunk_claims geo group levels)

-- the tree has a fault of the block itself there
pub record IsBadInodeTree (geo : Geometry) (group : ℕ) (levels : List (List Sight)) (g b : ℕ) : Type 0 where
  pub fault : TreeFault
  pub names : NamesTreeBlock g b fault
  pub due : HasInodeTreeFault geo group levels (λ n. 0) fault

-- a chunk isn't sound, whose first inode has that number
pub record IsBadChunk (geo : Geometry) (group : ℕ) (chunks : List SparseChunk) (ino : ℕ) : Type 0 where
  pub place : ℕ
  pub there : place < length chunks
  pub unsound : (d : SparseChunk) → IsSoundChunk geo group (slice_index_or chunks place d) → ⊥
  pub named : (d : SparseChunk) → ino ≡ inode_number geo group (slice_index_or chunks place d) 0

-- block n is claimed twice by the tree, or the chunks are sound and it is by the tree and them
abbrev pub HasTwiceInChunks : Geometry → ℕ → List (List Sight) → (ℕ → ℕ) → ℕ → Type 0
HasTwiceInChunks geo group levels claimed n =
    IsTwice claimed (blocks_of levels) n
    ⊎ (All (IsSoundChunk geo group) (tree_chunks geo group levels) × IsTwice claimed (chunk_claims geo group levels) n)

abbrev pub SpeaksAgainstChunks : Geometry → ℕ → List (List Sight) → (ℕ → ℕ) → Reason → Type 0
SpeaksAgainstChunks geo group levels claimed (why.Tree g b) = IsBadInodeTree geo group levels g b
SpeaksAgainstChunks geo group levels claimed (why.Inode n) = IsBadChunk geo group (tree_chunks geo group levels) n
SpeaksAgainstChunks geo group levels claimed (why.ClaimedTwice n) = HasTwiceInChunks geo group levels claimed n
SpeaksAgainstChunks geo group levels claimed _ = ⊥

abbrev pub HasChunkFault : Geometry → ℕ → List (List Sight) → (ℕ → ℕ) → CheckFault → Type 0
HasChunkFault geo group levels claimed (check.Bad reason) = SpeaksAgainstChunks geo group levels claimed reason
HasChunkFault geo group levels claimed check.Device = Unit {0}
HasChunkFault geo group levels claimed check.Memory = Unit {0}

-- ---- the same of a volume on an image, where some blocks are claimed

abbrev pub inode_tree_on : Super → ℕ → Agi → List ℕ → List (List Sight)
inode_tree_on geo group agi image = inode_tree (geometry_of geo) group agi (block image)

abbrev pub chunks_on : Super → ℕ → Agi → List ℕ → List SparseChunk
chunks_on geo group agi image = tree_chunks (geometry_of geo) group (inode_tree_on geo group agi image)

abbrev pub AreSoundChunksOn : Super → ℕ → Agi → List ℕ → Claims → Type 0
AreSoundChunksOn geo group agi image claimed =
    AreSoundChunks (geometry_of geo) group (inode_tree_on geo group agi image) (marked geo.agblocks claimed)

abbrev pub HasChunkFaultOn : Super → ℕ → Agi → List ℕ → Claims → CheckFault → Type 0
HasChunkFaultOn geo group agi image claimed =
    HasChunkFault (geometry_of geo) group (inode_tree_on geo group agi image) (marked geo.agblocks claimed)

abbrev pub ClaimedByChunks : Super → ℕ → Agi → List ℕ → Claims → Claims → Type 0
ClaimedByChunks geo group agi image old new =
    AreClaimed geo old (chunk_claims (geometry_of geo) group (inode_tree_on geo group agi image)) new
