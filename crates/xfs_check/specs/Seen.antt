-- A volume as it is seen: a value that has every block which the check stands on, so that what is computed of it needs no
-- volume. A volume is a function from a block's number to its bytes; a group is a function of the bytes of its headers and
-- of the volume.
use Rattle.std.specs.Prelude.{ℕ, ◌+◌, ◌-◌, ◌*◌, ◌^◌, cond, List, [], ◌∷◌, map}
use Rattle.std.specs.List.{flat_map, range_with_len}
use Rattle.disk_base.specs.Image.{bytes_at}
use Rattle.xfs_alloc.specs.Free.{FreeSeen, free_seen}
use Rattle.xfs_inode.specs.Chunks.{chunk_block, chunk_len, chunk_setting, inode_number, inode_tree, is_allocated, tree_chunks}
use Rattle.xfs_inode.specs.Seen.{SeenInode, inode_of}
use Rattle.xfs_log.specs.Log.{log_blocks}
use Rattle.xfs_super.specs.Geometry.{Geometry, header_seen}
use Rattle.xfs_super.specs.Headers.{agf_in, agi_in}
use Rattle.xfs_super.specs.Superblock.{geometry_in}
use Rattle.xfs_super.specs.declared.agf.Agf.{Agf}
use Rattle.xfs_super.specs.declared.agi.Agi.{Agi}
use Rattle.xfs_tree.specs.Block.{Sight}
use Rattle.xfs_tree.specs.Form.{Form}
use Rattle.xfs_tree.specs.Records.{by_free_inode, by_free_sparse_inode}
use Rattle.xfs_tree.specs.Tree.{levels_below}
use Rattle.xfs_tree.specs.declared.sparse_chunk.SparseChunk.{SparseChunk}

-- ---- the headers of a group

pub record GroupHead : Type 0 where
  pub agf : List ℕ
  pub agi : List ℕ
  pub agfl : List ℕ

abbrev pub head_seen : Geometry → (ℕ → List ℕ) → ℕ → GroupHead
head_seen geo volume group = record {
  agf = header_seen geo volume group 1;
  agi = header_seen geo volume group 2;
  agfl = header_seen geo volume group 3;
}

-- what the AGF and the AGI spell
abbrev pub agf_seen : GroupHead → Agf
agf_seen head = agf_in head.agf

abbrev pub agi_seen : GroupHead → Agi
agi_seen head = agi_in head.agi

-- ---- the tree of the chunks with free inodes, where the superblock says that there is one

abbrev pub free_inode_levels : {R : Type 0} → Form R → Geometry → ℕ → Agi → (ℕ → List ℕ) → List (List Sight)
free_inode_levels form geo group agi volume =
    levels_below (chunk_setting form geo group) volume (agi.free_level - 1) 0 ((group * geo.agblocks + agi.free_root) ∷ [])

abbrev pub free_inode_tree : Geometry → ℕ → Agi → (ℕ → List ℕ) → List (List Sight)
free_inode_tree geo group agi volume =
    cond geo.finobt
    (cond geo.sparse (free_inode_levels by_free_sparse_inode geo group agi volume) (free_inode_levels by_free_inode geo group agi volume))
    []

-- ---- the inodes

-- a block of a chunk: which block of the volume it is, what it holds, and the inodes in it that are in use
pub record InodeBlock : Type 0 where
  pub at : ℕ
  pub bytes : List ℕ
  pub inodes : List SeenInode

-- inode `i` of a chunk, whose bytes stand in a block at place `k`, if it is in use
abbrev pub inode_at_place : Geometry → (ℕ → List ℕ) → ℕ → SparseChunk → List ℕ → ℕ → ℕ → List SeenInode
inode_at_place geo volume group c bytes i k =
    cond (is_allocated c i) (inode_of geo volume (inode_number geo group c i) (bytes_at bytes (geo.inodesize * k) geo.inodesize) ∷ []) []

-- those in block `j` of a chunk, which holds these bytes
abbrev pub inodes_in_bytes : Geometry → (ℕ → List ℕ) → ℕ → SparseChunk → ℕ → List ℕ → List SeenInode
inodes_in_bytes geo volume group c j bytes =
    flat_map (λ k. inode_at_place geo volume group c bytes (2 ^ geo.inopblog * j + k) k) (range_with_len 0 (2 ^ geo.inopblog))

abbrev pub inode_block_with : Geometry → (ℕ → List ℕ) → ℕ → SparseChunk → ℕ → ℕ → List ℕ → InodeBlock
inode_block_with geo volume group c j at bytes =
    record { at = at; bytes = bytes; inodes = inodes_in_bytes geo volume group c j bytes }

unfoldable pub inode_block_seen : Geometry → (ℕ → List ℕ) → ℕ → SparseChunk → ℕ → ℕ → InodeBlock
inode_block_seen geo volume group c j at = inode_block_with geo volume group c j at (volume at)

-- block `j` of a chunk where it is no hole, the blocks of a chunk, and those of all chunks
abbrev pub chunk_block_seen : Geometry → (ℕ → List ℕ) → ℕ → SparseChunk → ℕ → List InodeBlock
chunk_block_seen geo volume group c j = map (inode_block_seen geo volume group c j) (chunk_block geo group c j)

abbrev pub chunk_seen : Geometry → (ℕ → List ℕ) → ℕ → SparseChunk → List InodeBlock
chunk_seen geo volume group c = flat_map (chunk_block_seen geo volume group c) (range_with_len 0 (chunk_len geo))

abbrev pub chunks_seen : Geometry → (ℕ → List ℕ) → ℕ → List SparseChunk → List InodeBlock
chunks_seen geo volume group chunks = flat_map (chunk_seen geo volume group) chunks

-- ---- a group

pub record SeenGroup : Type 0 where
  pub number : ℕ
  pub head : GroupHead
  pub free : FreeSeen
  pub inode_levels : List (List Sight)
  pub free_inode_levels : List (List Sight)
  pub inode_blocks : List InodeBlock

-- its inodes
abbrev pub inodes_of_blocks : List InodeBlock → List SeenInode
inodes_of_blocks blocks = flat_map (λ b. b.inodes) blocks

abbrev pub inodes_of_group : SeenGroup → List SeenInode
inodes_of_group x = inodes_of_blocks x.inode_blocks

-- a group with these headers and this tree of chunks
abbrev pub group_with : Geometry → (ℕ → List ℕ) → ℕ → GroupHead → List (List Sight) → SeenGroup
group_with geo volume number head levels = record {
  number = number;
  head = head;
  free = free_seen geo number (agf_seen head) volume;
  inode_levels = levels;
  free_inode_levels = free_inode_tree geo number (agi_seen head) volume;
  inode_blocks = chunks_seen geo volume number (tree_chunks geo number levels);
}

unfoldable pub group_of : Geometry → (ℕ → List ℕ) → ℕ → GroupHead → SeenGroup
group_of geo volume number head = group_with geo volume number head (inode_tree geo number (agi_seen head) volume)

abbrev pub group_seen : Geometry → (ℕ → List ℕ) → ℕ → SeenGroup
group_seen geo volume number = group_of geo volume number (head_seen geo volume number)

-- ---- the volume

-- the block that begins with the superblock, the groups by their numbers, and what the blocks of the log hold
pub record SeenVolume : Type 0 where
  pub superblock : List ℕ
  pub groups : List SeenGroup
  pub log : List (List ℕ)

abbrev pub groups_seen : Geometry → (ℕ → List ℕ) → List SeenGroup
groups_seen geo volume = map (group_seen geo volume) (range_with_len 0 geo.agcount)

abbrev pub seen_with : Geometry → (ℕ → List ℕ) → List ℕ → SeenVolume
seen_with geo volume superblock = record {
  superblock = superblock;
  groups = groups_seen geo volume;
  log = map volume (log_blocks geo);
}

unfoldable pub volume_seen : (ℕ → List ℕ) → SeenVolume
volume_seen volume = seen_with (geometry_in (volume 0)) volume (volume 0)

abbrev pub geometry_seen : SeenVolume → Geometry
geometry_seen s = geometry_in s.superblock

-- all inodes of a volume that are in use
abbrev pub inodes_of_groups : List SeenGroup → List SeenInode
inodes_of_groups groups = flat_map inodes_of_group groups
