-- An inode as it is seen: a value that has each block which belongs to it, so that what is computed of it needs no volume.
-- A volume is a function from a block's number to its bytes.
use Rattle.std.specs.Prelude.{ℕ, ◌-◌, ◌*◌, ◌/◌, ◌%◌, ◌^◌, Bool, ◌==◌, ◌&&◌, ◌||◌, not, nat_le, cond, Option, Some, None, List, [], ◌∷◌, ◌++◌, map, slice_index, get_or}
use Rattle.std.specs.List.{range_with_len, flat_map}
use Rattle.std.specs.Str.{bytes_eq}
use Rattle.disk_base.specs.Fields.{big_at}
use Rattle.disk_base.specs.Image.{bytes_at}
use Rattle.xfs_super.specs.Geometry.{Geometry}
use Rattle.xfs_super.specs.Superblock.{has_checksum}
use Rattle.xfs_tree.specs.Block.{Sight}
use Rattle.xfs_tree.specs.Fork.{levels_of_fork}
use Rattle.xfs_tree.specs.Form.{Setting, setting_of}
use Rattle.xfs_tree.specs.Records.{by_file}
use Rattle.xfs_tree.specs.Tree.{blocks_of, records_of}
use Rattle.xfs_tree.specs.declared.extent.Extent.{Extent}
use Rattle.xfs_inode.specs.declared.core_fields.Core.{Core}
use Rattle.xfs_inode.specs.Core.{core_of, InodeFork, data_fork, attribute_fork, fork_holds, has_kind_and_format, is_regular_file, is_link, is_device}
use Rattle.xfs_inode.specs.Extents.{block_named, extent_blocks, listed_extents, covers}

-- ---- a fork

-- a block of a file with what it holds
pub record FileBlock : Type 0 where
  pub at : ℕ
  pub bytes : List ℕ

abbrev pub file_block_at : (ℕ → List ℕ) → ℕ → FileBlock
file_block_at volume at = record { at = at; bytes = volume at }

-- an extent with its blocks
pub record SeenExtent : Type 0 where
  pub extent : Extent
  pub blocks : List FileBlock

unfoldable pub extent_seen : (ℕ → List ℕ) → Geometry → Extent → SeenExtent
extent_seen volume geo e = record { extent = e; blocks = map (file_block_at volume) (extent_blocks geo e) }

-- the levels of the tree of extents, of which there are none in another format, and the extents
pub record SeenFork : Type 0 where
  pub levels : List (List Sight)
  pub extents : List SeenExtent

abbrev pub extent_setting : Geometry → ℕ → Setting Extent
extent_setting geo ino = setting_of by_file geo 0 ino

abbrev pub fork_tree : (ℕ → List ℕ) → Geometry → InodeFork → List (List Sight)
fork_tree volume geo f = cond (f.format == 3) (levels_of_fork (extent_setting geo f.ino) volume f.bytes) []

-- the first extents in the fork, as many as it counts; those of its tree; or none
abbrev pub fork_extents : Geometry → InodeFork → List (List Sight) → List Extent
fork_extents geo f levels =
    cond (f.format == 2) (listed_extents f.bytes f.count)
    (cond (f.format == 3) (records_of (extent_setting geo f.ino) levels) [])

abbrev pub fork_with : (ℕ → List ℕ) → Geometry → InodeFork → List (List Sight) → SeenFork
fork_with volume geo f levels = record { levels = levels; extents = map (extent_seen volume geo) (fork_extents geo f levels) }

unfoldable pub fork_seen : (ℕ → List ℕ) → Geometry → InodeFork → SeenFork
fork_seen volume geo f = fork_with volume geo f (fork_tree volume geo f)

-- what a fork claims: the blocks of its tree, and those of its extents
abbrev pub extent_claims : SeenExtent → List ℕ
extent_claims e = map (λ b. b.at) e.blocks

abbrev pub fork_claims : SeenFork → List ℕ
fork_claims s = blocks_of s.levels ++ flat_map extent_claims s.extents

-- its extents
abbrev pub extents_seen : SeenFork → List Extent
extents_seen s = map (λ e. e.extent) s.extents

-- ---- an inode

-- the number of an inode is that of its block, shifted left, and its place in the block
abbrev pub inode_block : Geometry → ℕ → ℕ
inode_block geo ino = block_named geo (ino / 2 ^ geo.inopblog)

abbrev pub inode_bytes : Geometry → (ℕ → List ℕ) → ℕ → List ℕ
inode_bytes geo volume ino = bytes_at (volume (inode_block geo ino)) (ino % 2 ^ geo.inopblog * geo.inodesize) geo.inodesize

-- the core spells that inode of the volume, with a kind of file and its format, and a link isn't too long
abbrev pub fits_core : Geometry → ℕ → Core → Bool
fits_core geo ino core =
    core.version == 3 && (core.ino == ino && (bytes_eq core.uuid geo.meta
    && (has_kind_and_format core && (not (is_link core) || nat_le core.size 1024))))

-- both forks hold what they have to
abbrev pub holds_forks : Geometry → Core → List ℕ → Bool
holds_forks geo core bytes = fork_holds (data_fork geo core bytes) && fork_holds (attribute_fork geo core bytes)

-- the bytes begin with `IN`, have their checksum, and spell the inode
abbrev pub spells_inode : Geometry → ℕ → List ℕ → Bool
spells_inode geo ino bytes =
    big_at 2 bytes 0 == 0x494E && (has_checksum bytes 100
    && (fits_core geo ino (core_of geo bytes) && holds_forks geo (core_of geo bytes) bytes))

pub record SeenInode : Type 0 where
  pub ino : ℕ
  pub bytes : List ℕ
  pub contents : SeenFork
  pub attributes : SeenFork

-- a fork of bytes that don't spell the inode shows nothing
abbrev pub shown_format : Bool → InodeFork → InodeFork
shown_format spelt f = record {
  ino = f.ino;
  lies = f.lies;
  format = cond spelt f.format 0;
  count = f.count;
  local = f.local;
  bytes = f.bytes;
}

abbrev pub shown_data : Geometry → ℕ → List ℕ → InodeFork
shown_data geo ino bytes = shown_format (spells_inode geo ino bytes) (data_fork geo (core_of geo bytes) bytes)

abbrev pub shown_attributes : Geometry → ℕ → List ℕ → InodeFork
shown_attributes geo ino bytes = shown_format (spells_inode geo ino bytes) (attribute_fork geo (core_of geo bytes) bytes)

unfoldable pub inode_of : Geometry → (ℕ → List ℕ) → ℕ → List ℕ → SeenInode
inode_of geo volume ino bytes = record {
  ino = ino;
  bytes = bytes;
  contents = fork_seen volume geo (shown_data geo ino bytes);
  attributes = fork_seen volume geo (shown_attributes geo ino bytes);
}

abbrev pub inode_seen : Geometry → (ℕ → List ℕ) → ℕ → SeenInode
inode_seen geo volume ino = inode_of geo volume ino (inode_bytes geo volume ino)

-- what an inode claims; its own bytes stand in a block of its chunk
abbrev pub inode_claims : SeenInode → List ℕ
inode_claims i = fork_claims i.contents ++ fork_claims i.attributes

-- ---- what it contains, as a function of the value

-- byte `at` of block `block` of the file, where the extent covers it
abbrev pub extent_byte : SeenExtent → ℕ → ℕ → ℕ
extent_byte e block at =
    cond e.extent.unwritten 0 (slice_index (get_or e.blocks (block - e.extent.file) (record { at = 0; bytes = [] })).bytes at)

abbrev pub byte_of_extents : List SeenExtent → ℕ → ℕ → ℕ
byte_of_extents [] block at = 0
byte_of_extents (e ∷ es) block at = cond (covers block e.extent) (extent_byte e block at) (byte_of_extents es block at)

-- the bytes of a regular file of that size
unfoldable pub regular_content : ℕ → List SeenExtent → List ℕ
regular_content size es = map (λ at. byte_of_extents es (at / 4096) (at % 4096)) (range_with_len 0 size)

-- the first block of a file, if an extent covers it
abbrev pub head_block : List FileBlock → Option FileBlock
head_block [] = None
head_block (b ∷ bs) = Some b

abbrev pub first_file_block : List SeenExtent → Option FileBlock
first_file_block [] = None
first_file_block (e ∷ es) = cond (covers 0 e.extent) (head_block e.blocks) (first_file_block es)

abbrev pub bytes_of_block : Option FileBlock → List ℕ
bytes_of_block None = []
bytes_of_block (Some b) = b.bytes

abbrev pub target_seen : Core → SeenInode → List ℕ
target_seen core i =
    cond (core.format == 1) (bytes_at i.bytes 176 core.size)
    (bytes_at (bytes_of_block (first_file_block i.contents.extents)) 56 core.size)

abbrev pub content_with : Core → SeenInode → List ℕ
content_with core i =
    cond (is_regular_file core) (regular_content core.size i.contents.extents)
    (cond (is_link core) (target_seen core i)
    (cond (is_device core) (bytes_at i.bytes 176 4) []))

unfoldable pub inode_content : Geometry → SeenInode → List ℕ
inode_content geo i = content_with (core_of geo i.bytes) i

-- the bytes of its attributes: the local ones, or those of the blocks in order
abbrev pub extent_bytes : SeenExtent → List ℕ
extent_bytes e = flat_map (λ b. b.bytes) e.blocks

unfoldable pub attribute_bytes : Geometry → SeenInode → List ℕ
attribute_bytes geo i =
    cond ((core_of geo i.bytes).aformat == 1) (attribute_fork geo (core_of geo i.bytes) i.bytes).bytes
    (flat_map extent_bytes i.attributes.extents)
