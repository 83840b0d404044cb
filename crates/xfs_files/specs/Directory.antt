-- The directories of a volume (XFS Algorithms & Data Structures, 'Directories'): their entries stand in the inode, in a short
-- form, or in blocks of their own.
use Rattle.std.specs.Prelude.{◌≡◌, ℕ, ◌+◌, ◌*◌, Bool, true, ◌==◌, ◌&&◌, nat_lt, cond, List, [], ◌∷◌, length, get_or, ◌⊎◌}
use Rattle.std.specs.List.{All, Contains, flat_map, range_with_len}
use Rattle.std.specs.Str.{bytes_eq}
use Rattle.disk_base.specs.Fields.{big_at}
use Rattle.disk_base.specs.Image.{bytes_at}
use Rattle.xfs_dir.specs.Block.{BlockSpells, block_items, block_entries}
use Rattle.xfs_dir.specs.Item.{DirectoryEntry}
use Rattle.xfs_dir.specs.Short.{ShortSpells}
use Rattle.xfs_dir.specs.ShortScan.{short_items, short_entries}
use Rattle.xfs_inode.specs.Core.{is_directory}
use Rattle.xfs_inode.specs.Seen.{FileBlock, SeenExtent}
use Rattle.xfs_inode.specs.declared.core_fields.Core.{Core}
use Rattle.xfs_super.specs.Geometry.{Geometry}
use Rattle.xfs_super.specs.Superblock.{has_checksum}
use Rattle.xfs_super.specs.declared.reason.CheckFault.{CheckFault}
use Rattle.xfs_super.specs.declared.reason.CheckFault.TheVariants as check
use Rattle.xfs_super.specs.declared.reason.Reason.{Reason}
use Rattle.xfs_super.specs.declared.reason.Reason.TheVariants as why

-- ---- its blocks

-- a block with entries: which block of the file it is and which of the volume, and what it holds
pub record DirectoryBlock : Type 0 where
  pub file : ℕ
  pub at : ℕ
  pub bytes : List ℕ

-- from this block of the file on, at 32 GiB, a directory has indexes of its entries
abbrev pub first_index_block : ℕ
first_index_block = 0x800000

abbrev pub no_block : FileBlock
no_block = record { at = 0; bytes = [] }

-- block `k` of an extent
abbrev pub directory_block : SeenExtent → ℕ → DirectoryBlock
directory_block e k = record { file = e.extent.file + k; at = (get_or e.blocks k no_block).at; bytes = (get_or e.blocks k no_block).bytes }

-- it, if it has entries
abbrev pub entry_block : SeenExtent → ℕ → List DirectoryBlock
entry_block e k = cond (nat_lt (e.extent.file + k) first_index_block) (directory_block e k ∷ []) []

abbrev pub entry_blocks_of : SeenExtent → List DirectoryBlock
entry_blocks_of e = flat_map (entry_block e) (range_with_len 0 (length e.blocks))

-- all blocks of a directory that have entries: those that an extent covers, written or not, in the order of the file
unfoldable pub entry_blocks : List SeenExtent → List DirectoryBlock
entry_blocks es = flat_map entry_blocks_of es

-- the short form, which stands where the data fork begins
abbrev pub short_form : Core → List ℕ → List ℕ
short_form core bytes = bytes_at bytes 176 core.size

-- ---- its entries

-- of an inode with that core and these bytes, whose data fork has these extents: none where it is no directory
unfoldable pub directory_entries : Core → List ℕ → List SeenExtent → List DirectoryEntry
directory_entries core bytes es =
    cond (is_directory core)
    (cond (core.format == 1) (short_entries (short_form core bytes)) (flat_map (λ b. block_entries b.bytes) (entry_blocks es)))
    []

-- ---- when it is sound

-- the header of a block of that directory: its checksum, its place, the volume and the inode
abbrev pub spells_entry_header : Geometry → ℕ → DirectoryBlock → Bool
spells_entry_header geo ino b =
    has_checksum b.bytes 4
    && (big_at 8 b.bytes 8 == 8 * b.at && (bytes_eq (bytes_at b.bytes 24 16) geo.meta && big_at 8 b.bytes 40 == ino))

-- behind it the block spells a list of items
pub record IsSoundEntryBlock (geo : Geometry) (ino : ℕ) (b : DirectoryBlock) : Type 0 where
  pub header : spells_entry_header geo ino b ≡ true
  pub items : BlockSpells b.bytes (block_items b.bytes)

abbrev pub IsSoundShortForm : Core → List ℕ → Type 0
IsSoundShortForm core bytes = ShortSpells (short_form core bytes) (short_items (short_form core bytes))

-- where the inode is a directory, its short form or each of its blocks is sound
pub record IsSoundDirectory (geo : Geometry) (core : Core) (bytes : List ℕ) (es : List SeenExtent) : Type 0 where
  pub short : is_directory core ≡ true → core.format ≡ 1 → IsSoundShortForm core bytes
  pub blocks : is_directory core ≡ true → (core.format ≡ 1 → ⊥) → All (IsSoundEntryBlock geo core.ino) (entry_blocks es)

-- ---- which reason speaks against it

-- one of its blocks isn't sound, which is that block of the file
pub record HasBadEntryBlock (geo : Geometry) (ino : ℕ) (blocks : List DirectoryBlock) (file : ℕ) : Type 0 where
  pub bad : DirectoryBlock
  pub stands : Contains blocks bad
  pub named : bad.file ≡ file
  pub unsound : IsSoundEntryBlock geo ino bad → ⊥

pub record IsBadDirectory (geo : Geometry) (core : Core) (bytes : List ℕ) (es : List SeenExtent) (file : ℕ) : Type 0 where
  pub directory : is_directory core ≡ true
  pub due :
      ((core.format ≡ 1) × (file ≡ 0) × (IsSoundShortForm core bytes → ⊥))
      ⊎ ((core.format ≡ 1 → ⊥) × HasBadEntryBlock geo core.ino (entry_blocks es) file)

abbrev pub SpeaksAgainstDirectory : Geometry → Core → List ℕ → List SeenExtent → Reason → Type 0
SpeaksAgainstDirectory geo core bytes es (why.Directory n file) = (n ≡ core.ino) × IsBadDirectory geo core bytes es file
SpeaksAgainstDirectory geo core bytes es _ = ⊥

abbrev pub HasDirectoryFault : Geometry → Core → List ℕ → List SeenExtent → CheckFault → Type 0
HasDirectoryFault geo core bytes es (check.Bad reason) = SpeaksAgainstDirectory geo core bytes es reason
HasDirectoryFault geo core bytes es check.Device = Unit {0}
HasDirectoryFault geo core bytes es check.Memory = ⊥
