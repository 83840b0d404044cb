-- A data block of a directory (XFS Algorithms & Data Structures, 'Block Directories' and 'Leaf Directories'): which of
-- its bytes are items, and what a fault of it says.
use Rattle.std.specs.Prelude.{◌≡◌, ℕ, ◌+◌, ◌-◌, ◌*◌, Bool, true, false, ◌⊎◌, cond, nat_le, ◌==◌, List}
use Rattle.disk_base.specs.Image.{bytes_at}
use Rattle.disk_base.specs.Fields.{big_at}
use Rattle.xfs_dir.specs.Item.{SpellsItems, IsFirstUnspelled, DirItem, DirectoryEntry}
use Rattle.xfs_dir.specs.Scan.{dir_items_in, dir_entries_in}
use Rattle.xfs_dir.specs.declared.entry.DirEntry.{DirEntry}
use Rattle.xfs_dir.specs.declared.block.BlockEntries.{BlockEntries}

-- it is a directory's single block, `XDB3`, which has leaf entries and a tail behind its items; or one of several, `XDD3`
abbrev pub has_leaf_tail : List ℕ → Bool
has_leaf_tail bytes = big_at 4 bytes 0 == 0x58444233

abbrev pub has_no_tail : List ℕ → Bool
has_no_tail bytes = big_at 4 bytes 0 == 0x58444433

-- how many leaf entries there are, of 8 bytes each, as the tail of 8 bytes says
abbrev pub leaf_entries : List ℕ → ℕ
leaf_entries bytes = big_at 4 bytes 4088

-- where the items end
abbrev pub items_end : List ℕ → ℕ
items_end bytes = cond (has_leaf_tail bytes) (4088 - 8 * leaf_entries bytes) 4096

-- it is one of the two, and the leaf entries leave room for the header
abbrev pub is_entry_block : List ℕ → Bool
is_entry_block bytes = cond (has_leaf_tail bytes) (nat_le (64 + 8 * leaf_entries bytes) 4088) (has_no_tail bytes)

-- the bytes of its items, which begin behind the header
abbrev pub item_area : List ℕ → List ℕ
item_area bytes = bytes_at bytes 64 (items_end bytes - 64)

-- a block spells these items
pub record BlockSpells (bytes : List ℕ) (items : List DirItem) : Type 0 where
  pub block : is_entry_block bytes ≡ true
  pub spelled : SpellsItems 64 (item_area bytes) items

-- what a fault says of the byte that it names: 0 where it is no such block, else the first item that isn't one
abbrev pub IsBlockEntryFault : List ℕ → ℕ → Type 0
IsBlockEntryFault bytes at =
    ((is_entry_block bytes ≡ false) × (at ≡ 0))
    ⊎ ((is_entry_block bytes ≡ true) × IsFirstUnspelled 64 (item_area bytes) at)

-- the items and the entries of a block, as functions of its bytes
abbrev pub block_items : List ℕ → List DirItem
block_items bytes = dir_items_in 64 (item_area bytes)

abbrev pub block_entries : List ℕ → List DirectoryEntry
block_entries bytes = dir_entries_in 64 (item_area bytes)

-- what an entry says, and the entries that an iterator has left
abbrev pub seen_entry : DirEntry → DirectoryEntry
seen_entry entry = record { name = entry.name.now; ino = entry.ino; ftype = entry.ftype }

abbrev pub entries_left : BlockEntries → List DirectoryEntry
entries_left it = dir_entries_in it.at it.rest.now
