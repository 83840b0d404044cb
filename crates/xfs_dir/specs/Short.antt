-- The short form of a directory, which stands in its inode (XFS Algorithms & Data Structures, 'Short Form
-- Directories'): a head, and entries as the bytes of their fields.
use Rattle.std.specs.Prelude.{◌≡◌, ◌≢◌, ◌⊎◌, ℕ, ◌+◌, ◌<◌, ◌≤◌, Bool, true, false, ◌==◌, not, nat_le, cond, ⊤, List, [], ◌∷◌, ◌++◌, length, drop, slice_index}
use Rattle.std.specs.List.{flat_map}
use Rattle.xfs_dir.specs.Item.{DirectoryEntry, field_number}

pub record ShortItem : Type 0 where
  pub offset : List ℕ
  pub name : List ℕ
  pub ftype : ℕ
  pub inumber : List ℕ

-- how many bytes an inode's number has
abbrev pub inumber_width : Bool → ℕ
inumber_width wide = cond wide 8 4

-- the bytes of an entry: its fields, one after the other, where the length of the name is the first byte
abbrev pub short_item_bytes : ShortItem → List ℕ
short_item_bytes item = length item.name ∷ (item.offset ++ (item.name ++ (item.ftype ∷ item.inumber)))

pub record IsShortItem (wide : Bool) (item : ShortItem) : Type 0 where
  pub offset_long : length item.offset ≡ 2
  pub named : 1 ≤ length item.name
  pub inumber_long : length item.inumber ≡ inumber_width wide

abbrev pub AreShortItems : Bool → List ShortItem → Type 0
AreShortItems wide [] = ⊤
AreShortItems wide (item ∷ items) = IsShortItem wide item × AreShortItems wide items

abbrev pub joined_short_items : List ShortItem → List ℕ
joined_short_items items = flat_map short_item_bytes items

abbrev pub short_entry : Bool → ShortItem → DirectoryEntry
short_entry wide item =
    record { name = item.name; ino = field_number (inumber_width wide) item.inumber; ftype = item.ftype }

-- the head: how many entries there are, whether numbers have 8 bytes, and the parent's number
abbrev pub short_count : List ℕ → ℕ
short_count bytes = slice_index bytes 0

abbrev pub has_wide_inumbers : List ℕ → Bool
has_wide_inumbers bytes = not (slice_index bytes 1 == 0)

abbrev pub short_head_len : List ℕ → ℕ
short_head_len bytes = 2 + inumber_width (has_wide_inumbers bytes)

abbrev pub has_short_head : List ℕ → Bool
has_short_head bytes = nat_le (short_head_len bytes) (length bytes)

-- a short form spells these entries, and nothing stands behind them
pub record ShortSpells (bytes : List ℕ) (items : List ShortItem) : Type 0 where
  pub head : has_short_head bytes ≡ true
  pub count : length items ≡ short_count bytes
  pub are : AreShortItems (has_wide_inumbers bytes) items
  pub joined : joined_short_items items ≡ drop (short_head_len bytes) bytes

-- no entry can stand at the front of these bytes
abbrev pub BeginsNoShortItem : Bool → List ℕ → Type 0
BeginsNoShortItem wide after =
    (item : ShortItem) (rest : List ℕ) → IsShortItem wide item → short_item_bytes item ++ rest ≢ after

-- the byte at which an entry should stand that isn't one, or the first behind the last entry
pub record IsShortUnspelled (bytes : List ℕ) (at : ℕ) : Type 0 where
  pub before : List ShortItem
  pub after : List ℕ
  pub are : AreShortItems (has_wide_inumbers bytes) before
  pub joined : joined_short_items before ++ after ≡ drop (short_head_len bytes) bytes
  pub place : at ≡ short_head_len bytes + length (joined_short_items before)
  pub why :
      ((length before < short_count bytes) × BeginsNoShortItem (has_wide_inumbers bytes) after)
      ⊎ ((length before ≡ short_count bytes) × (after ≢ []))

-- what a fault says of the byte that it names: 0 where the head isn't whole
abbrev pub IsShortEntryFault : List ℕ → ℕ → Type 0
IsShortEntryFault bytes at =
    ((has_short_head bytes ≡ false) × (at ≡ 0)) ⊎ ((has_short_head bytes ≡ true) × IsShortUnspelled bytes at)
