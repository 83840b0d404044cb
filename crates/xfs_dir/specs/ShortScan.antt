-- The entries of a short form as a function of its bytes, read from left to right. What they are is in Short.
use Rattle.std.specs.Prelude.{ℕ, zero, suc, ◌+◌, Bool, cond, ◌&&◌, nat_le, nat_lt, List, [], ◌∷◌, length, drop, slice_index, map}
use Rattle.disk_base.specs.Image.{bytes_at}
use Rattle.xfs_dir.specs.Item.{DirectoryEntry}
use Rattle.xfs_dir.specs.Short.{ShortItem, inumber_width, short_entry, short_count, has_wide_inumbers, short_head_len}
use Rattle.xfs_dir.specs.declared.short.ShortEntries.{ShortEntries}

abbrev pub short_item_len : Bool → List ℕ → ℕ
short_item_len wide rest = slice_index rest 0 + 4 + inumber_width wide

-- an entry stands at the front
unfoldable pub begins_with_short : Bool → List ℕ → Bool
begins_with_short wide rest = nat_lt 0 (slice_index rest 0) && nat_le (short_item_len wide rest) (length rest)

abbrev pub first_short_item : Bool → List ℕ → ShortItem
first_short_item wide rest = record {
  offset = bytes_at rest 1 2;
  name = bytes_at rest 3 (slice_index rest 0);
  ftype = slice_index rest (slice_index rest 0 + 3);
  inumber = bytes_at rest (slice_index rest 0 + 4) (inumber_width wide);
}

-- at most `n` entries, up to the first that isn't one
unfoldable pub short_items_in : Bool → ℕ → List ℕ → List ShortItem
short_items_in wide zero rest = []
short_items_in wide (suc n) rest =
    cond (begins_with_short wide rest)
    (first_short_item wide rest ∷ short_items_in wide n (drop (short_item_len wide rest) rest)) []

-- the items and the entries of a short form
abbrev pub short_items : List ℕ → List ShortItem
short_items bytes = short_items_in (has_wide_inumbers bytes) (short_count bytes) (drop (short_head_len bytes) bytes)

abbrev pub short_entries : List ℕ → List DirectoryEntry
short_entries bytes = map (short_entry (has_wide_inumbers bytes)) (short_items bytes)

-- the entries that an iterator has left
abbrev pub short_entries_left : ShortEntries → List DirectoryEntry
short_entries_left it = map (short_entry it.wide) (short_items_in it.wide it.count it.rest.now)
