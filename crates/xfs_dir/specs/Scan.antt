-- The items of a block as a function of its bytes, read from left to right: what an iterator gives, and what is seen of a
-- directory, are said by it. What items are is in Item; Laws ties the two.
use Rattle.std.specs.Prelude.{ℕ, zero, suc, ◌+◌, ◌-◌, ◌*◌, ◌/◌, ◌%◌, Bool, ◌==◌, ◌&&◌, ◌||◌, cond, nat_le, nat_lt, List, [], ◌∷◌, length, drop, slice_index}
use Rattle.disk_base.specs.Image.{bytes_at}
use Rattle.disk_base.specs.Fields.{big_at}
use Rattle.xfs_dir.specs.Item.{DirItem, UnusedItem, UsedItem, DirectoryEntry, entries_of_items}

abbrev pub is_unused_item : List ℕ → Bool
is_unused_item rest = big_at 2 rest 0 == 0xFFFF

abbrev pub item_name_len : List ℕ → ℕ
item_name_len rest = slice_index rest 8

-- 12 bytes and the name, rounded up to a multiple of 8, where it is an entry
abbrev pub dir_item_len : List ℕ → ℕ
dir_item_len rest = cond (is_unused_item rest) (big_at 2 rest 2) ((item_name_len rest + 19) / 8 * 8)

abbrev pub is_unused_or_named : List ℕ → Bool
is_unused_or_named rest = is_unused_item rest || nat_lt 0 (item_name_len rest)

-- an item stands at the front of what begins at byte `at` of the block
unfoldable pub begins_with_item : ℕ → List ℕ → Bool
begins_with_item at rest =
    nat_le 8 (dir_item_len rest) && (nat_le (dir_item_len rest) (length rest) && ((dir_item_len rest % 8 == 0)
    && (is_unused_or_named rest && (big_at 2 rest (dir_item_len rest - 2) == at))))

unfoldable pub first_dir_item : List ℕ → DirItem
first_dir_item rest =
    cond (is_unused_item rest)
    (UnusedItem (bytes_at rest 0 2) (bytes_at rest 2 2) (bytes_at rest 4 (dir_item_len rest - 6)) (bytes_at rest (dir_item_len rest - 2) 2))
    (UsedItem (bytes_at rest 0 8) (bytes_at rest 9 (item_name_len rest)) (slice_index rest (item_name_len rest + 9))
    (bytes_at rest (item_name_len rest + 10) (dir_item_len rest - (item_name_len rest + 12))) (bytes_at rest (dir_item_len rest - 2) 2))

-- at most `n` items
unfoldable pub dir_items_up_to : ℕ → ℕ → List ℕ → List DirItem
dir_items_up_to zero at rest = []
dir_items_up_to (suc n) at rest =
    cond (begins_with_item at rest)
    (first_dir_item rest ∷ dir_items_up_to n (at + dir_item_len rest) (drop (dir_item_len rest) rest)) []

-- the items of what begins at byte `at`, up to the first that isn't one
unfoldable pub dir_items_in : ℕ → List ℕ → List DirItem
dir_items_in at rest = dir_items_up_to (length rest) at rest

unfoldable pub dir_entries_in : ℕ → List ℕ → List DirectoryEntry
dir_entries_in at rest = entries_of_items (dir_items_in at rest)
