-- The items of a directory's data block (XFS Algorithms & Data Structures, 'Block Directories'), and when bytes are a
-- list of them. An item is the bytes of its fields: so a list of items is right where each is, and where their bytes,
-- joined, are those of the block.
use Rattle.std.specs.Prelude.{◌≡◌, ◌≢◌, ℕ, ◌+◌, ◌%◌, ◌<◌, ◌≤◌, List, [], ◌∷◌, ◌++◌, length, ⊤}
use Rattle.std.specs.List.{flat_map}
use Rattle.disk_base.specs.Fields.{big_at}

-- unused space, or an entry
pub data DirItem : Type 0 where
  UnusedItem : (freetag len filling tag : List ℕ) → DirItem
  UsedItem : (inumber name : List ℕ) (ftype : ℕ) (padding tag : List ℕ) → DirItem

-- the bytes of an item: its fields, one after the other, where the length of the name is a byte before it
abbrev pub dir_item_bytes : DirItem → List ℕ
dir_item_bytes (UnusedItem freetag len filling tag) = freetag ++ (len ++ (filling ++ tag))
dir_item_bytes (UsedItem inumber name ftype padding tag) = inumber ++ (length name ∷ (name ++ (ftype ∷ (padding ++ tag))))

-- the number that the first `n` bytes of a field spell
abbrev pub field_number : ℕ → List ℕ → ℕ
field_number n bytes = big_at n bytes 0

-- unused space at byte `at` of the block
pub record IsUnusedItem (at : ℕ) (freetag len filling tag : List ℕ) : Type 0 where
  pub freetag_long : length freetag ≡ 2
  pub marked : field_number 2 freetag ≡ 0xFFFF
  pub len_long : length len ≡ 2
  pub len_is : field_number 2 len ≡ length (dir_item_bytes (UnusedItem freetag len filling tag))
  pub eights : length (dir_item_bytes (UnusedItem freetag len filling tag)) % 8 ≡ 0
  pub tag_long : length tag ≡ 2
  pub placed : field_number 2 tag ≡ at

-- an entry there: no more padding than brings it to a multiple of 8, and a number that isn't taken for a free tag
pub record IsUsedItem (at : ℕ) (inumber name : List ℕ) (ftype : ℕ) (padding tag : List ℕ) : Type 0 where
  pub inumber_long : length inumber ≡ 8
  pub unmarked : field_number 2 inumber ≢ 0xFFFF
  pub named : 1 ≤ length name
  pub short : length padding < 8
  pub eights : length (dir_item_bytes (UsedItem inumber name ftype padding tag)) % 8 ≡ 0
  pub tag_long : length tag ≡ 2
  pub placed : field_number 2 tag ≡ at

abbrev pub IsDirItem : ℕ → DirItem → Type 0
IsDirItem at (UnusedItem freetag len filling tag) = IsUnusedItem at freetag len filling tag
IsDirItem at (UsedItem inumber name ftype padding tag) = IsUsedItem at inumber name ftype padding tag

-- items that follow each other from byte `at` on
abbrev pub AreDirItems : ℕ → List DirItem → Type 0
AreDirItems at [] = ⊤
AreDirItems at (item ∷ items) = IsDirItem at item × AreDirItems (at + length (dir_item_bytes item)) items

-- the bytes of items, joined
abbrev pub joined_items : List DirItem → List ℕ
joined_items items = flat_map dir_item_bytes items

-- bytes that begin at byte `at` of the block are those items
pub record SpellsItems (at : ℕ) (bytes : List ℕ) (items : List DirItem) : Type 0 where
  pub are : AreDirItems at items
  pub joined : joined_items items ≡ bytes

-- an entry of a directory: its name, the number of its inode, and the kind of file as it is stored
pub record DirectoryEntry : Type 0 where
  pub name : List ℕ
  pub ino : ℕ
  pub ftype : ℕ

-- unused space is no entry
abbrev pub item_entries : DirItem → List DirectoryEntry
item_entries (UnusedItem freetag len filling tag) = []
item_entries (UsedItem inumber name ftype padding tag) =
    record { name = name; ino = field_number 8 inumber; ftype = ftype } ∷ []

abbrev pub entries_of_items : List DirItem → List DirectoryEntry
entries_of_items items = flat_map item_entries items

-- the byte at which the first item should stand that isn't one: items come before it, and none can follow
pub record IsFirstUnspelled (start : ℕ) (bytes : List ℕ) (at : ℕ) : Type 0 where
  pub before : List DirItem
  pub after : List ℕ
  pub are : AreDirItems start before
  pub joined : joined_items before ++ after ≡ bytes
  pub place : at ≡ start + length (joined_items before)
  pub some : after ≢ []
  pub none : (item : DirItem) (rest : List ℕ) → IsDirItem at item → dir_item_bytes item ++ rest ≢ after
