-- One of the 128 entries of a table: what its 128 bytes say, and when it may not stand in a table.
use Rattle.std.specs.Prelude.{◌≡◌, ℕ, ◌*◌, ◌<◌, ◌≤◌, Bool, false, ◌||◌, nat_lt, if◌then◌else◌, List, ◌++◌, replicate, Option, Some, None}
use Rattle.byteorder.specs.Endian.{little_bytes}
use Rattle.uuid.specs.Parts.{swap_fields, is_nil_bytes}
use Rattle.disk_base.specs.Fields.{little_at}
use Rattle.disk_base.specs.Image.{bytes_at}
use Rattle.gpt_table.specs.declared.entry.Entry.{Entry}

-- the identifier that 16 bytes from byte `at` on spell: the first three of its fields stand lowest byte first
unfoldable pub guid_at : List ℕ → ℕ → List ℕ
guid_at bytes at = swap_fields (bytes_at bytes at 16)

-- the entry that 128 bytes spell
abbrev pub entry_of : List ℕ → Entry
entry_of bytes = record {
  kind = guid_at bytes 0;
  id = guid_at bytes 16;
  first = little_at 8 bytes 32;
  last = little_at 8 bytes 40;
  flags = little_at 8 bytes 48;
  name = bytes_at bytes 56 72;
}

-- an entry whose kind is zero is unused
abbrev pub used : Entry → Option Entry
used entry = if is_nil_bytes entry.kind then None else Some entry

-- entry `k`, counted from 0, of an array of entries
abbrev pub slot_at : List ℕ → ℕ → Option Entry
slot_at array k = used (entry_of (bytes_at array (128 * k) 128))

-- it is used, and its last sector is before its first one, or one of them lies outside `first` to `last`
abbrev pub is_bad : ℕ → ℕ → Option Entry → Bool
is_bad first last None = false
is_bad first last (Some entry) = nat_lt entry.last entry.first || nat_lt entry.first first || nat_lt last entry.last

-- it is used, and lies between the tables at the start of a disk of that many sectors and its end
pub record LiesBetweenTables (sectors : ℕ) (entry : Entry) : Type 0 where
  pub kind : is_nil_bytes entry.kind ≡ false
  pub behind_tables : 34 ≤ entry.first
  pub in_order : entry.first ≤ entry.last
  pub within : entry.last < sectors

-- the bytes that are written for an entry, and for none
unfoldable pub slot_bytes : Option Entry → List ℕ
slot_bytes None = replicate 128 0
slot_bytes (Some entry) =
    swap_fields entry.kind ++ swap_fields entry.id ++ little_bytes 8 entry.first ++ little_bytes 8 entry.last
    ++ little_bytes 8 entry.flags ++ entry.name

-- what is read of an entry that was written: none where its kind is zero
abbrev pub kept_entry : Option Entry → Option Entry
kept_entry None = None
kept_entry (Some entry) = used entry
