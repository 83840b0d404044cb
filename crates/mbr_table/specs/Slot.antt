-- A slot of the table: what its entry of 16 bytes says, and when an entry is bad.
use Rattle.std.specs.Prelude.{ℕ, ◌+◌, Bool, not, ◌&&◌, ◌||◌, ◌==◌, nat_lt, IsTrue, if◌then◌else◌, List, [], ◌∷◌, ◌++◌, take, drop, replicate, slice_index, slice_index_or}
use Rattle.std.specs.List.{list_any}
use Rattle.byteorder.specs.Endian.{little_number, little_bytes}
use Rattle.mbr_table.specs.declared.slot.Slot.{Slot}

-- the slot that 16 bytes spell
abbrev pub slot_of : List ℕ → Slot
slot_of entry = record {
  status = slice_index entry 0;
  kind = slice_index entry 4;
  start = little_number 4 (drop 8 entry);
  count = little_number 4 (drop 12 entry);
}

-- the slot whose entry is all zero
abbrev pub empty_slot : Slot
empty_slot = record { status = 0; kind = 0; start = 0; count = 0 }

-- it has a type and sectors
abbrev pub is_used : Slot → Bool
is_used slot = not (slot.kind == 0) && not (slot.count == 0)

-- its type is that of an extended partition
abbrev pub is_extended : Slot → Bool
is_extended slot = slot.kind == 0x05 || slot.kind == 0x0F || slot.kind == 0x85

-- its type says that another table rules the disk
abbrev pub stands_in : Slot → Bool
stands_in slot = slot.kind == 0xEE

-- it holds an extended partition
abbrev pub holds_extended : Slot → Bool
holds_extended slot = is_used slot && is_extended slot

-- the first sector behind it
abbrev pub slot_end : Slot → ℕ
slot_end slot = slot.start + slot.count

-- it may not stand in the table of a disk of that many sectors, where `extended` says that a slot before it
-- holds an extended partition: it is used, and it starts at sector 0, ends past the disk, or is extended too
abbrev pub is_bad_slot : ℕ → Bool → Slot → Bool
is_bad_slot sectors extended slot =
    is_used slot && (slot.start == 0 || nat_lt sectors (slot_end slot) || (is_extended slot && extended))

-- slot `i`, counted from 0, may not stand in the table
abbrev pub IsBadEntry : ℕ → List Slot → ℕ → Type 0
IsBadEntry sectors slots i =
    IsTrue (is_bad_slot sectors (list_any holds_extended (take i slots)) (slice_index_or slots i empty_slot))

-- what is read of a slot that was written: a used one as it is, an unused one empty
abbrev pub kept_slot : Slot → Slot
kept_slot slot = if is_used slot then slot else empty_slot

-- an entry that says what a slot says; FE FF FF in place of an address by cylinder, head and sector says that the
-- numbers of sectors alone count
abbrev pub entry_bytes : Slot → List ℕ
entry_bytes slot =
    slot.status ∷ 0xFE ∷ 0xFF ∷ 0xFF ∷ slot.kind ∷ 0xFE ∷ 0xFF ∷ 0xFF ∷ [] ++ little_bytes 4 slot.start
    ++ little_bytes 4 slot.count

-- the entry that is written for a slot
abbrev pub slot_entry : Slot → List ℕ
slot_entry slot = if is_used slot then entry_bytes slot else replicate 16 0
