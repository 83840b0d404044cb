-- The sectors that are written for a chain of extended boot records.
use Rattle.std.specs.Prelude.{◌≡◌, ◌≢◌, ℕ, ◌+◌, ◌-◌, ◌^◌, ◌<◌, ◌≤◌, Option, None, Some, option_map, slice_get, MatchOption, List, [], ◌∷◌, ◌++◌, length, replicate, map, All}
use Rattle.std.specs.List.{AllPairs, find}
use Rattle.disk_base.specs.Image.{sector}
use Rattle.mbr_table.specs.declared.slot.Slot.{Slot}
use Rattle.mbr_table.specs.declared.slot.Logical.{Logical}
use Rattle.mbr_table.specs.Slot.{entry_bytes, slot_entry, slot_end, holds_extended}
use Rattle.mbr_table.specs.Chain.{IsChain, IsLogicalIn, logicals_at}
use Rattle.mbr_table.specs.Mbr.{Table, IsSectorTable, IsMbrTable}

-- the slot that stands for the next record: its start, counted from the extended partition's start, and its count
abbrev pub link_slot : ℕ × ℕ → Slot
link_slot next = record { status = 0; kind = 0x05; start = next.0; count = next.1 }

-- the entry for the next record; without one it is all zero
abbrev pub link_entry_of : Option (ℕ × ℕ) → List ℕ
link_entry_of None = replicate 16 0
link_entry_of (Some next) = entry_bytes (link_slot next)

-- a record's sector, for its own slot, whose start is counted from the record, and the next record
unfoldable pub ebr_sector_of : Slot → Option (ℕ × ℕ) → List ℕ
ebr_sector_of own next = replicate 446 0 ++ slot_entry own ++ link_entry_of next ++ replicate 32 0 ++ 0x55 ∷ 0xAA ∷ []

-- a logical partition's slot in its record
abbrev pub own_slot : Logical → Slot
own_slot logical = record logical.slot { start = logical.slot.start - logical.ebr }

-- where its record stands behind the extended partition's start `base`, and how many sectors there are from there to
-- its end
abbrev pub link_to : ℕ → Logical → ℕ × ℕ
link_to base logical = (logical.ebr - base, slot_end logical.slot - logical.ebr)

-- what the record of the logical partition at index `i` says of the next record
abbrev pub link_after : ℕ → List Logical → ℕ → Option (ℕ × ℕ)
link_after base logicals i = option_map (link_to base) (slice_get logicals (i + 1))

-- the records of logical partitions, from the extended one's start on and no two in one place, stand in a disk as they
-- are written
pub record AreWritten (image : List ℕ) (extended : Slot) (logicals : List Logical) : Type 0 where
  pub first : option_map (λ logical. logical.ebr) (slice_get logicals 0) ≡ Some extended.start
  pub few : length logicals ≤ 60
  pub distinct : AllPairs (λ a b. a.ebr ≢ b.ebr) logicals
  pub inside : All (IsLogicalIn extended) logicals
  pub written : (i : ℕ) (logical : Logical) → slice_get logicals i ≡ Some logical
      → sector image logical.ebr ≡ ebr_sector_of (own_slot logical) (link_after extended.start logicals i)

-- a chain that was written for logical partitions is read as them
abbrev pub ChainReadsBack : Type 0
ChainReadsBack =
    (image : List ℕ) (extended : Slot) (logicals : List Logical) → extended.count < 2 ^ 32
    → AreWritten image extended logicals
    → IsChain image extended (map (λ logical. logical.ebr) logicals)
    × (logicals_at image (map (λ logical. logical.ebr) logicals) ≡ logicals)

-- the records of a table's logical partitions stand in a disk as they are written
abbrev pub HasRecords : List ℕ → Table → Type 0
HasRecords image table =
    MatchOption (find holds_extended table.slots) (table.logicals ≡ [])
    (λ extended. AreWritten image extended table.logicals)

-- a disk in which a table was written, its sector 0 and its records, is read as that table
abbrev pub TableReadsBack : Type 0
TableReadsBack =
    (sectors : ℕ) (image : List ℕ) (table : Table) → sectors ≤ 2 ^ 31 → IsSectorTable sectors (sector image 0) table
    → HasRecords image table → IsMbrTable sectors image table
