-- What a plan makes of the slots and the chain of an MBR.
use Rattle.std.specs.Prelude.{◌≡◌, ℕ, ◌-◌, ◌==◌, Bool, not, if◌then◌else◌, Option, Some, None, List, [], ◌∷◌, length, map, filter, find, slice_index_or, slice_get}
use Rattle.layout_plan.specs.declared.part.Placed.{Placed}
use Rattle.layout_plan.specs.Plans.{Plan}
use Rattle.mbr_table.specs.declared.slot.Slot.{Slot}
use Rattle.mbr_table.specs.declared.slot.Logical.{Logical}
use Rattle.mbr_table.specs.Record.{ebr_sector_of, link_after, own_slot}
use Rattle.mbr_table.specs.Slot.{empty_slot, holds_extended}
use Rattle.target_work.specs.declared.sector_write.SectorWrite.{SectorWrite}

-- what is placed under that number
abbrev pub placed_under : Plan → ℕ → Option Placed
placed_under plan number = find (λ (placed : Placed). placed.number == number) plan.parts

-- the source's slot of a partition that is placed
abbrev pub source_slot : List Slot → Placed → Slot
source_slot slots placed = slice_index_or slots (placed.from - 1) empty_slot

-- its slot on the target keeps status and type
abbrev pub placed_slot : List Slot → Placed → Slot
placed_slot slots placed = record (source_slot slots placed) { start = placed.start; count = placed.count }

-- the slot of the partition that takes what is left over: a Linux one, not to boot from
abbrev pub extra_slot : Placed → Slot
extra_slot extra = record { status = 0; kind = 0x83; start = extra.start; count = extra.count }

-- the slot of that number where no partition of the source has it
abbrev pub spare_slot : Option Placed → ℕ → Slot
spare_slot None number = empty_slot
spare_slot (Some extra) number = if extra.number == number then extra_slot extra else empty_slot

-- the slot of that number
abbrev pub slot_or_spare : List Slot → Option Placed → Slot → Slot
slot_or_spare slots None spare = spare
slot_or_spare slots (Some placed) spare = placed_slot slots placed

abbrev pub target_slot : List Slot → Plan → ℕ → Slot
target_slot slots plan number = slot_or_spare slots (placed_under plan number) (spare_slot plan.extra number)

abbrev pub target_slots : List Slot → Plan → List Slot
target_slots slots plan =
    target_slot slots plan 1 ∷ target_slot slots plan 2 ∷ target_slot slots plan 3 ∷ target_slot slots plan 4 ∷ []

-- what the chain is read with beyond its end
abbrev pub no_logical : Logical
no_logical = record { ebr = 0; slot = empty_slot }

-- the source's logical partition of one that is placed
abbrev pub source_logical : List Logical → Placed → Logical
source_logical logicals placed = slice_index_or logicals (placed.from - 5) no_logical

-- on the target it keeps status and type
abbrev pub placed_logical : List Logical → Placed → Logical
placed_logical logicals placed = record {
  ebr = placed.ebr;
  slot = record (source_logical logicals placed).slot { start = placed.start; count = placed.count };
}

-- whether a placed partition has a record of its own, as the logical ones have
abbrev pub has_record : Placed → Bool
has_record placed = not (placed.ebr == 0)

-- the logical partitions of the target, by number
abbrev pub target_logicals : List Logical → Plan → List Logical
target_logicals logicals plan = map (placed_logical logicals) (filter has_record plan.parts)

-- where the extended partition of these slots starts
abbrev pub start_of_slot : Option Slot → ℕ
start_of_slot None = 0
start_of_slot (Some slot) = slot.start

abbrev pub chain_base : List Slot → ℕ
chain_base slots = start_of_slot (find holds_extended slots)

-- the record of the logical partition at index `i`, in its sector
abbrev pub record_write : ℕ → List Logical → ℕ → Logical → SectorWrite
record_write base logicals i logical = record { at = logical.ebr; bytes = ebr_sector_of (own_slot logical) (link_after base logicals i) }

-- the records of a chain, in their order
pub record AreRecordWrites (base : ℕ) (logicals : List Logical) (writes : List SectorWrite) : Type 0 where
  pub as_many : length writes ≡ length logicals
  pub each : (i : ℕ) (logical : Logical) (d : SectorWrite) → slice_get logicals i ≡ Some logical
      → slice_index_or writes i d ≡ record_write base logicals i logical
