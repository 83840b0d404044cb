-- The table that a plan makes of a guest's: what it is, what is written for it, and what it names.
use Rattle.std.specs.Prelude.{◌≡◌, ◌≢◌, ℕ, ◌+◌, ◌-◌, ◌*◌, ◌≤◌, ◌⊎◌, false, nat_le, if◌then◌else◌, Option, Some, None, option_map, option_and_then, List, length, map, slice_index_or, slice_get, All, AllPairs, IfSome}
use Rattle.std.specs.List.{list_any}
use Rattle.disk_base.specs.Image.{sector}
use Rattle.gpt_table.specs.declared.entry.Entry.{Entry}
use Rattle.gpt_table.specs.Gpt.{entry_at, protective_bytes}
use Rattle.guest_view.specs.declared.partition.Partition.{Partition}
use Rattle.guest_view.specs.declared.table.Table.{Table}
use Rattle.guest_view.specs.declared.table.Table.TheVariants.{Mbr, Gpt}
use Rattle.guest_view.specs.Guests.{GuestView, IsTableOf, kind_of}
use Rattle.guest_view.specs.Contents.{planned_part}
use Rattle.guest_view.specs.Partitions.{entry_partition, logical_partition, slot_partition}
use Rattle.layout_plan.specs.declared.part.Kind.{Kind}
use Rattle.layout_plan.specs.declared.part.Part.{Part}
use Rattle.layout_plan.specs.declared.part.Placed.{Placed}
use Rattle.layout_plan.specs.declared.part.Fate.{Fate}
use Rattle.layout_plan.specs.declared.part.Fate.TheVariants.{Extended}
use Rattle.layout_plan.specs.declared.wish.Layout.{Layout}
use Rattle.layout_plan.specs.declared.wish.Wish.{Wish}
use Rattle.layout_plan.specs.Plans.{AreFrom, AreNumbered, IsBehind, IsPlacedInside, IsPlan, KeepApart, Plan, is_taken, role_of}
use Rattle.layout_plan.specs.Tables.{floor_of}
use Rattle.mbr_table.specs.declared.slot.Slot.{Slot}
use Rattle.mbr_table.specs.Mbr.{Table as MbrTable, mbr_sector_of}
use Rattle.mbr_table.specs.Slot.{empty_slot, stands_in}
use Rattle.target_work.specs.declared.sector_write.SectorWrite.{SectorWrite}
use Rattle.target_work.specs.Works.{AreStanding, IsWritePlace, WritesLieApart, write_end}
use Rattle.target_table.specs.Entries.{AreGptWrites, planned_entries}
use Rattle.target_table.specs.Slots.{AreRecordWrites, chain_base, no_logical, target_logicals, target_slots}

-- the partitions of a guest as a plan takes them
abbrev pub parts_to_plan : GuestView → List Part
parts_to_plan guest = map planned_part guest.parts

-- a plan for a guest on a target of so many sectors, with what is known of every plan
pub record IsGuestPlan (guest : GuestView) (wishes : List Wish) (layout : Layout) (sectors : ℕ) (plan : Plan) : Type 0 where
  pub is_plan : IsPlan (kind_of guest.table) (parts_to_plan guest) wishes layout sectors plan
  pub froms : AreFrom (parts_to_plan guest) plan.parts
  pub numbers : AreNumbered (kind_of guest.table) plan.parts
  pub apart : AllPairs KeepApart plan.parts
  pub inside : All (IsPlacedInside (kind_of guest.table) plan.limit) plan.parts
  pub behind : IfSome plan.extra (IsBehind (kind_of guest.table) plan.parts plan.limit)
  pub limit : plan.limit ≤ sectors

-- a plan for a guest, whatever was wished
pub record IsSomePlan (guest : GuestView) (sectors : ℕ) (plan : Plan) : Type 0 where
  pub wishes : List Wish
  pub layout : Layout
  pub is : IsGuestPlan guest wishes layout sectors plan

-- the table of the target, where its sector 0 begins with that head
abbrev pub planned_table : Table → Plan → List ℕ → Table
planned_table (Mbr table) plan head =
    Mbr (record { head = head; slots = target_slots table.slots plan; logicals = target_logicals table.logicals plan })
planned_table (Gpt table) plan head =
    Gpt (record { disk = table.disk; entries = planned_entries table.disk table.entries plan; from_backup = false })

-- sector 0 of a disk of so many sectors with that table
abbrev pub first_of_table : Table → List ℕ → ℕ → List ℕ
first_of_table (Mbr table) head sectors = mbr_sector_of head table.slots
first_of_table (Gpt table) head sectors = protective_bytes head sectors

-- what is written for the rest of a table
abbrev pub AreTableWrites : Table → ℕ → List SectorWrite → Type 0
AreTableWrites (Mbr table) sectors writes = AreRecordWrites (chain_base table.slots) table.logicals writes
AreTableWrites (Gpt table) sectors writes = AreGptWrites table sectors writes

-- none of a table's slots stands in for another table
abbrev pub HasNoStandIn : Table → Type 0
HasNoStandIn (Mbr table) = list_any stands_in table.slots ≡ false
HasNoStandIn (Gpt table) = Unit {0}

-- whatever disk of so many sectors these sectors stand on has that table
abbrev pub IsReadAsTable : Table → ℕ → List ℕ → List SectorWrite → Type 0
IsReadAsTable table sectors first writes =
    (image : List ℕ) → length image ≡ 512 * sectors → sector image 0 ≡ first → AreStanding writes (length writes) image
    → IsTableOf sectors image table

-- a write lies behind the first partition of a plan, or where one would be, behind the floor
abbrev pub IsBehindFirst : Kind → Plan → SectorWrite → Type 0
IsBehindFirst kind plan write =
    (floor_of kind ≤ write.at)
    × ((start : ℕ) → 1 ≤ length plan.parts → All (λ (placed : Placed). start ≤ placed.start) plan.parts → start ≤ write.at)

-- a write shares no sector with a placed partition; the records stand in the extended one
abbrev pub KeepsOffBy : Fate → SectorWrite → Placed → Type 0
KeepsOffBy Extended write placed = Unit {0}
KeepsOffBy fate write placed = (write_end write ≤ placed.start) ⊎ (placed.start + placed.count ≤ write.at)

abbrev pub KeepsOff : SectorWrite → Placed → Type 0
KeepsOff write placed = KeepsOffBy placed.fate write placed

-- a write lies on a disk of so many sectors, and beside what a plan places
pub record IsBesidePlan (kind : Kind) (plan : Plan) (sectors : ℕ) (write : SectorWrite) : Type 0 where
  pub place : IsWritePlace sectors write
  pub boot : (write_end write ≤ floor_of kind) ⊎ IsBehindFirst kind plan write
  pub parts : All (KeepsOff write) plan.parts

-- the slot of that number, from 1 on, or of the logical partition of that number, from 5 on
abbrev pub slot_under : MbrTable → ℕ → Slot
slot_under table number =
    if nat_le number 4 then slice_index_or table.slots (number - 1) empty_slot
    else (slice_index_or table.logicals (number - 5) no_logical).slot

-- what a table has under that number
abbrev pub partition_under : Table → ℕ → Option Partition
partition_under (Mbr table) number =
    if nat_le number 4 then slot_partition number (slice_index_or table.slots (number - 1) empty_slot)
    else option_and_then (logical_partition number) (slice_get table.logicals (number - 5))
partition_under (Gpt table) number = entry_partition number (entry_at table number)

-- a placed partition as a table has it
abbrev pub placed_partition : Placed → Partition
placed_partition placed =
    record { number = placed.number; role = role_of placed; start = placed.start; count = placed.count; ebr = placed.ebr }

-- a table has each placed partition under its number, what takes what is left over under its own, and nothing under any
-- other number
pub record HasPlaced (table : Table) (plan : Plan) : Type 0 where
  pub placed : All (λ (placed : Placed). partition_under table placed.number ≡ Some (placed_partition placed)) plan.parts
  pub extra : IfSome plan.extra (λ (one : Placed). partition_under table one.number ≡ Some (placed_partition one))
  pub others : (number : ℕ) → 1 ≤ number → is_taken plan.parts number ≡ false
      → IfSome plan.extra (λ (one : Placed). one.number ≢ number) → partition_under table number ≡ None

-- an entry without its place
abbrev pub unplaced : Entry → Entry
unplaced entry = record entry { first = 0; last = 0 }

-- a partition has on the target the status and type, or the kind, identifier, flags and name, that it has on the source
abbrev pub HasSameName : Table → Table → ℕ → ℕ → Type 0
HasSameName (Mbr source) (Mbr target) from to =
    ((slot_under target to).status ≡ (slot_under source from).status) × ((slot_under target to).kind ≡ (slot_under source from).kind)
HasSameName (Gpt source) (Gpt target) from to =
    option_map unplaced (entry_at target to) ≡ option_map unplaced (entry_at source from)
HasSameName (Mbr source) (Gpt target) from to = ⊥
HasSameName (Gpt source) (Mbr target) from to = ⊥

-- each placed partition has
abbrev pub KeepsNames : Table → Table → Plan → Type 0
KeepsNames source target plan = All (λ (placed : Placed). HasSameName source target placed.from placed.number) plan.parts

-- all that is known of the sectors that are made for a plan of a table
pub record AreTableSectors (table : Table) (plan : Plan) (head : List ℕ) (sectors : ℕ)
    (first : List ℕ) (writes : List SectorWrite) : Type 0 where
  pub first_is : first ≡ first_of_table (planned_table table plan head) head sectors
  pub writes_are : AreTableWrites (planned_table table plan head) sectors writes
  pub read_back : HasNoStandIn table → IsReadAsTable (planned_table table plan head) sectors first writes
  pub planned : HasPlaced (planned_table table plan head) plan
  pub names : KeepsNames table (planned_table table plan head) plan
  pub beside : All (IsBesidePlan (kind_of table) plan sectors) writes
  pub writes_apart : AllPairs WritesLieApart writes
