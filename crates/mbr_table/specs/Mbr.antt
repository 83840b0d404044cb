-- The table of a disk, in sector 0 and the chain of its extended partition; why there is none, and the sector that is
-- written for one.
use Rattle.std.specs.Prelude.{◌≡◌, ℕ, ◌+◌, ◌-◌, ◌<◌, ◌≤◌, ◌⊎◌, List, [], ◌∷◌, ◌++◌, length, map, IsTrue, MatchOption, Some}
use Rattle.std.specs.List.{list_any, flat_map, find}
use Rattle.disk_base.specs.Image.{bytes_at, sector}
use Rattle.mbr_table.specs.declared.slot.Slot.{Slot}
use Rattle.mbr_table.specs.declared.slot.Logical.{Logical}
use Rattle.mbr_table.specs.declared.sector.SectorTable.{SectorTable}
use Rattle.mbr_table.specs.declared.fault.MbrFault.{MbrFault}
use Rattle.mbr_table.specs.declared.fault.MbrFault.TheVariants.{NoSignature, Entry, Chain, TooMany, Device, Memory}
use Rattle.mbr_table.specs.Signature.{HasSignature}
use Rattle.mbr_table.specs.Slot.{slot_of, stands_in, holds_extended, kept_slot, slot_entry, IsBadEntry}
use Rattle.mbr_table.specs.Chain.{AreChained, AreLogicalsIn, ComesToBad, ComesTooFar}

-- a table as it was read
pub record Table : Type 0 where
  pub head : List ℕ  -- boot code, disk signature and two further bytes
  pub slots : List Slot  -- the four slots
  pub logicals : List Logical  -- the logical partitions

-- the four slots, 16 bytes each from byte 446 on
abbrev pub slots_of : List ℕ → List Slot
slots_of bytes =
    slot_of (bytes_at bytes 446 16) ∷ slot_of (bytes_at bytes 462 16) ∷ slot_of (bytes_at bytes 478 16)
    ∷ slot_of (bytes_at bytes 494 16) ∷ []

-- it has the signature, and a slot that stands in for another table
abbrev pub IsProtective : List ℕ → Type 0
IsProtective bytes = HasSignature bytes × IsTrue (list_any stands_in (slots_of bytes))

-- four slots, of which none is bad on a disk of that many sectors
pub record AreSound (sectors : ℕ) (slots : List Slot) : Type 0 where
  pub four : length slots ≡ 4
  pub none_bad : (i : ℕ) → i < 4 → IsBadEntry sectors slots i → ⊥

-- the first bad slot has that number, counted from 1
pub record IsFirstBadSlot (sectors : ℕ) (slots : List Slot) (number : ℕ) : Type 0 where
  pub counted : (1 ≤ number) × (number ≤ 4)
  pub bad : IsBadEntry sectors slots (number - 1)
  pub none_before : (i : ℕ) → i + 1 < number → IsBadEntry sectors slots i → ⊥

-- the head and slots of a table are those that sector 0 of a disk of that many sectors spells
pub record IsSectorTable (sectors : ℕ) (bytes : List ℕ) (table : Table) : Type 0 where
  pub some : 0 < sectors
  pub signature : HasSignature bytes
  pub head : table.head ≡ bytes_at bytes 0 446
  pub slots : table.slots ≡ slots_of bytes
  pub sound : AreSound sectors table.slots

-- the table of what sector 0 says, of a disk without logical partitions
abbrev pub plain_table : SectorTable → Table
plain_table found = record { head = found.head; slots = found.slots; logicals = [] }

-- the logical partitions of a disk whose table has these slots: those of the extended one's chain, or none
abbrev pub AreLogicals : List ℕ → List Slot → List Logical → Type 0
AreLogicals image slots logicals =
    MatchOption (find holds_extended slots) (logicals ≡ []) (λ extended. AreChained image extended logicals)

-- what is true of the logical partitions of every table with these slots
abbrev pub AreWithin : List Slot → List Logical → Type 0
AreWithin slots logicals =
    MatchOption (find holds_extended slots) (logicals ≡ []) (λ extended. AreLogicalsIn extended logicals)

-- the table of a disk of that many sectors
pub record IsMbrTable (sectors : ℕ) (image : List ℕ) (table : Table) : Type 0 where
  pub in_sector : IsSectorTable sectors (sector image 0) table
  pub logicals : AreLogicals image table.slots table.logicals

-- sector 0 of a disk of that many sectors spells a table, one of whose slots holds that extended partition
pub record HasExtended (sectors : ℕ) (bytes : List ℕ) (extended : Slot) : Type 0 where
  pub some : 0 < sectors
  pub signature : HasSignature bytes
  pub sound : AreSound sectors (slots_of bytes)
  pub found : find holds_extended (slots_of bytes) ≡ Some extended

-- why sector 0 of a disk of that many sectors spells no table
abbrev pub IsSectorFault : ℕ → List ℕ → MbrFault → Type 0
IsSectorFault sectors bytes NoSignature = (sectors ≡ 0) ⊎ (HasSignature bytes → ⊥)
IsSectorFault sectors bytes (Entry number) =
    (0 < sectors) × HasSignature bytes × IsFirstBadSlot sectors (slots_of bytes) number
IsSectorFault sectors bytes (Chain at) = ⊥
IsSectorFault sectors bytes (TooMany at) = ⊥
IsSectorFault sectors bytes Device = ⊥
IsSectorFault sectors bytes Memory = ⊥

-- why a disk of that many sectors has no table; a device's fault and want of memory say nothing of it
abbrev pub HasMbrFault : ℕ → List ℕ → MbrFault → Type 0
HasMbrFault sectors image NoSignature = IsSectorFault sectors (sector image 0) NoSignature
HasMbrFault sectors image (Entry number) = IsSectorFault sectors (sector image 0) (Entry number)
HasMbrFault sectors image (Chain at) =
    (extended : Slot) × HasExtended sectors (sector image 0) extended × ComesToBad image extended at
HasMbrFault sectors image (TooMany at) =
    (extended : Slot) × HasExtended sectors (sector image 0) extended × ComesTooFar image extended at
HasMbrFault sectors image Device = Unit {0}
HasMbrFault sectors image Memory = Unit {0}

-- a disk has at most one table, and where it has one there is no reason against it
abbrev pub OneMbrTable : Type 0
OneMbrTable =
    (sectors : ℕ) (image : List ℕ) (one : Table) → IsMbrTable sectors image one
    → ((other : Table) → IsMbrTable sectors image other → other ≡ one)
    × ((fault : MbrFault) → HasMbrFault sectors image fault → (fault ≡ Device) ⊎ (fault ≡ Memory))

-- a reason that says something of the disk
abbrev pub IsOfDisk : MbrFault → Type 0
IsOfDisk NoSignature = Unit {0}
IsOfDisk (Entry number) = Unit {0}
IsOfDisk (Chain at) = Unit {0}
IsOfDisk (TooMany at) = Unit {0}
IsOfDisk Device = ⊥
IsOfDisk Memory = ⊥

-- at most one of these stands against a disk
abbrev pub OneFault : Type 0
OneFault =
    (sectors : ℕ) (image : List ℕ) (one other : MbrFault) → HasMbrFault sectors image one → HasMbrFault sectors image other
    → IsOfDisk one → IsOfDisk other → other ≡ one

-- the sector that is written for a head and slots
abbrev pub mbr_sector_of : List ℕ → List Slot → List ℕ
mbr_sector_of head slots = head ++ flat_map slot_entry slots ++ 0x55 ∷ 0xAA ∷ []

-- the table that is read of a head and slots that were written
abbrev pub table_of : List ℕ → List Slot → Table
table_of head slots = record { head = head; slots = map kept_slot slots; logicals = [] }

-- a sector that is read as that head and the used ones of these slots
pub record ReadsBack (front : List ℕ) (written : List Slot) (bytes : List ℕ) : Type 0 where
  pub signature : HasSignature bytes
  pub head : bytes_at bytes 0 446 ≡ front
  pub slots : slots_of bytes ≡ map kept_slot written
