-- What the parts of the reader find: sector 0, and the records of a chain one after the other.
use Rattle.std.specs.Prelude.{◌≡◌, ℕ, ◌<◌, ◌≤◌, ◌⊎◌, Bool, IsTrue, Option, Some, MatchOption, List, length, Contains, All}
use Rattle.std.specs.List.{find}
use Rattle.disk_base.specs.Image.{sector}
use Rattle.mbr_table.specs.declared.slot.Slot.{Slot}
use Rattle.mbr_table.specs.declared.fault.MbrFault.{MbrFault}
use Rattle.mbr_table.specs.declared.fault.MbrFault.TheVariants.{NoSignature, Entry, Chain, TooMany, Device, Memory}
use Rattle.mbr_table.specs.declared.chain.Record.{Record}
use Rattle.mbr_table.specs.declared.chain.Walk.{Walk}
use Rattle.mbr_table.specs.Slot.{holds_extended}
use Rattle.mbr_table.specs.declared.sector.SectorTable.{SectorTable}
use Rattle.mbr_table.specs.Mbr.{IsSectorTable, plain_table}
use Rattle.mbr_table.specs.Chain.{logical_of, next_of, due_at, logicals_at, IsInExtended, IsGoodRecord, IsBeginning, IsOneTooMany, ComesToBad, ComesTooFar, IsLogicalIn}

-- a place from which a record may be read after those at `places`
pub record IsNew (extended : Slot) (places : List ℕ) (at : ℕ) : Type 0 where
  pub inside : IsInExtended extended at
  pub new : Contains places at → ⊥
  pub few : length places < 60

-- why none may be read from there
abbrev pub IsPlaceFault : Slot → List ℕ → ℕ → MbrFault → Type 0
IsPlaceFault extended places at NoSignature = ⊥
IsPlaceFault extended places at (Entry number) = ⊥
IsPlaceFault extended places at (Chain place) = (place ≡ at) × ((IsInExtended extended at → ⊥) ⊎ Contains places at)
IsPlaceFault extended places at (TooMany place) = (place ≡ at) × IsOneTooMany extended places at
IsPlaceFault extended places at Device = ⊥
IsPlaceFault extended places at Memory = ⊥

-- what a good record says
pub record IsFound (extended : Slot) (at : ℕ) (bytes : List ℕ) (found : Record) : Type 0 where
  pub good : IsGoodRecord extended at bytes
  pub logical : found.logical ≡ logical_of at bytes
  pub next : found.next ≡ next_of extended.start bytes

-- what a record is found to say, if it is a good one
abbrev pub IsRecordFound : Slot → ℕ → List ℕ → Option Record → Type 0
IsRecordFound extended at bytes found =
    MatchOption found (IsGoodRecord extended at bytes → ⊥) (λ says. IsFound extended at bytes says)

-- what a record says that was read of a disk: those bytes, where the disk tells, are its sector
pub record IsReadRecord (tells : Bool) (image : List ℕ) (extended : Slot) (at : ℕ) (found : Record) : Type 0 where
  pub bytes : List ℕ
  pub told : IsTrue tells → bytes ≡ sector image at
  pub says : IsFound extended at bytes found

-- why none could be read
abbrev pub IsRecordFault : List ℕ → Slot → ℕ → MbrFault → Type 0
IsRecordFault image extended at NoSignature = ⊥
IsRecordFault image extended at (Entry number) = ⊥
IsRecordFault image extended at (Chain place) = (place ≡ at) × (IsGoodRecord extended at (sector image at) → ⊥)
IsRecordFault image extended at (TooMany place) = ⊥
IsRecordFault image extended at Device = Unit {0}
IsRecordFault image extended at Memory = Unit {0}

-- the records that were read are the beginning of a chain
pub record IsWalk (image : List ℕ) (extended : Slot) (walk : Walk) : Type 0 where
  pub begins : IsBeginning image extended walk.places.items
  pub logicals : walk.logicals.items ≡ logicals_at image walk.places.items
  pub due : walk.next ≡ due_at image extended walk.places.items (length walk.places.items)

-- and the record at `at` is due
pub record IsWalkTo (image : List ℕ) (extended : Slot) (walk : Walk) (at : ℕ) : Type 0 where
  pub so_far : IsWalk image extended walk
  pub next : walk.next ≡ Some at

-- what is known of them on every disk
pub record IsWalkWithin (extended : Slot) (walk : Walk) : Type 0 where
  pub few : length walk.places.items ≤ 60
  pub counted : length walk.logicals.items ≤ length walk.places.items
  pub each : All (IsLogicalIn extended) walk.logicals.items

-- why there is no chain
abbrev pub IsChainFault : List ℕ → Slot → MbrFault → Type 0
IsChainFault image extended NoSignature = ⊥
IsChainFault image extended (Entry number) = ⊥
IsChainFault image extended (Chain at) = ComesToBad image extended at
IsChainFault image extended (TooMany at) = ComesTooFar image extended at
IsChainFault image extended Device = Unit {0}
IsChainFault image extended Memory = Unit {0}

-- where a walk to a place led, and why it ended
abbrev pub WalksOn : List ℕ → Slot → Walk → ℕ → Walk → Type 0
WalksOn image extended old at new = IsWalkTo image extended old at → IsWalk image extended new

abbrev pub WalkEnds : List ℕ → Slot → Walk → ℕ → MbrFault → Type 0
WalkEnds image extended old at fault = IsWalkTo image extended old at → IsChainFault image extended fault

-- what sector 0 says that was read of a disk: those bytes, where the disk tells, are its sector
pub record IsReadSector (tells : Bool) (image : List ℕ) (sectors : ℕ) (found : SectorTable) : Type 0 where
  pub bytes : List ℕ
  pub told : IsTrue tells → bytes ≡ sector image 0
  pub says : IsSectorTable sectors bytes (plain_table found)

-- why a table with these slots has no logical partitions to give
abbrev pub IsLogicalsFault : List ℕ → List Slot → MbrFault → Type 0
IsLogicalsFault image slots fault =
    (extended : Slot) × (find holds_extended slots ≡ Some extended) × IsChainFault image extended fault
