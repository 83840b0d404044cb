-- The chain of extended boot records in the extended partition of a disk: one record for each logical partition, which
-- names the next record. An image is a disk's bytes, and a place is the number of a record's sector.
use Rattle.std.specs.Prelude.{◌≡◌, ◌≢◌, ℕ, zero, suc, ◌+◌, ◌<◌, ◌≤◌, ◌⊎◌, ◌==◌, if◌then◌else◌, IsTrue, Option, None, Some, List, length, slice_index, Contains, All}
use Rattle.std.specs.List.{AllPairs, filter_map}
use Rattle.disk_base.specs.Image.{bytes_at, sector}
use Rattle.mbr_table.specs.declared.slot.Slot.{Slot}
use Rattle.mbr_table.specs.declared.slot.Logical.{Logical}
use Rattle.mbr_table.specs.Signature.{HasSignature}
use Rattle.mbr_table.specs.Slot.{slot_of, is_used, slot_end}

-- a record's own slot, whose start is counted from the record
unfoldable pub own_of : List ℕ → Slot
own_of bytes = slot_of (bytes_at bytes 446 16)

-- its slot for the next record
unfoldable pub link_of : List ℕ → Slot
link_of bytes = slot_of (bytes_at bytes 462 16)

-- the place of the next record, where `base` is the extended partition's start: its slot counts from there, and type 0
-- says that there is none
unfoldable pub next_of : ℕ → List ℕ → Option ℕ
next_of base bytes = if (link_of bytes).kind == 0 then None else Some (base + (link_of bytes).start)

-- the logical partition of a record at a place with that own slot: none where it is unused, else with its start counted
-- from the start of the disk
unfoldable pub own_logical : ℕ → Slot → Option Logical
own_logical at own =
    if is_used own then Some (record { ebr = at; slot = record own { start = at + own.start } }) else None

abbrev pub logical_of : ℕ → List ℕ → Option Logical
logical_of at bytes = own_logical at (own_of bytes)

-- a place in the extended partition
abbrev pub IsInExtended : Slot → ℕ → Type 0
IsInExtended extended at = (extended.start ≤ at) × (at < slot_end extended)

-- the own slot of a record starts behind the record and ends in the extended partition
pub record LiesBehind (extended : Slot) (at : ℕ) (own : Slot) : Type 0 where
  pub behind : 0 < own.start
  pub inside : at + slot_end own ≤ slot_end extended

-- what the record at a place has to be
pub record IsGoodRecord (extended : Slot) (at : ℕ) (bytes : List ℕ) : Type 0 where
  pub inside : IsInExtended extended at
  pub signature : HasSignature bytes
  pub own : IsTrue (is_used (own_of bytes)) → LiesBehind extended at (own_of bytes)

-- the place due at index `i` of a chain: the extended partition's start, and then what the record before names
abbrev pub due_at : List ℕ → Slot → List ℕ → ℕ → Option ℕ
due_at image extended places zero = Some extended.start
due_at image extended places (suc i) = next_of extended.start (sector image (slice_index places i))

-- how a chain may begin: at most 60 good records, each at the place that is due, no place twice
pub record IsBeginning (image : List ℕ) (extended : Slot) (places : List ℕ) : Type 0 where
  pub following : (i : ℕ) → i < length places → due_at image extended places i ≡ Some (slice_index places i)
  pub distinct : AllPairs (λ x y. x ≢ y) places
  pub few : length places ≤ 60
  pub sound : (i : ℕ) → i < length places
      → IsGoodRecord extended (slice_index places i) (sector image (slice_index places i))

-- the chain of an extended partition: a beginning after which no record is due
pub record IsChain (image : List ℕ) (extended : Slot) (places : List ℕ) : Type 0 where
  pub begins : IsBeginning image extended places
  pub ends : due_at image extended places (length places) ≡ None

-- the logical partitions of the records at these places, in their order
abbrev pub logicals_at : List ℕ → List ℕ → List Logical
logicals_at image places = filter_map (λ at. logical_of at (sector image at)) places

-- a beginning after which the record at that place is due
pub record LeadsTo (image : List ℕ) (extended : Slot) (places : List ℕ) (at : ℕ) : Type 0 where
  pub begins : IsBeginning image extended places
  pub due : due_at image extended places (length places) ≡ Some at

-- the record that is due is bad: it lies outside, it came before, or it is none that a chain may have
abbrev pub IsBadNext : List ℕ → Slot → List ℕ → ℕ → Type 0
IsBadNext image extended places at =
    (IsInExtended extended at → ⊥) ⊎ Contains places at
    ⊎ ((length places < 60) × (IsGoodRecord extended at (sector image at) → ⊥))

-- the record that is due would be the 61st
pub record IsOneTooMany (extended : Slot) (places : List ℕ) (at : ℕ) : Type 0 where
  pub sixty : length places ≡ 60
  pub inside : IsInExtended extended at
  pub new : Contains places at → ⊥

-- the chain comes to a bad record at that place, or to a 61st
abbrev pub ComesToBad : List ℕ → Slot → ℕ → Type 0
ComesToBad image extended at = (places : List ℕ) × LeadsTo image extended places at × IsBadNext image extended places at

abbrev pub ComesTooFar : List ℕ → Slot → ℕ → Type 0
ComesTooFar image extended at = (places : List ℕ) × LeadsTo image extended places at × IsOneTooMany extended places at

-- logical partitions of an extended one that has a chain
pub record AreChained (image : List ℕ) (extended : Slot) (logicals : List Logical) : Type 0 where
  pub places : List ℕ
  pub chain : IsChain image extended places
  pub logicals_are : logicals ≡ logicals_at image places

-- a logical partition in the extended one: used, behind its record, which lies inside too
pub record IsLogicalIn (extended : Slot) (logical : Logical) : Type 0 where
  pub used : IsTrue (is_used logical.slot)
  pub record_inside : extended.start ≤ logical.ebr
  pub behind_record : logical.ebr < logical.slot.start
  pub ends_inside : slot_end logical.slot ≤ slot_end extended

-- what is true of the logical partitions of every chain
pub record AreLogicalsIn (extended : Slot) (logicals : List Logical) : Type 0 where
  pub few : length logicals ≤ 60
  pub each : All (IsLogicalIn extended) logicals

-- an extended partition has at most one chain, and where it has one the chain comes to no bad record and not too far
abbrev pub OneChain : Type 0
OneChain =
    (image : List ℕ) (extended : Slot) (one : List ℕ) → IsChain image extended one
    → ((other : List ℕ) → IsChain image extended other → other ≡ one)
    × ((at : ℕ) → ComesToBad image extended at → ⊥) × ((at : ℕ) → ComesTooFar image extended at → ⊥)
