-- What the making of entries stands on; no more than the contracts inside this crate name it.
use Rattle.std.specs.Prelude.{◌≡◌, ◌≢◌, ℕ, ◌+◌, ◌^◌, ◌≤◌, Bool, true, false, List, [], ◌∷◌, length, All, IfSome}
use Rattle.disk_base.specs.Checksum.{IsCrc32}
use Rattle.gpt_table.specs.Gpt.{EntryTable, array_bytes}
use Rattle.gpt_table.specs.Header.{IsHeaderSector, array_written, header_place}
use Rattle.layout_plan.specs.declared.part.Placed.{Placed}
use Rattle.layout_plan.specs.Plans.{Plan}
use Rattle.target_work.specs.declared.sector_write.SectorWrite.{SectorWrite}
use Rattle.target_table.specs.Entries.{write_to}

-- a partition whose number and place an entry can have
pub record IsEnterable (one : Placed) : Type 0 where
  pub counted : (1 ≤ one.number) × (one.number ≤ 128)
  pub some : 1 ≤ one.count
  pub end_named : one.start + one.count ≤ 2 ^ 31

-- one that stands for an entry of the source
pub record IsEntered (placed : Placed) : Type 0 where
  pub from_one : 1 ≤ placed.from
  pub enterable : IsEnterable placed

-- what takes what is left over has a number of its own
pub record IsEnteredBeside (plan : Plan) (extra : Placed) : Type 0 where
  pub enterable : IsEnterable extra
  pub own_number : All (λ (placed : Placed). placed.number ≢ extra.number) plan.parts

-- the entries of a plan can be made
pub record CanBeEntered (plan : Plan) : Type 0 where
  pub parts : All IsEntered plan.parts
  pub extra : IfSome plan.extra (IsEnteredBeside plan)

-- the write of a header whose array has that checksum
pub record IsHeaderWrite (disk : List ℕ) (sectors : ℕ) (backup : Bool) (sum : ℕ) (write : SectorWrite) : Type 0 where
  pub is_header : IsHeaderSector disk sectors backup sum write.bytes
  pub long : length write.bytes ≡ 512
  pub place : write.at ≡ header_place sectors backup

-- the writes of a table: the backup's array and header, and then the primary ones
pub record AreCopies (table : EntryTable) (sectors : ℕ) (writes : List SectorWrite) : Type 0 where
  pub sum : ℕ
  pub sums : IsCrc32 (array_bytes table.entries) sum
  pub long : length (array_bytes table.entries) ≡ 16384
  pub backup : SectorWrite
  pub primary : SectorWrite
  pub is_backup : IsHeaderWrite table.disk sectors true sum backup
  pub is_primary : IsHeaderWrite table.disk sectors false sum primary
  pub writes_are : writes
      ≡ write_to (array_written sectors true) (array_bytes table.entries) ∷ backup
      ∷ write_to (array_written sectors false) (array_bytes table.entries) ∷ primary ∷ []
