-- The log of a volume, and when it was ended by an unmount (XFS Algorithms & Data Structures, 'Journaling Log', 'Log
-- Records' and 'Unmount'). It is seen as its sectors, of 512 bytes each. Fields stand highest byte first. What is asked
-- of the newest record is this project's own.
use Rattle.std.specs.Prelude.{◌≡◌, ℕ, ◌+◌, ◌*◌, ◌/◌, ◌%◌, ◌^◌, ◌<◌, ◌≤◌, Bool, true, ◌==◌, ◌&&◌, ◌||◌, nat_lt, cond, List, [], map, length, slice_index, slice_index_or}
use Rattle.std.specs.Int.{bit_at, div_ceil}
use Rattle.std.specs.List.{flat_map, range_with_len}
use Rattle.disk_base.specs.Fields.{big_at}
use Rattle.disk_base.specs.Image.{bytes_at}
use Rattle.xfs_super.specs.Geometry.{Geometry}
use Rattle.xfs_super.specs.declared.reason.CheckFault.{CheckFault}
use Rattle.xfs_super.specs.declared.reason.CheckFault.TheVariants as check
use Rattle.xfs_super.specs.declared.reason.Reason.{Reason}
use Rattle.xfs_super.specs.declared.reason.Reason.TheVariants as why

-- ---- its sectors

-- the first block of the log, and all of them, by their numbers in the volume
abbrev pub log_first : Geometry → ℕ
log_first geo = geo.logstart / 2 ^ geo.agblklog * geo.agblocks + geo.logstart % 2 ^ geo.agblklog

abbrev pub log_blocks : Geometry → List ℕ
log_blocks geo = range_with_len (log_first geo) geo.logblocks

-- the eight sectors of a block, and those of a list of blocks
abbrev pub sectors_in : List ℕ → List (List ℕ)
sectors_in bytes = map (λ k. bytes_at bytes (512 * k) 512) (range_with_len 0 8)

abbrev pub log_sectors : List (List ℕ) → List (List ℕ)
log_sectors blocks = flat_map sectors_in blocks

-- those of a volume, given by its blocks
abbrev pub log_seen : Geometry → (ℕ → List ℕ) → List (List ℕ)
log_seen geo volume = log_sectors (map volume (log_blocks geo))

abbrev pub log_sector : List (List ℕ) → ℕ → List ℕ
log_sector sectors k = slice_index_or sectors k []

-- ---- records

-- a sector with which a record begins
abbrev pub is_record_header : List ℕ → Bool
is_record_header s = big_at 4 s 0 == 0xFEEDBABE

-- how often the log was gone round before the record was written
abbrev pub record_cycle : List ℕ → ℕ
record_cycle s = big_at 4 s 4

-- how many operations it has
abbrev pub operations : List ℕ → ℕ
operations s = big_at 4 s 40

-- how many sectors its header has: in version 2 one for each 32 KiB of the room that the record was given
abbrev pub header_sectors : List ℕ → ℕ
header_sectors s = cond (big_at 4 s 8 == 2 && nat_lt 32768 (big_at 4 s 320)) (div_ceil (big_at 4 s 320) 32768) 1

-- how many follow its header, and all of them
abbrev pub data_sectors : List ℕ → ℕ
data_sectors s = div_ceil (big_at 4 s 12) 512

abbrev pub record_sectors : List ℕ → ℕ
record_sectors s = header_sectors s + data_sectors s

-- sector `j` of the record that begins at place k: behind the log's last sector the log goes on at its first
abbrev pub record_sector : List (List ℕ) → ℕ → ℕ → List ℕ
record_sector sectors k j = log_sector sectors ((k + j) % length sectors)

-- the cycle that the sector begins with: one more where the log went round within the record
abbrev pub due_cycle : List (List ℕ) → ℕ → ℕ → ℕ
due_cycle sectors k j =
    cond (nat_lt (k + j) (length sectors)) (record_cycle (log_sector sectors k))
    (record_cycle (log_sector sectors k) + 1)

-- ---- the newest record

-- one record is older than another: of a lower cycle or, of one cycle, at a lower place
abbrev pub is_older : List (List ℕ) → ℕ → ℕ → Bool
is_older sectors j k =
    nat_lt (record_cycle (log_sector sectors j)) (record_cycle (log_sector sectors k))
    || (record_cycle (log_sector sectors j) == record_cycle (log_sector sectors k) && nat_lt j k)

-- a record begins at place k
pub record BeginsRecord (sectors : List (List ℕ)) (k : ℕ) : Type 0 where
  pub there : k < length sectors
  pub header : is_record_header (log_sector sectors k) ≡ true

-- and each other one is older
pub record IsNewestRecord (sectors : List (List ℕ)) (k : ℕ) : Type 0 where
  pub begins : BeginsRecord sectors k
  pub newest : (j : ℕ) → BeginsRecord sectors j → (j ≡ k → ⊥) → is_older sectors j k ≡ true

-- the record at place k says that the volume was unmounted, and stands whole in the log: it has one operation, with the
-- flag of an unmount (32) in the tenth byte behind its header, and each sector that follows its first one begins with
-- its cycle
pub record IsWholeUnmount (sectors : List (List ℕ)) (k : ℕ) : Type 0 where
  pub room : record_sectors (log_sector sectors k) ≤ length sectors
  pub some : 1 ≤ data_sectors (log_sector sectors k)
  pub one : operations (log_sector sectors k) ≡ 1
  pub unmount : bit_at (slice_index (record_sector sectors k (header_sectors (log_sector sectors k))) 9) 5 ≡ 1
  pub whole :
      (j : ℕ) → 1 ≤ j → j < record_sectors (log_sector sectors k)
      → big_at 4 (record_sector sectors k j) 0 ≡ due_cycle sectors k j

-- the log was ended by an unmount
pub record IsCleanLog (sectors : List (List ℕ)) : Type 0 where
  pub newest : ℕ
  pub is_newest : IsNewestRecord sectors newest
  pub unmounted : IsWholeUnmount sectors newest

-- ---- which reasons speak against it

-- the newest record is another one
pub record IsDirtyLog (sectors : List (List ℕ)) : Type 0 where
  pub newest : ℕ
  pub is_newest : IsNewestRecord sectors newest
  pub other : IsWholeUnmount sectors newest → ⊥

abbrev pub SpeaksAgainstLog : List (List ℕ) → Reason → Type 0
SpeaksAgainstLog sectors why.LogShape = (k : ℕ) → BeginsRecord sectors k → ⊥
SpeaksAgainstLog sectors why.DirtyLog = IsDirtyLog sectors
SpeaksAgainstLog sectors _ = ⊥

abbrev pub HasLogFault : List (List ℕ) → CheckFault → Type 0
HasLogFault sectors (check.Bad reason) = SpeaksAgainstLog sectors reason
HasLogFault sectors check.Device = Unit {0}
HasLogFault sectors check.Memory = ⊥
