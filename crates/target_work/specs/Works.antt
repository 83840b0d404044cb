-- All that is to be written to a target, and the target when it is done.
use Rattle.std.specs.Prelude.{◌≡◌, ◌⊎◌, ℕ, ◌+◌, ◌*◌, ◌/◌, ◌%◌, ◌<◌, ◌≤◌, List, length, slice_index_or, replicate, All, AllPairs, IsTrue}
use Rattle.disk_base.specs.declared.device.Blocks.{Ghosts as BlocksGhosts}
use Rattle.disk_base.specs.declared.device.Disk.{Ghosts as DiskGhosts}
use Rattle.disk_base.specs.declared.device.DeviceFault.{DeviceFault}
use Rattle.disk_base.specs.declared.device.DeviceFault.TheVariants.{Source, Target}
use Rattle.disk_base.specs.Image.{bytes_at, sector}
use Rattle.disk_base.specs.Stops.{IsSettled, LeavesOnly}
use Rattle.run_copy.specs.declared.transfer.Transfer.{Transfer}
use Rattle.run_copy.specs.Copies.{IsBetween, IsOutside, WriteApart, due}
use Rattle.target_work.specs.declared.sector_write.SectorWrite.{SectorWrite}

-- what is to be written, in this order: the transfers, the writes, and last the new sector 0
pub record Work : Type 0 where
  pub first : List ℕ  -- the new sector 0
  pub transfers : List Transfer  -- the contents and the boot area
  pub writes : List SectorWrite  -- the rest of the table
  pub source_sectors : ℕ
  pub target_sectors : ℕ

abbrev pub work_of : List ℕ → List Transfer → List SectorWrite → ℕ → ℕ → Work
work_of first transfers writes source_sectors target_sectors = record {
  first = first;
  transfers = transfers;
  writes = writes;
  source_sectors = source_sectors;
  target_sectors = target_sectors;
}

-- the end of the sectors that are written
abbrev pub write_end : SectorWrite → ℕ
write_end write = write.at + length write.bytes / 512

-- sector k isn't one of them
abbrev pub IsBeside : SectorWrite → ℕ → Type 0
IsBeside write k = write.at ≤ k → write_end write ≤ k

-- the bytes of a write stand in a disk at its place
abbrev pub StandsIn : List ℕ → SectorWrite → Type 0
StandsIn image write = bytes_at image (512 * write.at) (length write.bytes) ≡ write.bytes

-- the bytes of each of the first n writes stand in a disk
abbrev pub AreStanding : List SectorWrite → ℕ → List ℕ → Type 0
AreStanding writes n image = (i : ℕ) (d : SectorWrite) → i < n → StandsIn image (slice_index_or writes i d)

-- for every sector of the target, what it holds: sector 0 the new one, the sectors of each transfer what is due of it,
-- those of each write its bytes, and every other sector what the target had
pub record IsDone (work : Work) (source old new : List ℕ) : Type 0 where
  pub same_length : length new ≡ length old
  pub first_is : sector new 0 ≡ work.first
  pub copied : (i : ℕ) (d : Transfer) → i < length work.transfers → (k : ℕ) → k < (slice_index_or work.transfers i d).count
      → sector new ((slice_index_or work.transfers i d).to + k) ≡ due source old (slice_index_or work.transfers i d) k
  pub written : AreStanding work.writes (length work.writes) new
  pub others : (k : ℕ) → 0 < k
      → ((i : ℕ) (d : Transfer) → i < length work.transfers
      → IsOutside (slice_index_or work.transfers i d) (slice_index_or work.transfers i d).count k)
      → ((i : ℕ) (d : SectorWrite) → i < length work.writes → IsBeside (slice_index_or work.writes i d) k)
      → sector new k ≡ sector old k

-- whole sectors behind sector 0 of a disk of so many sectors
pub record IsWritePlace (sectors : ℕ) (write : SectorWrite) : Type 0 where
  pub whole : length write.bytes % 512 ≡ 0
  pub behind_first : 1 ≤ write.at
  pub inside : write_end write ≤ sectors

-- a write and a transfer, or two writes, that share no sector
abbrev pub LiesBeside : SectorWrite → Transfer → Type 0
LiesBeside write t = (write_end write ≤ t.to) ⊎ (t.to + t.count ≤ write.at)

abbrev pub WritesLieApart : SectorWrite → SectorWrite → Type 0
WritesLieApart one other = (write_end one ≤ other.at) ⊎ (write_end other ≤ one.at)

-- work that can be done between disks of its sizes: the transfers and writes lie behind sector 0 and on the disks, and
-- no sector is written twice
pub record IsCarriable (work : Work) : Type 0 where
  pub some : 0 < work.target_sectors
  pub first_long : length work.first ≡ 512
  pub between : All (IsBetween work.source_sectors work.target_sectors) work.transfers
  pub behind_first : All (λ (t : Transfer). 1 ≤ t.to) work.transfers
  pub apart : AllPairs WriteApart work.transfers
  pub places : All (IsWritePlace work.target_sectors) work.writes
  pub beside : All (λ (write : SectorWrite). All (LiesBeside write) work.transfers) work.writes
  pub writes_apart : AllPairs WritesLieApart work.writes

-- a target that reads as no table
abbrev pub HasNoTable : List ℕ → Type 0
HasNoTable image = sector image 0 ≡ replicate 512 0

-- where the source failed, the target has no table
abbrev pub LeavesNoTable : List ℕ → DeviceFault → Type 0
LeavesNoTable image Source = HasNoTable image
LeavesNoTable image Target = Unit {0}

-- a target that holds what it held, reads as no table, or has the work done: nothing that a reader could take for the
-- work while it isn't
abbrev pub IsAtGate : Work → List ℕ → List ℕ → List ℕ → Type 0
IsAtGate work source old new = (new ≡ old) ⊎ HasNoTable new ⊎ IsDone work source old new

-- of a call that was lent the two disks, where they tell what they hold: the work is done
abbrev pub Finishes : {S T : Type 0} → Work → BlocksGhosts S → S → BlocksGhosts T → T → T → Type 0
Finishes work s source t target target' =
    IsTrue s.tells → IsTrue t.tells → IsDone work (s.image source) (t.image target) (t.image target')

-- the target is at the gate
abbrev pub EndsAtGate : {S T : Type 0} → Work → BlocksGhosts S → S → BlocksGhosts T → T → T → Type 0
EndsAtGate work s source t target target' =
    IsTrue s.tells → IsTrue t.tells → IsAtGate work (s.image source) (t.image target) (t.image target')

-- a stop at any moment of the call leaves the target at the gate, where a stop before it left what the target held
abbrev pub StopsAtGate : {S T : Type 0} → Work → BlocksGhosts S → S → BlocksGhosts T → DiskGhosts T → T → T → Type 0
StopsAtGate work s source t d target target' =
    IsTrue s.tells → IsTrue d.tells_stops → IsSettled (t.image target) (d.stops target)
    → LeavesOnly (IsAtGate work (s.image source) (t.image target)) (d.stops target) (d.stops target')
