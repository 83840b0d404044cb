-- What the phases of the writing leave; no more than the contracts inside this crate name it.
use Rattle.std.specs.Prelude.{◌≡◌, ℕ, ◌+◌, ◌<◌, ◌⊎◌, List, length, slice_index_or, IsTrue}
use Rattle.disk_base.specs.declared.device.Blocks.{Ghosts as BlocksGhosts}
use Rattle.disk_base.specs.Image.{sector, with_bytes}
use Rattle.run_copy.specs.declared.transfer.Transfer.{Transfer}
use Rattle.run_copy.specs.Copies.{IsOutside, due}
use Rattle.target_work.specs.declared.sector_write.SectorWrite.{SectorWrite}
use Rattle.target_work.specs.Works.{AreStanding, IsBeside, Work}

-- a disk that is as it was, or has `bytes` from byte `from` on
abbrev pub OldOrWith : ℕ → List ℕ → List ℕ → List ℕ → Type 0
OldOrWith from bytes old new = (new ≡ old) ⊎ (new ≡ with_bytes old from bytes)

-- a disk whose sector 0 and length stay
pub record KeepsFirst (old new : List ℕ) : Type 0 where
  pub same_length : length new ≡ length old
  pub first : sector new 0 ≡ sector old 0

-- the first n writes were made, and nothing else was changed
pub record ArePut (writes : List SectorWrite) (n : ℕ) (old new : List ℕ) : Type 0 where
  pub same_length : length new ≡ length old
  pub written : AreStanding writes n new
  pub others : (k : ℕ) → ((i : ℕ) (d : SectorWrite) → i < n → IsBeside (slice_index_or writes i d) k)
      → sector new k ≡ sector old k

-- whatever was made of them, nothing beside the writes was changed
pub record OnlyInWrites (writes : List SectorWrite) (old new : List ℕ) : Type 0 where
  pub same_length : length new ≡ length old
  pub others : (k : ℕ) → ((i : ℕ) (d : SectorWrite) → i < length writes → IsBeside (slice_index_or writes i d) k)
      → sector new k ≡ sector old k

-- all that stands behind sector 0 was written, and nothing else was changed
pub record IsFilled (work : Work) (source old new : List ℕ) : Type 0 where
  pub keeps_first : KeepsFirst old new
  pub copied : (i : ℕ) (d : Transfer) → i < length work.transfers → (k : ℕ) → k < (slice_index_or work.transfers i d).count
      → sector new ((slice_index_or work.transfers i d).to + k) ≡ due source old (slice_index_or work.transfers i d) k
  pub written : AreStanding work.writes (length work.writes) new
  pub others : (k : ℕ)
      → ((i : ℕ) (d : Transfer) → i < length work.transfers
      → IsOutside (slice_index_or work.transfers i d) (slice_index_or work.transfers i d).count k)
      → ((i : ℕ) (d : SectorWrite) → i < length work.writes → IsBeside (slice_index_or work.writes i d) k)
      → sector new k ≡ sector old k

-- the same of a call that was lent the two disks
abbrev pub Fills : {S T : Type 0} → Work → BlocksGhosts S → S → BlocksGhosts T → T → T → Type 0
Fills work s source t target target' =
    IsTrue s.tells → IsTrue t.tells → IsFilled work (s.image source) (t.image target) (t.image target')
