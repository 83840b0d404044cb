-- Sectors that are copied from one disk to another.
use Rattle.std.specs.Prelude.{◌≡◌, ℕ, zero, suc, ◌+◌, ◌-◌, ◌*◌, ◌/◌, ◌^◌, ◌<◌, ◌≤◌, ◌⊎◌, ◌==◌, ◌&&◌, Bool, if◌then◌else◌, min, List, length, slice_index_or, IsTrue}
use Rattle.std.specs.List.{list_all}
use Rattle.disk_base.specs.declared.device.Blocks.{Ghosts as BlocksGhosts}
use Rattle.disk_base.specs.declared.device.Disk.{Ghosts as DiskGhosts}
use Rattle.disk_base.specs.Image.{bytes_at, sector, AgreesOutside}
use Rattle.disk_base.specs.Log.{Log}
use Rattle.run_copy.specs.declared.transfer.Transfer.{Transfer}

-- each byte is zero
abbrev pub all_zero : List ℕ → Bool
all_zero bytes = list_all (λ byte. byte == 0) bytes

-- what is copied is divided, from its first sector on, into pieces of 2048 sectors, of which the last may be shorter
abbrev pub piece_of : List ℕ → Transfer → ℕ → List ℕ
piece_of source t j = bytes_at source (512 * (t.from + 2048 * j)) (512 * min 2048 (t.count - 2048 * j))

-- whether the piece is left out: pieces of zeros are, and it is one
abbrev pub is_left_out : List ℕ → Transfer → ℕ → Bool
is_left_out source t j = t.sparse && all_zero (piece_of source t j)

-- how many pieces the transfer has
abbrev pub pieces_of : Transfer → ℕ
pieces_of t = (t.count + 2047) / 2048

-- how many of the first n pieces aren't left out
abbrev pub pieces_written : List ℕ → Transfer → ℕ → ℕ
pieces_written source t zero = 0
pieces_written source t (suc j) = pieces_written source t j + (if is_left_out source t j then 0 else 1)

-- what the target is to hold in the k-th sector of what is copied: what the source has there, or what it held where the
-- sector's piece is left out
abbrev pub due : List ℕ → List ℕ → Transfer → ℕ → List ℕ
due source old t k = if is_left_out source t (k / 2048) then sector old (t.to + k) else sector source (t.from + k)

-- sector k isn't among the first n that the transfer writes
abbrev pub IsOutside : Transfer → ℕ → ℕ → Type 0
IsOutside t n k = t.to ≤ k → t.to + n ≤ k

-- the first n sectors of the transfer were copied, and nothing else was changed
pub record IsCopied (t : Transfer) (n : ℕ) (source old new : List ℕ) : Type 0 where
  pub same_length : length new ≡ length old
  pub copied : (k : ℕ) → k < n → sector new (t.to + k) ≡ due source old t k
  pub others : (k : ℕ) → IsOutside t n k → sector new k ≡ sector old k

-- the first n transfers were copied whole, and nothing else was changed
pub record AreCopied (ts : List Transfer) (n : ℕ) (source old new : List ℕ) : Type 0 where
  pub same_length : length new ≡ length old
  pub copied : (i : ℕ) (d : Transfer) → i < n → (k : ℕ) → k < (slice_index_or ts i d).count
      → sector new ((slice_index_or ts i d).to + k) ≡ due source old (slice_index_or ts i d) k
  pub others : (k : ℕ) → ((i : ℕ) (d : Transfer) → i < n → IsOutside (slice_index_or ts i d) (slice_index_or ts i d).count k) → sector new k ≡ sector old k

-- the same of a call that was lent the two disks, where they tell what they hold
abbrev pub Copied : {S T : Type 0} → BlocksGhosts S → S → BlocksGhosts T → T → T → Transfer → Type 0
Copied s source t target target' transfer =
    IsTrue s.tells → IsTrue t.tells → IsCopied transfer transfer.count (s.image source) (t.image target) (t.image target')

abbrev pub AllCopied : {S T : Type 0} → BlocksGhosts S → S → BlocksGhosts T → T → T → List Transfer → Type 0
AllCopied s source t target target' transfers =
    IsTrue s.tells → IsTrue t.tells → AreCopied transfers (length transfers) (s.image source) (t.image target) (t.image target')

-- between these two states of its log the disk was written at most so often
abbrev pub WritesAtMost : ℕ → Log → Log → Type 0
WritesAtMost n old new = new.writes ≤ old.writes + n

-- a call that was lent the two disks wrote at most once for each piece that isn't left out, where they tell what they hold
abbrev pub CopyWrites : {S T : Type 0} → BlocksGhosts S → S → BlocksGhosts T → DiskGhosts T → T → T → Transfer → Type 0
CopyWrites s source t disk target target' transfer =
    IsTrue s.tells → IsTrue t.tells → WritesAtMost (pieces_written (s.image source) transfer (pieces_of transfer)) (disk.log target) (disk.log target')

-- whatever was copied of it, nothing outside the transfer was changed
abbrev pub OnlyIn : Transfer → List ℕ → List ℕ → Type 0
OnlyIn t old new = AgreesOutside (512 * t.to) (512 * t.count) old new

-- whatever was copied of them, nothing outside the transfers was changed
pub record OnlyWithin (ts : List Transfer) (old new : List ℕ) : Type 0 where
  pub same_length : length new ≡ length old
  pub others : (k : ℕ) → ((i : ℕ) (d : Transfer) → i < length ts → IsOutside (slice_index_or ts i d) (slice_index_or ts i d).count k) → sector new k ≡ sector old k

-- two transfers write to different sectors
abbrev pub WriteApart : Transfer → Transfer → Type 0
WriteApart a b = (a.to + a.count ≤ b.to) ⊎ (b.to + b.count ≤ a.to)

-- a transfer between disks of so many sectors, each at most 2^31
pub record IsBetween (source_sectors target_sectors : ℕ) (t : Transfer) : Type 0 where
  pub few_source : source_sectors ≤ 2 ^ 31
  pub few_target : target_sectors ≤ 2 ^ 31
  pub source : t.from + t.count ≤ source_sectors
  pub target : t.to + t.count ≤ target_sectors
