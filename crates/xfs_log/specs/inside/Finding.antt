-- The newest record of the first sectors of a log, as it is looked for. A log is given by its sectors, one for each
-- place.
use Rattle.std.specs.Prelude.{◌≡◌, ℕ, ◌+◌, ◌*◌, ◌<◌, ◌≤◌, true, Option, Some, None, List}
use Rattle.disk_base.specs.Image.{sector}
use Rattle.xfs_super.specs.Geometry.{Geometry}
use Rattle.xfs_log.specs.declared.finding.Newest.{Newest}
use Rattle.xfs_log.specs.Log.{log_first, is_record_header, record_cycle}

-- the sector at a place of the log of a volume, which a disk holds
abbrev pub sector_of_log : Geometry → List ℕ → ℕ → List ℕ
sector_of_log geo image place = sector image (8 * log_first geo + place)

-- of the first n sectors, none that begins a record is of a greater cycle, or of this one and at a later place
pub record IsNewestBelow (sectors : ℕ → List ℕ) (n : ℕ) (best : Newest) : Type 0 where
  pub there : best.place < n
  pub header : is_record_header (sectors best.place) ≡ true
  pub cycle : best.cycle ≡ record_cycle (sectors best.place)
  pub greatest : (j : ℕ) → j < n → is_record_header (sectors j) ≡ true → record_cycle (sectors j) ≤ best.cycle
  pub latest :
      (j : ℕ) → best.place < j → j < n → is_record_header (sectors j) ≡ true → record_cycle (sectors j) < best.cycle

-- what was found in the first n sectors
abbrev pub FindsNewest : (ℕ → List ℕ) → ℕ → Option Newest → Type 0
FindsNewest sectors n None = (j : ℕ) → j < n → is_record_header (sectors j) ≡ true → ⊥
FindsNewest sectors n (Some best) = IsNewestBelow sectors n best
