-- What a call adds to the sectors that are gathered of a disk.
use Rattle.std.specs.Prelude.{◌≡◌, ℕ, ◌+◌, ◌*◌, ◌<◌, ◌≤◌, ◌⊎◌, ◌↔◌, List, Some, Contains, slice_get}
use Rattle.disk_base.specs.declared.run.Run.{Run}
use Rattle.disk_view.specs.Join.{place, total}
use Rattle.run_set.specs.Runs.{Holds}
use Rattle.xfs_check.specs.Volume.{GroupSpace, VolumeSpace}
use Rattle.free_sectors.specs.declared.putting.Gathered.{Gathered}

-- the sectors of the disk among some numbers are added
pub record Gathers (old new : Gathered) (added : ℕ → Type 0) : Type 0 where
  pub same_disk : new.sectors ≡ old.sectors
  pub holds : (x : ℕ) → Holds new.set x ↔ (Holds old.set x ⊎ ((x < old.sectors) × added x))

-- x is sector k of the join of some runs, for one of the n numbers k from first on
pub record StandsInJoin (runs : List Run) (first n x : ℕ) : Type 0 where
  pub k : ℕ
  pub from : first ≤ k
  pub before : k < first + n
  pub below : k < total runs
  pub stands : place runs k ≡ x

-- sector x is in a free block of that group of an XFS volume, which stands in some runs
pub record IsFreeInGroup (runs : List Run) (volume : VolumeSpace) (number x : ℕ) : Type 0 where
  pub group : GroupSpace
  pub is_group : slice_get volume.groups number ≡ Some group
  pub run : ℕ × ℕ
  pub among : Contains group.free.runs run
  pub at : StandsInJoin runs (8 * (volume.geometry.agblocks * number + run.0)) (8 * run.1) x

-- one of the first n numbers does it to x
abbrev pub SomeBelow : ℕ → (ℕ → ℕ → Type 0) → ℕ → Type 0
SomeBelow n does x = (k : ℕ) × (k < n) × does k x

-- the item of that index does it to x
abbrev pub DoesItem : {A : Type 0} → List A → (A → ℕ → Type 0) → ℕ → ℕ → Type 0
DoesItem {A} items does k x = (item : A) × (slice_get items k ≡ Some item) × does item x
