-- What the finished target is read as, beside its table: the contents of the source's partitions.
use Rattle.std.specs.Prelude.{◌≡◌, ℕ, ◌+◌, ◌-◌, ◌*◌, ◌<◌, ◌⊎◌, Contains, min, true, false, IsTrue, List, All, Some}
use Rattle.std.specs.List.{AllZip}
use Rattle.disk_base.specs.Image.{bytes_at, sector}
use Rattle.disk_base.specs.Run.{IsInside, run_of}
use Rattle.disk_base.specs.declared.run.Run.{Run}
use Rattle.disk_view.specs.Join.{joined_runs}
use Rattle.group_content.specs.declared.types.GroupVolume.{GroupVolume}
use Rattle.guest_view.specs.declared.content.Content.{Content}
use Rattle.guest_view.specs.declared.content.Content.TheVariants.{Extended, Xfs, Swap, Group, Member, Unread}
use Rattle.guest_view.specs.declared.guest.GuestPart.{GuestPart}
use Rattle.guest_view.specs.declared.table.Table.{Table}
use Rattle.guest_view.specs.Guests.{GuestView}
use Rattle.guest_view.specs.Contents.{planned_part}
use Rattle.guest_view.specs.Laws.{IsUncut, StaysContent, part_bytes}
use Rattle.layout_plan.specs.declared.part.Placed.{Placed}
use Rattle.layout_plan.specs.declared.wish.Wish.{Wish}
use Rattle.layout_plan.specs.Plans.{Plan}
use Rattle.layout_plan.specs.Wishes.{is_gone}
use Rattle.run_copy.specs.Copies.{all_zero}
use Rattle.target_table.specs.Planned.{HasSameName, parts_to_plan}
use Rattle.words.specs.declared.job.ResizeJob.{ResizeJob}
use Rattle.resize_core.specs.Contents.{is_copied, placed_from}
use Rattle.resize_core.specs.Growth.{has_lost}

-- a partition is on the target, under a number that may be lower, with its name, with the sectors that it has on the source,
-- as many as the shorter one has, and with what it holds: an XFS volume with the same file at every path, the same swap area,
-- or a physical volume with the same label and the same texts
pub record IsSamePart (table table' : Table) (source target : List ℕ) (part : GuestPart) (placed : Placed) : Type 0 where
  pub name : HasSameName table table' part.number placed.number
  pub content : (k : ℕ) → k < min part.count placed.count → sector target (placed.start + k) ≡ sector source (part.start + k)
  pub stays : StaysContent part.content placed.count (part_bytes source part) (bytes_at target (512 * placed.start) (512 * placed.count))

-- where a partition's content is copied and isn't cut
abbrev pub KeepsPart : Table → Table → Plan → List ℕ → List ℕ → GuestPart → Type 0
KeepsPart table table' plan source target part =
    (placed : Placed) → placed_from plan part.number ≡ Some placed → is_copied placed.fate ≡ true → IsUncut part.content part.count placed.count
    → IsSamePart table table' source target part placed

-- ---- logical volumes

-- a run of a partition of the source, and the run that it comes to be
pub record IsMovedRun (plan : Plan) (parts : List GuestPart) (run moved : Run) : Type 0 where
  pub part : GuestPart
  pub among : Contains parts part
  pub placed : Placed
  pub found : placed_from plan part.number ≡ Some placed
  pub inside : IsInside run (run_of part.start (min part.count placed.count))
  pub moved_is : moved ≡ run_of (placed.start + (run.start - part.start)) run.count

-- a logical volume stands where the runs of its own came to stand, and has the same bytes there: so it holds the same
pub record IsSameVolume (plan : Plan) (parts : List GuestPart) (source target : List ℕ) (volume : GroupVolume) : Type 0 where
  pub runs : List Run
  pub moved : AllZip (IsMovedRun plan parts) volume.runs.items runs
  pub same : joined_runs target runs ≡ joined_runs source volume.runs.items

-- those of a group that loses no physical volume
abbrev pub KeepsVolumes : Plan → List GuestPart → List ℕ → List ℕ → Content → Type 0
KeepsVolumes plan parts source target Extended = Unit {0}
KeepsVolumes plan parts source target (Xfs volume) = Unit {0}
KeepsVolumes plan parts source target (Swap swap) = Unit {0}
KeepsVolumes plan parts source target (Group physical membership group) =
    has_lost plan parts membership.holder ≡ false → All (IsSameVolume plan parts source target) group.volumes.items
KeepsVolumes plan parts source target (Member physical membership) = Unit {0}
KeepsVolumes plan parts source target (Unread cause) = Unit {0}

-- ---- the whole

-- a partition that the job lets stand is placed
abbrev pub IsNotLost : List Wish → GuestView → Plan → GuestPart → Type 0
IsNotLost wishes guest plan part =
    is_gone wishes (parts_to_plan guest) (planned_part part) ≡ false
    → (placed : Placed) × (placed_from plan part.number ≡ Some placed)

-- the target reads as the source: each partition that is copied and not cut is the source's, with the logical volumes of
-- each group that loses none of its partitions, and none is lost that is to stand
pub record ReadsSame (wishes : List Wish) (guest : GuestView) (plan : Plan) (table' : Table) (source target : List ℕ) : Type 0 where
  pub each : All (KeepsPart guest.table table' plan source target) guest.parts
  pub volumes : All (λ (part : GuestPart). KeepsVolumes plan guest.parts source target part.content) guest.parts
  pub none_lost : All (IsNotLost wishes guest plan) guest.parts

-- zeros of the source are on the target what they are on the source: all is written, or the target was all zero
abbrev pub KeepsZeros : ResizeJob → List ℕ → Type 0
KeepsZeros job old = (job.sparse ≡ false) ⊎ IsTrue (all_zero old)
