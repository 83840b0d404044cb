-- What the steps of deciding answer to each other.
use Rattle.std.specs.Prelude.{◌≡◌, ℕ, ◌≤◌, true, false, List, All, AllPairs, Option, Some, None, slice_get}
use Rattle.guest_view.specs.Guests.{GuestView, kind_of}
use Rattle.run_copy.specs.Copies.{IsBetween, WriteApart}
use Rattle.run_copy.specs.declared.transfer.Transfer.{Transfer}
use Rattle.target_work.specs.declared.sector_write.SectorWrite.{SectorWrite}
use Rattle.layout_plan.specs.Plans.{Plan}
use Rattle.run_end.specs.declared.end.Refusal.{Refusal}
use Rattle.run_end.specs.declared.end.Refusal.TheVariants.{Usage, NotYet, Source, Plan as Unplanned, Memory}
use Rattle.run_end.specs.declared.end.SourceFault.TheVariants.{Guest, Volume}
use Rattle.run_end.specs.declared.end.VolumeFault.{VolumeFault}
use Rattle.target_table.specs.Planned.{AreTableSectors, IsBesidePlan, IsGuestPlan}
use Rattle.target_work.specs.Works.{LiesBeside, Work}
use Rattle.words.specs.declared.job.ResizeJob.{ResizeJob}
use Rattle.words.specs.declared.job.Unknown.{Unknown}
use Rattle.words.specs.declared.job.Unknown.TheVariants.{Error}
use Rattle.resize_core.specs.declared.ready.Ready.{Ready}
use Rattle.resize_core.specs.Contents.{head_for, transfers_of}
use Rattle.resize_core.specs.Growth.{first_stuck, has_growth, stuck_parts}
use Rattle.resize_core.specs.Resizing.{IsPlanFor, IsWithoutPlan}

-- the plan of a job, with what is known of every plan
abbrev pub IsPlannedFor : ResizeJob → GuestView → ℕ → Plan → Type 0
IsPlannedFor job guest sectors plan = IsGuestPlan guest job.wishes job.layout sectors plan

-- why there is none, or that memory was refused
abbrev pub IsUnplanned : ResizeJob → GuestView → ℕ → Refusal → Type 0
IsUnplanned job guest sectors Memory = Unit {0}
IsUnplanned job guest sectors (Unplanned fault) = IsWithoutPlan job guest sectors fault
IsUnplanned job guest sectors (Usage usage) = ⊥
IsUnplanned job guest sectors NotYet = ⊥
IsUnplanned job guest sectors (Source fault) = ⊥

-- the first of the contents that can't grow, where that is an error
pub record IsStuckOf (unknown : Unknown) (stuck : List VolumeFault) (first : Option VolumeFault) : Type 0 where
  pub error : (fault : VolumeFault) → first ≡ Some fault → (unknown ≡ Error) × (slice_get stuck 0 ≡ Some fault)
  pub none : first ≡ None → unknown ≡ Error → slice_get stuck 0 ≡ None

-- transfers between the disks that share no sector on the target, behind sector 0, and beside all writes that keep off
-- what a plan places
pub record AreTransfers (guest : GuestView) (plan : Plan) (sectors : ℕ) (transfers : List Transfer) : Type 0 where
  pub between : All (IsBetween guest.sectors sectors) transfers
  pub behind_first : All (λ (t : Transfer). 1 ≤ t.to) transfers
  pub apart : AllPairs WriteApart transfers
  pub beside : (write : SectorWrite) → IsBesidePlan (kind_of guest.table) plan sectors write → All (LiesBeside write) transfers

-- the work that was made for a plan, where the source's sector 0 begins with that head
pub record IsMade (job : ResizeJob) (guest : GuestView) (plan : Plan) (head : List ℕ) (sectors : ℕ) (work : Work) : Type 0 where
  pub table : AreTableSectors guest.table plan (head_for job.boot head) sectors work.first work.writes
  pub transfers : work.transfers ≡ transfers_of job guest plan
  pub between : All (IsBetween guest.sectors sectors) work.transfers
  pub from : work.source_sectors ≡ guest.sectors
  pub to : work.target_sectors ≡ sectors

-- all that is ready
pub record IsReadyFor (job : ResizeJob) (guest : GuestView) (head : List ℕ) (sectors : ℕ) (ready : Ready) : Type 0 where
  pub planned : IsPlannedFor job guest sectors ready.planned
  pub stuck : ready.stuck.items ≡ stuck_parts job.grow ready.planned guest.parts
  pub unstuck : job.unknown ≡ Error → first_stuck job.grow ready.planned guest.parts ≡ None
  pub served : has_growth job.grow ready.planned guest.parts ≡ false
  pub made : IsMade job guest ready.planned head sectors ready.writing

-- a content has to grow and can't, where that is an error
pub record IsStuckFor (job : ResizeJob) (guest : GuestView) (sectors : ℕ) (fault : VolumeFault) : Type 0 where
  pub plan : Plan
  pub is_plan : IsPlanFor job guest sectors plan
  pub error : job.unknown ≡ Error
  pub first : first_stuck job.grow plan guest.parts ≡ Some fault

-- a content has to grow
pub record HasGrowthIn (job : ResizeJob) (guest : GuestView) (sectors : ℕ) : Type 0 where
  pub plan : Plan
  pub is_plan : IsPlanFor job guest sectors plan
  pub unstuck : job.unknown ≡ Error → first_stuck job.grow plan guest.parts ≡ None
  pub grows : has_growth job.grow plan guest.parts ≡ true

-- why nothing is made ready
abbrev pub IsRefusedFor : ResizeJob → GuestView → ℕ → Refusal → Type 0
IsRefusedFor job guest sectors Memory = Unit {0}
IsRefusedFor job guest sectors (Unplanned fault) = IsWithoutPlan job guest sectors fault
IsRefusedFor job guest sectors (Source (Volume fault)) = IsStuckFor job guest sectors fault
IsRefusedFor job guest sectors (Source (Guest fault)) = ⊥
IsRefusedFor job guest sectors (Usage usage) = ⊥
IsRefusedFor job guest sectors NotYet = HasGrowthIn job guest sectors
