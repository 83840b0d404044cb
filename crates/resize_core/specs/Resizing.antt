-- What virt-resize means: its refusals, its work, what the work leaves, and what is printed.
use Rattle.std.specs.Prelude.{◌≡◌, ℕ, ◌⊎◌, true, false, not, List, Option, Some, None}
use Rattle.disk_base.specs.declared.device.Blocks.{Ghosts as BlocksGhosts}
use Rattle.disk_base.specs.declared.device.DeviceFault.{DeviceFault}
use Rattle.disk_base.specs.declared.device.DeviceFault.TheVariants as devices
use Rattle.disk_base.specs.declared.device.Mode.TheVariants.{Read, Change}
use Rattle.disk_base.specs.Devices.{Use}
use Rattle.disk_base.specs.Image.{sectors_of}
use Rattle.guest_view.specs.declared.fault.InspectFault.{InspectFault}
use Rattle.guest_view.specs.declared.fault.InspectFault.TheVariants as guests
use Rattle.guest_view.specs.Guests.{GuestView, IsGuest, IsNoGuest, IsTableOf, kind_of}
use Rattle.layout_plan.specs.declared.fault.NoPlan.{NoPlan}
use Rattle.layout_plan.specs.declared.fault.NoPlan.TheVariants.{Memory as TooLittleMemory}
use Rattle.layout_plan.specs.Plans.{IsPlan, Plan}
use Rattle.layout_plan.specs.Refusals.{HasNoPlan}
use Rattle.run_end.specs.declared.end.Refusal.{Refusal}
use Rattle.run_end.specs.declared.end.Refusal.TheVariants.{Usage, NotYet, Source, Plan as Unplanned, Memory}
use Rattle.run_end.specs.declared.end.SourceFault.{SourceFault}
use Rattle.run_end.specs.declared.end.SourceFault.TheVariants.{Guest, Volume}
use Rattle.run_end.specs.declared.end.VolumeFault.{VolumeFault}
use Rattle.run_end.specs.Ending.{Meaning}
use Rattle.target_table.specs.Planned.{HasPlaced, parts_to_plan}
use Rattle.target_work.specs.Works.{HasNoTable, IsDone, Work}
use Rattle.words.specs.declared.job.ResizeJob.{ResizeJob}
use Rattle.words.specs.declared.job.Unknown.TheVariants.{Error}
use Rattle.resize_core.specs.Contents.{IsWorkOf, table_to_have}
use Rattle.resize_core.specs.Growth.{first_stuck, has_growth}
use Rattle.resize_core.specs.Same.{KeepsZeros, ReadsSame}
use Rattle.resize_core.specs.Summary.{last_line, lines_of, shown}

-- the guest of a disk
abbrev pub IsGuestIn : List ℕ → GuestView → Type 0
IsGuestIn image guest = IsGuest (sectors_of image) image guest

-- the plan of a job for a guest on a target of so many sectors
abbrev pub IsPlanFor : ResizeJob → GuestView → ℕ → Plan → Type 0
IsPlanFor job guest sectors plan = IsPlan (kind_of guest.table) (parts_to_plan guest) job.wishes job.layout sectors plan

-- why a disk is no guest; what a device and want of memory say of it is nothing
abbrev pub IsBadSource : List ℕ → InspectFault → Type 0
IsBadSource image guests.Device = ⊥
IsBadSource image guests.Memory = ⊥
IsBadSource image fault = IsNoGuest (sectors_of image) image fault

-- why there is no plan for these partitions; want of memory is no reason
abbrev pub IsWithoutPlan : ResizeJob → GuestView → ℕ → NoPlan → Type 0
IsWithoutPlan job guest sectors TooLittleMemory = ⊥
IsWithoutPlan job guest sectors fault = HasNoPlan (kind_of guest.table) (parts_to_plan guest) job.wishes job.layout sectors fault

pub record HasNoPlanFor (job : ResizeJob) (source target : List ℕ) (fault : NoPlan) : Type 0 where
  pub guest : GuestView
  pub is_guest : IsGuestIn source guest
  pub none : IsWithoutPlan job guest (sectors_of target) fault

-- a guest and the plan of a job for it
pub record HasPlanFor (job : ResizeJob) (source target : List ℕ) (guest : GuestView) (plan : Plan) : Type 0 where
  pub is_guest : IsGuestIn source guest
  pub is_plan : IsPlanFor job guest (sectors_of target) plan

-- a content has to grow and can't, where that is an error: it is the first by number
pub record IsStuck (job : ResizeJob) (source target : List ℕ) (fault : VolumeFault) : Type 0 where
  pub guest : GuestView
  pub plan : Plan
  pub planned : HasPlanFor job source target guest plan
  pub error : job.unknown ≡ Error
  pub first : first_stuck job.grow plan guest.parts ≡ Some fault

-- a content has to grow, which isn't served yet
pub record HasGrowthFor (job : ResizeJob) (source target : List ℕ) : Type 0 where
  pub guest : GuestView
  pub plan : Plan
  pub planned : HasPlanFor job source target guest plan
  pub unstuck : job.unknown ≡ Error → first_stuck job.grow plan guest.parts ≡ None
  pub grows : has_growth job.grow plan guest.parts ≡ true

-- why a disk is no source for a job
abbrev pub IsNoSource : ResizeJob → List ℕ → List ℕ → SourceFault → Type 0
IsNoSource job source target (Guest fault) = IsBadSource source fault
IsNoSource job source target (Volume fault) = IsStuck job source target fault

-- the refusals that are due of a job
abbrev pub IsResizeRefused : ResizeJob → List ℕ → List ℕ → Refusal → Type 0
IsResizeRefused job source target (Usage usage) = ⊥
IsResizeRefused job source target NotYet = HasGrowthFor job source target
IsResizeRefused job source target (Source fault) = IsNoSource job source target fault
IsResizeRefused job source target (Unplanned fault) = HasNoPlanFor job source target fault
IsResizeRefused job source target Memory = ⊥

-- a guest and a plan for which the job is to be done: where a content that can't grow is an error, there is none, and no
-- content has to grow
pub record IsToDo (job : ResizeJob) (source target : List ℕ) (guest : GuestView) (plan : Plan) : Type 0 where
  pub planned : HasPlanFor job source target guest plan
  pub unstuck : job.unknown ≡ Error → first_stuck job.grow plan guest.parts ≡ None
  pub served : has_growth job.grow plan guest.parts ≡ false

pub record HasWork (job : ResizeJob) (source target : List ℕ) : Type 0 where
  pub guest : GuestView
  pub plan : Plan
  pub to_do : IsToDo job source target guest plan

-- the target holds the work that is due, done; it has the planned table, and reads as the source where zeros are kept
pub record IsFinished (job : ResizeJob) (source old new : List ℕ) : Type 0 where
  pub guest : GuestView
  pub plan : Plan
  pub to_do : IsToDo job source old guest plan
  pub work : Work
  pub is_work : IsWorkOf job source guest plan (sectors_of old) work
  pub done : IsDone work source old new
  pub table : IsTableOf (sectors_of new) new (table_to_have job source guest plan)
  pub planned : HasPlaced (table_to_have job source guest plan) plan
  pub same : KeepsZeros job old → ReadsSame job.wishes guest plan (table_to_have job source guest plan) source new

-- what a stop at any moment may leave of the target, beside what it held: no table, or the work done
abbrev pub PassesResize : ResizeJob → List ℕ → List ℕ → List ℕ → Type 0
PassesResize job source old new = HasNoTable new ⊎ IsFinished job source old new

-- what the target may hold where a disk failed under the work: where the source failed it has no table; where it failed
-- itself it holds what it held, has no table, or is finished
abbrev pub IsCutResize : ResizeJob → List ℕ → List ℕ → DeviceFault → List ℕ → Type 0
IsCutResize job source old devices.Source new = HasNoTable new
IsCutResize job source old devices.Target new = (new ≡ old) ⊎ HasNoTable new ⊎ IsFinished job source old new

-- the summary of the work that is due, and the last line
pub record HasResizeLines (job : ResizeJob) (source target before after : List ℕ) : Type 0 where
  pub guest : GuestView
  pub plan : Plan
  pub to_do : IsToDo job source target guest plan
  pub summary : before ≡ shown (not job.quiet) (lines_of job guest plan)
  pub last : after ≡ shown (not job.quiet) (last_line job.dry)

-- how a job uses its disks
abbrev pub to_read : List ℕ → Option Use
to_read name = Some (record { name = name; mode = Read })

abbrev pub to_change : List ℕ → Option Use
to_change name = Some (record { name = name; mode = Change })

-- what a job means on disks that hold this
abbrev pub resize_of : ResizeJob → List ℕ → List ℕ → Meaning
resize_of job source target = record {
  source = to_read job.source;
  target = to_change job.target;
  refused = IsResizeRefused job source target;
  work = HasWork job source target;
  writes = not job.dry;
  prints = not job.quiet;
  finished = IsFinished job source target;
  cut = IsCutResize job source target;
  passes = PassesResize job source target;
  lines = HasResizeLines job source target;
}

-- the same by what the two disks hold that a call was lent
abbrev pub resize_on : {S T : Type 0} → ResizeJob → BlocksGhosts S → S → BlocksGhosts T → T → Meaning
resize_on job s source t target = resize_of job (s.image source) (t.image target)
