-- What the steps of a job answer to each other.
use Rattle.std.specs.Prelude.{◌≡◌, ◌≢◌, ℕ, false, ◌⊎◌, List, [], ◌++◌, Option, Some, None, not, IsTrue, string_bytes}
use Rattle.disk_base.specs.declared.device.Blocks.{Ghosts as BlocksGhosts}
use Rattle.disk_base.specs.declared.device.Disk.{Ghosts as DiskGhosts}
use Rattle.disk_base.specs.declared.output.Sink.{Ghosts as SinkGhosts}
use Rattle.disk_base.specs.Devices.{CausedBy, GainsPrefix, Held, Untouched, Use, held}
use Rattle.disk_base.specs.Faults.{Rose}
use Rattle.disk_base.specs.Image.{sectors_of}
use Rattle.disk_base.specs.Stops.{IsSettled, LeavesOnly}
use Rattle.disk_base.specs.declared.device.DeviceFault.{DeviceFault}
use Rattle.disk_base.specs.declared.device.DeviceFault.TheVariants as devices
use Rattle.disk_base.specs.declared.device.Mode.{Mode}
use Rattle.disk_base.specs.declared.device.Mode.TheVariants.{Read}
use Rattle.guest_view.specs.Guests.{GuestView}
use Rattle.layout_plan.specs.Plans.{Plan}
use Rattle.run_end.specs.declared.end.End.{End}
use Rattle.run_end.specs.declared.end.Failing.{Failing}
use Rattle.run_end.specs.declared.end.Failing.TheVariants.{Device as FailedDevice, Printing}
use Rattle.run_end.specs.declared.end.Refusal.TheVariants.{Memory, Source}
use Rattle.run_end.specs.declared.end.SourceFault.TheVariants.{Guest}
use Rattle.guest_view.specs.declared.fault.InspectFault.{InspectFault}
use Rattle.guest_view.specs.declared.fault.InspectFault.TheVariants as guests
use Rattle.words.specs.declared.job.Unknown.TheVariants.{Error}
use Rattle.resize_core.specs.declared.job.Prepared.{Prepared}
use Rattle.resize_core.specs.Growth.{first_stuck, has_growth}
use Rattle.run_end.specs.Ending.{Cause, EndLeaves, MayPass, Meaning, Prints}
use Rattle.target_work.specs.Works.{HasNoTable, IsAtGate, IsDone, Work}
use Rattle.words.specs.declared.job.ResizeJob.{ResizeJob}
use Rattle.resize_core.specs.declared.job.Unready.{Unready}
use Rattle.resize_core.specs.declared.job.Unready.TheVariants.{Refused, Device}
use Rattle.resize_core.specs.Contents.{head_of}
use Rattle.resize_core.specs.Resizing.{IsResizeRefused, IsToDo, resize_on}
use Rattle.resize_core.specs.Summary.{last_line, lines_of, shown}
use Rattle.resize_core.specs.inside.Deciding.{IsMade, IsPlannedFor}

-- the two texts of a job
abbrev pub summary_text : ResizeJob → GuestView → Plan → List ℕ
summary_text job guest plan = shown (not job.quiet) (lines_of job guest plan)

abbrev pub last_text : ResizeJob → List ℕ
last_text job = shown (not job.quiet) (last_line job.dry)

-- what a source that is no guest stops with
abbrev pub unready_of_fault : InspectFault → Unready
unready_of_fault guests.Device = Device
unready_of_fault guests.Memory = Refused Memory
unready_of_fault fault = Refused (Source (Guest fault))

-- the work that was made for a source as it was read
pub record IsPrepared (job : ResizeJob) (guest : GuestView) (head : List ℕ) (sectors : ℕ) (prepared : Prepared) : Type 0 where
  pub plan : Plan
  pub planned : IsPlannedFor job guest sectors plan
  pub unstuck : job.unknown ≡ Error → first_stuck job.grow plan guest.parts ≡ None
  pub served : has_growth job.grow plan guest.parts ≡ false
  pub made : IsMade job guest plan head sectors prepared.writing
  pub summary : string_bytes prepared.lines.summary ≡ summary_text job guest plan
  pub last : string_bytes prepared.lines.last ≡ last_text job

-- why no work is ready, by what the two disks hold
abbrev pub IsUnready : ResizeJob → List ℕ → List ℕ → Unready → Type 0
IsUnready job source target (Refused refusal) = (refusal ≡ Memory) ⊎ IsResizeRefused job source target refusal
IsUnready job source target Device = Unit {0}

-- where it was the device, its count rose
abbrev pub SourceFailed : Type 0 → Unready → Type 0
SourceFailed rose (Refused refusal) = Unit {0}
SourceFailed rose Device = rose

-- the work that is due, with its texts
pub record IsPreparedWork (job : ResizeJob) (source target : List ℕ) (work : Work) (before after : List ℕ) : Type 0 where
  pub guest : GuestView
  pub plan : Plan
  pub to_do : IsToDo job source target guest plan
  pub placed : IsPlannedFor job guest (sectors_of target) plan
  pub made : IsMade job guest plan (head_of source) (sectors_of target) work
  pub summary : before ≡ summary_text job guest plan
  pub last : after ≡ last_text job

-- where the target wasn't attached the source was
abbrev pub AttachedFirst : Option Mode → DeviceFault → Type 0
AttachedFirst source devices.Source = Unit {0}
AttachedFirst source devices.Target = source ≡ Some Read

-- there is something to print
abbrev pub HasText : List ℕ → List ℕ → Type 0
HasText before after = (before ≢ []) ⊎ (after ≢ [])

-- a job that prints something isn't quiet
abbrev pub IsShownBy : ResizeJob → List ℕ → List ℕ → Type 0
IsShownBy job before after = HasText before after → IsTrue (not job.quiet)

-- what printing two texts leaves where it failed
abbrev pub ShowsPart : List ℕ → List ℕ → List ℕ → List ℕ → Type 0
ShowsPart before after old new = GainsPrefix before old new ⊎ GainsPrefix after (old ++ before) new

-- the cause of a failure: whose count of faults rose
abbrev pub FailedBy : {S T O : Type 0} → List ℕ → List ℕ → BlocksGhosts S → S → S → BlocksGhosts T → T → T → SinkGhosts O → O → O → Failing → Type 0
FailedBy before after s source source' t target target' o out out' (FailedDevice fault) = CausedBy s source source' t target target' fault
FailedBy before after s source source' t target target' o out out' Printing = HasText before after × Rose (o.sink_faults out) (o.sink_faults out')

-- a disk that is as it was
pub record IsSame (old new : Held) : Type 0 where
  pub image : new.image ≡ old.image
  pub log : new.log ≡ old.log

-- what the target holds where a disk failed under the work
abbrev pub IsCutWork : Work → List ℕ → List ℕ → DeviceFault → List ℕ → Type 0
IsCutWork work source old devices.Source new = HasNoTable new
IsCutWork work source old devices.Target new = IsAtGate work source old new

-- what printing the lines and carrying out the work leave where something failed
abbrev pub IsCutShort : Work → List ℕ → Held → Held → Failing → Type 0
IsCutShort work source old new (FailedDevice fault) = IsCutWork work source old.image fault new.image
IsCutShort work source old new Printing = IsSame old new ⊎ IsDone work source old.image new.image

-- what they print then
abbrev pub PrintsPart : Work → List ℕ → List ℕ → List ℕ → Held → Held → List ℕ → List ℕ → Failing → Type 0
PrintsPart work before after source old new text text' (FailedDevice fault) = text' ≡ text ++ before
PrintsPart work before after source old new text text' Printing =
    (IsSame old new × GainsPrefix before text text') ⊎ (IsDone work source old.image new.image × GainsPrefix after (text ++ before) text')

-- the same of a call that was lent the disks and the stream
abbrev pub CutsDevice : {S T : Type 0} → Work → BlocksGhosts S → S → BlocksGhosts T → T → T → DeviceFault → Type 0
CutsDevice work s source t target target' fault = IsTrue s.tells → IsTrue t.tells → IsCutWork work (s.image source) (t.image target) fault (t.image target')

abbrev pub CutsShort : {S T : Type 0} → Work → BlocksGhosts S → S → BlocksGhosts T → DiskGhosts T → T → T → Failing → Type 0
CutsShort work s source t d target target' failing =
    IsTrue s.tells → IsTrue t.tells → IsCutShort work (s.image source) (held t d target) (held t d target') failing

abbrev pub CutsLines : {S T O : Type 0} → Work → List ℕ → List ℕ → BlocksGhosts S → S → BlocksGhosts T → DiskGhosts T → T → T → SinkGhosts O → O → O → Failing → Type 0
CutsLines work before after s source t d target target' o out out' failing =
    IsTrue s.tells → IsTrue t.tells → IsTrue o.tells_text
    → PrintsPart work before after (s.image source) (held t d target) (held t d target') (o.text out) (o.text out') failing

-- what is said of a job, where both disks tell what they hold
abbrev pub OnResize : {S T : Type 0} → ResizeJob → BlocksGhosts S → S → BlocksGhosts T → T → (Meaning → Type 0) → Type 0
OnResize job s source t target Says = IsTrue s.tells → IsTrue t.tells → Says (resize_on job s source t target)

-- the cause of how a job ended
abbrev pub CausesOn : {S T O : Type 0} → ResizeJob → BlocksGhosts S → S → S → BlocksGhosts T → T → T → SinkGhosts O → O → O → End → Type 0
CausesOn job s source source' t target target' o out out' end =
    Cause (resize_on job s source t target) (Rose (s.faults source) (s.faults source')) (Rose (t.faults target) (t.faults target'))
    (Rose (o.sink_faults out) (o.sink_faults out')) end

-- what an end leaves of the target, and prints
abbrev pub LeavesOn : {T : Type 0} → BlocksGhosts T → DiskGhosts T → T → T → End → Meaning → Type 0
LeavesOn t d target target' end m = EndLeaves m (held t d target) (held t d target') end

abbrev pub PrintsOn : {T O : Type 0} → BlocksGhosts T → DiskGhosts T → T → T → SinkGhosts O → O → O → End → Meaning → Type 0
PrintsOn t d target target' o out out' end m =
    IsTrue o.tells_text → Prints m (held t d target) (held t d target') (o.text out) (o.text out') end

-- what a stop at any moment leaves
abbrev pub StopsOn : {T : Type 0} → BlocksGhosts T → DiskGhosts T → T → T → Meaning → Type 0
StopsOn t d target target' m =
    IsTrue d.tells_stops → IsSettled (t.image target) (d.stops target)
    → LeavesOnly (MayPass m (t.image target)) (d.stops target) (d.stops target')

-- asked for at most once, as the job uses it, and not written since
abbrev pub AsksOnly : {D : Type 0} → BlocksGhosts D → DiskGhosts D → Option Use → D → D → Type 0
AsksOnly b d used disk disk' = IsTrue b.tells → Untouched used (held b d disk) (held b d disk')

-- the prepared work of a source, for every target of so many sectors
abbrev pub PreparedOn : {S : Type 0} → ResizeJob → BlocksGhosts S → S → ℕ → Work → List ℕ → List ℕ → Type 0
PreparedOn job s source sectors work before after =
    IsTrue s.tells → (target : List ℕ) → sectors_of target ≡ sectors → IsPreparedWork job (s.image source) target work before after

-- why there is none
abbrev pub UnreadyOn : {S : Type 0} → ResizeJob → BlocksGhosts S → S → ℕ → Unready → Type 0
UnreadyOn job s source sectors unready =
    IsTrue s.tells → (target : List ℕ) → sectors_of target ≡ sectors → IsUnready job (s.image source) target unready
