-- From what preparing and carrying out the work answer to what is due, left and printed.
use Rattle.std.proofs.lemmas.Bool.{cases_Bool, false≢true}
use Rattle.std.proofs.Common.{◌≡◌, ◌≢◌, ℕ, List, [], sym, subst, ◌∙◌, ◌≤◌, ◌<◌, ◌*◌, arith, inl, inr, refl, ap, length, Bool, true, false, not, IsTrue, string_bytes}
use Rattle.std.specs.List.{list_any}
use Rattle.disk_base.specs.declared.device.Blocks.{Ghosts as BlocksGhosts}
use Rattle.disk_base.specs.declared.device.DeviceFault.{DeviceFault}
use Rattle.disk_base.specs.declared.device.DeviceFault.TheVariants as devices
use Rattle.disk_base.specs.declared.output.Sink.{Ghosts as SinkGhosts}
use Rattle.disk_base.specs.Devices.{Held, Untouched}
use Rattle.disk_base.specs.Faults.{Rose}
use Rattle.disk_base.specs.Image.{sector, sectors_of}
use Rattle.disk_base.specs.Stops.{AreOf, IsSettled, LeavesOnly, Stops, Waits}
use Rattle.disk_base.proofs.Moments.{adds_nothing, leaves_only}
use Rattle.disk_base.proofs.Uses.{untouched_since}
use Rattle.guest_view.specs.declared.fault.InspectFault.{InspectFault}
use Rattle.guest_view.specs.declared.fault.InspectFault.TheVariants as guests
use Rattle.guest_view.specs.declared.table.Table.{Table}
use Rattle.guest_view.specs.declared.table.Table.TheVariants.{Mbr, Gpt}
use Rattle.guest_view.specs.Guests.{GuestView, IsNoGuest, IsTableOf}
use Rattle.mbr_table.specs.Mbr.{slots_of}
use Rattle.mbr_table.specs.Slot.{stands_in}
use Rattle.run_end.specs.declared.end.End.TheVariants.{Failed}
use Rattle.run_end.specs.declared.end.Failing.{Failing}
use Rattle.run_end.specs.declared.end.Failing.TheVariants.{Device, Printing}
use Rattle.run_end.specs.declared.end.Refusal.{Refusal}
use Rattle.run_end.specs.declared.end.Refusal.TheVariants.{Usage, NotYet, Source, Plan as Unplanned, Memory}
use Rattle.run_end.specs.declared.end.SourceFault.TheVariants.{Guest, Volume}
use Rattle.run_end.specs.Ending.{Cause, IsDue, IsAsDue, EndLeaves, MayPass, Meaning, Prints, SettledBy, StaysSettled}
use Rattle.target_table.specs.Planned.{HasNoStandIn, planned_table}
use Rattle.target_work.specs.Works.{IsAtGate, IsDone, Work}
use Rattle.words.specs.declared.job.ResizeJob.{ResizeJob}
use Rattle.resize_core.specs.declared.job.Unready.TheVariants as unready
use Rattle.resize_core.specs.Contents.{head_for, head_of}
use Rattle.resize_core.specs.Resizing.{HasResizeLines, HasWork, IsCutResize, IsFinished, IsGuestIn, resize_of, resize_on}
use Rattle.resize_core.specs.Summary.{shown}
use Rattle.resize_core.specs.inside.Deciding.{IsMade, IsPlannedFor, IsRefusedFor}
use Rattle.resize_core.specs.declared.job.Prepared.{Prepared}
use Rattle.resize_core.specs.inside.Working.{FailedBy, IsCutShort, IsCutWork, IsPrepared, IsPreparedWork, IsSame, IsShownBy, IsUnready, PrintsPart, ShowsPart, unready_of_fault}
use Rattle.resize_core.proofs.Sameness.{reads_same}

-- how many sectors a disk of whole sectors has
pub sectors_is : (image : List ℕ) (n : ℕ) → length image ≡ 512 * n → sectors_of image ≡ n
sectors_is image n long = omega arith

-- a source that is no guest
pub bad_source : (job : ResizeJob) (source target : List ℕ) (n : ℕ) (fault : InspectFault) → sectors_of source ≡ n → IsNoGuest n source fault
    → IsUnready job source target (unready_of_fault fault)
bad_source job source target n guests.Device is why = tt
bad_source job source target n guests.Memory is why = inl refl
bad_source job source target n (guests.TooLarge m) is why = inr (rw is why)
bad_source job source target n guests.NoSignature is why = inr (rw is why)
bad_source job source target n (guests.Entry m) is why = inr (rw is why)
bad_source job source target n (guests.Chain at) is why = inr (rw is why)
bad_source job source target n (guests.TooMany at) is why = inr (rw is why)
bad_source job source target n guests.NoHeader is why = inr (rw is why)
bad_source job source target n (guests.Shape a b) is why = inr (rw is why)
bad_source job source target n (guests.Overlap a b) is why = inr (rw is why)

-- a refusal of the work for a guest
pub refused_for : (job : ResizeJob) (source target : List ℕ) (guest : GuestView) (refusal : Refusal) → IsGuestIn source guest → IsRefusedFor job guest (sectors_of target) refusal
    → IsUnready job source target (unready.Refused refusal)
refused_for job source target guest Memory is why = inl refl
refused_for job source target guest (Unplanned fault) is why = inr (record { guest = guest; is_guest = is; none = why })
refused_for job source target guest (Source (Volume fault)) is why = inr (record {
  guest = guest;
  plan = why.plan;
  planned = record { is_guest = is; is_plan = why.is_plan };
  error = why.error;
  first = why.first;
})
refused_for job source target guest (Source (Guest fault)) is why = absurd why
refused_for job source target guest (Usage usage) is why = absurd why
refused_for job source target guest NotYet is why = inr (record {
  guest = guest;
  plan = why.plan;
  planned = record { is_guest = is; is_plan = why.is_plan };
  unstuck = why.unstuck;
  grows = why.grows;
})

-- text that is shown, where there is some
shown_some : (prints : Bool) (text : List ℕ) → shown prints text ≢ [] → IsTrue prints
shown_some true text some = refl
shown_some false text some = absurd (some refl)

-- counts that rose since a later moment rose since an earlier one
pub cause_since : {S T O : Type 0} (sb : BlocksGhosts S) (tb : BlocksGhosts T) (o : SinkGhosts O) (job : ResizeJob) (before after : List ℕ)
    (source mid source' : S) (target middle target' : T) (out out' : O) (failing : Failing)
    → sb.faults source ≤ sb.faults mid → tb.faults target ≤ tb.faults middle
    → IsShownBy job before after
    → FailedBy before after sb mid source' tb middle target' o out out' failing
    → Cause (resize_on job sb source tb target) (Rose (sb.faults source) (sb.faults source')) (Rose (tb.faults target) (tb.faults target'))
    (Rose (o.sink_faults out) (o.sink_faults out')) (Failed failing)
cause_since sb tb o job before after source mid source' target middle target' out out' (Device devices.Source) low high prints caused = (tt, omega (arith, caused))
cause_since sb tb o job before after source mid source' target middle target' out out' (Device devices.Target) low high prints caused = (tt, omega (arith, caused))
cause_since sb tb o job before after source mid source' target middle target' out out' Printing low high prints caused = (prints caused.0, caused.1)

-- the lines of prepared work
pub lines_of_work : (job : ResizeJob) (source target : List ℕ) (work : Work) (before after : List ℕ) → IsPreparedWork job source target work before after
    → HasResizeLines job source target before after
lines_of_work job source target work before after prepared =
    record { guest = prepared.guest; plan = prepared.plan; to_do = prepared.to_do; summary = prepared.summary; last = prepared.last }

-- none of the slots of a table of its own stands in for another table
no_stand_in : (image : List ℕ) (n : ℕ) (table : Table) → IsTableOf n image table → HasNoStandIn table
no_stand_in image n (Gpt table) is = tt
no_stand_in image n (Mbr table) is =
    let some : 0 < n = is.1.in_sector.some in
    let slots : table.slots ≡ slots_of (sector image 0) = is.1.in_sector.slots in
    elim (cases_Bool (list_any stands_in table.slots)) [
      | inl yes_it ↦ absurd (is.0 (some, (is.1.in_sector.signature, ap (λ ss. list_any stands_in ss) (sym slots) ∙ yes_it)))
      | inr not_it ↦ not_it
    ]

-- work that is done on disks that hold what they held is the work that is due
pub finished_of : (job : ResizeJob) (source source' target mid target' : List ℕ) (work : Work) (before after : List ℕ) → source' ≡ source → mid ≡ target
    → ((n : ℕ) → sectors_of target ≡ n → length target ≡ 512 * n) → IsPreparedWork job source target work before after
    → IsDone work source' mid target' → IsFinished job source target target'
finished_of job source source' target mid target' work before after same same_target whole prepared done =
    let From : List ℕ → Type 0 = λ image. IsDone work image mid target' in
    let On : List ℕ → Type 0 = λ image. IsDone work source image target' in
    let is_done : IsDone work source target target' = subst On same_target (subst From same done) in
    let made = prepared.made in
    let is_guest = prepared.to_do.planned.is_guest in
    let long : length target' ≡ 512 * sectors_of target = is_done.same_length ∙ whole (sectors_of target) refl in
    let many : sectors_of target ≡ sectors_of target' = sym (sectors_is target' (sectors_of target) long) in
    let table' : Table = planned_table prepared.guest.table prepared.plan (head_for job.boot (head_of source)) in
    let OfTarget : ℕ → Type 0 = λ n. IsTableOf n target' table' in
    let none = no_stand_in source (sectors_of source) prepared.guest.table is_guest.table in
    record {
      guest = prepared.guest;
      plan = prepared.plan;
      to_do = prepared.to_do;
      work = work;
      is_work = record { first = made.table.first_is; writes = made.table.writes_are; transfers = made.transfers };
      done = is_done;
      table = subst OfTarget many (made.table.read_back none target' long is_done.first_is is_done.written);
      planned = made.table.planned;
      same = λ keeps.
          reads_same job prepared.guest prepared.plan table' (head_of source) source target target' work prepared.placed made is_guest.sectors_are made.table.names is_done keeps
          is_guest;
    }

-- what is left where something failed under the work
module _ (job : ResizeJob) (source source' : List ℕ) (old mid new : Held) (work : Work) (before after : List ℕ)
    (same : source' ≡ source) (was : Untouched (resize_of job source old.image).target old mid) (whole : (n : ℕ) → sectors_of old.image ≡ n → length old.image ≡ 512 * n)
    (prepared : IsPreparedWork job source old.image work before after) where
  finished : (image : List ℕ) → IsDone work source' mid.image image → IsFinished job source old.image image
  finished image done = finished_of job source source' old.image mid.image image work before after same was.image whole prepared done

  untouched : IsSame mid new → Untouched (resize_of job source old.image).target old new
  untouched kept = untouched_since _ old mid new was kept.image kept.log

  -- what the gate lets through
  pub passes : (image : List ℕ) → IsAtGate work source' mid.image image → MayPass (resize_of job source old.image) old.image image
  passes image gate = elim gate [
    | inl held ↦ inl (held ∙ was.image)
    | inr later ↦ elim later [ inl none ↦ inr (inl none) | inr done ↦ inr (inr (finished image done)) ]
  ]

  cut : (fault : DeviceFault) → IsCutWork work source' mid.image fault new.image → IsCutResize job source old.image fault new.image
  cut devices.Source left = left
  cut devices.Target left = passes new.image left

  -- where the work writes
  as_due : (writes : Bool) → writes ≡ true → IsDone work source' mid.image new.image → IsAsDue writes (resize_of job source old.image) old new
  as_due true is done = finished new.image done
  as_due false is done = absurd (false≢true is)

  pub left_done : not job.dry ≡ true → IsDone work source' mid.image new.image → IsAsDue (not job.dry) (resize_of job source old.image) old new
  left_done writes done = as_due (not job.dry) writes done

  pub left_after : (failing : Failing) → not job.dry ≡ true → IsCutShort work source' mid new failing → EndLeaves (resize_of job source old.image) old new (Failed failing)
  left_after (Device fault) writes left = inr (cut fault left)
  left_after Printing writes left = elim left [ inl kept ↦ inl (untouched kept) | inr done ↦ inr (left_done writes done) ]

  pub prints_part : (failing : Failing) (out out' : List ℕ) → not job.dry ≡ true → PrintsPart work before after source' mid new out out' failing
      → Prints (resize_of job source old.image) old new out out' (Failed failing)
  prints_part (Device fault) out out' writes part = inr (record { before = before; after = after; lines = lines_of_work job source old.image work before after prepared; gained = part })
  prints_part Printing out out' writes part = elim part [
    | inl first ↦ inl (untouched first.0, record { before = before; after = after; lines = lines_of_work job source old.image work before after prepared; gained = first.1 })
    | inr second ↦ inr (left_done writes second.0, record { before = before; after = after; lines = lines_of_work job source old.image work before after prepared; gained = second.1 })
  ]

-- a dry run
module _ (job : ResizeJob) (source : List ℕ) (old new : Held) (work : Work) (before after : List ℕ)
    (was : Untouched (resize_of job source old.image).target old new) (prepared : IsPreparedWork job source old.image work before after) where
  as_before : (writes : Bool) → writes ≡ false → IsAsDue writes (resize_of job source old.image) old new
  as_before true is = absurd (false≢true (sym is))
  as_before false is = was

  pub left_dry : not job.dry ≡ false → IsAsDue (not job.dry) (resize_of job source old.image) old new
  left_dry dry = as_before (not job.dry) dry

  pub shows_part : (out out' : List ℕ) → not job.dry ≡ false → ShowsPart before after out out' → Prints (resize_of job source old.image) old new out out' (Failed Printing)
  shows_part out out' dry part = elim part [
    | inl first ↦ inl (was, record { before = before; after = after; lines = lines_of_work job source old.image work before after prepared; gained = first })
    | inr second ↦ inr (left_dry dry, record { before = before; after = after; lines = lines_of_work job source old.image work before after prepared; gained = second })
  ]

-- where there is text the job isn't quiet
pub shown_by : (job : ResizeJob) (guest : GuestView) (head : List ℕ) (sectors : ℕ) (prepared : Prepared) → IsPrepared job guest head sectors prepared
    → IsShownBy job (string_bytes prepared.lines.summary) (string_bytes prepared.lines.last)
shown_by job guest head sectors prepared is (inl some) = shown_some (not job.quiet) _ (λ none. some (is.summary ∙ none))
shown_by job guest head sectors prepared is (inr some) = shown_some (not job.quiet) _ (λ none. some (is.last ∙ none))

-- a disk that stays settled while it is only attached
pub settled_waiting : (image : List ℕ) (new : List ℕ) (a b : Stops) → Waits a b → new ≡ image → IsSettled image a → IsSettled new b
settled_waiting image new a b waits same settled = λ c left. settled c (waits.fewer c left) ∙ sym same

-- and what a stop may have left of it meanwhile
pub stops_waiting : (m : Meaning) (image : List ℕ) (a b : Stops) → AreOf image a → Waits a b → IsSettled image a → LeavesOnly (MayPass m image) a b
stops_waiting m image a b are waits settled = leaves_only image a b (MayPass m image) are settled (inl refl) (adds_nothing a b (MayPass m image) waits.adds)

-- what was prepared for attached disks is due of the disks as they were
pub prepared_before : (job : ResizeJob) (source source' target target' : List ℕ) (n sectors : ℕ) (work : Work) (before after : List ℕ) → source' ≡ source → target' ≡ target
    → length target' ≡ 512 * n → sectors ≡ n
    → ((image : List ℕ) → sectors_of image ≡ sectors → IsPreparedWork job source' image work before after) → IsPreparedWork job source target work before after
prepared_before job source source' target target' n sectors work before after same same_target long is prepared =
    let From : List ℕ → Type 0 = λ image. IsPreparedWork job image target work before after in
    let many : sectors_of target ≡ sectors = ap (λ (image : List ℕ). sectors_of image) (sym same_target) ∙ sectors_is target' n long ∙ sym is in
    subst From same (prepared target many)

pub has_work : (job : ResizeJob) (source target : List ℕ) (work : Work) (before after : List ℕ) → IsPreparedWork job source target work before after → HasWork job source target
has_work job source target work before after prepared = record { guest = prepared.guest; plan = prepared.plan; to_do = prepared.to_do }

-- a failure under work that is due
pub failure_due : (job : ResizeJob) (source target : List ℕ) (work : Work) (before after : List ℕ) (failing : Failing) → IsPreparedWork job source target work before after
    → IsDue (resize_of job source target) (Failed failing)
failure_due job source target work before after (Device fault) prepared = tt
failure_due job source target work before after Printing prepared = has_work job source target work before after prepared

-- what was made for a source as it was read is the work that is due
pub prepared_of : (job : ResizeJob) (source target : List ℕ) (guest : GuestView) (head : List ℕ) (sectors : ℕ) (prepared : Prepared) → IsGuestIn source guest → head ≡ head_of source
    → sectors_of target ≡ sectors → IsPrepared job guest head sectors prepared
    → IsPreparedWork job source target prepared.writing (string_bytes prepared.lines.summary) (string_bytes prepared.lines.last)
prepared_of job source target guest head sectors prepared is_guest is_head many is =
    let Planned : ℕ → Type 0 = λ n. IsPlannedFor job guest n is.plan in
    let Made : ℕ → Type 0 = λ n. IsMade job guest is.plan (head_of source) n prepared.writing in
    let Head : List ℕ → Type 0 = λ one. IsMade job guest is.plan one sectors prepared.writing in
    let planned = subst Planned (sym many) is.planned in
    record {
      guest = guest;
      plan = is.plan;
      to_do = record { planned = record { is_guest = is_guest; is_plan = planned.is_plan }; unstuck = is.unstuck; served = is.served };
      placed = planned;
      made = subst Made (sym many) (subst Head is_head is.made);
      summary = is.summary;
      last = is.last;
    }

-- where the target is settled
pub settled_done : (writes : Bool) (old new : Held) → writes ≡ true → IsSettled new.image new.stops → SettledBy writes old new
settled_done true old new is settled = settled
settled_done false old new is settled = absurd (false≢true is)

pub settled_dry : (writes : Bool) (old new : Held) → writes ≡ false → StaysSettled old new → SettledBy writes old new
settled_dry true old new is stays = absurd (false≢true (sym is))
settled_dry false old new is stays = stays

-- a disk of whole sectors
pub whole_of : (image : List ℕ) (size : ℕ) → length image ≡ 512 * size → (n : ℕ) → sectors_of image ≡ n → length image ≡ 512 * n
whole_of image size long n is = omega (arith, long, is)
