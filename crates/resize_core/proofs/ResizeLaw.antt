-- At most one status is due of a job: each refusal stands where the judging stops.
use Rattle.std.proofs.Common.{◌≡◌, ℕ, List, subst, refl, sym, ap, ◌∙◌, true, false, suc, zero, inl, inr, Option, None, Some}
use Rattle.std.proofs.lemmas.Bool.{false≢true}
use Rattle.disk_base.specs.Image.{sectors_of}
use Rattle.guest_view.specs.declared.fault.InspectFault.{InspectFault}
use Rattle.guest_view.specs.declared.fault.InspectFault.TheVariants as guests
use Rattle.guest_view.specs.Guests.{GuestView, IsNoGuest, kind_of}
use Rattle.guest_view.proofs.Alike.{one_guest}
use Rattle.guest_view.specs.Laws.{AreAlikeGuests}
use Rattle.guest_view.specs.declared.table.Table.{Table}
use Rattle.layout_plan.specs.declared.fault.NoPlan.{NoPlan}
use Rattle.layout_plan.specs.declared.fault.NoPlan.TheVariants.{TooSmall, TooLarge, NoSuchPart, NamedTwice, Extended, Empty, WouldCut, DoesNotFit, NoSurplus, NoDeficit, Memory as TooLittleMemory}
use Rattle.layout_plan.specs.declared.part.Part.{Part}
use Rattle.layout_plan.specs.Plans.{IsPlan, Plan}
use Rattle.layout_plan.proofs.Unique.{one_planned, only_memory}
use Rattle.run_end.specs.declared.end.Refusal.{Refusal}
use Rattle.run_end.specs.declared.end.Refusal.TheVariants.{Usage, NotYet, Source, Plan as Unplanned, Memory}
use Rattle.run_end.specs.declared.end.SourceFault.{SourceFault}
use Rattle.run_end.specs.declared.end.SourceFault.TheVariants.{Guest, Volume}
use Rattle.run_end.specs.declared.end.VolumeFault.{VolumeFault}
use Rattle.run_end.specs.Ending.{Due, IsLawful, due_status}
use Rattle.run_end.proofs.Steps.{StopsAt, by_steps}
use Rattle.target_table.specs.Planned.{parts_to_plan}
use Rattle.words.specs.declared.job.ResizeJob.{ResizeJob}
use Rattle.words.specs.declared.job.Unknown.TheVariants.{Error}
use Rattle.resize_core.proofs.AlikeGrowth.{same_growth, same_planned, stuck_or_none}
use Rattle.resize_core.specs.Growth.{first_stuck, has_growth}
use Rattle.resize_core.specs.Resizing.{HasGrowthFor, HasNoPlanFor, HasPlanFor, HasWork, IsBadSource, IsGuestIn, IsNoSource, IsPlanFor, IsStuck, IsWithoutPlan, resize_of}

-- a disk has one guest, and a job one plan for it
same_guest : (image : List ℕ) (one other : GuestView) → IsGuestIn image one → IsGuestIn image other → AreAlikeGuests one other
same_guest image one other is is' = (one_guest (sectors_of image) image one is).0 other is'

plan_again : (job : ResizeJob) (sectors : ℕ) (plan : Plan) (one other : GuestView) → AreAlikeGuests one other → IsPlanFor job other sectors plan → IsPlanFor job one sectors plan
plan_again job sectors plan one other alike is =
    let Of : Table → Type 0 = λ table. IsPlan (kind_of table) (parts_to_plan other) job.wishes job.layout sectors plan in
    let With : List Part → Type 0 = λ parts. IsPlan (kind_of one.table) parts job.wishes job.layout sectors plan in
    subst With (same_planned one.parts other.parts alike.parts) (subst Of alike.table is)

same_plan : (job : ResizeJob) (guest : GuestView) (sectors : ℕ) (one other : Plan) → IsPlanFor job guest sectors one → IsPlanFor job guest sectors other → other ≡ one
same_plan job guest sectors one other is is' = one_planned (kind_of guest.table) (parts_to_plan guest) job.wishes job.layout sectors one other is is'

-- a job has one plan for a source and a target
record IsAgain (one other : GuestView) (first second : Plan) : Type 0 where
  guest : AreAlikeGuests one other
  plan : second ≡ first

again : (job : ResizeJob) (source target : List ℕ) (one other : GuestView) (plan plan' : Plan) → HasPlanFor job source target one plan → HasPlanFor job source target other plan'
    → IsAgain one other plan plan'
again job source target one other plan plan' is is' =
    let guest : AreAlikeGuests one other = same_guest source one other is.is_guest is'.is_guest in
    record {
      guest = guest;
      plan = same_plan job one (sectors_of target) plan plan' is.is_plan (plan_again job (sectors_of target) plan' one other guest is'.is_plan);
    }

-- a plan whose contents that can't grow are no error
record IsPassed (job : ResizeJob) (source target : List ℕ) : Type 0 where
  guest : GuestView
  plan : Plan
  planned : HasPlanFor job source target guest plan
  unstuck : job.unknown ≡ Error → first_stuck job.grow plan guest.parts ≡ None

-- how far the judging comes: the guest, the plan, the contents that can't grow, those that grow
abbrev Passed : ResizeJob → List ℕ → List ℕ → ℕ → Type 0
Passed job source target zero = Unit {0}
Passed job source target (suc zero) = (guest : GuestView) × IsGuestIn source guest
Passed job source target (suc (suc zero)) = (guest : GuestView) × (plan : Plan) × HasPlanFor job source target guest plan
Passed job source target (suc (suc (suc zero))) = IsPassed job source target
Passed job source target (suc (suc (suc (suc zero)))) = HasWork job source target
Passed job source target (suc (suc (suc (suc (suc n))))) = ⊥

abbrev status_at : ℕ → ℕ
status_at zero = 2
status_at (suc zero) = 4
status_at (suc (suc zero)) = 2
status_at (suc (suc (suc zero))) = 9
status_at (suc (suc (suc (suc n)))) = 0

back : (job : ResizeJob) (source target : List ℕ) (k : ℕ) → Passed job source target (suc k) → Passed job source target k
back job source target zero passed = tt
back job source target (suc zero) passed = let planned : HasPlanFor job source target passed.0 passed.1 = passed.2 in (passed.0, planned.is_guest)
back job source target (suc (suc zero)) passed = (passed.guest, passed.plan, passed.planned)
back job source target (suc (suc (suc zero))) passed =
    record { guest = passed.guest; plan = passed.plan; planned = passed.to_do.planned; unstuck = passed.to_do.unstuck }
back job source target (suc (suc (suc (suc n)))) passed = absurd passed

-- a guest has no reason against it
guest_stops : (job : ResizeJob) (source target : List ℕ) (fault : InspectFault) → ((fault ≡ guests.Device) → ⊥) → ((fault ≡ guests.Memory) → ⊥)
    → IsNoGuest (sectors_of source) source fault → StopsAt (Passed job source target) status_at 2
guest_stops job source target fault no_device no_memory why = record {
  stage = 0;
  passed = tt;
  ends = λ has.
      let is : IsGuestIn source has.0 = has.1 in
      elim ((one_guest (sectors_of source) source has.0 is).1 fault why) [ inl device ↦ no_device device | inr memory ↦ no_memory memory ];
  is_status = refl;
}

bad_source_stops : (job : ResizeJob) (source target : List ℕ) (fault : InspectFault) → IsBadSource source fault → StopsAt (Passed job source target) status_at 2
bad_source_stops job source target guests.Device why = absurd why
bad_source_stops job source target guests.Memory why = absurd why
bad_source_stops job source target (guests.TooLarge n) why = guest_stops job source target (guests.TooLarge n) (λ no. cc no) (λ no. cc no) why
bad_source_stops job source target guests.NoSignature why = guest_stops job source target guests.NoSignature (λ no. cc no) (λ no. cc no) why
bad_source_stops job source target (guests.Entry n) why = guest_stops job source target (guests.Entry n) (λ no. cc no) (λ no. cc no) why
bad_source_stops job source target (guests.Chain at) why = guest_stops job source target (guests.Chain at) (λ no. cc no) (λ no. cc no) why
bad_source_stops job source target (guests.TooMany at) why = guest_stops job source target (guests.TooMany at) (λ no. cc no) (λ no. cc no) why
bad_source_stops job source target guests.NoHeader why = guest_stops job source target guests.NoHeader (λ no. cc no) (λ no. cc no) why
bad_source_stops job source target (guests.Shape count size) why = guest_stops job source target (guests.Shape count size) (λ no. cc no) (λ no. cc no) why
bad_source_stops job source target (guests.Overlap a b) why = guest_stops job source target (guests.Overlap a b) (λ no. cc no) (λ no. cc no) why

-- a content that can't grow
stuck_stops : (job : ResizeJob) (source target : List ℕ) (fault : VolumeFault) → IsStuck job source target fault → StopsAt (Passed job source target) status_at 2
stuck_stops job source target fault stuck = record {
  stage = 2;
  passed = (stuck.guest, stuck.plan, stuck.planned);
  ends = λ has.
      let same = again job source target stuck.guest has.guest stuck.plan has.plan stuck.planned has.planned in
      let None_ : Plan → Type 0 = λ plan. first_stuck job.grow plan has.guest.parts ≡ None in
      stuck_or_none job.grow stuck.plan stuck.guest.parts has.guest.parts same.guest.parts fault stuck.first (subst None_ same.plan (has.unstuck stuck.error));
  is_status = refl;
}

-- a content that grows
growth_stops : (job : ResizeJob) (source target : List ℕ) → HasGrowthFor job source target → StopsAt (Passed job source target) status_at 9
growth_stops job source target growth = record {
  stage = 3;
  passed = record { guest = growth.guest; plan = growth.plan; planned = growth.planned; unstuck = growth.unstuck };
  ends = λ has.
      let same = again job source target growth.guest has.guest growth.plan has.plan growth.planned has.to_do.planned in
      let grows : has_growth job.grow growth.plan has.guest.parts ≡ true =
      same_growth job.grow growth.plan growth.guest.parts has.guest.parts same.guest.parts ∙ growth.grows in
      let none : has_growth job.grow growth.plan has.guest.parts ≡ false =
      ap (λ (plan : Plan). has_growth job.grow plan has.guest.parts) (sym same.plan) ∙ has.to_do.served in
      false≢true (sym none ∙ grows);
  is_status = refl;
}

no_source_stops : (job : ResizeJob) (source target : List ℕ) (fault : SourceFault) → IsNoSource job source target fault → StopsAt (Passed job source target) status_at 2
no_source_stops job source target (Guest fault) why = bad_source_stops job source target fault why
no_source_stops job source target (Volume fault) why = stuck_stops job source target fault why

-- partitions with a plan have no reason against it
unplanned : (job : ResizeJob) (guest : GuestView) (sectors : ℕ) (fault : NoPlan) (plan : Plan) → IsPlanFor job guest sectors plan → IsWithoutPlan job guest sectors fault → ⊥
unplanned job guest sectors (TooSmall n) plan is none = cc (only_memory (kind_of guest.table) (parts_to_plan guest) job.wishes job.layout sectors plan (TooSmall n) is none)
unplanned job guest sectors (TooLarge n) plan is none = cc (only_memory (kind_of guest.table) (parts_to_plan guest) job.wishes job.layout sectors plan (TooLarge n) is none)
unplanned job guest sectors (NoSuchPart n) plan is none = cc (only_memory (kind_of guest.table) (parts_to_plan guest) job.wishes job.layout sectors plan (NoSuchPart n) is none)
unplanned job guest sectors (NamedTwice n) plan is none = cc (only_memory (kind_of guest.table) (parts_to_plan guest) job.wishes job.layout sectors plan (NamedTwice n) is none)
unplanned job guest sectors (Extended n) plan is none = cc (only_memory (kind_of guest.table) (parts_to_plan guest) job.wishes job.layout sectors plan (Extended n) is none)
unplanned job guest sectors (Empty n) plan is none = cc (only_memory (kind_of guest.table) (parts_to_plan guest) job.wishes job.layout sectors plan (Empty n) is none)
unplanned job guest sectors (WouldCut a b c) plan is none = cc (only_memory (kind_of guest.table) (parts_to_plan guest) job.wishes job.layout sectors plan (WouldCut a b c) is none)
unplanned job guest sectors (DoesNotFit a b) plan is none = cc (only_memory (kind_of guest.table) (parts_to_plan guest) job.wishes job.layout sectors plan (DoesNotFit a b) is none)
unplanned job guest sectors (NoSurplus n) plan is none = cc (only_memory (kind_of guest.table) (parts_to_plan guest) job.wishes job.layout sectors plan (NoSurplus n) is none)
unplanned job guest sectors (NoDeficit n) plan is none = cc (only_memory (kind_of guest.table) (parts_to_plan guest) job.wishes job.layout sectors plan (NoDeficit n) is none)
unplanned job guest sectors TooLittleMemory plan is none = none

plan_stops : (job : ResizeJob) (source target : List ℕ) (fault : NoPlan) → HasNoPlanFor job source target fault → StopsAt (Passed job source target) status_at 4
plan_stops job source target fault none = record {
  stage = 1;
  passed = (none.guest, none.is_guest);
  ends = λ has.
      let planned : HasPlanFor job source target has.0 has.1 = has.2 in
      let same = same_guest source none.guest has.0 none.is_guest planned.is_guest in
      unplanned job none.guest (sectors_of target) fault has.1 (plan_again job (sectors_of target) has.1 none.guest has.0 same planned.is_plan) none.none;
  is_status = refl;
}

stops : (job : ResizeJob) (source target : List ℕ) (due : Option Refusal) → Due (resize_of job source target) due → StopsAt (Passed job source target) status_at (due_status due)
stops job source target None has = record { stage = 4; passed = has; ends = λ more. more; is_status = refl }
stops job source target (Some NotYet) is = growth_stops job source target is
stops job source target (Some (Source fault)) is = no_source_stops job source target fault is
stops job source target (Some (Unplanned fault)) is = plan_stops job source target fault is
stops job source target (Some (Usage usage)) is = absurd is
stops job source target (Some Memory) is = absurd is

pub resize_is_lawful : (job : ResizeJob) (source target : List ℕ) → IsLawful (resize_of job source target)
resize_is_lawful job source target = by_steps (resize_of job source target) (Passed job source target) status_at (back job source target) (stops job source target)
