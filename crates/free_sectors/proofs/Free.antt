-- What partitions and logical volumes give up and keep, and what is free then.
use Rattle.std.proofs.Common.{◌≡◌, ℕ, ◌+◌, ◌-◌, ◌<◌, ◌≤◌, ◌↔◌, inl, inr, List, [], ◌∷◌, length, arith, All, Bool, IsTrue, sym, subst, ◌∙◌}
use Rattle.std.specs.Prelude.{Some, slice_get}
use Rattle.std.proofs.lemmas.List.Elements.{All-cons, All-head, All-nil, All-tail}
use Rattle.std.proofs.lemmas.Option.{slice_get_within}
use Rattle.disk_base.specs.declared.run.Run.{Run as PartRun}
use Rattle.group_content.specs.declared.types.GroupContent.{GroupContent}
use Rattle.group_content.specs.declared.types.GroupVolume.{GroupVolume}
use Rattle.group_content.specs.declared.types.Membership.{Membership}
use Rattle.guest_view.specs.declared.content.Content.{Content}
use Rattle.guest_view.specs.declared.content.Content.TheVariants.{Group}
use Rattle.partition_content.specs.declared.found.Physical.{Physical}
use Rattle.volume_choice.specs.Chosen.{is_ignored_group}
use Rattle.guest_view.specs.Guests.{GuestView}
use Rattle.guest_view.specs.declared.guest.GuestPart.{GuestPart}
use Rattle.run_set.specs.Runs.{Holds, IsRun, past_of}
use Rattle.run_set.specs.declared.run.Run.{Run}
use Rattle.volume_choice.specs.declared.chosen.Choices.{Choices}
use Rattle.free_sectors.specs.declared.putting.Gathered.{Gathered}
use Rattle.free_sectors.specs.Free.{ContentGives, ContentKeeps, IsFreeSector, IsInFreeExtent, LogicalGives, LogicalKeeps, PartGives, PartKeeps, SomeLogical, SomePart}
use Rattle.free_sectors.specs.inside.Adding.{Gathers, DoesItem, SomeBelow}
use Rattle.free_sectors.proofs.Adding.{Gathers-as, Gathers-step, Gathers-then, contained, some_item}

-- ---- partitions

pub some_part : (parts : List GuestPart) (does : GuestPart → ℕ → Type 0) (n x : ℕ) → SomeBelow n (DoesItem parts does) x → SomePart (λ part. does part x) parts
some_part parts does n x some = record { part = some.2.0; among = contained parts some.0 some.2.0 some.2.1; does_so = some.2.2 }

pub part_some : (parts : List GuestPart) (does : GuestPart → ℕ → Type 0) (n x : ℕ) → length parts ≤ n → SomePart (λ part. does part x) parts → SomeBelow n (DoesItem parts does) x
part_some parts does n x all some = some_item parts does n x some.part all some.among some.does_so

-- ---- logical volumes, by their indices

abbrev pub DoesVolume : List GroupVolume → (ℕ → GroupVolume → ℕ → Type 0) → ℕ → ℕ → Type 0
DoesVolume volumes does lv x = (volume : GroupVolume) × (slice_get volumes lv ≡ Some volume) × does lv volume x

pub some_logical : (volumes : List GroupVolume) (does : ℕ → GroupVolume → ℕ → Type 0) (n x : ℕ) → SomeBelow n (DoesVolume volumes does) x → SomeLogical (λ lv volume. does lv volume x) volumes
some_logical volumes does n x some = record { lv = some.0; volume = some.2.0; is_volume = some.2.1; does_so = some.2.2 }

pub logical_some : (volumes : List GroupVolume) (does : ℕ → GroupVolume → ℕ → Type 0) (n x : ℕ) → length volumes ≤ n → SomeLogical (λ lv volume. does lv volume x) volumes → SomeBelow n (DoesVolume volumes does) x
logical_some volumes does n x all some =
    let inside : some.lv < length volumes = slice_get_within volumes some.lv some.volume some.is_volume in
    (some.lv, omega (arith, inside, all), (some.volume, some.is_volume, some.does_so))

pub Gathers-volume : (a b c : Gathered) (volumes : List GroupVolume) (does : ℕ → GroupVolume → ℕ → Type 0) (n : ℕ) (volume : GroupVolume)
    → Gathers a b (SomeBelow n (DoesVolume volumes does)) → slice_get volumes n ≡ Some volume → Gathers b c (does n volume)
    → Gathers a c (SomeBelow (n + 1) (DoesVolume volumes does))
Gathers-volume a b c volumes does n volume so_far is more =
    Gathers-step a b c n (DoesVolume volumes does) so_far
    (Gathers-as b c (does n volume) (DoesVolume volumes does n) more (λ x on it. (volume, is, it)) (λ x on some. subst (λ (v : GroupVolume). does n v x) (same_volume some.0 some.1) some.2))
  where
    same_volume : (other : GroupVolume) → slice_get volumes n ≡ Some other → other ≡ volume
    same_volume other other_is = let both : Some other ≡ Some volume = sym other_is ∙ is in cc

-- ---- a group

pub group_gives : (a b c : Gathered) (choices : Choices) (parts : List GuestPart) (run : PartRun) (number : ℕ) (whole : Content) (physical : Physical) (membership : Membership) (content : GroupContent)
    → whole ≡ Group physical membership content → Gathers a b (IsInFreeExtent parts content)
    → Gathers b c (λ x. SomeLogical (λ lv volume. LogicalGives choices number lv volume x) content.volumes.items)
    → Gathers a c (ContentGives choices parts run number whole)
group_gives a b c choices parts run number whole physical membership content is extents logicals =
    subst (λ (p : Content). Gathers a c (ContentGives choices parts run number p)) (sym is)
    (Gathers-then a b c (IsInFreeExtent parts content) (λ x. SomeLogical (λ lv volume. LogicalGives choices number lv volume x) content.volumes.items) extents logicals)

pub group_keeps : (a b c : Gathered) (choices : Choices) (parts : List GuestPart) (number : ℕ) (whole : Content) (physical : Physical) (membership : Membership) (content : GroupContent) (ignored : Bool)
    → whole ≡ Group physical membership content → ignored ≡ is_ignored_group choices number → Gathers a b (λ x. IsTrue ignored × IsInFreeExtent parts content x)
    → Gathers b c (λ x. SomeLogical (λ lv volume. LogicalKeeps choices number lv volume x) content.volumes.items)
    → Gathers a c (ContentKeeps choices parts number whole)
group_keeps a b c choices parts number whole physical membership content ignored is ignored_is extents logicals =
    subst (λ (p : Content). Gathers a c (ContentKeeps choices parts number p)) (sym is)
    (Gathers-then a b c (λ x. IsTrue (is_ignored_group choices number) × IsInFreeExtent parts content x) (λ x. SomeLogical (λ lv volume. LogicalKeeps choices number lv volume x) content.volumes.items)
    (subst (λ (t : Bool). Gathers a b (λ x. IsTrue t × IsInFreeExtent parts content x)) ignored_is extents) logicals)

-- ---- what is free

pub is_free : (guest : GuestView) (choices : Choices) (free given kept : List Run)
    → ((x : ℕ) → Holds given x ↔ ((x < guest.sectors) × SomePart (λ part. PartGives choices guest.parts part x) guest.parts))
    → ((x : ℕ) → Holds kept x ↔ ((x < guest.sectors) × SomePart (λ part. PartKeeps choices guest.parts part x) guest.parts))
    → ((x : ℕ) → Holds free x ↔ (Holds given x × (Holds kept x → ⊥)))
    → (x : ℕ) → Holds free x ↔ IsFreeSector guest choices x
is_free guest choices free given kept given_is kept_is free_is x = (to, back)
  where
    to : Holds free x → IsFreeSector guest choices x
    to h =
        let both = (free_is x).0 h in
        let on = (given_is x).0 both.0 in
        record { on_disk = on.0; given = on.1; not_kept = λ keeps. both.1 ((kept_is x).1 (on.0, keeps)) }

    back : IsFreeSector guest choices x → Holds free x
    back f = (free_is x).1 ((given_is x).1 (f.on_disk, f.given), λ h. f.not_kept ((kept_is x).0 h).1)

-- the runs of a set end by a bound, where it has no number past that
pub ends_by : (bound : ℕ) (runs : List Run) → All IsRun runs → ((x : ℕ) → Holds runs x → x < bound) → All (λ run. past_of run ≤ bound) runs
ends_by bound [] are within = All-nil (λ run. past_of run ≤ bound)
ends_by bound (run ∷ runs) are within =
    let one : IsRun run = All-head IsRun run runs are in
    let last : past_of run - 1 < bound = within (past_of run - 1) (inl (omega (arith, one.0), omega (arith, one.0))) in
    All-cons (λ r. past_of r ≤ bound) run runs (omega (arith, one.0, last)) (ends_by bound runs (All-tail IsRun run runs are) (λ x h. within x (inr h)))
