-- The runs of a group's volumes on a disk.
use Rattle.std.proofs.Common.{◌≡◌, ℕ, ◌+◌, ◌*◌, ◌<◌, ◌≤◌, ◌⊎◌, inl, inr, Bool, true, false, List, [], ◌∷◌, ◌++◌, length, map, refl, sym, ap, subst, ◌∙◌, arith, slice_index_or}
use Rattle.std.specs.Prelude.{Option, Some, None, if◌then◌else◌, ◌&&◌, ◌||◌, not, ◌==◌, nat_le, nat_lt, All, AllPairs, Contains, flat_map, slice_get, ◌≢◌}
use Rattle.std.specs.List.{list_all}
use Rattle.std.proofs.lemmas.Bool.{and_parts, both_ways, cases_eq, cases_lt, cases_order, eq-eqb, leb-true, not-true, or_cases}
use Rattle.std.proofs.lemmas.List.{get_or-map, length-map}
use Rattle.std.proofs.lemmas.List.Elements.{All-map, All-nil, All-same, All-weaker}
use Rattle.std.proofs.lemmas.Nat.{mul-le}
use Rattle.disk_base.specs.Run.{AreApart, IsInside, IsWithin, end_of, run_of}
use Rattle.disk_base.specs.declared.run.Run.{Run}
use Rattle.lvm_group.specs.Answer.{IsGroup}
use Rattle.lvm_group.specs.Apart.{are_apart}
use Rattle.lvm_group.specs.Free.{all_spans}
use Rattle.lvm_group.specs.Judged.{all_fit, are_members, extents_from, fault_beside, fault_in, first_bad, first_unsound, group_fault, is_found, is_known_volume, is_named_member, kind_fault, segments_beside, segments_fault}
use Rattle.lvm_group.specs.Order.{in_order}
use Rattle.lvm_group.specs.Spelt.{spelt}
use Rattle.lvm_group.specs.Volumes.{device_sectors, run_of_span, start_from}
use Rattle.lvm_group.specs.declared.fault.GroupFault.{GroupFault}
use Rattle.lvm_group.specs.declared.fault.GroupFault.TheVariants as fault
use Rattle.lvm_group.specs.declared.group.Group.{Group}
use Rattle.lvm_group.specs.declared.span.Span.{Span}
use Rattle.lvm_group.specs.declared.spans.Volume.{Volume}
use Rattle.lvm_group.specs.declared.types.Member.{Member}
use Rattle.lvm_group.specs.declared.types.PhysicalVolume.{PhysicalVolume}
use Rattle.lvm_group.specs.declared.types.Spelt.{Spelt}
use Rattle.lvm_text.specs.declared.tree.Item.{Item}
use Rattle.group_runs.specs.Laws.{LiesInDevice, VolumesLieInDevices}
use Rattle.group_runs.specs.Places.{AreMemberRuns, LiesInMember, disk_run, disk_runs, member_run, runs_of_volumes}
use Rattle.group_runs.proofs.Members.{AreAligned, IsFoundFor, aligned, device_fits, extents_at, extents_past, fits_found, members_differ, members_found, no_volume, slice_get_inside, start_at}
use Rattle.group_runs.proofs.Spans.{AreLaid, IsBehind, LiesIn, all_runs_are, volumes_laid}

-- a group without a fault
record IsSoundGroup (ms : List Member) (g : Spelt) : Type 0 where
  fit : all_fit g.extent ms g.physicals ≡ true
  found : list_all (is_found g.physicals ms) g.physicals ≡ true
  unsound : first_unsound g.physicals [] 0 g.logicals ≡ None

sound_group : (ms : List Member) (g : Spelt) → fault_beside ms g ≡ None → IsSoundGroup ms g
sound_group ms g e = by (all_fit g.extent ms g.physicals) refl (are_members g.physicals ms) refl (first_bad is_known_volume 0 g.logicals) (first_unsound g.physicals [] 0 g.logicals) refl e
  where
    by : (fit : Bool) → all_fit g.extent ms g.physicals ≡ fit → (members : Bool) → are_members g.physicals ms ≡ members
        → (bad unsound : Option ℕ) → first_unsound g.physicals [] 0 g.logicals ≡ unsound
        → (if not fit then Some fault.Field else if not members then Some fault.Members else kind_fault bad (segments_fault unsound)) ≡ None
        → IsSoundGroup ms g
    by false fit members are bad unsound is e = absurd (cc e)
    by true fit false are bad unsound is e = absurd (cc e)
    by true fit true are (Some n) unsound is e = absurd (cc e)
    by true fit true are None (Some n) is e = absurd (cc e)
    by true fit true are None None is e =
        let both : (list_all (is_named_member g.physicals) ms && list_all (is_found g.physicals ms) g.physicals) ≡ true =
        (and_parts (nat_lt 0 (length g.physicals)) (list_all (is_named_member g.physicals) ms && list_all (is_found g.physicals ms) g.physicals) are).1 in
        record { fit = fit; found = (and_parts (list_all (is_named_member g.physicals) ms) (list_all (is_found g.physicals ms) g.physicals) both).1; unsound = is }

group_sound : (items : List Item) (ms : List Member) (g : Group) → IsGroup items ms g → IsSoundGroup ms g.spelt
group_sound items ms g is = sound_group ms g.spelt (subst (λ (o : Option Spelt). fault_in ms o ≡ None) is.spelled is.sound)

-- ---- extents as sectors

member_long : (ms : List Member) (members : List Run) → AreMemberRuns ms members → length members ≡ length ms
member_long ms members are = sym (length-map members (λ (run : Run). run.count)) ∙ ap length are ∙ length-map ms (λ (m : Member). m.sectors)

no_member : Member
no_member = record { part = 0; label = record { sector = 0; offset = 0; id = []; size = 0; areas = 0; start = 0; length = 0; second = None }; sectors = 0 }

member_sectors : (ms : List Member) (members : List Run) (k : ℕ) → AreMemberRuns ms members → k < length ms
    → (slice_index_or ms k no_member).sectors ≡ (member_run members k).count
member_sectors ms members k are inside =
    sym (get_or-map (λ (m : Member). m.sectors) ms k no_member 0 inside)
    ∙ ap (λ (xs : List ℕ). slice_index_or xs k 0) (sym are)
    ∙ get_or-map (λ (run : Run). run.count) members k (run_of 0 0) 0 (omega (arith, member_long ms members are, inside))

-- what is known of extents of a physical volume
record IsPlacedSpan (ps : List PhysicalVolume) (extent : ℕ) (members : List Run) (s : Span) : Type 0 where
  known : s.member < length members
  inside : start_from 0 s.member ps + (s.first + s.count) * extent ≤ (member_run members s.member).count

span_known : (ps : List PhysicalVolume) (s : Span) → LiesIn ps s → s.member < length ps
span_known ps s lies = by (cases_lt s.member (length ps))
  where
    by : (s.member < length ps) ⊎ (length ps ≤ s.member) → s.member < length ps
    by (inl h) = h
    by (inr past) = absurd (omega (arith, lies.some, lies.inside, extents_past ps 0 s.member s.member (omega arith) past))

-- by the numbers of the physical volume and of the partition that was found for it
placed_by : (ps : List PhysicalVolume) (extent : ℕ) (members : List Run) (s : Span) (p : PhysicalVolume) (sectors : ℕ) → s.member < length members
    → s.first + s.count ≤ extents_from 0 s.member ps → extents_from 0 s.member ps ≡ p.count → start_from 0 s.member ps ≡ p.start
    → p.start + p.count * extent ≤ sectors → sectors ≡ (member_run members s.member).count → IsPlacedSpan ps extent members s
placed_by ps extent members s p sectors known inside extents start fits same =
    let most : (s.first + s.count) * extent ≤ p.count * extent = mul-le (s.first + s.count) extent p.count extent (omega (arith, inside, extents)) (omega arith) in
    record { known = known; inside = omega (arith, start, most, fits, same) }

placed_span : (ms : List Member) (g : Spelt) (members : List Run) (s : Span) → IsSoundGroup ms g → AreMemberRuns (in_order ms g.physicals) members
    → LiesIn g.physicals s → IsPlacedSpan g.physicals g.extent members s
placed_span ms g members s sound are lies =
    let all : AreAligned ms g.physicals (in_order ms g.physicals) = aligned ms g.physicals g.physicals sound.found in
    let known : s.member < length g.physicals = span_known g.physicals s lies in
    let long : length members ≡ length (in_order ms g.physicals) = member_long (in_order ms g.physicals) members are in
    placed_by g.physicals g.extent members s (slice_index_or g.physicals s.member no_volume) (slice_index_or (in_order ms g.physicals) s.member no_member).sectors
    (omega (arith, long, all.long, known)) lies.inside (extents_at g.physicals 0 s.member s.member no_volume (omega arith) known) (start_at g.physicals 0 s.member s.member no_volume (omega arith) known)
    (fits_found ms g.extent g.physicals s.member no_volume (slice_index_or (in_order ms g.physicals) s.member no_member) sound.fit known (all.each s.member no_volume no_member known))
    (member_sectors (in_order ms g.physicals) members s.member are (omega (arith, all.long, known)))

lies_in_member : (ps : List PhysicalVolume) (extent : ℕ) (members : List Run) (s : Span) → IsPlacedSpan ps extent members s → LiesInMember members (run_of_span ps extent s)
lies_in_member ps extent members s placed =
    let parts : (s.first + s.count) * extent ≡ s.first * extent + s.count * extent = omega arith in
    record { known = placed.known; inside = omega (arith, placed.inside, parts) }

-- ---- all volumes

volume_runs_are : (items : List Item) (ms : List Member) (g : Group) → IsGroup items ms g
    → runs_of_volumes g ≡ map (run_of_span g.spelt.physicals g.spelt.extent) (all_spans g.spelt.physicals g.spelt.logicals)
volume_runs_are items ms g is =
    ap (λ (volumes : List Volume). flat_map (λ (volume : Volume). volume.runs) volumes) is.volumes ∙ all_runs_are g.spelt.physicals g.spelt.extent g.spelt.logicals

all_laid : (items : List Item) (ms : List Member) (g : Group) → IsGroup items ms g → AreLaid g.spelt.physicals (all_spans g.spelt.physicals g.spelt.logicals)
all_laid items ms g is =
    volumes_laid g.spelt.physicals g.spelt.logicals [] 0 (group_sound items ms g is).unsound
    (record { each = All-nil (LiesIn g.spelt.physicals); apart = λ i j d before inside. absurd (omega (arith, inside)) })

all_placed : (items : List Item) (ms : List Member) (g : Group) (members : List Run) → IsGroup items ms g → AreMemberRuns g.members members
    → All (IsPlacedSpan g.spelt.physicals g.spelt.extent members) (all_spans g.spelt.physicals g.spelt.logicals)
all_placed items ms g members is are =
    All-weaker (LiesIn g.spelt.physicals) (IsPlacedSpan g.spelt.physicals g.spelt.extent members)
    (λ (s : Span) lies. placed_span ms g.spelt members s (group_sound items ms g is) (subst (λ (found : List Member). AreMemberRuns found members) is.members are) lies)
    (all_spans g.spelt.physicals g.spelt.logicals) (all_laid items ms g is).each

pub volumes_in_members : (items : List Item) (ms : List Member) (g : Group) (members : List Run) → IsGroup items ms g → AreMemberRuns g.members members
    → All (LiesInMember members) (runs_of_volumes g)
volumes_in_members items ms g members is are =
    All-same (LiesInMember members) (runs_of_volumes g) (map (run_of_span g.spelt.physicals g.spelt.extent) (all_spans g.spelt.physicals g.spelt.logicals)) (volume_runs_are items ms g is)
    (All-map (LiesInMember members) (run_of_span g.spelt.physicals g.spelt.extent) (all_spans g.spelt.physicals g.spelt.logicals)
    (All-weaker (IsPlacedSpan g.spelt.physicals g.spelt.extent members) (λ (s : Span). LiesInMember members (run_of_span g.spelt.physicals g.spelt.extent s))
    (lies_in_member g.spelt.physicals g.spelt.extent members) (all_spans g.spelt.physicals g.spelt.logicals) (all_placed items ms g members is are)))

-- what the text says of the physical volume holds the extents
in_device : (ps : List PhysicalVolume) (extent : ℕ) (s : Span) → LiesIn ps s
    → (run_of_span ps extent s).1 + (run_of_span ps extent s).2 ≤ device_sectors extent (slice_get ps s.member)
in_device ps extent s lies =
    let p : PhysicalVolume = slice_index_or ps s.member no_volume in
    let known : s.member < length ps = span_known ps s lies in
    let extents : extents_from 0 s.member ps ≡ p.count = extents_at ps 0 s.member s.member no_volume (omega arith) known in
    let start : start_from 0 s.member ps ≡ p.start = start_at ps 0 s.member s.member no_volume (omega arith) known in
    let most : (s.first + s.count) * extent ≤ p.count * extent = mul-le (s.first + s.count) extent p.count extent (omega (arith, lies.inside, extents)) (omega arith) in
    let parts : (s.first + s.count) * extent ≡ s.first * extent + s.count * extent = omega arith in
    subst (λ (o : Option PhysicalVolume). start_from 0 s.member ps + s.first * extent + s.count * extent ≤ device_sectors extent o)
    (sym (slice_get_inside ps s.member no_volume known)) (omega (arith, most, parts, start))

pub volumes_in_devices : VolumesLieInDevices
volumes_in_devices items ms g is =
    All-same (LiesInDevice g) (runs_of_volumes g) (map (run_of_span g.spelt.physicals g.spelt.extent) (all_spans g.spelt.physicals g.spelt.logicals)) (volume_runs_are items ms g is)
    (All-map (LiesInDevice g) (run_of_span g.spelt.physicals g.spelt.extent) (all_spans g.spelt.physicals g.spelt.logicals)
    (All-weaker (LiesIn g.spelt.physicals) (λ (s : Span). LiesInDevice g (run_of_span g.spelt.physicals g.spelt.extent s))
    (in_device g.spelt.physicals g.spelt.extent) (all_spans g.spelt.physicals g.spelt.logicals) (all_laid items ms g is).each))

-- ---- apart

-- runs inside runs that lie apart lie apart
inside_apart : (one other a b : Run) → IsInside a one → IsInside b other → AreApart one other → AreApart a b
inside_apart one other a b in_one in_other (inl before) = inl (omega (arith, in_one.before, in_other.from, before))
inside_apart one other a b in_one in_other (inr before) = inr (omega (arith, in_other.before, in_one.from, before))

placed_inside : (ps : List PhysicalVolume) (extent : ℕ) (members : List Run) (s : Span) → IsPlacedSpan ps extent members s
    → IsInside (disk_run members (run_of_span ps extent s)) (member_run members s.member)
placed_inside ps extent members s placed =
    let parts : (s.first + s.count) * extent ≡ s.first * extent + s.count * extent = omega arith in
    record { from = omega arith; before = omega (arith, placed.inside, parts) }

-- extents of one physical volume
same_member : (ps : List PhysicalVolume) (extent : ℕ) (members : List Run) (a b : Span) → b.member ≡ a.member
    → (b.first + b.count ≤ a.first) ⊎ (a.first + a.count ≤ b.first)
    → AreApart (disk_run members (run_of_span ps extent a)) (disk_run members (run_of_span ps extent b))
same_member ps extent members a b same (inl before) =
    let most : (b.first + b.count) * extent ≤ a.first * extent = mul-le (b.first + b.count) extent a.first extent before (omega arith) in
    let parts : (b.first + b.count) * extent ≡ b.first * extent + b.count * extent = omega arith in
    let start : start_from 0 b.member ps ≡ start_from 0 a.member ps = ap (λ (m : ℕ). start_from 0 m ps) same in
    let place : (member_run members b.member).start ≡ (member_run members a.member).start = ap (λ (m : ℕ). (member_run members m).start) same in
    inr (omega (arith, most, parts, start, place))
same_member ps extent members a b same (inr before) =
    let most : (a.first + a.count) * extent ≤ b.first * extent = mul-le (a.first + a.count) extent b.first extent before (omega arith) in
    let parts : (a.first + a.count) * extent ≡ a.first * extent + a.count * extent = omega arith in
    let start : start_from 0 b.member ps ≡ start_from 0 a.member ps = ap (λ (m : ℕ). start_from 0 m ps) same in
    let place : (member_run members b.member).start ≡ (member_run members a.member).start = ap (λ (m : ℕ). (member_run members m).start) same in
    inl (omega (arith, most, parts, start, place))

behind_cases : (a b : Span) → IsBehind a b → b.member ≡ a.member → (b.first + b.count ≤ a.first) ⊎ (a.first + a.count ≤ b.first)
behind_cases a b is same = by (or_cases (not (b.member == a.member) || nat_le (b.first + b.count) a.first) (nat_le (a.first + a.count) b.first) is)
  where
    first : (not (b.member == a.member) ≡ true) ⊎ (nat_le (b.first + b.count) a.first ≡ true) → (b.first + b.count ≤ a.first) ⊎ (a.first + a.count ≤ b.first)
    first (inl other) = absurd (both_ways (b.member == a.member) (not-true (b.member == a.member) other) (eq-eqb b.member a.member same))
    first (inr before) = inl (leb-true (b.first + b.count) a.first before)

    by : ((not (b.member == a.member) || nat_le (b.first + b.count) a.first) ≡ true) ⊎ (nat_le (a.first + a.count) b.first ≡ true)
        → (b.first + b.count ≤ a.first) ⊎ (a.first + a.count ≤ b.first)
    by (inl h) = first (or_cases (not (b.member == a.member)) (nat_le (b.first + b.count) a.first) h)
    by (inr behind) = inr (leb-true (a.first + a.count) b.first behind)

turned : (one other : Run) → AreApart one other → AreApart other one
turned one other (inl before) = inr before
turned one other (inr before) = inl before

members_apart : (members : List Run) (i j : ℕ) → AllPairs AreApart members → i < length members → j < length members → (i ≡ j → ⊥)
    → AreApart (member_run members i) (member_run members j)
members_apart members i j apart in_i in_j other = by (cases_order i j)
  where
    by : (i ≡ j) ⊎ ((i < j) ⊎ (j < i)) → AreApart (member_run members i) (member_run members j)
    by (inl same) = absurd (other same)
    by (inr (inl before)) = apart i j (run_of 0 0) before in_j
    by (inr (inr behind)) = turned (member_run members j) (member_run members i) (apart j i (run_of 0 0) behind in_i)

spans_apart : (ps : List PhysicalVolume) (extent : ℕ) (members : List Run) (a b : Span) → AllPairs AreApart members → IsPlacedSpan ps extent members a
    → IsPlacedSpan ps extent members b → IsBehind a b → AreApart (disk_run members (run_of_span ps extent a)) (disk_run members (run_of_span ps extent b))
spans_apart ps extent members a b apart placed_a placed_b is = by (cases_eq b.member a.member)
  where
    by : (b.member ≡ a.member) ⊎ (b.member ≡ a.member → ⊥) → AreApart (disk_run members (run_of_span ps extent a)) (disk_run members (run_of_span ps extent b))
    by (inl same) = same_member ps extent members a b same (behind_cases a b is same)
    by (inr other) =
        inside_apart (member_run members a.member) (member_run members b.member) (disk_run members (run_of_span ps extent a)) (disk_run members (run_of_span ps extent b))
        (placed_inside ps extent members a placed_a) (placed_inside ps extent members b placed_b)
        (members_apart members a.member b.member apart placed_a.known placed_b.known (λ (e : a.member ≡ b.member). other (sym e)))

-- pairs of what a function gives
pub pairs_map : {X Y : Type 0} (R : Y → Y → Type 0) (f : X → Y) (xs : List X) → ((i j : ℕ) (d : X) → i < j → j < length xs → R (f (slice_index_or xs i d)) (f (slice_index_or xs j d)))
    → AllPairs R (map f xs)
pairs_map {X} {Y} R f [] each = λ i j d before inside. absurd (omega (arith, inside))
pairs_map {X} {Y} R f (x ∷ xs) each = λ i j d before inside.
    let long : length (map f (x ∷ xs)) ≡ length (x ∷ xs) = length-map (x ∷ xs) f in
    let in_j : j < length (x ∷ xs) = omega (arith, inside, long) in
    subst (λ (a : Y). R a (slice_index_or (map f (x ∷ xs)) j d)) (sym (get_or-map f (x ∷ xs) i x d (omega (arith, in_j, before))))
    (subst (λ (b : Y). R (f (slice_index_or (x ∷ xs) i x)) b) (sym (get_or-map f (x ∷ xs) j x d in_j)) (each i j x before in_j))

pub volumes_apart : (items : List Item) (ms : List Member) (g : Group) (members : List Run) → IsGroup items ms g → AreMemberRuns g.members members
    → AllPairs AreApart members → AllPairs AreApart (disk_runs members (runs_of_volumes g))
volumes_apart items ms g members is are apart =
    subst (λ (runs : List (ℕ × ℕ × ℕ)). AllPairs AreApart (disk_runs members runs)) (sym (volume_runs_are items ms g is))
    (pairs_map AreApart (disk_run members) (map (run_of_span g.spelt.physicals g.spelt.extent) (all_spans g.spelt.physicals g.spelt.logicals))
    (pairs_map (λ (a b : ℕ × ℕ × ℕ). AreApart (disk_run members a) (disk_run members b)) (run_of_span g.spelt.physicals g.spelt.extent) (all_spans g.spelt.physicals g.spelt.logicals)
    (λ i j d before inside. spans_apart g.spelt.physicals g.spelt.extent members (slice_index_or (all_spans g.spelt.physicals g.spelt.logicals) i d) (slice_index_or (all_spans g.spelt.physicals g.spelt.logicals) j d) apart
    (all_placed items ms g members is are i d (omega (arith, before, inside))) (all_placed items ms g members is are j d inside) ((all_laid items ms g is).apart i j d before inside))))

-- ---- on the disk

pub runs_on_disk : (size : ℕ) (members : List Run) (runs : List (ℕ × ℕ × ℕ)) → All (IsWithin size) members → All (LiesInMember members) runs
    → All (IsWithin size) (disk_runs members runs)
runs_on_disk size members runs within lie =
    All-map (IsWithin size) (disk_run members) runs
    (All-weaker (LiesInMember members) (λ (run : ℕ × ℕ × ℕ). IsWithin size (disk_run members run))
    (λ (run : ℕ × ℕ × ℕ) (lies : LiesInMember members run). omega (arith, lies.inside, within run.0 (run_of 0 0) lies.known)) runs lie)

-- ---- the physical volumes

pub found_members : (items : List Item) (ms : List Member) (g : Group) → IsGroup items ms g → All (Contains ms) g.members
found_members items ms g is =
    All-same (Contains ms) g.members (in_order ms g.spelt.physicals) is.members (members_found ms g.spelt.physicals (group_sound items ms g is).found)

pub different_members : (items : List Item) (ms : List Member) (g : Group) → IsGroup items ms g → AllPairs (λ (a b : Member). a ≢ b) g.members
different_members items ms g is =
    subst (λ (found : List Member). AllPairs (λ (a b : Member). a ≢ b) found) (sym is.members) (members_differ ms g.spelt.physicals (group_sound items ms g is).found)

pub devices_fit : (items : List Item) (ms : List Member) (g : Group) (m : ℕ) (default : Member) → IsGroup items ms g → m < length g.members
    → device_sectors g.spelt.extent (slice_get g.spelt.physicals m) ≤ (slice_index_or g.members m default).sectors
devices_fit items ms g m default is inside =
    let sound : IsSoundGroup ms g.spelt = group_sound items ms g is in
    let placed : AreAligned ms g.spelt.physicals (in_order ms g.spelt.physicals) = aligned ms g.spelt.physicals g.spelt.physicals sound.found in
    let known : m < length g.spelt.physicals = omega (arith, inside, ap (λ (found : List Member). length found) is.members, placed.long) in
    subst (λ (found : List Member). device_sectors g.spelt.extent (slice_get g.spelt.physicals m) ≤ (slice_index_or found m default).sectors) (sym is.members)
    (device_fits ms g.spelt.extent g.spelt.physicals m (slice_index_or (in_order ms g.spelt.physicals) m default) sound.fit known (placed.each m no_volume default known))
