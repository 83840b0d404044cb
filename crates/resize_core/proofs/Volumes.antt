-- What logical volumes hold comes to stand where their physical volumes do.
use Rattle.std.proofs.Common.{◌≡◌, ◌≢◌, ℕ, zero, suc, ◌+◌, ◌-◌, ◌*◌, ◌/◌, ◌%◌, ◌<◌, ◌≤◌, ◌⊎◌, inl, inr, min, max, Bool, true, false, ◌&&◌, ◌||◌, not, nat_le, if◌then◌else◌, ◌==◌, List, [], ◌∷◌, ◌++◌, length, map, arith, refl, sym, ap, subst, ◌∙◌, slice_index, slice_index_or, All, AllPairs, Option, Some, None}
use Rattle.std.specs.Prelude.{Contains, flat_map, slice_get}
use Rattle.std.specs.List.{AllZip, list_any}
use Rattle.std.specs.Str.{bytes_eq}
use Rattle.std.proofs.lemmas.Bool.{and_parts, cases_order, eq-eqb, false≢true, leb-true, ne_eqb}
use Rattle.std.proofs.lemmas.Grind.{same_number_lists}
use Rattle.std.proofs.lemmas.List.{get_or-map, get_or_default, length-map}
use Rattle.std.proofs.lemmas.List.Elements.{All-cons, All-head, All-nil, All-tail}
use Rattle.std.proofs.lemmas.Slice.Eq.{bytes_eq-Decides}
use Rattle.std.proofs.lemmas.Slice.Zip.{AllZip-long}
use Rattle.disk_base.specs.Image.{bytes_at, sector, sectors_of}
use Rattle.disk_base.proofs.Images.{byte_of_range, length-bytes_at}
use Rattle.disk_base.specs.Run.{IsInside, end_of, run_of}
use Rattle.disk_base.specs.declared.run.Run.{Run}
use Rattle.disk_view.specs.Join.{joined_runs}
use Rattle.group_content.proofs.Alike.{AreOneGroup, not_both, one_group}
use Rattle.group_content.proofs.Owning.{IsOwn, are_member_runs, no_one, one_member, own_member, own_run}
use Rattle.group_content.proofs.Splitting.{all_left, all_right}
use Rattle.group_content.specs.Grouped.{HaveTwoNumbers, device_from, device_of, first_part, member_before, member_of, member_runs, members_with, run_numbered, runs_held}
use Rattle.group_content.specs.Standing.{IsGroupOf, IsHolder, IsStanding, IsStandingBy, IsStandingOf}
use Rattle.group_content.specs.declared.types.FoundPartition.{FoundPartition}
use Rattle.group_content.specs.declared.types.GroupContent.{GroupContent}
use Rattle.group_content.specs.declared.types.GroupVolume.{GroupVolume}
use Rattle.group_content.specs.declared.types.Membership.{Membership}
use Rattle.group_content.specs.declared.types.Standing.{Standing}
use Rattle.group_content.specs.declared.types.Standing.TheVariants as standing
use Rattle.group_runs.proofs.Lying.{different_members, found_members, volumes_in_devices, volumes_in_members}
use Rattle.group_runs.specs.Laws.{LiesInDevice}
use Rattle.group_runs.specs.Places.{LiesInMember, disk_run, disk_runs, member_run}
use Rattle.guest_view.proofs.Alike.{standings_zip}
use Rattle.guest_view.proofs.Known.{rising_of_gpt, rising_of_mbr}
use Rattle.guest_view.proofs.Merging.{zip_pairs}
use Rattle.guest_view.specs.Contents.{IsFoundAs, IsFoundPartition, content_by, content_of_found, content_of_physical, needed_by_member, needed_sectors, part_with, parts_with, run_of_partition}
use Rattle.guest_view.specs.Guests.{GuestView, IsGuest, IsTableOf}
use Rattle.guest_view.specs.Partitions.{no_partition, partitions_of}
use Rattle.guest_view.specs.declared.content.Content.{Content}
use Rattle.guest_view.specs.declared.content.Content.TheVariants.{Extended, Xfs, Swap, Group, Member, Unread}
use Rattle.guest_view.specs.declared.guest.GuestPart.{GuestPart}
use Rattle.guest_view.specs.declared.partition.Partition.{Partition}
use Rattle.guest_view.specs.declared.table.Table.{Table}
use Rattle.guest_view.specs.declared.table.Table.TheVariants.{Mbr, Gpt}
use Rattle.guest_view.specs.inside.Sound.{Rises}
use Rattle.layout_plan.specs.declared.part.Placed.{Placed}
use Rattle.layout_plan.specs.declared.part.Role.{Role}
use Rattle.layout_plan.specs.declared.part.Role.TheVariants.{Slot as InSlot, Extended as IsOuter, Logical as InChain}
use Rattle.layout_plan.specs.Plans.{Plan}
use Rattle.lvm_group.specs.Volumes.{device_sectors}
use Rattle.lvm_group.specs.declared.group.Group.{Group as VolumeGroup}
use Rattle.lvm_group.specs.declared.spans.Volume.{Volume}
use Rattle.lvm_group.specs.declared.types.Member.{Member as GroupMember}
use Rattle.lvm_group.specs.declared.types.PhysicalVolume.{PhysicalVolume}
use Rattle.lvm_group.specs.declared.types.Spelt.{Spelt}
use Rattle.lvm_text.specs.Tree.{items_in}
use Rattle.partition_content.specs.declared.found.Found.{Found}
use Rattle.partition_content.specs.declared.found.Found.TheVariants.{Physical as IsPhysical, Inner as IsAlone}
use Rattle.partition_content.specs.declared.found.Physical.{Physical}
use Rattle.volume_content.specs.declared.content.Inner.TheVariants as inner
use Rattle.resize_core.specs.Contents.{is_copied, placed_from}
use Rattle.resize_core.specs.Growth.{has_lost, holder_of, is_holder, is_lost, keeps_content}
use Rattle.resize_core.specs.Same.{IsMovedRun, IsSameVolume, KeepsVolumes}

-- ---- the numbers of partitions

rising : (sectors : ℕ) (image : List ℕ) (table : Table) → IsTableOf sectors image table → AllPairs Rises (partitions_of table)
rising sectors image (Mbr table) is = rising_of_mbr table.slots table.logicals is.1.in_sector.sound.four
rising sectors image (Gpt table) is = rising_of_gpt table.entries

two_numbers : (image : List ℕ) (ps : List Partition) (xs : List FoundPartition) → AllZip (IsFoundPartition image) ps xs → AllPairs Rises ps → AllPairs HaveTwoNumbers xs
two_numbers image ps xs =
    zip_pairs (IsFoundPartition image) Rises HaveTwoNumbers
    (λ p q one other a b rises. λ (same : one.number ≡ other.number). absurd (omega (arith, same, a.number, b.number, rises))) ps xs

-- ---- the partition that a member is

record IsOwnWith (partitions : List FoundPartition) (text : List ℕ) (m : GroupMember) : Type 0 where
  own : IsOwn partitions m
  text_is : own.physical.first.text ≡ text

behind_with : (p : FoundPartition) (partitions : List FoundPartition) (text : List ℕ) (m : GroupMember) → IsOwnWith partitions text m → IsOwnWith (p ∷ partitions) text m
behind_with p partitions text m is = record {
  own = record { k = suc is.own.k; inside = omega (arith, is.own.inside); physical = is.own.physical; found = is.own.found; same = is.own.same };
  text_is = is.text_is;
}

own_with : (text : List ℕ) (partitions : List FoundPartition) (m : GroupMember) → Contains (members_with text partitions) m → IsOwnWith partitions text m
own_with text [] m among = absurd (omega (arith, among.1))
own_with text (p ∷ partitions) m among = by (own_with text partitions m) p.found refl among
  where
    at : (Contains (members_with text partitions) m → IsOwnWith partitions text m) → (physical : Physical) → p.found ≡ IsPhysical physical → physical.first.text ≡ text
        → (k : ℕ) → k < length (member_of p physical ∷ members_with text partitions) → slice_index_or (member_of p physical ∷ members_with text partitions) k m ≡ m → IsOwnWith (p ∷ partitions) text m
    at ih physical is its zero inside e = record { own = record { k = zero; inside = omega arith; physical = physical; found = is; same = sym e }; text_is = its }
    at ih physical is its (suc k) inside e = behind_with p partitions text m (ih (k, omega (arith, inside), e))

    by_text : (Contains (members_with text partitions) m → IsOwnWith partitions text m) → (physical : Physical) → p.found ≡ IsPhysical physical → (b : Bool)
        → bytes_eq physical.first.text text ≡ b
        → Contains (if b then member_of p physical ∷ members_with text partitions else members_with text partitions) m → IsOwnWith (p ∷ partitions) text m
    by_text ih physical is true same among = at ih physical is ((bytes_eq-Decides physical.first.text text).0 same) among.0 among.1 among.2
    by_text ih physical is false same among = behind_with p partitions text m (ih among)

    by : (Contains (members_with text partitions) m → IsOwnWith partitions text m) → (found : Found) → p.found ≡ found
        → Contains (member_before text p found (members_with text partitions)) m → IsOwnWith (p ∷ partitions) text m
    by ih (IsPhysical physical) is among = by_text ih physical is (bytes_eq physical.first.text text) refl among
    by ih (IsAlone inner) is among = behind_with p partitions text m (ih among)

-- ---- how many sectors it has by the text

no_member : GroupMember
no_member = record { part = 0; label = record { sector = 0; offset = 0; id = []; size = 0; areas = 0; start = 0; length = 0; second = None }; sectors = 0 }

device_at : (n extent : ℕ) (ms : List GroupMember) (physicals : List PhysicalVolume) (k : ℕ) → k < length ms
    → ((j : ℕ) → j < k → (slice_index_or ms j no_member).part ≢ (slice_index_or ms k no_member).part)
    → device_from n extent (slice_index_or ms k no_member).part ms physicals ≡ device_sectors extent (slice_get physicals (n + k))
device_at n extent [] physicals k lt differ = absurd (omega (arith, lt))
device_at n extent (m ∷ ms) physicals zero lt differ =
    let here : n ≡ n + 0 = omega arith in
    ap (λ (b : Bool). if b then device_sectors extent (slice_get physicals n) else device_from (suc n) extent m.part ms physicals) (eq-eqb m.part m.part refl)
    ∙ ap (λ (x : ℕ). device_sectors extent (slice_get physicals x)) here
device_at n extent (m ∷ ms) physicals (suc k) lt differ =
    let part : ℕ = (slice_index_or ms k no_member).part in
    let later : suc n + k ≡ n + suc k = omega arith in
    ap (λ (b : Bool). if b then device_sectors extent (slice_get physicals n) else device_from (suc n) extent part ms physicals) (ne_eqb m.part part (differ 0 (omega arith)))
    ∙ device_at (suc n) extent ms physicals k (omega (arith, lt)) (λ j less. differ (suc j) (omega (arith, less)))
    ∙ ap (λ (x : ℕ). device_sectors extent (slice_get physicals x)) later

-- two members are two partitions
parts_differ : (A : List FoundPartition) (ms : List GroupMember) → AllPairs HaveTwoNumbers A → All (IsOwn A) ms → AllPairs (λ (a b : GroupMember). a ≢ b) ms
    → (j k : ℕ) → j < k → k < length ms → (slice_index_or ms j no_member).part ≢ (slice_index_or ms k no_member).part
parts_differ A ms two own differ j k less inside = λ same.
    let a : GroupMember = slice_index_or ms j no_member in
    let b : GroupMember = slice_index_or ms k no_member in
    let one : IsOwn A a = own j no_member (omega (arith, less, inside)) in
    let other : IsOwn A b = own k no_member inside in
    let numbers : (slice_index_or A one.k no_one).number ≡ (slice_index_or A other.k no_one).number =
    ap (λ (m : GroupMember). m.part) (sym one.same) ∙ same ∙ ap (λ (m : GroupMember). m.part) other.same in
    elim (cases_order one.k other.k) [
      | inl e ↦ differ j k no_member less inside (one_member A a b one other e)
      | inr order ↦ elim order [
        | inl before ↦ two one.k other.k no_one before other.inside numbers
        | inr after ↦ two other.k one.k no_one after one.inside (sym numbers)
      ]
    ]

-- ---- what a part with a physical volume holds

record IsMemberContent (A : List FoundPartition) (text : List ℕ) (number : ℕ) (g : VolumeGroup) (x : Physical) (c : Content) : Type 0 where
  membership : Membership
  holder : membership.holder ≡ first_part (members_with text A)
  device : membership.device ≡ device_of g number
  holder_is : holder_of c ≡ Some membership.holder
  needs : (count : ℕ) → needed_sectors c count ≡ needed_by_member x membership

device_again : (number : ℕ) (g h : VolumeGroup) → AreOneGroup g h → device_of h number ≡ device_of g number
device_again number g h same =
    ap (λ (s : Spelt). device_from 0 s.extent number h.members s.physicals) same.spelled
    ∙ ap (λ (ms : List GroupMember). device_from 0 g.spelt.extent number ms g.spelt.physicals) same.members

member_content : (A : List FoundPartition) (text : List ℕ) (number : ℕ) (g : VolumeGroup) (x : Physical) (s : Standing) → IsGroupOf A text g → IsStandingBy A text number s
    → IsMemberContent A text number g x (content_of_physical x s)
member_content A text number g x standing.Alone is stands = absurd stands
member_content A text number g x (standing.Holder m c) is stands = record {
  membership = m;
  holder = stands.is.holder;
  device = stands.is.device ∙ device_again number g c.group (one_group A text g c.group is stands.is.is_group);
  holder_is = refl;
  needs = λ count. refl;
}
member_content A text number g x (standing.Member m) is stands = record {
  membership = m;
  holder = stands.is.holder;
  device = stands.is.device ∙ device_again number g stands.group (one_group A text g stands.group is stands.is.is_group);
  holder_is = refl;
  needs = λ count. refl;
}
member_content A text number g x (standing.Unread cause) is stands = absurd (not_both A text g cause is stands)

-- ---- parts by their places

length-parts : (ps : List Partition) (xs : List FoundPartition) (ss : List Standing) → length xs ≡ length ps → length ss ≡ length ps → length (parts_with ps xs ss) ≡ length ps
length-parts [] xs ss a b = refl
length-parts (p ∷ ps) [] ss a b = absurd (omega (arith, a))
length-parts (p ∷ ps) (x ∷ xs) [] a b = absurd (omega (arith, b))
length-parts (p ∷ ps) (x ∷ xs) (s ∷ ss) a b = omega (arith, length-parts ps xs ss (omega (arith, a)) (omega (arith, b)))

part_at : (ps : List Partition) (xs : List FoundPartition) (ss : List Standing) (i : ℕ) (d : GuestPart) → length xs ≡ length ps → length ss ≡ length ps → i < length ps
    → slice_index_or (parts_with ps xs ss) i d
    ≡ part_with (slice_index_or ps i no_partition) (content_by (slice_index_or ps i no_partition).role (slice_index_or xs i no_one).found (slice_index_or ss i standing.Alone))
part_at [] xs ss i d a b lt = absurd (omega (arith, lt))
part_at (p ∷ ps) [] ss i d a b lt = absurd (omega (arith, a))
part_at (p ∷ ps) (x ∷ xs) [] i d a b lt = absurd (omega (arith, b))
part_at (p ∷ ps) (x ∷ xs) (s ∷ ss) zero d a b lt = refl
part_at (p ∷ ps) (x ∷ xs) (s ∷ ss) (suc i) d a b lt = part_at ps xs ss i d (omega (arith, a)) (omega (arith, b)) (omega (arith, lt))

zip_at : (image : List ℕ) (ps : List Partition) (xs : List FoundPartition) (i : ℕ) → AllZip (IsFoundPartition image) ps xs → i < length xs
    → IsFoundPartition image (slice_index_or ps i no_partition) (slice_index_or xs i no_one)
zip_at image [] [] i zip lt = absurd (omega (arith, lt))
zip_at image [] (x ∷ xs) i zip lt = absurd zip
zip_at image (p ∷ ps) [] i zip lt = absurd zip
zip_at image (p ∷ ps) (x ∷ xs) zero zip lt = zip.0
zip_at image (p ∷ ps) (x ∷ xs) (suc i) zip lt = zip_at image ps xs i zip.1 (omega (arith, lt))

-- a physical volume isn't in the extended partition
content_at : (image : List ℕ) (run : Run) (r : Role) (f : Found) (x : Physical) (s : Standing) → IsFoundAs r image run f → f ≡ IsPhysical x → content_by r f s ≡ content_of_physical x s
content_at image run InSlot f x s is found = ap (λ (g : Found). content_of_found g s) found
content_at image run InChain f x s is found = ap (λ (g : Found). content_of_found g s) found
content_at image run IsOuter f x s is found = absurd (cc (sym found ∙ is))

-- ---- what is lost

neither : (a b : Bool) → (a || b) ≡ false → (a ≡ false) × (b ≡ false)
neither true b is = absurd (false≢true (sym is))
neither false b is = (refl, is)

none_at : (p : GuestPart → Bool) (xs : List GuestPart) (i : ℕ) (d : GuestPart) → list_any p xs ≡ false → i < length xs → p (slice_index_or xs i d) ≡ false
none_at p [] i d none lt = absurd (omega (arith, lt))
none_at p (x ∷ xs) zero d none lt = (neither (p x) (list_any p xs) none).0
none_at p (x ∷ xs) (suc i) d none lt = none_at p xs i d (neither (p x) (list_any p xs) none).1 (omega (arith, lt))

not_lost : (a b : Bool) → (a && not b) ≡ false → a ≡ true → b ≡ true
not_lost true true is held = refl
not_lost true false is held = absurd (false≢true (sym is))
not_lost false b is held = absurd (false≢true held)

-- where a part is kept
pub record IsKept (plan : Plan) (part : GuestPart) : Type 0 where
  pub placed : Placed
  pub found : placed_from plan part.number ≡ Some placed
  pub copied : is_copied placed.fate ≡ true
  pub needs : needed_sectors part.content part.count ≤ placed.count

kept_by : (plan : Plan) (part : GuestPart) (o : Option Placed) → placed_from plan part.number ≡ o → keeps_content part o ≡ true → IsKept plan part
kept_by plan part None is keeps = absurd (false≢true keeps)
kept_by plan part (Some placed) is keeps =
    let both = and_parts (is_copied placed.fate) (nat_le (needed_sectors part.content part.count) placed.count) keeps in
    record { placed = placed; found = is; copied = both.0; needs = leb-true (needed_sectors part.content part.count) placed.count both.1 }

kept_member : (plan : Plan) (parts : List GuestPart) (holder i : ℕ) (d : GuestPart) → has_lost plan parts holder ≡ false → i < length parts
    → holder_of (slice_index_or parts i d).content ≡ Some holder → IsKept plan (slice_index_or parts i d)
kept_member plan parts holder i d none lt is =
    let part : GuestPart = slice_index_or parts i d in
    let here : is_holder holder (holder_of part.content) ≡ true = ap (is_holder holder) is ∙ eq-eqb holder holder refl in
    let lost : is_lost plan holder part ≡ false = none_at (is_lost plan holder) parts i d none lt in
    kept_by plan part (placed_from plan part.number) refl (not_lost (is_holder holder (holder_of part.content)) (keeps_content part (placed_from plan part.number)) lost here)

-- ---- a member of a group that loses none

pub record IsMemberPart (plan : Plan) (parts : List GuestPart) (run : Run) (device : ℕ) : Type 0 where
  pub i : ℕ
  pub within : i < length parts
  pub kept : (d : GuestPart) → IsKept plan (slice_index_or parts i d)
  pub start : (d : GuestPart) → (slice_index_or parts i d).start ≡ run.start
  pub count : (d : GuestPart) → (slice_index_or parts i d).count ≡ run.count
  pub fits : (d : GuestPart) → device ≤ (kept d).placed.count

module _ (plan : Plan) (sectors : ℕ) (image : List ℕ) (guest : GuestView) (is : IsGuest sectors image guest) (text : List ℕ) (g : VolumeGroup)
    (group : IsGroupOf is.contents.found text g) (none : has_lost plan guest.parts (first_part (members_with text is.contents.found)) ≡ false) where
  abbrev A : List FoundPartition
  A = is.contents.found

  abbrev ps : List Partition
  ps = partitions_of guest.table

  abbrev ss : List Standing
  ss = is.contents.standings

  long : length A ≡ length ps
  long = AllZip-long (IsFoundPartition image) ps A is.contents.are_found

  many : length ss ≡ length ps
  many = is.contents.are_standings.long ∙ long

  two : AllPairs HaveTwoNumbers A
  two = two_numbers image ps A is.contents.are_found (rising sectors image guest.table is.table)

  all_with : All (IsOwnWith A text) g.members
  all_with k d lt = own_with text A (slice_index_or g.members k d) (found_members (items_in group.tree) (members_with text A) g group.is_group k d lt)

  all_own : All (IsOwn A) g.members
  all_own k d lt = (all_with k d lt).own

  device_is : (k : ℕ) → k < length g.members → device_of g (slice_index_or g.members k no_member).part ≡ device_sectors g.spelt.extent (slice_get g.spelt.physicals k)
  device_is k lt =
      device_at 0 g.spelt.extent g.members g.spelt.physicals k lt
      (λ j less. parts_differ A g.members two all_own (different_members (items_in group.tree) (members_with text A) g group.is_group) j k less lt)
      ∙ (let here : 0 + k ≡ k = omega arith in ap (λ (n : ℕ). device_sectors g.spelt.extent (slice_get g.spelt.physicals n)) here)

  parts_long : length guest.parts ≡ length ps
  parts_long = ap (λ (l : List GuestPart). length l) is.contents.parts_are ∙ length-parts ps A ss long many

  -- the part that is member `k`
  part_is : (k : ℕ) (lt : k < length g.members) (d : GuestPart)
      → slice_index_or guest.parts (all_with k no_member lt).own.k d
      ≡ part_with (slice_index_or ps (all_with k no_member lt).own.k no_partition)
      (content_of_physical (all_with k no_member lt).own.physical (slice_index_or ss (all_with k no_member lt).own.k standing.Alone))
  part_is k lt d =
      let own = (all_with k no_member lt).own in
      let p : Partition = slice_index_or ps own.k no_partition in
      let s : Standing = slice_index_or ss own.k standing.Alone in
      let here = zip_at image ps A own.k is.contents.are_found own.inside in
      ap (λ (l : List GuestPart). slice_index_or l own.k d) is.contents.parts_are ∙ part_at ps A ss own.k d long many (omega (arith, own.inside, long))
      ∙ ap (part_with p) (content_at image (run_of_partition p) p.role (slice_index_or A own.k no_one).found own.physical s here.found own.found)

  stands_is : (k : ℕ) (lt : k < length g.members)
      → IsStandingBy A text (slice_index_or A (all_with k no_member lt).own.k no_one).number (slice_index_or ss (all_with k no_member lt).own.k standing.Alone)
  stands_is k lt =
      let its = all_with k no_member lt in
      let one : FoundPartition = slice_index_or A its.own.k no_one in
      let s : Standing = slice_index_or ss its.own.k standing.Alone in
      let stands : IsStandingOf A one.number one.found s = is.contents.are_standings.each its.own.k no_one standing.Alone its.own.inside in
      let by : IsStandingBy A its.own.physical.first.text one.number s = subst (λ (f : Found). IsStandingOf A one.number f s) its.own.found stands in
      subst (λ (t : List ℕ). IsStandingBy A t one.number s) its.text_is by

  member_part : (k : ℕ) → k < length g.members
      → IsMemberPart plan guest.parts (run_numbered (slice_index_or g.members k no_member).part A) (device_sectors g.spelt.extent (slice_get g.spelt.physicals k))
  member_part k lt =
      let m : GroupMember = slice_index_or g.members k no_member in
      let its = all_with k no_member lt in
      let own = its.own in
      let p : Partition = slice_index_or ps own.k no_partition in
      let one : FoundPartition = slice_index_or A own.k no_one in
      let s : Standing = slice_index_or ss own.k standing.Alone in
      let here = zip_at image ps A own.k is.contents.are_found own.inside in
      let content = member_content A text one.number g own.physical s group (stands_is k lt) in
      let within : own.k < length guest.parts = omega (arith, own.inside, long, parts_long) in
      let run : run_numbered m.part A ≡ run_of_partition p = own_run A m two own ∙ here.run in
      let number : m.part ≡ one.number = ap (λ (x : GroupMember). x.part) own.same in
      let Holds : GuestPart → Type 0 = λ part. holder_of part.content ≡ Some (first_part (members_with text A)) in
      let kept : (d : GuestPart) → IsKept plan (slice_index_or guest.parts own.k d) = λ d.
      kept_member plan guest.parts (first_part (members_with text A)) own.k d none within
      (subst Holds (sym (part_is k lt d)) (content.holder_is ∙ ap (λ (n : ℕ). Some n) content.holder)) in
      record {
        i = own.k;
        within = within;
        kept = kept;
        start = λ d. ap (λ (part : GuestPart). part.start) (part_is k lt d) ∙ sym (ap (λ (r : Run). r.start) run);
        count = λ d. ap (λ (part : GuestPart). part.count) (part_is k lt d) ∙ sym (ap (λ (r : Run). r.count) run);
        fits = λ d.
            let needs : needed_sectors (slice_index_or guest.parts own.k d).content (slice_index_or guest.parts own.k d).count ≡ needed_by_member own.physical content.membership =
            ap (λ (part : GuestPart). needed_sectors part.content part.count) (part_is k lt d) ∙ content.needs p.count in
            let device : content.membership.device ≡ device_sectors g.spelt.extent (slice_get g.spelt.physicals k) =
            content.device ∙ ap (device_of g) (sym number) ∙ device_is k lt in
            omega (arith, (kept d).needs, needs, device);
      }

-- ---- bytes

bytes_of_sectors : (source new : List ℕ) (a b n : ℕ) → 512 * (a + n) ≤ length source → 512 * (b + n) ≤ length new
    → ((j : ℕ) → j < n → sector new (b + j) ≡ sector source (a + j)) → bytes_at new (512 * b) (512 * n) ≡ bytes_at source (512 * a) (512 * n)
bytes_of_sectors source new a b n on_source on_new same =
    let one : length (bytes_at new (512 * b) (512 * n)) ≡ 512 * n = length-bytes_at new (512 * b) (512 * n) (omega (arith, on_new)) in
    let other : length (bytes_at source (512 * a) (512 * n)) ≡ 512 * n = length-bytes_at source (512 * a) (512 * n) (omega (arith, on_source)) in
    same_number_lists (bytes_at new (512 * b) (512 * n)) (bytes_at source (512 * a) (512 * n)) (one ∙ sym other)
    (λ i h.
    let lt : i < 512 * n = omega (arith, h, one) in
    byte_of_range new (512 * b) (512 * n) i (512 * b + i) refl lt
    ∙ sym (byte_of_range new (512 * (b + i / 512)) 512 (i % 512) (512 * b + i) (omega arith) (omega arith))
    ∙ ap (λ (s : List ℕ). slice_index s (i % 512)) (same (i / 512) (omega (arith, lt)))
    ∙ byte_of_range source (512 * (a + i / 512)) 512 (i % 512) (512 * a + i) (omega arith) (omega arith)
    ∙ sym (byte_of_range source (512 * a) (512 * n) i (512 * a + i) refl lt))

-- the sectors of a part that is copied, as many as the shorter length has
pub record IsSameRange (source new : List ℕ) (part : GuestPart) (placed : Placed) : Type 0 where
  pub on_source : 512 * (part.start + min part.count placed.count) ≤ length source
  pub on_new : 512 * (placed.start + min part.count placed.count) ≤ length new
  pub sectors : (j : ℕ) → j < min part.count placed.count → sector new (placed.start + j) ≡ sector source (part.start + j)

abbrev pub AreSameRanges : Plan → List ℕ → List ℕ → List GuestPart → Type 0
AreSameRanges plan source new parts =
    (k : ℕ) (d : GuestPart) → k < length parts → (placed : Placed) → placed_from plan (slice_index_or parts k d).number ≡ Some placed → is_copied placed.fate ≡ true
    → IsSameRange source new (slice_index_or parts k d) placed

no_part : GuestPart
no_part = record { number = 0; role = InSlot; start = 0; count = 0; ebr = 0; content = Extended }

record IsMovedTo (plan : Plan) (source new : List ℕ) (parts : List GuestPart) (run : Run) : Type 0 where
  moved : Run
  is : IsMovedRun plan parts run moved
  bytes : bytes_at new (512 * moved.start) (512 * moved.count) ≡ bytes_at source (512 * run.start) (512 * run.count)

-- a run that lies in a member
moved_to : (plan : Plan) (source new : List ℕ) (parts : List GuestPart) (own : Run) (device first count : ℕ) → AreSameRanges plan source new parts
    → IsMemberPart plan parts own device → first + count ≤ own.count → first + count ≤ device → IsMovedTo plan source new parts (run_of (own.start + first) count)
moved_to plan source new parts own device first count same member in_own in_device =
    let part : GuestPart = slice_index_or parts member.i no_part in
    let kept : IsKept plan part = member.kept no_part in
    let placed : Placed = kept.placed in
    let start : part.start ≡ own.start = member.start no_part in
    let long : part.count ≡ own.count = member.count no_part in
    let fits : device ≤ placed.count = member.fits no_part in
    let range : IsSameRange source new part placed = same member.i no_part member.within placed kept.found kept.copied in
    let there : first + count ≤ min part.count placed.count = omega (arith, in_own, in_device, long, fits) in
    let to : ℕ = placed.start + (own.start + first - part.start) in
    let to_is : to ≡ placed.start + first = omega (arith, start) in
    record {
      moved = run_of to count;
      is = record {
        part = part;
        among = (member.i, member.within, get_or_default parts member.i part no_part member.within);
        placed = placed;
        found = kept.found;
        inside = record { from = omega (arith, start); before = omega (arith, start, there) };
        moved_is = refl;
      };
      bytes =
          bytes_of_sectors source new (own.start + first) to count (omega (arith, range.on_source, start, there)) (omega (arith, range.on_new, to_is, there))
          (λ j lt.
          let a : placed.start + (first + j) ≡ to + j = omega (arith, to_is) in
          let b : part.start + (first + j) ≡ own.start + first + j = omega (arith, start) in
          ap (sector new) (sym a) ∙ range.sectors (first + j) (omega (arith, lt, there)) ∙ ap (sector source) b);
    }

record AreMovedTo (plan : Plan) (source new : List ℕ) (parts : List GuestPart) (own : List Run) : Type 0 where
  runs : List Run
  moved : AllZip (IsMovedRun plan parts) own runs
  same : joined_runs new runs ≡ joined_runs source own

module _ (plan : Plan) (source new : List ℕ) (sectors : ℕ) (guest : GuestView) (is : IsGuest sectors source guest) (same : AreSameRanges plan source new guest.parts)
    (text : List ℕ) (g : VolumeGroup) (group : IsGroupOf is.contents.found text g)
    (none : has_lost plan guest.parts (first_part (members_with text is.contents.found)) ≡ false) where
  abbrev own_runs : List Run
  own_runs = member_runs is.contents.found g.members

  one_moved : (r : ℕ × ℕ × ℕ) → LiesInMember own_runs r → LiesInDevice g r → IsMovedTo plan source new guest.parts (disk_run own_runs r)
  one_moved r lies device =
      let f : GroupMember → Run = λ m. run_numbered m.part is.contents.found in
      let lt : r.0 < length g.members = omega (arith, lies.known, length-map g.members f) in
      let run_is : member_run own_runs r.0 ≡ f (slice_index_or g.members r.0 no_member) = get_or-map f g.members r.0 no_member (run_of 0 0) lt in
      let member = member_part plan sectors source guest is text g group none r.0 lt in
      let there : IsMemberPart plan guest.parts (member_run own_runs r.0) (device_sectors g.spelt.extent (slice_get g.spelt.physicals r.0)) =
      subst (λ (run : Run). IsMemberPart plan guest.parts run (device_sectors g.spelt.extent (slice_get g.spelt.physicals r.0))) (sym run_is) member in
      moved_to plan source new guest.parts (member_run own_runs r.0) (device_sectors g.spelt.extent (slice_get g.spelt.physicals r.0)) r.1 r.2 same there lies.inside device

  all_moved : (rs : List (ℕ × ℕ × ℕ)) → All (LiesInMember own_runs) rs → All (LiesInDevice g) rs → AreMovedTo plan source new guest.parts (disk_runs own_runs rs)
  all_moved [] lie devices = record { runs = []; moved = tt; same = refl }
  all_moved (r ∷ rs) lie devices =
      let here = one_moved r (All-head (LiesInMember own_runs) r rs lie) (All-head (LiesInDevice g) r rs devices) in
      let later = all_moved rs (All-tail (LiesInMember own_runs) r rs lie) (All-tail (LiesInDevice g) r rs devices) in
      record {
        runs = here.moved ∷ later.runs;
        moved = (here.is, later.moved);
        same =
            ap (λ (l : List ℕ). l ++ joined_runs new later.runs) here.bytes
            ∙ ap (λ (l : List ℕ). bytes_at source (512 * (disk_run own_runs r).start) (512 * (disk_run own_runs r).count) ++ l) later.same;
      }

  volumes_same : (vs : List GroupVolume) (us : List Volume) → map runs_held vs ≡ map (λ (u : Volume). disk_runs own_runs u.runs) us
      → All (LiesInMember own_runs) (flat_map (λ (u : Volume). u.runs) us) → All (LiesInDevice g) (flat_map (λ (u : Volume). u.runs) us)
      → All (IsSameVolume plan guest.parts source new) vs
  volumes_same [] us places lie devices = All-nil (IsSameVolume plan guest.parts source new)
  volumes_same (v ∷ vs) [] places lie devices = absurd (cc places)
  volumes_same (v ∷ vs) (u ∷ us) places lie devices =
      let rest : List (ℕ × ℕ × ℕ) = flat_map (λ (w : Volume). w.runs) us in
      let head : v.runs.items ≡ disk_runs own_runs u.runs = cc places in
      let tail : map runs_held vs ≡ map (λ (w : Volume). disk_runs own_runs w.runs) us = cc places in
      let moved = all_moved u.runs (all_left (LiesInMember own_runs) u.runs rest lie) (all_left (LiesInDevice g) u.runs rest devices) in
      All-cons (IsSameVolume plan guest.parts source new) v vs
      (record {
        runs = moved.runs;
        moved = subst (λ (l : List Run). AllZip (IsMovedRun plan guest.parts) l moved.runs) (sym head) moved.moved;
        same = moved.same ∙ ap (joined_runs source) (sym head);
      })
      (volumes_same vs us tail (all_right (LiesInMember own_runs) u.runs rest lie) (all_right (LiesInDevice g) u.runs rest devices))

-- ---- all groups

module _ (plan : Plan) (source new : List ℕ) (sectors : ℕ) (guest : GuestView) (is : IsGuest sectors source guest) (same : AreSameRanges plan source new guest.parts) where
  group_keeps : (text : List ℕ) (number : ℕ) (x : Physical) (m : Membership) (c : GroupContent) → IsHolder is.contents.found text number m c
      → KeepsVolumes plan guest.parts source new (Group x m c)
  group_keeps text number x m c stands = λ none.
      let A = is.contents.found in
      let group : IsGroupOf A text c.group = stands.is.is_group in
      let none_here : has_lost plan guest.parts (first_part (members_with text A)) ≡ false = ap (has_lost plan guest.parts) (sym stands.is.holder) ∙ none in
      let two : AllPairs HaveTwoNumbers A = two_numbers source (partitions_of guest.table) A is.contents.are_found (rising sectors source guest.table is.table) in
      let own : All (IsOwn A) c.group.members = λ k d lt.
      own_member text A (slice_index_or c.group.members k d) (found_members (items_in group.tree) (members_with text A) c.group group.is_group k d lt) in
      volumes_same plan source new sectors guest is same text c.group group none_here c.volumes.items c.group.volumes stands.in_place
      (volumes_in_members (items_in group.tree) (members_with text A) c.group (member_runs A c.group.members) group.is_group (are_member_runs A c.group.members two own))
      (volumes_in_devices (items_in group.tree) (members_with text A) c.group group.is_group)

  content_keeps : (number : ℕ) (f : Found) (s : Standing) → IsStandingOf is.contents.found number f s → KeepsVolumes plan guest.parts source new (content_of_found f s)
  content_keeps number (IsAlone (inner.Xfs volume)) s stands = tt
  content_keeps number (IsAlone (inner.Swap swap)) s stands = tt
  content_keeps number (IsAlone (inner.Unread cause)) s stands = tt
  content_keeps number (IsPhysical x) standing.Alone stands = absurd stands
  content_keeps number (IsPhysical x) (standing.Holder m c) stands = group_keeps x.first.text number x m c stands
  content_keeps number (IsPhysical x) (standing.Member m) stands = tt
  content_keeps number (IsPhysical x) (standing.Unread cause) stands = tt

  role_keeps : (number : ℕ) (r : Role) (f : Found) (s : Standing) → IsStandingOf is.contents.found number f s → KeepsVolumes plan guest.parts source new (content_by r f s)
  role_keeps number IsOuter f s stands = tt
  role_keeps number InSlot f s stands = content_keeps number f s stands
  role_keeps number InChain f s stands = content_keeps number f s stands

  parts_keep : (ps : List Partition) (xs : List FoundPartition) (ss : List Standing) → AllZip (IsStanding is.contents.found) xs ss
      → All (λ (part : GuestPart). KeepsVolumes plan guest.parts source new part.content) (parts_with ps xs ss)
  parts_keep [] xs ss zip = All-nil (λ (part : GuestPart). KeepsVolumes plan guest.parts source new part.content)
  parts_keep (p ∷ ps) [] ss zip = All-nil (λ (part : GuestPart). KeepsVolumes plan guest.parts source new part.content)
  parts_keep (p ∷ ps) (x ∷ xs) [] zip = absurd zip
  parts_keep (p ∷ ps) (x ∷ xs) (s ∷ ss) zip =
      All-cons (λ (part : GuestPart). KeepsVolumes plan guest.parts source new part.content) (part_with p (content_by p.role x.found s)) (parts_with ps xs ss)
      (role_keeps x.number p.role x.found s zip.0) (parts_keep ps xs ss zip.1)

  pub volumes_keep : All (λ (part : GuestPart). KeepsVolumes plan guest.parts source new part.content) guest.parts
  volumes_keep =
      let c = is.contents in
      subst (λ (l : List GuestPart). All (λ (part : GuestPart). KeepsVolumes plan guest.parts source new part.content) l) (sym c.parts_are)
      (parts_keep (partitions_of guest.table) c.found c.standings (standings_zip c.found c.found c.standings c.are_standings.long c.are_standings.each))
