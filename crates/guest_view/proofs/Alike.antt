-- A disk has one guest.
use Rattle.std.proofs.Common.{◌≡◌, ℕ, zero, suc, ◌+◌, ◌*◌, ◌<◌, ◌≤◌, ◌^◌, ◌⊎◌, List, [], ◌∷◌, length, map, arith, refl, sym, subst, ◌∙◌, ap, if◌then◌else◌, Bool, ◌==◌, slice_index_or, All}
use Rattle.std.specs.List.{AllZip}
use Rattle.std.specs.Str.{bytes_eq}
use Rattle.disk_base.specs.Image.{bytes_at}
use Rattle.disk_base.specs.declared.run.Run.{Run}
use Rattle.disk_view.specs.Join.{joined_runs, total}
use Rattle.group_content.specs.Grouped.{HoldsInner, first_part, member_before, member_of, member_runs, members_with, run_numbered, runs_held, volume_places}
use Rattle.group_content.proofs.Alike.{one_standing}
use Rattle.group_content.specs.Laws.{AreAlikeGroups, AreAlikeStandings}
use Rattle.group_content.specs.Standing.{AreStandings, HasGroupFault, HoldInners, IsGroupOf, IsHolder, IsLaterMember, IsMembership, IsStanding, IsStandingBy, IsStandingOf, MakeNoGroup}
use Rattle.group_content.specs.declared.types.FoundPartition.{FoundPartition}
use Rattle.group_content.specs.declared.types.GroupContent.{GroupContent}
use Rattle.group_content.specs.declared.types.GroupVolume.{GroupVolume}
use Rattle.group_content.specs.declared.types.Membership.{Membership}
use Rattle.group_content.specs.declared.types.Standing.{Standing}
use Rattle.group_content.specs.declared.types.Standing.TheVariants as standing
use Rattle.layout_plan.specs.declared.part.Role.{Role}
use Rattle.layout_plan.specs.declared.part.Role.TheVariants.{Slot as InSlot, Extended as IsOuter, Logical as InChain}
use Rattle.lvm_group.specs.Answer.{IsGroup, IsGroupFault}
use Rattle.lvm_group.specs.declared.fault.GroupFault.{GroupFault}
use Rattle.lvm_group.specs.declared.group.Group.{Group as VolumeGroup}
use Rattle.lvm_group.specs.declared.types.Member.{Member as GroupMember}
use Rattle.lvm_text.specs.Tree.{items_in}
use Rattle.partition_content.specs.Found.{IsFoundIn}
use Rattle.partition_content.proofs.Unique.{one_find}
use Rattle.partition_content.specs.Laws.{IsAlikeFound}
use Rattle.partition_content.specs.declared.found.Found.{Found}
use Rattle.partition_content.specs.declared.found.Found.TheVariants.{Physical as IsPhysical, Inner as IsAlone}
use Rattle.partition_content.specs.declared.found.Physical.{Physical}
use Rattle.volume_content.specs.Inner.{IsInner}
use Rattle.volume_content.proofs.Alike.{is_alike}
use Rattle.volume_content.specs.Laws.{IsAlike}
use Rattle.volume_content.specs.declared.content.Inner.{Inner}
use Rattle.volume_content.specs.declared.content.Inner.TheVariants as inner
use Rattle.volume_content.specs.declared.content.Why.{Why}
use Rattle.volume_content.specs.declared.content.Why.TheVariants as why
use Rattle.xfs_super.specs.declared.reason.Reason.{Reason}
use Rattle.guest_view.specs.declared.content.Content.{Content}
use Rattle.guest_view.specs.declared.content.Content.TheVariants.{Extended, Xfs, Swap, Group, Member, Unread}
use Rattle.guest_view.specs.declared.fault.InspectFault.{InspectFault}
use Rattle.guest_view.specs.declared.guest.GuestPart.{GuestPart}
use Rattle.guest_view.specs.declared.partition.Partition.{Partition}
use Rattle.guest_view.specs.declared.table.Table.{Table}
use Rattle.guest_view.specs.Contents.{HaveContents, IsFoundAs, IsFoundPartition, content_by, content_of_found, content_of_inner, content_of_physical, part_with, parts_with, run_of_partition}
use Rattle.guest_view.specs.Guests.{GuestView, IsGuest}
use Rattle.guest_view.specs.Laws.{AreAlikeContents, AreAlikeGuests, AreAlikeParts, HoldAlike, OneGuest}
use Rattle.guest_view.specs.Partitions.{partitions_of}
use Rattle.guest_view.proofs.Guests.{no_reason, one_table}

-- ---- what is found of one partition

record AreAlikeFound (one other : FoundPartition) : Type 0 where
  number : other.number ≡ one.number
  run : other.run ≡ one.run
  found : IsAlikeFound one.found other.found

found_as : (image : List ℕ) (run : Run) (r : Role) (f g : Found) → IsFoundAs r image run f → IsFoundAs r image run g → IsAlikeFound f g
found_as image run IsOuter f g is other =
    subst (λ (x : Found). IsAlikeFound x g) (sym is) (subst (IsAlikeFound (IsAlone (inner.Unread why.Other))) (sym other) refl)
found_as image run InSlot f g is other = one_find run.count (bytes_at image (512 * run.start) (512 * run.count)) f g is other
found_as image run InChain f g is other = one_find run.count (bytes_at image (512 * run.start) (512 * run.count)) f g is other

found_alike : (image : List ℕ) (p : Partition) (one other : FoundPartition) → IsFoundPartition image p one → IsFoundPartition image p other → AreAlikeFound one other
found_alike image p one other is is' = record {
  number = is'.number ∙ sym is.number;
  run = is'.run ∙ sym is.run;
  found = found_as image (run_of_partition p) p.role one.found other.found is.found is'.found;
}

all_alike : (image : List ℕ) (ps : List Partition) (xs ys : List FoundPartition) → AllZip (IsFoundPartition image) ps xs → AllZip (IsFoundPartition image) ps ys
    → AllZip AreAlikeFound xs ys
all_alike image [] [] [] a b = tt
all_alike image [] [] (y ∷ ys) a b = absurd b
all_alike image [] (x ∷ xs) ys a b = absurd a
all_alike image (p ∷ ps) [] ys a b = absurd a
all_alike image (p ∷ ps) (x ∷ xs) [] a b = absurd b
all_alike image (p ∷ ps) (x ∷ xs) (y ∷ ys) a b = (found_alike image p x y a.0 b.0, all_alike image ps xs ys a.1 b.1)

-- ---- they have the same members, and these the same runs

before_alike : (text : List ℕ) (one other : FoundPartition) (f g : Found) → other.number ≡ one.number → other.run ≡ one.run → IsAlikeFound f g
    → (ms ms' : List GroupMember) → ms' ≡ ms → member_before text other g ms' ≡ member_before text one f ms
before_alike text one other (IsAlone x) (IsAlone y) number run alike ms ms' same = same
before_alike text one other (IsAlone x) (IsPhysical y) number run alike ms ms' same = absurd (cc alike)
before_alike text one other (IsPhysical x) g number run alike ms ms' same =
    let member : member_of other x ≡ member_of one x =
    ap (λ (n : ℕ). record { part = n; label = x.label; sectors = other.run.count }) number ∙ ap (λ (r : Run). record { part = one.number; label = x.label; sectors = r.count }) run in
    ap (λ (h : Found). member_before text other h ms') alike
    ∙ ap (λ (m : GroupMember). if bytes_eq x.first.text text then m ∷ ms' else ms') member
    ∙ ap (λ (l : List GroupMember). if bytes_eq x.first.text text then member_of one x ∷ l else l) same

members_alike : (text : List ℕ) (xs ys : List FoundPartition) → AllZip AreAlikeFound xs ys → members_with text ys ≡ members_with text xs
members_alike text [] [] zip = refl
members_alike text [] (y ∷ ys) zip = absurd zip
members_alike text (x ∷ xs) [] zip = absurd zip
members_alike text (x ∷ xs) (y ∷ ys) zip =
    before_alike text x y x.found y.found zip.0.number zip.0.run zip.0.found (members_with text xs) (members_with text ys) (members_alike text xs ys zip.1)

runs_alike : (number : ℕ) (xs ys : List FoundPartition) → AllZip AreAlikeFound xs ys → run_numbered number ys ≡ run_numbered number xs
runs_alike number [] [] zip = refl
runs_alike number [] (y ∷ ys) zip = absurd zip
runs_alike number (x ∷ xs) [] zip = absurd zip
runs_alike number (x ∷ xs) (y ∷ ys) zip =
    ap (λ (n : ℕ). if n == number then y.run else run_numbered number ys) zip.0.number
    ∙ ap (λ (r : Run). if x.number == number then r else run_numbered number ys) zip.0.run
    ∙ ap (λ (r : Run). if x.number == number then x.run else r) (runs_alike number xs ys zip.1)

module _ (A B : List FoundPartition) (members : (text : List ℕ) → members_with text B ≡ members_with text A)
    (runs : (number : ℕ) → run_numbered number B ≡ run_numbered number A) where
  same_runs : (ms : List GroupMember) → member_runs B ms ≡ member_runs A ms
  same_runs [] = refl
  same_runs (m ∷ ms) =
      ap (λ (r : Run). r ∷ member_runs B ms) (runs m.part) ∙ ap (λ (l : List Run). run_numbered m.part A ∷ l) (same_runs ms)

  group_again : (text : List ℕ) (g : VolumeGroup) → IsGroupOf B text g → IsGroupOf A text g
  group_again text g is = record {
    tree = is.tree;
    spelled = is.spelled;
    is_group = subst (λ (ms : List GroupMember). IsGroup (items_in is.tree) ms g) (members text) is.is_group;
  }

  fault_again : (text : List ℕ) (fault : GroupFault) → HasGroupFault B text fault → HasGroupFault A text fault
  fault_again text fault is = record {
    tree = is.tree;
    spelled = is.spelled;
    known = is.known;
    has = subst (λ (ms : List GroupMember). IsGroupFault (items_in is.tree) ms fault) (members text) is.has;
  }

  membership_again : (text : List ℕ) (number : ℕ) (g : VolumeGroup) (m : Membership) → IsMembership B text number g m → IsMembership A text number g m
  membership_again text number g m is = record {
    is_group = group_again text g is.is_group;
    holder = is.holder ∙ ap first_part (members text);
    device = is.device;
  }

  none_again : (text : List ℕ) (cause : Why) → MakeNoGroup B text cause → MakeNoGroup A text cause
  none_again text (why.Text fault) is = is
  none_again text (why.Group fault) is = fault_again text fault is
  none_again text why.Other is = absurd is
  none_again text why.NoGroup is = absurd is
  none_again text (why.Xfs reason) is = absurd is
  none_again text why.Swap is = absurd is
  none_again text (why.Ring fault) is = absurd is

  by_again : (text : List ℕ) (number : ℕ) (s : Standing) → IsStandingBy B text number s → IsStandingBy A text number s
  by_again text number standing.Alone is = absurd is
  by_again text number (standing.Holder m content) is = record {
    is = membership_again text number content.group m is.is;
    first = is.first;
    in_place = is.in_place ∙ ap (λ (l : List Run). volume_places l content.group) (same_runs content.group.members);
  }
  by_again text number (standing.Member m) is = record { group = is.group; is = membership_again text number is.group m is.is; later = is.later }
  by_again text number (standing.Unread cause) is = none_again text cause is

  of_again : (number : ℕ) (f g : Found) (s : Standing) → IsAlikeFound f g → IsStandingOf B number g s → IsStandingOf A number f s
  of_again number (IsAlone x) (IsAlone y) s alike is = is
  of_again number (IsAlone x) (IsPhysical y) s alike is = absurd (cc alike)
  of_again number (IsPhysical x) g s alike is =
      by_again x.first.text number s (subst (λ (h : Found). IsStandingOf B number h s) alike is)

  standing_again : (one other : FoundPartition) (s : Standing) → AreAlikeFound one other → IsStanding B other s → IsStanding A one s
  standing_again one other s alike is =
      subst (λ (n : ℕ). IsStandingOf A n one.found s) alike.number (of_again other.number one.found other.found s alike.found is)

-- ---- contents

alike_unread : (cause : Why) → AreAlikeContents (Unread cause) (Unread cause)
alike_unread why.Other = refl
alike_unread why.NoGroup = refl
alike_unread (why.Xfs reason) = tt
alike_unread why.Swap = refl
alike_unread (why.Ring fault) = refl
alike_unread (why.Text fault) = refl
alike_unread (why.Group fault) = refl

-- of a content that isn't an XFS volume which isn't valid
again : (one other : Inner) → other ≡ one → AreAlikeContents (content_of_inner one) (content_of_inner one) → AreAlikeContents (content_of_inner one) (content_of_inner other)
again one other same alike = subst (λ (i : Inner). AreAlikeContents (content_of_inner one) (content_of_inner i)) (sym same) alike

inner_alike : (one other : Inner) → IsAlike one other → AreAlikeContents (content_of_inner one) (content_of_inner other)
inner_alike (inner.Xfs volume) other alike = again (inner.Xfs volume) other alike refl
inner_alike (inner.Swap swap) other alike = again (inner.Swap swap) other alike refl
inner_alike (inner.Unread (why.Xfs reason)) (inner.Unread (why.Xfs reason')) alike = tt
inner_alike (inner.Unread (why.Xfs reason)) (inner.Xfs volume) alike = absurd (cc alike)
inner_alike (inner.Unread (why.Xfs reason)) (inner.Swap swap) alike = absurd (cc alike)
inner_alike (inner.Unread (why.Xfs reason)) (inner.Unread why.Other) alike = absurd (cc alike)
inner_alike (inner.Unread (why.Xfs reason)) (inner.Unread why.NoGroup) alike = absurd (cc alike)
inner_alike (inner.Unread (why.Xfs reason)) (inner.Unread why.Swap) alike = absurd (cc alike)
inner_alike (inner.Unread (why.Xfs reason)) (inner.Unread (why.Ring fault)) alike = absurd (cc alike)
inner_alike (inner.Unread (why.Xfs reason)) (inner.Unread (why.Text fault)) alike = absurd (cc alike)
inner_alike (inner.Unread (why.Xfs reason)) (inner.Unread (why.Group fault)) alike = absurd (cc alike)
inner_alike (inner.Unread why.Other) other alike = again (inner.Unread why.Other) other alike refl
inner_alike (inner.Unread why.NoGroup) other alike = again (inner.Unread why.NoGroup) other alike refl
inner_alike (inner.Unread why.Swap) other alike = again (inner.Unread why.Swap) other alike refl
inner_alike (inner.Unread (why.Ring fault)) other alike = again (inner.Unread (why.Ring fault)) other alike refl
inner_alike (inner.Unread (why.Text fault)) other alike = again (inner.Unread (why.Text fault)) other alike refl
inner_alike (inner.Unread (why.Group fault)) other alike = again (inner.Unread (why.Group fault)) other alike refl

volume_alike : (image : List ℕ) (v w : GroupVolume) → w.runs.items ≡ v.runs.items → HoldsInner image v → HoldsInner image w → HoldAlike v w
volume_alike image v w same a b =
    is_alike (total v.runs.items) (joined_runs image v.runs.items) v.inner w.inner a
    (subst (λ (runs : List Run). IsInner (total runs) (joined_runs image runs) w.inner) same b)

volumes_alike : (image : List ℕ) (vs ws : List GroupVolume) → map runs_held ws ≡ map runs_held vs → All (HoldsInner image) vs → All (HoldsInner image) ws
    → AllZip HoldAlike vs ws
volumes_alike image [] [] same a b = tt
volumes_alike image [] (w ∷ ws) same a b = absurd (cc same)
volumes_alike image (v ∷ vs) [] same a b = absurd (cc same)
volumes_alike image (v ∷ vs) (w ∷ ws) same a b =
    let head : w.runs.items ≡ v.runs.items = cc same in
    let tail : map runs_held ws ≡ map runs_held vs = cc same in (
      volume_alike image v w head (a 0 v (omega arith)) (b 0 w (omega arith)),
      volumes_alike image vs ws tail (λ k d lt. a (suc k) d (omega (arith, lt))) (λ k d lt. b (suc k) d (omega (arith, lt))),
    )

physical_alike : (image : List ℕ) (x : Physical) (s t : Standing) → AreAlikeStandings s t → HoldInners image s → HoldInners image t
    → AreAlikeContents (content_of_physical x s) (content_of_physical x t)
physical_alike image x standing.Alone t alike a b = subst (λ (u : Standing). AreAlikeContents (Unread why.Other) (content_of_physical x u)) (sym alike) refl
physical_alike image x (standing.Holder m g) standing.Alone alike a b = absurd alike
physical_alike image x (standing.Holder m g) (standing.Member n) alike a b = absurd alike
physical_alike image x (standing.Holder m g) (standing.Unread cause) alike a b = absurd alike
physical_alike image x (standing.Holder m g) (standing.Holder n h) alike a b =
    (refl, alike.0, alike.1, volumes_alike image g.volumes.items h.volumes.items alike.1.places a b)
physical_alike image x (standing.Member m) t alike a b =
    subst (λ (u : Standing). AreAlikeContents (Member x m) (content_of_physical x u)) (sym alike) refl
physical_alike image x (standing.Unread cause) t alike a b =
    subst (λ (u : Standing). AreAlikeContents (Unread cause) (content_of_physical x u)) (sym alike) (alike_unread cause)

content_alike : (image : List ℕ) (f g : Found) (s t : Standing) → IsAlikeFound f g → AreAlikeStandings s t → HoldInners image s → HoldInners image t
    → AreAlikeContents (content_of_found f s) (content_of_found g t)
content_alike image (IsAlone x) (IsAlone y) s t found stand a b = inner_alike x y found
content_alike image (IsAlone x) (IsPhysical y) s t found stand a b = absurd (cc found)
content_alike image (IsPhysical x) g s t found stand a b =
    subst (λ (h : Found). AreAlikeContents (content_of_physical x s) (content_of_found h t)) (sym found) (physical_alike image x s t stand a b)

by_role : (image : List ℕ) (r : Role) (f g : Found) (s t : Standing) → IsAlikeFound f g → AreAlikeStandings s t → HoldInners image s → HoldInners image t
    → AreAlikeContents (content_by r f s) (content_by r g t)
by_role image IsOuter f g s t found stand a b = refl
by_role image InSlot f g s t found stand a b = content_alike image f g s t found stand a b
by_role image InChain f g s t found stand a b = content_alike image f g s t found stand a b

-- what holds of a content and itself, of two XFS volumes that aren't valid, and of one group with its volumes read twice
pub alike_cases : (P : Content → Content → Type 0) → ((c : Content) → P c c) → ((reason reason' : Reason) → P (Unread (why.Xfs reason)) (Unread (why.Xfs reason')))
    → ((x : Physical) (m : Membership) (g h : GroupContent) → AreAlikeGroups g h → P (Group x m g) (Group x m h)) → (c d : Content) → AreAlikeContents c d → P c d
alike_cases P one two group Extended d alike = subst (P Extended) (sym alike) (one Extended)
alike_cases P one two group (Xfs volume) d alike = subst (P (Xfs volume)) (sym alike) (one (Xfs volume))
alike_cases P one two group (Swap swap) d alike = subst (P (Swap swap)) (sym alike) (one (Swap swap))
alike_cases P one two group (Member x m) d alike = subst (P (Member x m)) (sym alike) (one (Member x m))
alike_cases P one two group (Group x m g) (Group y n h) alike =
    subst (λ (z : Physical). P (Group x m g) (Group z n h)) (sym alike.0)
    (subst (λ (z : Membership). P (Group x m g) (Group x z h)) (sym alike.1) (group x m g h alike.2))
alike_cases P one two group (Group x m g) Extended alike = absurd alike
alike_cases P one two group (Group x m g) (Xfs volume) alike = absurd alike
alike_cases P one two group (Group x m g) (Swap swap) alike = absurd alike
alike_cases P one two group (Group x m g) (Member y n) alike = absurd alike
alike_cases P one two group (Group x m g) (Unread cause) alike = absurd alike
alike_cases P one two group (Unread (why.Xfs reason)) (Unread (why.Xfs reason')) alike = two reason reason'
alike_cases P one two group (Unread (why.Xfs reason)) Extended alike = absurd (cc alike)
alike_cases P one two group (Unread (why.Xfs reason)) (Xfs volume) alike = absurd (cc alike)
alike_cases P one two group (Unread (why.Xfs reason)) (Swap swap) alike = absurd (cc alike)
alike_cases P one two group (Unread (why.Xfs reason)) (Group y n h) alike = absurd (cc alike)
alike_cases P one two group (Unread (why.Xfs reason)) (Member y n) alike = absurd (cc alike)
alike_cases P one two group (Unread (why.Xfs reason)) (Unread why.Other) alike = absurd (cc alike)
alike_cases P one two group (Unread (why.Xfs reason)) (Unread why.NoGroup) alike = absurd (cc alike)
alike_cases P one two group (Unread (why.Xfs reason)) (Unread why.Swap) alike = absurd (cc alike)
alike_cases P one two group (Unread (why.Xfs reason)) (Unread (why.Ring fault)) alike = absurd (cc alike)
alike_cases P one two group (Unread (why.Xfs reason)) (Unread (why.Text fault)) alike = absurd (cc alike)
alike_cases P one two group (Unread (why.Xfs reason)) (Unread (why.Group fault)) alike = absurd (cc alike)
alike_cases P one two group (Unread why.Other) d alike = subst (P (Unread why.Other)) (sym alike) (one (Unread why.Other))
alike_cases P one two group (Unread why.NoGroup) d alike = subst (P (Unread why.NoGroup)) (sym alike) (one (Unread why.NoGroup))
alike_cases P one two group (Unread why.Swap) d alike = subst (P (Unread why.Swap)) (sym alike) (one (Unread why.Swap))
alike_cases P one two group (Unread (why.Ring fault)) d alike = subst (P (Unread (why.Ring fault))) (sym alike) (one (Unread (why.Ring fault)))
alike_cases P one two group (Unread (why.Text fault)) d alike = subst (P (Unread (why.Text fault))) (sym alike) (one (Unread (why.Text fault)))
alike_cases P one two group (Unread (why.Group fault)) d alike = subst (P (Unread (why.Group fault))) (sym alike) (one (Unread (why.Group fault)))

-- ---- parts

-- what each is, place by place
pub standings_zip : (A xs : List FoundPartition) (ss : List Standing) → length ss ≡ length xs
    → ((k : ℕ) (x : FoundPartition) (s : Standing) → k < length xs → IsStanding A (slice_index_or xs k x) (slice_index_or ss k s)) → AllZip (IsStanding A) xs ss
standings_zip A [] [] long each = tt
standings_zip A [] (s ∷ ss) long each = absurd (omega (arith, long))
standings_zip A (x ∷ xs) [] long each = absurd (omega (arith, long))
standings_zip A (x ∷ xs) (s ∷ ss) long each =
    (each 0 x s (omega arith), standings_zip A xs ss (omega (arith, long)) (λ k y t lt. each (suc k) y t (omega (arith, lt))))

module _ (image : List ℕ) (A B : List FoundPartition)
    (members : (text : List ℕ) → members_with text B ≡ members_with text A) (runs : (number : ℕ) → run_numbered number B ≡ run_numbered number A) where
  parts_alike : (ps : List Partition) (xs ys : List FoundPartition) (ss ts : List Standing) → AllZip AreAlikeFound xs ys → AllZip (IsStanding A) xs ss
      → AllZip (IsStanding B) ys ts → All (HoldInners image) ss → All (HoldInners image) ts → AllZip AreAlikeParts (parts_with ps xs ss) (parts_with ps ys ts)
  parts_alike [] xs ys ss ts zip a b c d = tt
  parts_alike (p ∷ ps) [] [] ss ts zip a b c d = tt
  parts_alike (p ∷ ps) [] (y ∷ ys) ss ts zip a b c d = absurd zip
  parts_alike (p ∷ ps) (x ∷ xs) [] ss ts zip a b c d = absurd zip
  parts_alike (p ∷ ps) (x ∷ xs) (y ∷ ys) [] ts zip a b c d = absurd a
  parts_alike (p ∷ ps) (x ∷ xs) (y ∷ ys) (s ∷ ss) [] zip a b c d = absurd b
  parts_alike (p ∷ ps) (x ∷ xs) (y ∷ ys) (s ∷ ss) (t ∷ ts) zip a b c d =
      let stand : AreAlikeStandings s t = one_standing A x s t a.0 (standing_again A B members runs x y t zip.0 b.0) in (
        record {
          partition = refl;
          content = by_role image p.role x.found y.found s t zip.0.found stand (c 0 s (omega arith)) (d 0 t (omega arith));
        },
        parts_alike ps xs ys ss ts zip.1 a.1 b.1 (λ k e lt. c (suc k) e (omega (arith, lt))) (λ k e lt. d (suc k) e (omega (arith, lt))),
      )

contents_alike : (image : List ℕ) (ps : List Partition) (parts parts' : List GuestPart) → HaveContents image ps parts → HaveContents image ps parts'
    → AllZip AreAlikeParts parts parts'
contents_alike image ps parts parts' is other =
    let zip : AllZip AreAlikeFound is.found other.found = all_alike image ps is.found other.found is.are_found other.are_found in
    let alike : AllZip AreAlikeParts (parts_with ps is.found is.standings) (parts_with ps other.found other.standings) =
    parts_alike image is.found other.found (λ text. members_alike text is.found other.found zip) (λ number. runs_alike number is.found other.found zip)
    ps is.found other.found is.standings other.standings zip
    (standings_zip is.found is.found is.standings is.are_standings.long is.are_standings.each)
    (standings_zip other.found other.found other.standings other.are_standings.long other.are_standings.each) is.inners other.inners in
    subst (λ (l : List GuestPart). AllZip AreAlikeParts l parts') (sym is.parts_are)
    (subst (AllZip AreAlikeParts (parts_with ps is.found is.standings)) (sym other.parts_are) alike)

guests_alike : (sectors : ℕ) (image : List ℕ) (one other : GuestView) → IsGuest sectors image one → IsGuest sectors image other
    → AreAlikeGuests one other
guests_alike sectors image one other is is' =
    let table : other.table ≡ one.table = one_table sectors image other.table one.table is'.table is.table in
    record {
      sectors = is'.sectors_are ∙ sym is.sectors_are;
      table = table;
      parts =
          contents_alike image (partitions_of one.table) one.parts other.parts is.contents
          (subst (λ (t : Table). HaveContents image (partitions_of t) other.parts) table is'.contents);
    }

pub one_guest : OneGuest
one_guest sectors image one is =
    (λ other is'. guests_alike sectors image one other is is', λ fault why. no_reason sectors image one fault is why)
