-- The runs of a group's physical volumes.
use Rattle.std.proofs.Common.{◌≡◌, ℕ, zero, suc, ◌+◌, ◌<◌, ◌≤◌, Bool, List, [], ◌∷◌, length, map, drop, get_or, refl, sym, ap, subst, ◌∙◌, arith}
use Rattle.std.specs.Prelude.{Some, Contains, find, slice_get, if◌then◌else◌, ◌==◌}
use Rattle.std.proofs.lemmas.Bool.{eq-eqb, ne_eqb}
use Rattle.std.proofs.lemmas.List.{drop_more}
use Rattle.disk_base.specs.Run.{IsIn, run_of}
use Rattle.group_content.specs.declared.types.GroupContent.{GroupContent}
use Rattle.group_runs.specs.Places.{disk_run, member_run}
use Rattle.guest_view.specs.declared.guest.GuestPart.{GuestPart}
use Rattle.lvm_group.specs.declared.types.Member.{Member}
use Rattle.free_sectors.specs.Free.{IsInFreeExtent, member_places, part_run, run_of_found}
use Rattle.free_sectors.specs.inside.Adding.{DoesItem, SomeBelow}
use Rattle.free_sectors.proofs.Adding.{contained, some_item}

-- the first of the partitions from i on

at_part : (parts : List GuestPart) (number i : ℕ) (part : GuestPart) → i < length parts → part ≡ get_or parts i part → part_run (drop i parts) number ≡ part_run (part ∷ drop (i + 1) parts) number
at_part parts number i part inside is =
    ap (λ (rest : List GuestPart). part_run rest number) (drop_more parts i part inside ∙ ap (λ (p : GuestPart). p ∷ drop (i + 1) parts) (sym is))

pub part_here : (parts : List GuestPart) (number i : ℕ) (part : GuestPart) → i < length parts → part ≡ get_or parts i part → part.number ≡ number → part_run (drop i parts) number ≡ run_of part.start part.count
part_here parts number i part inside is here =
    at_part parts number i part inside is
    ∙ ap (λ (b : Bool). run_of_found (if b then Some part else find (λ (p : GuestPart). p.number == number) (drop (i + 1) parts))) (eq-eqb part.number number here)

pub part_later : (parts : List GuestPart) (number i : ℕ) (part : GuestPart) → i < length parts → part ≡ get_or parts i part → (part.number ≡ number → ⊥) → part_run (drop (i + 1) parts) number ≡ part_run (drop i parts) number
part_later parts number i part inside is other =
    sym (at_part parts number i part inside is
    ∙ ap (λ (b : Bool). run_of_found (if b then Some part else find (λ (p : GuestPart). p.number == number) (drop (i + 1) parts))) (ne_eqb part.number number other))

-- the run of a physical volume

pub member_at : (parts : List GuestPart) (members : List Member) (index : ℕ) (member : Member) → slice_get members index ≡ Some member
    → member_run (map (λ (m : Member). part_run parts m.part) members) index ≡ part_run parts member.part
member_at parts [] index member is = absurd (cc is)
member_at parts (m ∷ members) zero member is = let same : m ≡ member = cc is in ap (λ (one : Member). part_run parts one.part) same
member_at parts (m ∷ members) (suc index) member is = member_at parts members index member is

pub member_past : (parts : List GuestPart) (members : List Member) (index : ℕ) → length members ≤ index → member_run (map (λ (m : Member). part_run parts m.part) members) index ≡ run_of 0 0
member_past parts [] index past = refl
member_past parts (m ∷ members) zero past = absurd (omega (arith, past))
member_past parts (m ∷ members) (suc index) past = member_past parts members index (omega (arith, past))

-- free extents

abbrev pub ExtentStands : List GuestPart → GroupContent → ℕ × ℕ × ℕ → ℕ → Type 0
ExtentStands parts content run x = IsIn (disk_run (member_places parts content) run) x

pub extent_to : (parts : List GuestPart) (content : GroupContent) (items : List (ℕ × ℕ × ℕ)) → items ≡ content.group.free → (n x : ℕ)
    → SomeBelow n (DoesItem items (ExtentStands parts content)) x → IsInFreeExtent parts content x
extent_to parts content items are n x some =
    let among : Contains items some.2.0 = contained items some.0 some.2.0 some.2.1 in
    record { run = some.2.0; among = subst (λ (l : List (ℕ × ℕ × ℕ)). Contains l some.2.0) are among; is_in = some.2.2 }

pub extent_back : (parts : List GuestPart) (content : GroupContent) (items : List (ℕ × ℕ × ℕ)) → items ≡ content.group.free → (n x : ℕ) → length items ≤ n
    → IsInFreeExtent parts content x → SomeBelow n (DoesItem items (ExtentStands parts content)) x
extent_back parts content items are n x all there =
    let among : Contains items there.run = subst (λ (l : List (ℕ × ℕ × ℕ)). Contains l there.run) (sym are) there.among in
    some_item items (ExtentStands parts content) n x there.run all among there.is_in
