-- Of guests that are alike the same is planned, the same grows, and some content can't grow of both or of none.
use Rattle.std.proofs.Common.{◌≡◌, ℕ, List, [], ◌∷◌, ◌&&◌, ◌||◌, map, refl, sym, ap, subst, ◌∙◌, not, Bool, true, false, nat_lt, nat_le, if◌then◌else◌, Option, None, Some}
use Rattle.std.specs.List.{AllZip, cons_option, filter_map, list_any}
use Rattle.std.specs.Prelude.{option_map, slice_get}
use Rattle.guest_view.proofs.Alike.{alike_cases}
use Rattle.guest_view.specs.Contents.{needed_sectors, partition_of, planned_part}
use Rattle.guest_view.specs.Laws.{AreAlikeContents, AreAlikeParts}
use Rattle.guest_view.specs.declared.content.Content.{Content}
use Rattle.guest_view.specs.declared.content.Content.TheVariants.{Extended, Xfs, Swap, Group, Member, Unread}
use Rattle.guest_view.specs.declared.guest.GuestPart.{GuestPart}
use Rattle.guest_view.specs.declared.partition.Partition.{Partition}
use Rattle.layout_plan.specs.declared.part.Part.{Part}
use Rattle.layout_plan.specs.declared.part.Placed.{Placed}
use Rattle.layout_plan.specs.Plans.{Plan}
use Rattle.run_end.specs.declared.end.VolumeFault.{VolumeFault}
use Rattle.volume_content.specs.declared.content.Why.{Why}
use Rattle.resize_core.specs.Contents.{is_copied, placed_from}
use Rattle.resize_core.specs.Growth.{can_grow, first_stuck, grows, grows_at, has_growth, has_lost, has_to_grow, holder_of, is_holder, is_lost, keeps_content, stuck_at, stuck_part, stuck_parts, why_lost, why_stuck}

-- ---- what is alike of contents

needed_alike : (n : ℕ) (c d : Content) → AreAlikeContents c d → needed_sectors d n ≡ needed_sectors c n
needed_alike n = alike_cases (λ c d. needed_sectors d n ≡ needed_sectors c n) (λ c. refl) (λ r s. refl) (λ x m g h alike. refl)

holder_alike : (c d : Content) → AreAlikeContents c d → holder_of d ≡ holder_of c
holder_alike = alike_cases (λ c d. holder_of d ≡ holder_of c) (λ c. refl) (λ r s. refl) (λ x m g h alike. refl)

grow_alike : (plan : Plan) (xs : List GuestPart) (c d : Content) → AreAlikeContents c d → can_grow plan xs d ≡ can_grow plan xs c
grow_alike plan xs = alike_cases (λ c d. can_grow plan xs d ≡ can_grow plan xs c) (λ c. refl) (λ r s. refl) (λ x m g h alike. refl)

-- both are there, or none
abbrev BothOrNone : {X : Type 0} → Option X → Option X → Type 0
BothOrNone None None = Unit {0}
BothOrNone (Some x) (Some y) = Unit {0}
BothOrNone None (Some y) = ⊥
BothOrNone (Some x) None = ⊥

same_both : {X : Type 0} (o : Option X) → BothOrNone o o
same_both None = tt
same_both (Some x) = tt

stuck_alike : (plan : Plan) (xs : List GuestPart) (c d : Content) → AreAlikeContents c d → BothOrNone (why_stuck plan xs c) (why_stuck plan xs d)
stuck_alike plan xs =
    alike_cases (λ c d. BothOrNone (why_stuck plan xs c) (why_stuck plan xs d)) (λ c. same_both (why_stuck plan xs c)) (λ r s. tt)
    (λ x m g h alike. same_both (why_stuck plan xs (Group x m g)))

-- ---- what is alike of parts

record IsSameBut (one other : GuestPart) : Type 0 where
  number : other.number ≡ one.number
  start : other.start ≡ one.start
  count : other.count ≡ one.count

same_but : (one other : GuestPart) → AreAlikeParts one other → IsSameBut one other
same_but one other alike = record {
  number = ap (λ (p : Partition). p.number) alike.partition;
  start = ap (λ (p : Partition). p.start) alike.partition;
  count = ap (λ (p : Partition). p.count) alike.partition;
}

needs_alike : (one other : GuestPart) → AreAlikeParts one other → needed_sectors other.content other.count ≡ needed_sectors one.content one.count
needs_alike one other alike =
    ap (needed_sectors other.content) (same_but one other alike).count ∙ needed_alike one.count one.content other.content alike.content

planned_alike : (one other : GuestPart) → AreAlikeParts one other → planned_part other ≡ planned_part one
planned_alike one other alike =
    let made : Partition → ℕ → Part = λ p n. record { number = p.number; role = p.role; start = p.start; count = p.count; content = n } in
    ap (λ (p : Partition). made p (needed_sectors other.content other.count)) alike.partition ∙ ap (made (partition_of one)) (needs_alike one other alike)

pub same_planned : (xs ys : List GuestPart) → AllZip AreAlikeParts xs ys → map planned_part ys ≡ map planned_part xs
same_planned [] [] zip = refl
same_planned [] (y ∷ ys) zip = absurd zip
same_planned (x ∷ xs) [] zip = absurd zip
same_planned (x ∷ xs) (y ∷ ys) zip =
    ap (λ (p : Part). p ∷ map planned_part ys) (planned_alike x y zip.0) ∙ ap (λ (l : List Part). planned_part x ∷ l) (same_planned xs ys zip.1)

any_alike : (p q : GuestPart → Bool) → ((x y : GuestPart) → AreAlikeParts x y → q y ≡ p x) → (xs ys : List GuestPart) → AllZip AreAlikeParts xs ys
    → list_any q ys ≡ list_any p xs
any_alike p q each [] [] zip = refl
any_alike p q each [] (y ∷ ys) zip = absurd zip
any_alike p q each (x ∷ xs) [] zip = absurd zip
any_alike p q each (x ∷ xs) (y ∷ ys) zip =
    ap (λ (b : Bool). b || list_any q ys) (each x y zip.0) ∙ ap (λ (b : Bool). p x || b) (any_alike p q each xs ys zip.1)

module _ (plan : Plan) where
  placed_alike : (one other : GuestPart) → AreAlikeParts one other → placed_from plan other.number ≡ placed_from plan one.number
  placed_alike one other alike = ap (placed_from plan) (same_but one other alike).number

  keeps_by : (one other : GuestPart) (o : Option Placed) → AreAlikeParts one other → keeps_content other o ≡ keeps_content one o
  keeps_by one other None alike = refl
  keeps_by one other (Some placed) alike = ap (λ (n : ℕ). is_copied placed.fate && nat_le n placed.count) (needs_alike one other alike)

  lost_alike : (holder : ℕ) (one other : GuestPart) → AreAlikeParts one other → is_lost plan holder other ≡ is_lost plan holder one
  lost_alike holder one other alike =
      ap (λ (o : Option ℕ). is_holder holder o && not (keeps_content other (placed_from plan other.number))) (holder_alike one.content other.content alike.content)
      ∙ ap (λ (o : Option Placed). is_holder holder (holder_of one.content) && not (keeps_content other o)) (placed_alike one other alike)
      ∙ ap (λ (b : Bool). is_holder holder (holder_of one.content) && not b) (keeps_by one other (placed_from plan one.number) alike)

  module _ (A B : List GuestPart) (zip : AllZip AreAlikeParts A B) where
    all_lost : (holder : ℕ) → has_lost plan B holder ≡ has_lost plan A holder
    all_lost holder = any_alike (is_lost plan holder) (is_lost plan holder) (lost_alike holder) A B zip

    grows_in : (c : Content) → can_grow plan B c ≡ can_grow plan A c
    grows_in Extended = refl
    grows_in (Xfs volume) = refl
    grows_in (Swap swap) = refl
    grows_in (Group x m g) = ap not (all_lost m.holder)
    grows_in (Member x m) = ap not (all_lost m.holder)
    grows_in (Unread cause) = refl

    stuck_in : (c : Content) → why_stuck plan B c ≡ why_stuck plan A c
    stuck_in Extended = refl
    stuck_in (Xfs volume) = refl
    stuck_in (Swap swap) = refl
    stuck_in (Group x m g) = ap why_lost (all_lost m.holder)
    stuck_in (Member x m) = ap why_lost (all_lost m.holder)
    stuck_in (Unread cause) = refl

    has_to_alike : (grow : Bool) (one other : GuestPart) (placed : Placed) → AreAlikeParts one other → has_to_grow grow other placed ≡ has_to_grow grow one placed
    has_to_alike grow one other placed alike =
        ap (λ (n : ℕ). grow && is_copied placed.fate && nat_lt n placed.count) (same_but one other alike).count

    grows_by : (grow : Bool) (one other : GuestPart) (o : Option Placed) → AreAlikeParts one other → grows_at grow plan B other o ≡ grows_at grow plan A one o
    grows_by grow one other None alike = refl
    grows_by grow one other (Some placed) alike =
        ap (λ (b : Bool). b && can_grow plan B other.content) (has_to_alike grow one other placed alike)
        ∙ ap (λ (b : Bool). has_to_grow grow one placed && b) (grows_in other.content ∙ grow_alike plan A one.content other.content alike.content)

    grows_alike : (grow : Bool) (one other : GuestPart) → AreAlikeParts one other → grows grow plan B other ≡ grows grow plan A one
    grows_alike grow one other alike =
        ap (grows_at grow plan B other) (placed_alike one other alike) ∙ grows_by grow one other (placed_from plan one.number) alike

    both_by : (b : Bool) (c d : Content) → AreAlikeContents c d → BothOrNone (if b then why_stuck plan A c else None) (if b then why_stuck plan B d else None)
    both_by true c d alike = subst (λ (o : Option Why). BothOrNone (why_stuck plan A c) o) (sym (stuck_in d)) (stuck_alike plan A c d alike)
    both_by false c d alike = tt

    both_at : (grow : Bool) (one other : GuestPart) (o : Option Placed) → AreAlikeParts one other → BothOrNone (stuck_at grow plan A one o) (stuck_at grow plan B other o)
    both_at grow one other None alike = tt
    both_at grow one other (Some placed) alike =
        subst (λ (b : Bool). BothOrNone (stuck_at grow plan A one (Some placed)) (if b then why_stuck plan B other.content else None))
        (sym (has_to_alike grow one other placed alike)) (both_by (has_to_grow grow one placed) one.content other.content alike.content)

    both_named : {X Y : Type 0} (f g : X → Y) (o o' : Option X) → BothOrNone o o' → BothOrNone (option_map f o) (option_map g o')
    both_named f g None None both = tt
    both_named f g (Some x) (Some y) both = tt
    both_named f g None (Some y) both = absurd both
    both_named f g (Some x) None both = absurd both

    both_part : (grow : Bool) (one other : GuestPart) → AreAlikeParts one other → BothOrNone (stuck_part grow plan A one) (stuck_part grow plan B other)
    both_part grow one other alike =
        both_named (λ (cause : Why). record { part = one.number; why = cause }) (λ (cause : Why). record { part = other.number; why = cause })
        (stuck_at grow plan A one (placed_from plan one.number)) (stuck_at grow plan B other (placed_from plan other.number))
        (subst (λ (o : Option Placed). BothOrNone (stuck_at grow plan A one (placed_from plan one.number)) (stuck_at grow plan B other o)) (sym (placed_alike one other alike))
        (both_at grow one other (placed_from plan one.number) alike))

-- the first of what two lists give
first_both : {Y : Type 0} (o o' : Option Y) (ys ys' : List Y) → BothOrNone o o' → BothOrNone (slice_get ys 0) (slice_get ys' 0)
    → BothOrNone (slice_get (cons_option o ys) 0) (slice_get (cons_option o' ys') 0)
first_both None None ys ys' both later = later
first_both (Some y) (Some y') ys ys' both later = tt
first_both None (Some y') ys ys' both later = absurd both
first_both (Some y) None ys ys' both later = absurd both

first_alike : (h k : GuestPart → Option VolumeFault) → ((x y : GuestPart) → AreAlikeParts x y → BothOrNone (h x) (k y)) → (xs ys : List GuestPart) → AllZip AreAlikeParts xs ys
    → BothOrNone (slice_get (filter_map h xs) 0) (slice_get (filter_map k ys) 0)
first_alike h k each [] [] zip = tt
first_alike h k each [] (y ∷ ys) zip = absurd zip
first_alike h k each (x ∷ xs) [] zip = absurd zip
first_alike h k each (x ∷ xs) (y ∷ ys) zip =
    first_both (h x) (k y) (filter_map h xs) (filter_map k ys) (each x y zip.0) (first_alike h k each xs ys zip.1)

not_one : {X : Type 0} (o o' : Option X) (x : X) → BothOrNone o o' → o ≡ Some x → o' ≡ None → ⊥
not_one None o' x both some none = cc some
not_one (Some y) None x both some none = both
not_one (Some y) (Some z) x both some none = cc none

-- where a content can't grow of one guest, some can't of the other
pub stuck_or_none : (grow : Bool) (plan : Plan) (xs ys : List GuestPart) → AllZip AreAlikeParts xs ys → (fault : VolumeFault) → first_stuck grow plan xs ≡ Some fault
    → first_stuck grow plan ys ≡ None → ⊥
stuck_or_none grow plan xs ys zip fault some none =
    not_one (first_stuck grow plan xs) (first_stuck grow plan ys) fault
    (first_alike (stuck_part grow plan xs) (stuck_part grow plan ys) (both_part plan xs ys zip grow) xs ys zip) some none

pub same_growth : (grow : Bool) (plan : Plan) (xs ys : List GuestPart) → AllZip AreAlikeParts xs ys → has_growth grow plan ys ≡ has_growth grow plan xs
same_growth grow plan xs ys zip = any_alike (grows grow plan xs) (grows grow plan ys) (grows_alike plan xs ys zip grow) xs ys zip
