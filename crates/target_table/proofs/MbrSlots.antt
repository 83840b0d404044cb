-- The slots of the target: they may stand in its table, and are read as they are written.
use Rattle.std.proofs.Common.{◌≡◌, ◌≢◌, ℕ, zero, suc, ◌+◌, ◌-◌, ◌^◌, ◌<◌, ◌≤◌, ◌==◌, ◌&&◌, ◌||◌, nat_lt, not, cond, if◌then◌else◌, Bool, true, false, List, [], ◌∷◌, length, map, take, slice_index_or, refl, sym, ◌∙◌, ap, subst, inl, inr, arith, Option, None, Some, IfSome, eq-eqb, ne_eqb}
use Rattle.std.specs.List.{find, list_any}
use Rattle.std.proofs.lemmas.Bool.{both_ways, cases_Bool, cases_eq, eqb-true, false≢true}
use Rattle.std.proofs.lemmas.Bool.Decides.{nat_tests}
use Rattle.std.proofs.lemmas.List.{get_or_default}
use Rattle.std.proofs.lemmas.List.Folds.{list_any_at}
use Rattle.guest_view.specs.declared.guest.GuestPart.{GuestPart}
use Rattle.guest_view.specs.Contents.{planned_part}
use Rattle.layout_plan.specs.declared.part.Kind.TheVariants.{Mbr}
use Rattle.layout_plan.specs.declared.part.Placed.{Placed}
use Rattle.layout_plan.specs.declared.part.Role.TheVariants.{Slot as InSlot, Extended}
use Rattle.layout_plan.specs.declared.wish.Layout.{Layout}
use Rattle.layout_plan.specs.declared.wish.Wish.{Wish}
use Rattle.layout_plan.specs.Plans.{IsBehind, IsExtra, IsPlacedInside, Plan, is_taken, role_of}
use Rattle.layout_plan.specs.Roles.{is_extended_role}
use Rattle.layout_plan.proofs.Named.{found_passes, found_there}
use Rattle.mbr_table.specs.declared.slot.Slot.{Slot}
use Rattle.mbr_table.specs.Mbr.{AreSound, Table}
use Rattle.mbr_table.specs.Slot.{empty_slot, holds_extended, is_bad_slot, is_extended, is_used, kept_slot, slot_end, stands_in}
use Rattle.mbr_table.proofs.Tables.{same_slots}
use Rattle.target_table.specs.Slots.{extra_slot, has_record, placed_slot, placed_under, slot_or_spare, source_slot, spare_slot, target_slot, target_slots}
use Rattle.target_table.proofs.MbrPlans.{IsInSlot, IsMbrPlan, in_slot, of_chain}
use Rattle.target_table.proofs.Outer.{is_outer, nowhere, one_is_outer}

-- four slots by their numbers
pub at_number : (f : ℕ → Slot) (number : ℕ) → 1 ≤ number → number ≤ 4 → slice_index_or (f 1 ∷ f 2 ∷ f 3 ∷ f 4 ∷ []) (number - 1) empty_slot ≡ f number
at_number f zero low high = absurd (omega arith)
at_number f (suc zero) low high = refl
at_number f (suc (suc zero)) low high = refl
at_number f (suc (suc (suc zero))) low high = refl
at_number f (suc (suc (suc (suc zero)))) low high = refl
at_number f (suc (suc (suc (suc (suc n))))) low high = absurd (omega arith)

all_four : (P : Slot → Type 0) (f : ℕ → Slot) → ((number : ℕ) → 1 ≤ number → number ≤ 4 → P (f number)) → (i : ℕ) → i < 4
    → P (slice_index_or (f 1 ∷ f 2 ∷ f 3 ∷ f 4 ∷ []) i empty_slot)
all_four P f each zero h = each 1 (omega arith) (omega arith)
all_four P f each (suc zero) h = each 2 (omega arith) (omega arith)
all_four P f each (suc (suc zero)) h = each 3 (omega arith) (omega arith)
all_four P f each (suc (suc (suc zero))) h = each 4 (omega arith) (omega arith)
all_four P f each (suc (suc (suc (suc i)))) h = absurd (omega arith)

none_of_four : (p : Slot → Bool) (f : ℕ → Slot) → ((number : ℕ) → number ≤ 4 → p (f number) ≡ false) → find p (f 1 ∷ f 2 ∷ f 3 ∷ f 4 ∷ []) ≡ None
none_of_four p f none = rw (none 1 (omega arith), none 2 (omega arith), none 3 (omega arith), none 4 (omega arith)) refl

any_of_four : (p : Slot → Bool) (f : ℕ → Slot) → ((number : ℕ) → number ≤ 4 → p (f number) ≡ false) → list_any p (f 1 ∷ f 2 ∷ f 3 ∷ f 4 ∷ []) ≡ false
any_of_four p f none = rw (none 1 (omega arith), none 2 (omega arith), none 3 (omega arith), none 4 (omega arith)) refl

-- of four slots one alone passes
one_of_four : (p : Slot → Bool) (f : ℕ → Slot) (number : ℕ) → 1 ≤ number → number ≤ 4 → p (f number) ≡ true → ((other : ℕ) → other ≤ 4 → other ≢ number → p (f other) ≡ false)
    → find p (f 1 ∷ f 2 ∷ f 3 ∷ f 4 ∷ []) ≡ Some (f number)
one_of_four p f zero low high here none = absurd (omega arith)
one_of_four p f (suc zero) low high here none = rw here refl
one_of_four p f (suc (suc zero)) low high here none = rw (none 1 (omega arith) (omega arith), here) refl
one_of_four p f (suc (suc (suc zero))) low high here none = rw (none 1 (omega arith) (omega arith), none 2 (omega arith) (omega arith), here) refl
one_of_four p f (suc (suc (suc (suc zero)))) low high here none = rw (none 1 (omega arith) (omega arith), none 2 (omega arith) (omega arith), none 3 (omega arith) (omega arith), here) refl
one_of_four p f (suc (suc (suc (suc (suc n))))) low high here none = absurd (omega arith)

-- and none before it
none_before : (p : Slot → Bool) (f : ℕ → Slot) (i : ℕ) → i < 4 → ((other : ℕ) → other ≤ 4 → other ≢ suc i → p (f other) ≡ false)
    → list_any p (take i (f 1 ∷ f 2 ∷ f 3 ∷ f 4 ∷ [])) ≡ false
none_before p f zero h none = refl
none_before p f (suc zero) h none = rw (none 1 (omega arith) (omega arith)) refl
none_before p f (suc (suc zero)) h none = rw (none 1 (omega arith) (omega arith), none 2 (omega arith) (omega arith)) refl
none_before p f (suc (suc (suc zero))) h none = rw (none 1 (omega arith) (omega arith), none 2 (omega arith) (omega arith), none 3 (omega arith) (omega arith)) refl
none_before p f (suc (suc (suc (suc i)))) h none = absurd (omega arith)

-- a slot may stand in the table of a disk of that many sectors where no extended one comes before an extended one, and
-- is read as it is written
pub record IsFit (sectors : ℕ) (slot : Slot) : Type 0 where
  pub good : (extended : Bool) → (holds_extended slot ≡ true → extended ≡ false) → is_bad_slot sectors extended slot ≡ false
  pub start_fits : slot.start < 2 ^ 32
  pub count_fits : slot.count < 2 ^ 32
  pub stays : kept_slot slot ≡ slot

empty_fit : (sectors : ℕ) → IsFit sectors empty_slot
empty_fit sectors = record { good = λ extended once. refl; start_fits = omega arith; count_fits = omega arith; stays = refl }

not_bad : (sectors : ℕ) (extended : Bool) (slot : Slot) → is_used slot ≡ true → (holds_extended slot ≡ true → extended ≡ false) → 1 ≤ slot.start → slot_end slot ≤ sectors
    → is_bad_slot sectors extended slot ≡ false
not_bad sectors extended slot used once behind inside =
    let start : (slot.start == 0) ≡ false = grind (arith, nat_tests) in
    let end : nat_lt sectors (slot.start + slot.count) ≡ false = grind (arith, nat_tests) in
    let twice : (is_extended slot && extended) ≡ false =
    elim (cases_Bool (is_extended slot)) [
      | inl is ↦ ap (λ b. is_extended slot && b) (once (ap (λ b. b && is_extended slot) used ∙ is)) ∙ elim (is_extended slot) as (λ b. (b && false) ≡ false) [ true ↦ refl | false ↦ refl ]
      | inr plain ↦ ap (λ b. b && extended) plain
    ] in
    ap (λ b. is_used slot && (b || nat_lt sectors (slot_end slot) || (is_extended slot && extended))) start
    ∙ ap (λ b. is_used slot && (false || b || (is_extended slot && extended))) end
    ∙ ap (λ b. is_used slot && (false || false || b)) twice
    ∙ elim (is_used slot) as (λ b. (b && false) ≡ false) [ true ↦ refl | false ↦ refl ]

used_fit : (sectors : ℕ) (slot : Slot) → is_used slot ≡ true → 1 ≤ slot.start → slot_end slot ≤ sectors → sectors ≤ 2 ^ 31 → IsFit sectors slot
used_fit sectors slot used behind inside few = record {
  good = λ extended once. not_bad sectors extended slot used once behind inside;
  start_fits = omega arith;
  count_fits = omega arith;
  stays = ap (λ b. if b then slot else empty_slot) used;
}

-- what is left over, under a number that no partition has
pub record IsSpare (sectors : ℕ) (parts : List Placed) (one : Placed) : Type 0 where
  pub from_one : 1 ≤ one.number
  pub to_four : one.number ≤ 4
  pub free : is_taken parts one.number ≡ false
  pub role : role_of one ≡ InSlot
  pub no_record : one.ebr ≡ 0
  pub used : is_used (extra_slot one) ≡ true
  pub fit : IsFit sectors (extra_slot one)

extra_spare : (sectors limit last : ℕ) (layout : Layout) (parts : List Placed) (extra : Option Placed) → sectors ≤ 2 ^ 31 → limit ≤ sectors
    → IsExtra Mbr layout last parts limit extra → IfSome extra (IsBehind Mbr parts limit) → IfSome extra (IsSpare sectors parts)
extra_spare sectors limit last layout parts None few inside is behind = tt
extra_spare sectors limit last layout parts (Some one) few inside is behind =
    let enough : 20480 ≤ one.count = is.enough in
    let some : (one.count == 0) ≡ false = grind (arith, nat_tests) in
    let used : is_used (extra_slot one) ≡ true = ap (λ b. true && not b) some in
    record {
      from_one = is.number.from_one;
      to_four = is.number.up_to_most;
      free = is.number.free;
      role = rw (is.kept, is.no_boot_record) refl;
      no_record = is.no_boot_record;
      used = used;
      fit = used_fit sectors (extra_slot one) used (omega (arith, behind.inside.record_before)) (omega (arith, behind.inside.before_limit)) few;
    }

spare_fits : (sectors : ℕ) (parts : List Placed) (extra : Option Placed) (number : ℕ) → IfSome extra (IsSpare sectors parts) → IsFit sectors (spare_slot extra number)
spare_fits sectors parts None number spare = empty_fit sectors
spare_fits sectors parts (Some one) number spare =
    elim (one.number == number) as (λ b. IsFit sectors (if b then extra_slot one else empty_slot)) [ true ↦ spare.fit | false ↦ empty_fit sectors ]

-- what is left over is no extended partition, and stands in for no table
spare_plain : (extra : Option Placed) (number : ℕ) → (holds_extended (spare_slot extra number) ≡ false) × (stands_in (spare_slot extra number) ≡ false)
spare_plain None number = (refl, refl)
spare_plain (Some one) number =
    elim (one.number == number) as (λ b. (holds_extended (if b then extra_slot one else empty_slot) ≡ false) × (stands_in (if b then extra_slot one else empty_slot) ≡ false)) [
      | true ↦ (elim (is_used (extra_slot one)) as (λ b. (b && false) ≡ false) [ true ↦ refl | false ↦ refl ], refl)
      | false ↦ (refl, refl)
    ]

pub spare_empty : (extra : Option Placed) (number : ℕ) → IfSome extra (λ (one : Placed). one.number ≢ number) → spare_slot extra number ≡ empty_slot
spare_empty None number other = refl
spare_empty (Some one) number other = ap (λ b. if b then extra_slot one else empty_slot) (ne_eqb one.number number other)

pub spare_here : (one : Placed) → spare_slot (Some one) one.number ≡ extra_slot one
spare_here one = ap (λ b. if b then extra_slot one else empty_slot) (eq-eqb one.number one.number refl)

-- where none passes, none is found
pub none_found : {X : Type 0} (p : X → Bool) (xs : List X) → list_any p xs ≡ false → find p xs ≡ None
none_found p [] none = refl
none_found p (x ∷ xs) none =
    elim (p x) as (λ b. (b || list_any p xs) ≡ false → cond b (Some x) (find p xs) ≡ None) [
      | true ↦ λ e. absurd (false≢true (sym e))
      | false ↦ λ e. none_found p xs e
    ] none

-- the one that passes is found
pub only_found : {X : Type 0} (p : X → Bool) (xs : List X) (k : ℕ) (d : X) → k < length xs → p (slice_index_or xs k d) ≡ true
    → ((j : ℕ) → j < k → p (slice_index_or xs j d) ≡ false) → find p xs ≡ Some (slice_index_or xs k d)
only_found p [] k d h passes none = absurd (omega arith)
only_found p (x ∷ xs) zero d h passes none = ap (λ b. cond b (Some x) (find p xs)) passes
only_found p (x ∷ xs) (suc k) d h passes none =
    ap (λ b. cond b (Some x) (find p xs)) (none 0 (omega arith)) ∙ only_found p xs k d (omega arith) passes (λ j lt. none (suc j) (omega arith))

-- a slot of the target is that of a placed partition, or of none
pub record IsPlacedUnder (parts : List Placed) (number : ℕ) (placed : Placed) : Type 0 where
  pub place : ℕ
  pub within : place < length parts
  pub same : slice_index_or parts place nowhere ≡ placed
  pub numbered : placed.number ≡ number

pub under : (plan : Plan) (number : ℕ) → IfSome (placed_under plan number) (IsPlacedUnder plan.parts number)
under plan number =
    elim (placed_under plan number) as (λ o. placed_under plan number ≡ o → IfSome o (IsPlacedUnder plan.parts number)) [
      | None ↦ λ _. tt
      | Some placed ↦ λ found.
          let test = λ (one : Placed). one.number == number in
          let there = found_there test plan.parts placed found in
          record {
            place = there.0;
            within = there.1;
            same = get_or_default plan.parts there.0 nowhere placed there.1 ∙ there.2;
            numbered = eqb-true placed.number number (found_passes test plan.parts placed found);
          }
    ] refl

slot_by : (P : Slot → Type 0) (slots : List Slot) (parts : List Placed) (number : ℕ) (found : Option Placed) (spare : Slot) → IfSome found (IsPlacedUnder parts number)
    → ((placed : Placed) → IsPlacedUnder parts number placed → P (placed_slot slots placed)) → P spare → P (slot_or_spare slots found spare)
slot_by P slots parts number None spare is each other = other
slot_by P slots parts number (Some placed) spare is each other = each placed is

-- what holds of the slot of each placed partition and of a spare one holds of each slot
pub each_slot : (P : Slot → Type 0) (slots : List Slot) (plan : Plan) (number : ℕ) → ((placed : Placed) → IsPlacedUnder plan.parts number placed → P (placed_slot slots placed))
    → P (spare_slot plan.extra number) → P (target_slot slots plan number)
each_slot P slots plan number each spare = slot_by P slots plan.parts number (placed_under plan number) (spare_slot plan.extra number) (under plan number) each spare

-- the role of a slot says whether it is extended
role_tells : (b : Bool) → is_extended_role (if b then Extended else InSlot) ≡ b
role_tells true = refl
role_tells false = refl

module _ (source_sectors sectors : ℕ) (table : Table) (parts : List GuestPart) (wishes : List Wish) (layout : Layout) (plan : Plan)
    (is : IsMbrPlan source_sectors sectors table parts wishes layout plan) where
  abbrev placed_at : ℕ → Placed
  placed_at k = slice_index_or plan.parts k nowhere

  few_sectors : sectors ≤ 2 ^ 31
  few_sectors = is.known.is_plan.due.room.not_too_many

  pub spare : IfSome plan.extra (IsSpare sectors plan.parts)
  spare = extra_spare sectors plan.limit _ layout plan.parts plan.extra few_sectors is.known.limit is.known.is_plan.is_extra is.known.behind

  -- a placed partition under a slot's number comes from a slot
  pub low_in_slot : (k : ℕ) → k < length plan.parts → (placed_at k).number ≤ 4 → IsInSlot table.slots (placed_at k)
  low_in_slot k h low =
      elim (cases_Bool (has_record (placed_at k))) [
        | inr none ↦ in_slot source_sectors sectors table parts wishes layout plan is k nowhere h none
        | inl some ↦ absurd (omega (arith, (of_chain source_sectors sectors table parts wishes layout plan is k nowhere h some).low))
      ]

  -- the slot of one that comes from a slot
  pub source_at : (placed : Placed) (one : IsInSlot table.slots placed) → source_slot table.slots placed ≡ slice_index_or table.slots one.place empty_slot
  source_at placed one = let place : placed.from - 1 ≡ one.place = omega (arith, one.from) in ap (λ k. slice_index_or table.slots k empty_slot) place

  pub used_slot : (placed : Placed) → IsInSlot table.slots placed → 1 ≤ placed.count → is_used (placed_slot table.slots placed) ≡ true
  used_slot placed one some =
      let source = source_slot table.slots placed in
      let used : (not (source.kind == 0) && not (source.count == 0)) ≡ true = ap is_used (source_at placed one) ∙ one.used in
      let kind : not (source.kind == 0) ≡ true = elim (not (source.kind == 0)) as (λ b. (b && not (source.count == 0)) ≡ true → b ≡ true) [ true ↦ λ _. refl | false ↦ λ e. e ] used in
      let count : (placed.count == 0) ≡ false = ne_eqb placed.count 0 (omega arith) in
      ap (λ b. b && not (placed.count == 0)) kind ∙ ap not count

  placed_fit : (placed : Placed) → IsInSlot table.slots placed → IsPlacedInside Mbr plan.limit placed → IsFit sectors (placed_slot table.slots placed)
  placed_fit placed one inside =
      used_fit sectors (placed_slot table.slots placed) (used_slot placed one inside.some) (omega (arith, inside.record_before)) (omega (arith, inside.before_limit, is.known.limit)) few_sectors

  -- where its slot is extended, so is the partition
  pub extended_by_role : (placed : Placed) → IsInSlot table.slots placed → is_extended (placed_slot table.slots placed) ≡ is_extended_role (role_of placed)
  extended_by_role placed one = ap is_extended (source_at placed one) ∙ sym (ap is_extended_role one.role ∙ role_tells (is_extended (slice_index_or table.slots one.place empty_slot)))

  pub slot_fit : (number : ℕ) → 1 ≤ number → number ≤ 4 → IsFit sectors (target_slot table.slots plan number)
  slot_fit number low high =
      each_slot (IsFit sectors) table.slots plan number
      (λ placed under.
      let one = low_in_slot under.place under.within (omega (arith, ap (λ (p : Placed). p.number) under.same, under.numbered)) in
      let Fit : Placed → Type 0 = λ p. IsFit sectors (placed_slot table.slots p) in
      subst Fit under.same (placed_fit (placed_at under.place) one (is.known.inside under.place nowhere under.within)))
      (spare_fits sectors plan.parts plan.extra number spare)

  all_fit : (i : ℕ) → i < 4 → IsFit sectors (slice_index_or (target_slots table.slots plan) i empty_slot)
  all_fit = all_four (IsFit sectors) (target_slot table.slots plan) slot_fit

  pub fits : (i : ℕ) → i < 4 → ((slice_index_or (target_slots table.slots plan) i empty_slot).start < 2 ^ 32) × ((slice_index_or (target_slots table.slots plan) i empty_slot).count < 2 ^ 32)
  fits i h = ((all_fit i h).start_fits, (all_fit i h).count_fits)

  pub kept : map kept_slot (target_slots table.slots plan) ≡ target_slots table.slots plan
  kept = same_slots (target_slots table.slots plan) (λ i h. (all_fit i (omega arith)).stays)

  -- a slot of the target that is extended is that of the extended partition
  plain_slot : (number : ℕ) → number ≤ 4 → ((k : ℕ) → k < length plan.parts → role_of (placed_at k) ≡ Extended → (placed_at k).number ≢ number)
      → holds_extended (target_slot table.slots plan number) ≡ false
  plain_slot number high other =
      each_slot (λ slot. holds_extended slot ≡ false) table.slots plan number
      (λ placed under.
      let same_number = ap (λ (p : Placed). p.number) under.same ∙ under.numbered in
      let one = low_in_slot under.place under.within (omega (arith, same_number)) in
      let Plain : Placed → Type 0 = λ p. holds_extended (placed_slot table.slots p) ≡ false in
      let at = placed_at under.place in
      let plain : is_extended (placed_slot table.slots at) ≡ false =
      elim (cases_Bool (is_extended_role (role_of at))) [
        | inr no_outer ↦ extended_by_role at one ∙ no_outer
        | inl outer ↦ absurd (other under.place under.within (is_outer (role_of at) outer) same_number)
      ] in
      subst Plain under.same (ap (λ b. is_used (placed_slot table.slots at) && b) plain ∙ elim (is_used (placed_slot table.slots at)) as (λ b. (b && false) ≡ false) [ true ↦ refl | false ↦ refl ]))
      (spare_plain plan.extra number).0

  -- under its number a placed partition is found
  pub found_under : (k : ℕ) → k < length plan.parts → placed_under plan (placed_at k).number ≡ Some (placed_at k)
  found_under k h =
      let number = (placed_at k).number in
      only_found (λ (one : Placed). one.number == number) plan.parts k nowhere h (eq-eqb number number refl)
      (λ j lt. ne_eqb (placed_at j).number number (is.known.numbers.other_numbers j k nowhere lt h))

  pub slot_at : (k : ℕ) → k < length plan.parts → target_slot table.slots plan (placed_at k).number ≡ placed_slot table.slots (placed_at k)
  slot_at k h = ap (λ found. slot_or_spare table.slots found (spare_slot plan.extra (placed_at k).number)) (found_under k h)

  -- the extended partition's slot is extended
  outer_slot : (k : ℕ) → k < length plan.parts → role_of (placed_at k) ≡ Extended → (one : IsInSlot table.slots (placed_at k)) → holds_extended (target_slot table.slots plan (placed_at k).number) ≡ true
  outer_slot k h outer one =
      ap holds_extended (slot_at k h)
      ∙ ap (λ b. b && is_extended (placed_slot table.slots (placed_at k))) (used_slot (placed_at k) one (is.known.inside k nowhere h).some)
      ∙ extended_by_role (placed_at k) one ∙ ap is_extended_role outer

  pub outer_in_slot : (k : ℕ) → k < length plan.parts → role_of (placed_at k) ≡ Extended → IsInSlot table.slots (placed_at k)
  outer_in_slot k h outer =
      elim (cases_Bool (has_record (placed_at k))) [
        | inr none ↦ in_slot source_sectors sectors table parts wishes layout plan is k nowhere h none
        | inl some ↦ absurd (cc (sym outer ∙ (of_chain source_sectors sectors table parts wishes layout plan is k nowhere h some).role))
      ]

  -- of the numbers of slots the extended partition's alone is that of an extended slot
  others_plain : (k : ℕ) → k < length plan.parts → role_of (placed_at k) ≡ Extended → (number : ℕ) → number ≤ 4 → number ≢ (placed_at k).number
      → holds_extended (target_slot table.slots plan number) ≡ false
  others_plain k h outer number high differ =
      plain_slot number high (λ j lt other same.
      let one = one_is_outer Mbr (map planned_part parts) is.source wishes layout sectors plan is.known.is_plan is.known.froms k j h lt outer other in
      differ (sym same ∙ ap (λ n. (placed_at n).number) (sym one)))

  pub outer_found : (k : ℕ) → k < length plan.parts → role_of (placed_at k) ≡ Extended → find holds_extended (target_slots table.slots plan) ≡ Some (placed_slot table.slots (placed_at k))
  outer_found k h outer =
      let one = outer_in_slot k h outer in
      one_of_four holds_extended (target_slot table.slots plan) (placed_at k).number one.low one.high (outer_slot k h outer one) (others_plain k h outer)
      ∙ ap Some (slot_at k h)

  pub no_outer_found : ((k : ℕ) → k < length plan.parts → role_of (placed_at k) ≢ Extended) → find holds_extended (target_slots table.slots plan) ≡ None
  no_outer_found none = none_of_four holds_extended (target_slot table.slots plan) (λ number high. plain_slot number high (λ k h outer. absurd (none k h outer)))

  -- where a slot is extended, none before it is
  once : (i : ℕ) → i < 4 → holds_extended (slice_index_or (target_slots table.slots plan) i empty_slot) ≡ true → list_any holds_extended (take i (target_slots table.slots plan)) ≡ false
  once i h holds =
      let place : i ≡ suc i - 1 = omega arith in
      let at : slice_index_or (target_slots table.slots plan) i empty_slot ≡ target_slot table.slots plan (suc i) =
      ap (λ k. slice_index_or (target_slots table.slots plan) k empty_slot) place ∙ at_number (target_slot table.slots plan) (suc i) (omega arith) (omega arith) in
      none_before holds_extended (target_slot table.slots plan) i h
      (λ number high differ.
      plain_slot number high (λ k lt outer same.
      elim (cases_eq (placed_at k).number (suc i)) [
        | inl here ↦ differ (sym same ∙ here)
        | inr other ↦ both_ways _ (others_plain k lt outer (suc i) (omega arith) (λ e. other (sym e))) (sym (ap holds_extended at) ∙ holds)
      ]))

  pub sound_slots : AreSound sectors (target_slots table.slots plan)
  sound_slots = record { four = refl; none_bad = λ i h bad. false≢true (sym ((all_fit i h).good _ (once i h)) ∙ bad) }

  -- no slot stands in for another table where none of the source's does
  pub none_stands_in : list_any stands_in table.slots ≡ false → list_any stands_in (target_slots table.slots plan) ≡ false
  none_stands_in none =
      any_of_four stands_in (target_slot table.slots plan) (λ number high.
      each_slot (λ slot. stands_in slot ≡ false) table.slots plan number
      (λ placed under.
      let one = low_in_slot under.place under.within (omega (arith, ap (λ (p : Placed). p.number) under.same, under.numbered)) in
      let Plain : Placed → Type 0 = λ p. stands_in (placed_slot table.slots p) ≡ false in
      let four = is.sound.four in
      subst Plain under.same (ap stands_in (source_at (placed_at under.place) one) ∙ any_none stands_in table.slots one.place empty_slot none (omega (arith, one.within))))
      (spare_plain plan.extra number).1)
    where
      any_none : {X : Type 0} (p : X → Bool) (xs : List X) (k : ℕ) (d : X) → list_any p xs ≡ false → k < length xs → p (slice_index_or xs k d) ≡ false
      any_none p xs k d none h = elim (cases_Bool (p (slice_index_or xs k d))) [ inr off ↦ off | inl on ↦ absurd (both_ways _ none (list_any_at p xs k d h on)) ]
