-- What is known of the partitions of a sound table.
use Rattle.std.proofs.lemmas.Bool.{and_parts, false≢true}
use Rattle.std.proofs.lemmas.Bool.Decides.{nat_tests}
use Rattle.std.proofs.lemmas.List.Elements.{All-append, All-nil, All-weaker}
use Rattle.std.proofs.Common.{◌≡◌, ℕ, zero, suc, ◌+◌, ◌-◌, ◌^◌, ◌<◌, ◌≤◌, List, [], ◌∷◌, ◌++◌, length, map, take, arith, refl, sym, subst, ◌∙◌, ap, Bool, true, false, ◌&&◌, ◌||◌, if◌then◌else◌, slice_index_or, Option, None, Some, MatchOption, find, All, AllPairs}
use Rattle.std.specs.List.{list_any}
use Rattle.gpt_table.specs.declared.entry.Entry.{Entry}
use Rattle.gpt_table.specs.Entry.{LiesBetweenTables}
use Rattle.gpt_table.specs.Gpt.{AreInside}
use Rattle.layout_plan.specs.declared.part.Kind.{Kind}
use Rattle.layout_plan.specs.declared.part.Kind.TheVariants as kinds
use Rattle.layout_plan.specs.declared.part.Role.TheVariants.{Slot as InSlot, Extended, Logical as InChain}
use Rattle.layout_plan.specs.Tables.{HasNumber}
use Rattle.mbr_table.proofs.Tables.{found_bounds, used_bounds}
use Rattle.mbr_table.specs.declared.slot.Logical.{Logical}
use Rattle.mbr_table.specs.declared.slot.Slot.{Slot}
use Rattle.mbr_table.specs.Chain.{AreLogicalsIn, IsLogicalIn}
use Rattle.mbr_table.specs.Mbr.{AreSound, AreWithin}
use Rattle.mbr_table.specs.Slot.{empty_slot, holds_extended, is_bad_slot, is_extended, is_used}
use Rattle.guest_view.specs.declared.partition.Partition.{Partition}
use Rattle.guest_view.specs.declared.table.Table.{Table}
use Rattle.guest_view.specs.declared.table.Table.TheVariants.{Mbr, Gpt}
use Rattle.guest_view.specs.Guests.{IsSoundTable, kind_of}
use Rattle.guest_view.specs.Partitions.{HasNoClash, IsReachable, entry_partition, logical_partition, named_from, or_none, partitions_of, slot_partition, used_partition}
use Rattle.guest_view.proofs.Named.{IsNamedBy, named_each, named_pairs, pairs_append}
use Rattle.guest_view.specs.inside.Sound.{EndsOn, LieBeside, Rises}
use Rattle.guest_view.proofs.Beside.{lie_beside}
use Rattle.guest_view.proofs.Sources.{ByRole, IsKnown, StandsIn, bare, is_source}
use Rattle.layout_plan.specs.Source.{IsSource}

-- the first slot that passes a test is found
find_first : (p : Slot → Bool) (slots : List Slot) (k : ℕ) (d : Slot) → k < length slots → list_any p (take k slots) ≡ false → p (slice_index_or slots k d) ≡ true
    → find p slots ≡ Some (slice_index_or slots k d)
find_first p [] k d lt none is = absurd (omega arith)
find_first p (slot ∷ slots) zero d lt none is = ap (λ b. if b then Some slot else find p slots) is
find_first p (slot ∷ slots) (suc k) d lt none is =
    elim (p slot) as (λ b. (b || list_any p (take k slots)) ≡ false → (if b then Some slot else find p slots) ≡ Some (slice_index_or slots k d)) [
      | true ↦ λ no. absurd (false≢true (sym no))
      | false ↦ λ no. find_first p slots k d (omega arith) no is
    ] none

-- a used slot has a type and sectors
used_some : (slot : Slot) → is_used slot ≡ true → 1 ≤ slot.count
used_some slot used = grind (arith, nat_tests)

-- what a slot names
record NamesUsed (number : ℕ) (slot : Slot) (p : Partition) : Type 0 where
  used : is_used slot ≡ true
  is : used_partition number slot ≡ p

names_used : (number : ℕ) (slot : Slot) (p : Partition) → slot_partition number slot ≡ Some p → NamesUsed number slot p
names_used number slot p names =
    elim (is_used slot) as (λ b. is_used slot ≡ b → (if b then Some (used_partition number slot) else None) ≡ Some p → NamesUsed number slot p) [
      | true ↦ λ used some. let same : used_partition number slot ≡ p = cc in record { used = used; is = same }
      | false ↦ λ used none. absurd cc
    ] refl names

slot_number : (b : Bool) (n : ℕ) → 1 ≤ n → n ≤ 4 → HasNumber kinds.Mbr (if b then Extended else InSlot) n
slot_number true n low high = record { from_first = low; to_last = high }
slot_number false n low high = record { from_first = low; to_last = high }

-- of slots without a bad one, that which is extended is the one that is found
extended_found : (sectors : ℕ) (slots : List Slot) (k : ℕ) → AreSound sectors slots → k < 4 → is_used (slice_index_or slots k empty_slot) ≡ true
    → is_extended (slice_index_or slots k empty_slot) ≡ true → find holds_extended slots ≡ Some (slice_index_or slots k empty_slot)
extended_found sectors slots k sound lt used extended =
    let slot = slice_index_or slots k empty_slot in
    let holds : holds_extended slot ≡ true = ap (λ b. b && is_extended slot) used ∙ extended in
    let none : list_any holds_extended (take k slots) ≡ false =
    elim (list_any holds_extended (take k slots)) as (λ b. (is_bad_slot sectors b slot ≡ true → ⊥) → b ≡ false) [
      | true ↦ λ good. absurd (good (grind (arith, used, extended, nat_tests)))
      | false ↦ λ good. refl
    ] (sound.none_bad k lt) in
    find_first holds_extended slots k empty_slot (omega (arith, lt, sound.four)) none holds

slot_role : (sectors : ℕ) (slots : List Slot) (k : ℕ) (b : Bool) → AreSound sectors slots → k < 4 → is_used (slice_index_or slots k empty_slot) ≡ true
    → is_extended (slice_index_or slots k empty_slot) ≡ b → ByRole slots (if b then Extended else InSlot) (used_partition (1 + k) (slice_index_or slots k empty_slot))
slot_role sectors slots k true sound lt used is = (slice_index_or slots k empty_slot, extended_found sectors slots k sound lt used is, refl)
slot_role sectors slots k false sound lt used is = tt

known_slot : (sectors : ℕ) (slots : List Slot) → AreSound sectors slots → (p : Partition) → IsNamedBy slot_partition 1 slots p → IsKnown kinds.Mbr sectors slots p
known_slot sectors slots sound p named =
    let k = named.place in
    let slot = slice_index_or slots k empty_slot in
    let lt : k < 4 = omega (arith, named.within, sound.four) in
    let names = names_used (1 + k) slot p (named.names empty_slot) in
    let bounds = used_bounds sectors slots k sound lt names.used in
    let known : IsKnown kinds.Mbr sectors slots (used_partition (1 + k) slot) =
    record {
      numbered = slot_number (is_extended slot) (1 + k) (omega arith) (omega (arith, lt));
      behind = bounds.0;
      some = used_some slot names.used;
      ends = bounds.1;
      by_role = slot_role sectors slots k (is_extended slot) sound lt names.used refl;
    } in
    subst (IsKnown kinds.Mbr sectors slots) names.is known

known_logical : (sectors : ℕ) (slots : List Slot) (e : Slot) (logicals : List Logical) → AreSound sectors slots → find holds_extended slots ≡ Some e → AreLogicalsIn e logicals
    → (p : Partition) → IsNamedBy logical_partition 5 logicals p → IsKnown kinds.Mbr sectors slots p
known_logical sectors slots e logicals sound found within p named =
    let k = named.place in
    let none : Logical = record { ebr = 0; slot = empty_slot } in
    let logical = slice_index_or logicals k none in
    let inside : IsLogicalIn e logical = within.each k none named.within in
    let bounds = found_bounds sectors slots e found sound in
    let is : record { number = 5 + k; role = InChain; start = logical.slot.start; count = logical.slot.count; ebr = logical.ebr } ≡ p =
    let some : logical_partition (5 + k) logical ≡ Some p = named.names none in cc in
    let known : IsKnown kinds.Mbr sectors slots (record { number = 5 + k; role = InChain; start = logical.slot.start; count = logical.slot.count; ebr = logical.ebr }) =
    record {
      numbered = record { from_first = omega arith; to_last = omega (arith, named.within, within.few) };
      behind = omega (arith, bounds.0, inside.record_inside, inside.behind_record);
      some = used_some logical.slot inside.used;
      ends = omega (arith, bounds.1, inside.ends_inside);
      by_role = (e, found, omega (arith, inside.record_inside, inside.behind_record), inside.ends_inside);
    } in
    subst (IsKnown kinds.Mbr sectors slots) is known

known_logicals : (sectors : ℕ) (slots : List Slot) (logicals : List Logical) (found : Option Slot) → AreSound sectors slots → find holds_extended slots ≡ found
    → MatchOption found (logicals ≡ []) (λ e. AreLogicalsIn e logicals) → All (IsKnown kinds.Mbr sectors slots) (named_from logical_partition 5 logicals)
known_logicals sectors slots logicals None sound is none =
    let Of : List Logical → Type 0 = λ all. All (IsKnown kinds.Mbr sectors slots) (named_from logical_partition 5 all) in
    subst Of (sym none) (All-nil (IsKnown kinds.Mbr sectors slots))
known_logicals sectors slots logicals (Some e) sound is within =
    All-weaker (IsNamedBy logical_partition 5 logicals) (IsKnown kinds.Mbr sectors slots) (known_logical sectors slots e logicals sound is within)
    (named_from logical_partition 5 logicals) (named_each logical_partition 5 logicals)

-- numbers rise with places
slots_rise : (slots : List Slot) → AllPairs Rises (named_from slot_partition 1 slots)
slots_rise slots =
    named_pairs slot_partition Rises 1 slots
    (λ k l lt within d p q a b.
    let one : p.number ≡ 1 + k = sym (ap (λ (r : Partition). r.number) (names_used (1 + k) (slice_index_or slots k d) p a).is) in
    let other : q.number ≡ 1 + l = sym (ap (λ (r : Partition). r.number) (names_used (1 + l) (slice_index_or slots l d) q b).is) in
    omega (arith, lt, one, other))

logicals_rise : (logicals : List Logical) → AllPairs Rises (named_from logical_partition 5 logicals)
logicals_rise logicals =
    named_pairs logical_partition Rises 5 logicals
    (λ k l lt within d p q a b.
    let one : p.number ≡ 5 + k = cc in
    let other : q.number ≡ 5 + l = cc in
    omega (arith, lt, one, other))

number_low : (slots : List Slot) (p : Partition) → length slots ≡ 4 → IsNamedBy slot_partition 1 slots p → p.number ≤ 4
number_low slots p four named =
    let is : p.number ≡ 1 + named.place = sym (ap (λ (r : Partition). r.number) (names_used (1 + named.place) (slice_index_or slots named.place empty_slot) p (named.names empty_slot)).is) in
    omega (arith, is, four, named.within)

number_high : (logicals : List Logical) (p : Partition) → IsNamedBy logical_partition 5 logicals p → 5 ≤ p.number
number_high logicals p named =
    let none : Logical = record { ebr = 0; slot = empty_slot } in
    let some : logical_partition (5 + named.place) (slice_index_or logicals named.place none) ≡ Some p = named.names none in
    let is : p.number ≡ 5 + named.place = cc in
    omega (arith, is)

pub known_of_mbr : (sectors : ℕ) (slots : List Slot) (logicals : List Logical) → AreSound sectors slots → AreWithin slots logicals
    → All (IsKnown kinds.Mbr sectors slots) (named_from slot_partition 1 slots ++ named_from logical_partition 5 logicals)
known_of_mbr sectors slots logicals sound within =
    All-append (IsKnown kinds.Mbr sectors slots) (named_from slot_partition 1 slots) (named_from logical_partition 5 logicals)
    (All-weaker (IsNamedBy slot_partition 1 slots) (IsKnown kinds.Mbr sectors slots) (known_slot sectors slots sound) (named_from slot_partition 1 slots) (named_each slot_partition 1 slots))
    (known_logicals sectors slots logicals (find holds_extended slots) sound refl within)

pub rising_of_mbr : (slots : List Slot) (logicals : List Logical) → length slots ≡ 4
    → AllPairs Rises (named_from slot_partition 1 slots ++ named_from logical_partition 5 logicals)
rising_of_mbr slots logicals four =
    pairs_append Rises (named_from slot_partition 1 slots) (named_from logical_partition 5 logicals) (slots_rise slots) (logicals_rise logicals)
    (All-weaker (IsNamedBy slot_partition 1 slots) (λ p. All (Rises p) (named_from logical_partition 5 logicals))
    (λ p named. let low = number_low slots p four named in
    All-weaker (IsNamedBy logical_partition 5 logicals) (Rises p) (λ q other. let high = number_high logicals q other in omega (arith, low, high))
    (named_from logical_partition 5 logicals) (named_each logical_partition 5 logicals))
    (named_from slot_partition 1 slots) (named_each slot_partition 1 slots))

-- the extended slot that is found stands in the list
stands_here : (first : ℕ) (slot : Slot) (slots : List Slot) (rest : List Partition) → is_used slot ≡ true → is_extended slot ≡ true
    → StandsIn (named_from slot_partition first (slot ∷ slots) ++ rest) slot
stands_here first slot slots rest used extended =
    let Of : Bool → Type 0 = λ b. StandsIn (or_none (if b then Some (used_partition first slot) else None) (named_from slot_partition (first + 1) slots) ++ rest) slot in
    subst Of (sym used) (record { place = 0; within = omega arith; role = ap (λ b. if b then Extended else InSlot) extended; start = refl; count = refl })

stands_later : (o : Option Partition) (ps rest : List Partition) (e : Slot) → StandsIn (ps ++ rest) e → StandsIn (or_none o ps ++ rest) e
stands_later None ps rest e is = is
stands_later (Some p) ps rest e is = record { place = suc is.place; within = omega (arith, is.within); role = is.role; start = is.start; count = is.count }

found_stands : (first : ℕ) (slots : List Slot) (rest : List Partition) (e : Slot) → find holds_extended slots ≡ Some e → StandsIn (named_from slot_partition first slots ++ rest) e
found_stands first [] rest e is = absurd cc
found_stands first (slot ∷ slots) rest e is =
    elim (holds_extended slot) as (λ b. holds_extended slot ≡ b → (if b then Some slot else find holds_extended slots) ≡ Some e
    → StandsIn (named_from slot_partition first (slot ∷ slots) ++ rest) e) [
      | true ↦ λ holds found.
          let same : slot ≡ e = cc in
          let parts = and_parts (is_used slot) (is_extended slot) holds in
          subst (StandsIn (named_from slot_partition first (slot ∷ slots) ++ rest)) same (stands_here first slot slots rest parts.0 parts.1)
      | false ↦ λ holds found. stands_later (slot_partition first slot) (named_from slot_partition (first + 1) slots) rest e (found_stands (first + 1) slots rest e found)
    ] refl is

-- what an entry names
known_by : (sectors number : ℕ) (slot : Option Entry) (p : Partition) → 1 ≤ number → number ≤ 128 → ((entry : Entry) → slot ≡ Some entry → LiesBetweenTables sectors entry)
    → entry_partition number slot ≡ Some p → (p.number ≡ number) × IsKnown kinds.Gpt sectors [] p
known_by sectors number None p low high inside names = absurd cc
known_by sectors number (Some entry) p low high inside names =
    let lies : LiesBetweenTables sectors entry = inside entry refl in
    let is : record { number = number; role = InSlot; start = entry.first; count = entry.last + 1 - entry.first; ebr = 0 } ≡ p = cc in
    let Known : Partition → Type 0 = λ q. (q.number ≡ number) × IsKnown kinds.Gpt sectors [] q in
    let known : IsKnown kinds.Gpt sectors [] (record { number = number; role = InSlot; start = entry.first; count = entry.last + 1 - entry.first; ebr = 0 }) =
    record {
      numbered = record { from_first = low; to_last = high };
      behind = lies.behind_tables;
      some = omega (arith, lies.in_order);
      ends = omega (arith, lies.in_order, lies.within);
      by_role = tt;
    } in
    subst Known is (refl, known)

known_entry : (sectors : ℕ) (entries : List (Option Entry)) → AreInside sectors entries → (p : Partition) → IsNamedBy entry_partition 1 entries p → IsKnown kinds.Gpt sectors [] p
known_entry sectors entries inside p named =
    (known_by sectors (1 + named.place) (slice_index_or entries named.place None) p (omega arith) (omega (arith, named.within, inside.count)) (inside.inside named.place) (named.names None)).1

entry_number : (number : ℕ) (slot : Option Entry) (p : Partition) → entry_partition number slot ≡ Some p → p.number ≡ number
entry_number number None p names = absurd cc
entry_number number (Some entry) p names = cc

pub known_of_gpt : (sectors : ℕ) (entries : List (Option Entry)) → AreInside sectors entries → All (IsKnown kinds.Gpt sectors []) (named_from entry_partition 1 entries)
known_of_gpt sectors entries inside =
    All-weaker (IsNamedBy entry_partition 1 entries) (IsKnown kinds.Gpt sectors []) (known_entry sectors entries inside) (named_from entry_partition 1 entries) (named_each entry_partition 1 entries)

pub rising_of_gpt : (entries : List (Option Entry)) → AllPairs Rises (named_from entry_partition 1 entries)
rising_of_gpt entries =
    named_pairs entry_partition Rises 1 entries
    (λ k l lt within d p q a b.
    let one : p.number ≡ 1 + k = entry_number (1 + k) (slice_index_or entries k d) p a in
    let other : q.number ≡ 1 + l = entry_number (1 + l) (slice_index_or entries l d) q b in
    omega (arith, lt, one, other))

none_extended : (ps : List Partition) (e : Slot) → find holds_extended [] ≡ Some e → StandsIn ps e
none_extended ps e is = absurd cc

-- the partitions of a sound table that has no clash: a plan can take them, they lie on the disk, those that aren't extended
-- apart, and their numbers rise
pub record AreSource (kind : Kind) (sectors : ℕ) (ps : List Partition) : Type 0 where
  pub source : IsSource kind (map bare ps)
  pub inside : All (EndsOn sectors) ps
  pub apart : AllPairs LieBeside ps
  pub rising : AllPairs Rises ps

source_of : (kind : Kind) (sectors : ℕ) (slots : List Slot) (ps : List Partition) → sectors ≤ 2 ^ 31 → All (IsKnown kind sectors slots) ps → AllPairs Rises ps
    → HasNoClash ps → ((e : Slot) → find holds_extended slots ≡ Some e → StandsIn ps e) → AreSource kind sectors ps
source_of kind sectors slots ps few known rising apart stands = record {
  source = is_source kind sectors slots ps few known rising apart stands;
  inside = All-weaker (IsKnown kind sectors slots) (EndsOn sectors) (λ p is. is.ends) ps known;
  apart = lie_beside kind sectors slots ps known apart stands;
  rising = rising;
}

pub are_source : (sectors : ℕ) (table : Table) → IsSoundTable sectors table → HasNoClash (partitions_of table) → AreSource (kind_of table) sectors (partitions_of table)
are_source sectors (Mbr table) sound apart =
    source_of kinds.Mbr sectors table.slots (partitions_of (Mbr table)) sound.few (known_of_mbr sectors table.slots table.logicals sound.entries.0 sound.entries.1)
    (rising_of_mbr table.slots table.logicals sound.entries.0.four) apart (found_stands 1 table.slots (named_from logical_partition 5 table.logicals))
are_source sectors (Gpt table) sound apart =
    source_of kinds.Gpt sectors [] (partitions_of (Gpt table)) sound.few (known_of_gpt sectors table.entries sound.entries) (rising_of_gpt table.entries) apart
    (none_extended (partitions_of (Gpt table)))

reachable_by : (kind : Kind) (sectors : ℕ) (slots : List Slot) (p : Partition) → sectors ≤ 2 ^ 31 → IsKnown kind sectors slots p → IsReachable p
reachable_by kind sectors slots p few known = omega (arith, few, known.ends)

pub reachable : (sectors : ℕ) (table : Table) → IsSoundTable sectors table → All IsReachable (partitions_of table)
reachable sectors (Mbr table) sound =
    All-weaker (IsKnown kinds.Mbr sectors table.slots) IsReachable (λ p known. reachable_by kinds.Mbr sectors table.slots p sound.few known) (partitions_of (Mbr table))
    (known_of_mbr sectors table.slots table.logicals sound.entries.0 sound.entries.1)
reachable sectors (Gpt table) sound =
    All-weaker (IsKnown kinds.Gpt sectors []) IsReachable (λ p known. reachable_by kinds.Gpt sectors [] p sound.few known) (partitions_of (Gpt table))
    (known_of_gpt sectors table.entries sound.entries)
