-- The parts of a guest with an MBR: those of its slots and those of its chain.
use Rattle.std.proofs.Common.{◌≡◌, ℕ, ◌+◌, ◌-◌, ◌<◌, ◌≤◌, if◌then◌else◌, Bool, true, false, cond, List, [], ◌∷◌, ◌++◌, length, map, count_by, slice_index_or, refl, sym, ◌∙◌, ap, inl, inr, arith, All, Some, None, ◌⊎◌}
use Rattle.std.proofs.lemmas.Bool.{cases_lt, le-ltb, lt-ltb}
use Rattle.std.proofs.lemmas.List.{map-append}
use Rattle.std.proofs.lemmas.List.Elements.{All-append, All-map, All-weaker}
use Rattle.std.proofs.lemmas.List.Sums.{sum_by-append, sum_by-cons}
use Rattle.std.proofs.lemmas.Option.{cond_some, same_Some}
use Rattle.guest_view.specs.declared.guest.GuestPart.{GuestPart}
use Rattle.guest_view.specs.declared.partition.Partition.{Partition}
use Rattle.guest_view.specs.declared.table.Table.TheVariants.{Mbr as OfMbr}
use Rattle.guest_view.specs.Contents.{partition_of, planned_part}
use Rattle.guest_view.proofs.Bare.{of_parts}
use Rattle.guest_view.proofs.Sources.{bare}
use Rattle.guest_view.specs.Partitions.{logical_partition, named_from, or_none, partitions_of, slot_partition, used_partition}
use Rattle.guest_view.proofs.Named.{IsNamedBy, named_each}
use Rattle.layout_plan.specs.declared.part.Part.{Part}
use Rattle.layout_plan.specs.declared.part.Role.{Role}
use Rattle.layout_plan.specs.declared.part.Role.TheVariants.{Slot as InSlot, Extended, Logical as InChain}
use Rattle.layout_plan.specs.Roles.{is_logical}
use Rattle.mbr_table.specs.declared.slot.Logical.{Logical}
use Rattle.mbr_table.specs.declared.slot.Slot.{Slot}
use Rattle.mbr_table.specs.Mbr.{Table}
use Rattle.mbr_table.specs.Slot.{empty_slot, is_extended, is_used}
use Rattle.target_table.specs.Slots.{no_logical}
use Rattle.target_table.proofs.Counts.{count_no, count_yes, is_low}

abbrev pub role_in_slot : Slot → Role
role_in_slot slot = if is_extended slot then Extended else InSlot

-- a part is that of a used slot
pub record IsSlotPart (slots : List Slot) (part : Part) : Type 0 where
  pub place : ℕ
  pub within : place < length slots
  pub number : part.number ≡ 1 + place
  pub used : is_used (slice_index_or slots place empty_slot) ≡ true
  pub role : part.role ≡ role_in_slot (slice_index_or slots place empty_slot)

-- a part is that of a record of the chain
pub record IsChainPart (logicals : List Logical) (part : Part) : Type 0 where
  pub place : ℕ
  pub within : place < length logicals
  pub number : part.number ≡ 5 + place
  pub role : part.role ≡ InChain

slot_part : (slots : List Slot) (p : Partition) → IsNamedBy slot_partition 1 slots p → IsSlotPart slots (bare p)
slot_part slots p named =
    let slot = slice_index_or slots named.place empty_slot in
    let is = cond_some (is_used slot) (used_partition (1 + named.place) slot) p (named.names empty_slot) in
    record {
      place = named.place;
      within = named.within;
      number = ap (λ (q : Partition). q.number) (sym is.1);
      used = is.0;
      role = ap (λ (q : Partition). q.role) (sym is.1);
    }

chain_part : (logicals : List Logical) (p : Partition) → IsNamedBy logical_partition 5 logicals p → IsChainPart logicals (bare p)
chain_part logicals p named =
    let logical = slice_index_or logicals named.place no_logical in
    let is = same_Some (record { number = 5 + named.place; role = InChain; start = logical.slot.start; count = logical.slot.count; ebr = logical.ebr }) p (named.names no_logical) in
    record {
      place = named.place;
      within = named.within;
      number = ap (λ (q : Partition). q.number) (sym is);
      role = ap (λ (q : Partition). q.role) (sym is);
    }

abbrev pub IsMbrPart : Table → Part → Type 0
IsMbrPart table part = IsSlotPart table.slots part ⊎ IsChainPart table.logicals part

-- whatever it holds
same_part : (table : Table) (g : GuestPart) → IsMbrPart table (bare (partition_of g)) → IsMbrPart table (planned_part g)
same_part table g (inl one) = inl (record { place = one.place; within = one.within; number = one.number; used = one.used; role = one.role })
same_part table g (inr one) = inr (record { place = one.place; within = one.within; number = one.number; role = one.role })

pub mbr_parts : (table : Table) (parts : List GuestPart) → map partition_of parts ≡ partitions_of (OfMbr table) → All (IsMbrPart table) (map planned_part parts)
mbr_parts table parts named =
    let Of : Partition → Type 0 = λ p. IsMbrPart table (bare p) in
    let slots = named_from slot_partition 1 table.slots in
    let logicals = named_from logical_partition 5 table.logicals in
    let of_slots = All-weaker (IsNamedBy slot_partition 1 table.slots) Of (λ p named. inl (slot_part table.slots p named)) slots (named_each slot_partition 1 table.slots) in
    let of_chain = All-weaker (IsNamedBy logical_partition 5 table.logicals) Of (λ p named. inr (chain_part table.logicals p named)) logicals (named_each logical_partition 5 table.logicals) in
    All-map (IsMbrPart table) planned_part parts
    (All-weaker (λ (g : GuestPart). Of (partition_of g)) (λ (g : GuestPart). IsMbrPart table (planned_part g)) (same_part table) parts
    (of_parts Of parts (partitions_of (OfMbr table)) named (All-append Of slots logicals of_slots of_chain)))

abbrev pub in_chain : Part → Bool
in_chain part = is_logical part.role

slot_not_in_chain : (b : Bool) → is_logical (if b then Extended else InSlot) ≡ false
slot_not_in_chain true = refl
slot_not_in_chain false = refl

abbrev slots_with : Bool → ℕ → Slot → List Slot → List Part
slots_with used first slot slots =
    map bare (or_none (if used then Some (used_partition first slot) else None) (named_from slot_partition (first + 1) slots))

-- no part of a slot is one of the chain
low_of_slots : (first m : ℕ) (slots : List Slot) → count_by (is_low in_chain m) (map bare (named_from slot_partition first slots)) ≡ 0
low_of_slots first m [] = refl
low_of_slots first m (slot ∷ slots) =
    let rest = low_of_slots (first + 1) m slots in
    let others = map bare (named_from slot_partition (first + 1) slots) in
    let plain : is_logical (role_in_slot slot) ≡ false = slot_not_in_chain (is_extended slot) in
    let out : is_low in_chain m (bare (used_partition first slot)) ≡ false = rw plain refl in
    elim (is_used slot) as (λ b. count_by (is_low in_chain m) (slots_with b first slot slots) ≡ 0) [
      | true ↦ count_no (is_low in_chain m) (bare (used_partition first slot)) others out ∙ rest
      | false ↦ rest
    ]

abbrev pub partition_in_chain : ℕ → Logical → Partition
partition_in_chain number logical = record { number = number; role = InChain; start = logical.slot.start; count = logical.slot.count; ebr = logical.ebr }

-- the numbers of the chain's parts follow each other
low_of_chain : (first m : ℕ) (logicals : List Logical) → m ≤ first + length logicals
    → count_by (is_low in_chain m) (map bare (named_from logical_partition first logicals)) ≡ m - first
low_of_chain first m [] few = omega arith
low_of_chain first m (logical ∷ logicals) few =
    let others = map bare (named_from logical_partition (first + 1) logicals) in
    let rest = low_of_chain (first + 1) m logicals (omega arith) in
    let p = bare (partition_in_chain first logical) in
    elim (cases_lt first m) [
      | inl less ↦
          let in_it : is_low in_chain m p ≡ true = lt-ltb first m less in
          omega (arith, rest, count_yes (is_low in_chain m) p others in_it)
      | inr high ↦
          let out : is_low in_chain m p ≡ false = le-ltb first m high in
          omega (arith, rest, count_no (is_low in_chain m) p others out)
    ]

low_bare : (table : Table) (m : ℕ) → m ≤ 5 + length table.logicals → count_by (is_low in_chain m) (map bare (partitions_of (OfMbr table))) ≡ m - 5
low_bare table m few =
    let slots = named_from slot_partition 1 table.slots in
    let logicals = named_from logical_partition 5 table.logicals in
    ap (count_by (is_low in_chain m)) (map-append bare slots logicals)
    ∙ sum_by-append (λ (part : Part). cond (is_low in_chain m part) 1 0) (map bare slots) (map bare logicals)
    ∙ omega (arith, low_of_slots 1 m table.slots, low_of_chain 5 m table.logicals few)

low_same : (m : ℕ) (parts : List GuestPart) → count_by (is_low in_chain m) (map planned_part parts) ≡ count_by (is_low in_chain m) (map bare (map partition_of parts))
low_same m [] = refl
low_same m (g ∷ gs) =
    let one : Part → ℕ = λ part. cond (is_low in_chain m part) 1 0 in
    sum_by-cons one (planned_part g) (map planned_part gs) ∙ ap (λ (n : ℕ). one (planned_part g) + n) (low_same m gs)
    ∙ sym (sum_by-cons one (bare (partition_of g)) (map bare (map partition_of gs)))

-- so many parts of the chain have numbers below one of its numbers
pub low_parts : (table : Table) (parts : List GuestPart) → map partition_of parts ≡ partitions_of (OfMbr table) → (m : ℕ) → m ≤ 5 + length table.logicals
    → count_by (is_low in_chain m) (map planned_part parts) ≡ m - 5
low_parts table parts named m few =
    low_same m parts ∙ ap (λ (ps : List Partition). count_by (is_low in_chain m) (map bare ps)) named ∙ low_bare table m few
