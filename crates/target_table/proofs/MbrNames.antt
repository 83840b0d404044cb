-- The planned table has each placed partition under its number and with its name, and nothing else.
use Rattle.std.proofs.Common.{◌≡◌, ◌≢◌, ℕ, ◌-◌, ◌<◌, ◌≤◌, ◌==◌, if◌then◌else◌, false, List, length, filter, take, count_by, slice_index_or, slice_get, refl, sym, ◌∙◌, ap, subst, inl, inr, arith, All, Option, None, Some, IfSome, option_map, option_and_then}
use Rattle.std.proofs.lemmas.Bool.{both_ways, cases_lt, eq-eqb, le-leb, lt-leb}
use Rattle.std.proofs.lemmas.List.{get_or_default}
use Rattle.std.proofs.lemmas.List.Folds.{list_any_at}
use Rattle.std.proofs.lemmas.Option.{get_or_from_slice_get, slice_get-map, slice_get_past}
use Rattle.guest_view.specs.declared.guest.GuestPart.{GuestPart}
use Rattle.guest_view.specs.declared.partition.Partition.{Partition}
use Rattle.guest_view.specs.declared.table.Table.TheVariants.{Mbr as OfMbr}
use Rattle.guest_view.specs.Partitions.{logical_partition, slot_partition, used_partition}
use Rattle.layout_plan.specs.declared.part.Placed.{Placed}
use Rattle.layout_plan.specs.declared.part.Role.{Role}
use Rattle.layout_plan.specs.declared.wish.Layout.{Layout}
use Rattle.layout_plan.specs.declared.wish.Wish.{Wish}
use Rattle.layout_plan.specs.Plans.{Plan, is_taken, role_of}
use Rattle.mbr_table.specs.declared.slot.Logical.{Logical}
use Rattle.mbr_table.specs.declared.slot.Slot.{Slot}
use Rattle.mbr_table.specs.Mbr.{Table}
use Rattle.mbr_table.specs.Slot.{empty_slot}
use Rattle.target_table.specs.Planned.{HasPlaced, HasSameName, KeepsNames, partition_under, placed_partition, slot_under}
use Rattle.target_table.specs.Slots.{extra_slot, has_record, no_logical, placed_logical, placed_slot, slot_or_spare, source_logical, source_slot, spare_slot, target_logicals, target_slot, target_slots}
use Rattle.target_table.proofs.Counts.{kept_at}
use Rattle.target_table.proofs.MbrChain.{link_at}
use Rattle.target_table.proofs.MbrParts.{role_in_slot}
use Rattle.target_table.proofs.MbrPlans.{IsInChain, IsInSlot, IsMbrPlan, chain_numbers, placed_in, record_is}
use Rattle.target_table.proofs.MbrSlots.{IsSpare, at_number, none_found, slot_at, source_at, spare, spare_empty, spare_here, used_slot}
use Rattle.target_table.proofs.Outer.{nowhere}

abbrev made : ℕ → Role → ℕ → ℕ → ℕ → Partition
made number role start count ebr = record { number = number; role = role; start = start; count = count; ebr = ebr }

module _ (source_sectors sectors : ℕ) (table : Table) (parts : List GuestPart) (wishes : List Wish) (layout : Layout) (plan : Plan)
    (is : IsMbrPlan source_sectors sectors table parts wishes layout plan) (head : List ℕ) where
  abbrev placed_at : ℕ → Placed
  placed_at k = slice_index_or plan.parts k nowhere

  abbrev planned : Table
  planned = record { head = head; slots = target_slots table.slots plan; logicals = target_logicals table.logicals plan }

  -- what a slot's number and a logical partition's name
  low_slot : (any : Table) (number : ℕ) → number ≤ 4 → slot_under any number ≡ slice_index_or any.slots (number - 1) empty_slot
  low_slot any number low = ap (λ b. if b then slice_index_or any.slots (number - 1) empty_slot else (slice_index_or any.logicals (number - 5) no_logical).slot) (le-leb number 4 low)

  high_slot : (any : Table) (number : ℕ) → 5 ≤ number → slot_under any number ≡ (slice_index_or any.logicals (number - 5) no_logical).slot
  high_slot any number high = ap (λ b. if b then slice_index_or any.slots (number - 1) empty_slot else (slice_index_or any.logicals (number - 5) no_logical).slot) (lt-leb number 4 (omega arith))

  low_partition : (number : ℕ) → 1 ≤ number → number ≤ 4 → partition_under (OfMbr planned) number ≡ slot_partition number (target_slot table.slots plan number)
  low_partition number from low =
      ap (λ b. if b then slot_partition number (slice_index_or planned.slots (number - 1) empty_slot) else option_and_then (logical_partition number) (slice_get planned.logicals (number - 5))) (le-leb number 4 low)
      ∙ ap (slot_partition number) (at_number (target_slot table.slots plan) number from low)

  high_partition : (number : ℕ) → 5 ≤ number → partition_under (OfMbr planned) number ≡ option_and_then (logical_partition number) (slice_get planned.logicals (number - 5))
  high_partition number high =
      ap (λ b. if b then slot_partition number (slice_index_or planned.slots (number - 1) empty_slot) else option_and_then (logical_partition number) (slice_get planned.logicals (number - 5))) (lt-leb number 4 (omega arith))

  -- under its number the chain has a logical partition that is placed
  in_chain_at : (k : ℕ) → k < length plan.parts → IsInChain table.logicals (placed_at k) → slice_get planned.logicals ((placed_at k).number - 5) ≡ Some (placed_logical table.logicals (placed_at k))
  in_chain_at k h one =
      let some = record_is (placed_at k) one.some_record in
      let number = chain_numbers source_sectors sectors table parts wishes layout plan is k nowhere h some in
      let at : (placed_at k).number - 5 ≡ count_by has_record (take k plan.parts) = omega (arith, number) in
      ap (slice_get planned.logicals) at ∙ slice_get-map (placed_logical table.logicals) (filter has_record plan.parts) (count_by has_record (take k plan.parts))
      ∙ ap (option_map (placed_logical table.logicals)) (kept_at has_record plan.parts k nowhere h some)

  slot_named : (k : ℕ) → k < length plan.parts → IsInSlot table.slots (placed_at k) → partition_under (OfMbr planned) (placed_at k).number ≡ Some (placed_partition (placed_at k))
  slot_named k h one =
      let p = placed_at k in
      let slot = placed_slot table.slots p in
      let used = used_slot source_sectors sectors table parts wishes layout plan is p one (is.known.inside k nowhere h).some in
      let role : role_in_slot slot ≡ role_of p = ap role_in_slot (source_at source_sectors sectors table parts wishes layout plan is p one) ∙ sym one.role in
      low_partition p.number one.low one.high ∙ ap (slot_partition p.number) (slot_at source_sectors sectors table parts wishes layout plan is k h)
      ∙ ap (λ b. if b then Some (used_partition p.number slot) else None) used
      ∙ ap (λ r. Some (made p.number r p.start p.count 0)) role ∙ ap (λ ebr. Some (made p.number (role_of p) p.start p.count ebr)) (sym one.no_record)

  chain_named : (k : ℕ) → k < length plan.parts → IsInChain table.logicals (placed_at k) → partition_under (OfMbr planned) (placed_at k).number ≡ Some (placed_partition (placed_at k))
  chain_named k h one =
      let p = placed_at k in
      high_partition p.number one.low ∙ ap (option_and_then (logical_partition p.number)) (in_chain_at k h one)
      ∙ ap (λ r. Some (made p.number r p.start p.count p.ebr)) (sym one.role)

  all_named : All (λ (placed : Placed). partition_under (OfMbr planned) placed.number ≡ Some (placed_partition placed)) plan.parts
  all_named k d h =
      let Named : Placed → Type 0 = λ placed. partition_under (OfMbr planned) placed.number ≡ Some (placed_partition placed) in
      subst Named (get_or_default plan.parts k nowhere d h)
      (elim (placed_in source_sectors sectors table parts wishes layout plan is k nowhere h) [ inl one ↦ slot_named k h one | inr one ↦ chain_named k h one ])

  free_under : (number : ℕ) → is_taken plan.parts number ≡ false → target_slot table.slots plan number ≡ spare_slot plan.extra number
  free_under number free = ap (λ found. slot_or_spare table.slots found (spare_slot plan.extra number)) (none_found (λ (one : Placed). one.number == number) plan.parts free)

  extra_named : (extra : Option Placed) → plan.extra ≡ extra → IfSome extra (IsSpare sectors plan.parts) → IfSome extra (λ (one : Placed). partition_under (OfMbr planned) one.number ≡ Some (placed_partition one))
  extra_named None same one = tt
  extra_named (Some one) same free =
      low_partition one.number free.from_one free.to_four
      ∙ ap (slot_partition one.number) (free_under one.number free.free ∙ ap (λ extra. spare_slot extra one.number) same ∙ spare_here one)
      ∙ ap (λ b. if b then Some (used_partition one.number (extra_slot one)) else None) free.used
      ∙ ap (λ r. Some (made one.number r one.start one.count 0)) (sym free.role) ∙ ap (λ ebr. Some (made one.number (role_of one) one.start one.count ebr)) (sym free.no_record)

  -- under a number that no partition has the chain has nothing
  none_in_chain : (number : ℕ) → 5 ≤ number → is_taken plan.parts number ≡ false → slice_get planned.logicals (number - 5) ≡ None
  none_in_chain number high free =
      elim (cases_lt (number - 5) (length planned.logicals)) [
        | inr past ↦ slice_get_past planned.logicals (number - 5) past
        | inl within ↦
            let link = link_at source_sectors sectors table parts wishes layout plan is (number - 5) within in
            absurd (both_ways _ free (list_any_at (λ (one : Placed). one.number == number) plan.parts link.place nowhere link.within
            (eq-eqb (placed_at link.place).number number (omega (arith, link.number, high)))))
      ]

  none_named : (number : ℕ) → 1 ≤ number → is_taken plan.parts number ≡ false → IfSome plan.extra (λ (one : Placed). one.number ≢ number) → partition_under (OfMbr planned) number ≡ None
  none_named number from free other =
      elim (cases_lt number 5) [
        | inl low ↦ low_partition number from (omega arith) ∙ ap (slot_partition number) (free_under number free ∙ spare_empty plan.extra number other)
        | inr high ↦ high_partition number high ∙ ap (option_and_then (logical_partition number)) (none_in_chain number high free)
      ]

  pub has_placed : HasPlaced (OfMbr planned) plan
  has_placed = record { placed = all_named; extra = extra_named plan.extra refl (spare source_sectors sectors table parts wishes layout plan is); others = none_named }

  slot_name : (k : ℕ) → k < length plan.parts → IsInSlot table.slots (placed_at k) → HasSameName (OfMbr table) (OfMbr planned) (placed_at k).from (placed_at k).number
  slot_name k h one =
      let p = placed_at k in
      let target : slot_under planned p.number ≡ placed_slot table.slots p =
      low_slot planned p.number one.high ∙ at_number (target_slot table.slots plan) p.number one.low one.high ∙ slot_at source_sectors sectors table parts wishes layout plan is k h in
      let source : slot_under table p.from ≡ source_slot table.slots p = low_slot table p.from (omega (arith, one.from, one.within)) in
      (ap (λ (slot : Slot). slot.status) target ∙ ap (λ (slot : Slot). slot.status) (sym source), ap (λ (slot : Slot). slot.kind) target ∙ ap (λ (slot : Slot). slot.kind) (sym source))

  chain_name : (k : ℕ) → k < length plan.parts → IsInChain table.logicals (placed_at k) → HasSameName (OfMbr table) (OfMbr planned) (placed_at k).from (placed_at k).number
  chain_name k h one =
      let p = placed_at k in
      let target : slot_under planned p.number ≡ (placed_logical table.logicals p).slot =
      high_slot planned p.number one.low
      ∙ ap (λ (logical : Logical). logical.slot) (get_or_from_slice_get planned.logicals (p.number - 5) (placed_logical table.logicals p) no_logical (in_chain_at k h one)) in
      let source : slot_under table p.from ≡ (source_logical table.logicals p).slot = high_slot table p.from (omega (arith, one.from)) in
      (ap (λ (slot : Slot). slot.status) target ∙ ap (λ (slot : Slot). slot.status) (sym source), ap (λ (slot : Slot). slot.kind) target ∙ ap (λ (slot : Slot). slot.kind) (sym source))

  pub keeps_names : KeepsNames (OfMbr table) (OfMbr planned) plan
  keeps_names k d h =
      let Named : Placed → Type 0 = λ placed. HasSameName (OfMbr table) (OfMbr planned) placed.from placed.number in
      subst Named (get_or_default plan.parts k nowhere d h)
      (elim (placed_in source_sectors sectors table parts wishes layout plan is k nowhere h) [ inl one ↦ slot_name k h one | inr one ↦ chain_name k h one ])
