-- What a plan places of a guest with an MBR: slots that come from slots, and a chain that comes from the chain, whose
-- numbers follow each other.
use Rattle.std.proofs.Common.{◌≡◌, ◌≢◌, ℕ, ◌+◌, ◌-◌, ◌^◌, ◌<◌, ◌≤◌, ◌&&◌, ◌⊎◌, nat_lt, not, if◌then◌else◌, Bool, true, false, List, [], length, map, take, count_by, slice_index_or, refl, sym, ◌∙◌, ap, inl, inr, arith, All, None, Some, MatchOption}
use Rattle.std.specs.List.{find}
use Rattle.std.proofs.lemmas.Bool.{both_ways, eq-eqb, ne_eqb}
use Rattle.std.proofs.lemmas.List.{get_or_default}
use Rattle.std.proofs.lemmas.List.Elements.{All-contains}
use Rattle.guest_view.specs.declared.guest.GuestPart.{GuestPart}
use Rattle.guest_view.specs.declared.table.Table.TheVariants.{Mbr as OfMbr}
use Rattle.guest_view.specs.Contents.{partition_of, planned_part}
use Rattle.guest_view.specs.Partitions.{partitions_of}
use Rattle.layout_plan.specs.declared.part.Kind.TheVariants.{Mbr}
use Rattle.layout_plan.specs.declared.part.Part.{Part}
use Rattle.layout_plan.specs.declared.part.Placed.{Placed}
use Rattle.layout_plan.specs.declared.part.Role.{Role}
use Rattle.layout_plan.specs.declared.part.Role.TheVariants.{Slot as InSlot, Extended, Logical as InChain}
use Rattle.layout_plan.specs.declared.wish.Layout.{Layout}
use Rattle.layout_plan.specs.declared.wish.Wish.{Wish}
use Rattle.layout_plan.specs.Plans.{Plan, role_of}
use Rattle.layout_plan.specs.Roles.{is_logical, same_class}
use Rattle.layout_plan.specs.Source.{IsSource}
use Rattle.layout_plan.specs.Tables.{HasNumber}
use Rattle.layout_plan.specs.Wishes.{is_gone, makes_room}
use Rattle.layout_plan.proofs.Orders.{any_part}
use Rattle.mbr_table.specs.declared.slot.Logical.{Logical}
use Rattle.mbr_table.specs.declared.slot.Slot.{Slot}
use Rattle.mbr_table.specs.Chain.{AreLogicalsIn}
use Rattle.mbr_table.specs.Mbr.{AreSound, AreWithin, Table}
use Rattle.mbr_table.specs.Slot.{empty_slot, holds_extended, is_extended, is_used}
use Rattle.target_table.specs.Planned.{IsGuestPlan}
use Rattle.target_table.specs.Slots.{has_record, no_logical}
use Rattle.target_table.proofs.Counts.{count_alike, count_same, is_low, is_low_gone, made_splits}
use Rattle.target_table.proofs.MbrParts.{IsMbrPart, in_chain, low_parts, mbr_parts, role_in_slot}
use Rattle.target_table.proofs.Placements.{all, made_of, part_there, rest}

-- a plan for a guest with an MBR
pub record IsMbrPlan (source_sectors sectors : ℕ) (table : Table) (parts : List GuestPart) (wishes : List Wish) (layout : Layout) (plan : Plan) : Type 0 where
  pub sound : AreSound source_sectors table.slots
  pub within : AreWithin table.slots table.logicals
  pub named : map partition_of parts ≡ partitions_of (OfMbr table)
  pub source : IsSource Mbr (map planned_part parts)
  pub known : IsGuestPlan (record { sectors = source_sectors; table = OfMbr table; parts = parts }) wishes layout sectors plan

-- a placed partition comes from a used slot, and is one
pub record IsInSlot (slots : List Slot) (placed : Placed) : Type 0 where
  pub place : ℕ
  pub within : place < 4
  pub from : placed.from ≡ 1 + place
  pub used : is_used (slice_index_or slots place empty_slot) ≡ true
  pub role : role_of placed ≡ role_in_slot (slice_index_or slots place empty_slot)
  pub no_record : placed.ebr ≡ 0
  pub low : 1 ≤ placed.number
  pub high : placed.number ≤ 4

-- a placed partition comes from the chain, and stands in it
pub record IsInChain (logicals : List Logical) (placed : Placed) : Type 0 where
  pub place : ℕ
  pub within : place < length logicals
  pub from : placed.from ≡ 5 + place
  pub role : role_of placed ≡ InChain
  pub some_record : placed.ebr ≢ 0
  pub low : 5 ≤ placed.number
  pub high : placed.number ≤ 64

pub no_record_is : (placed : Placed) → placed.ebr ≡ 0 → has_record placed ≡ false
no_record_is placed none = ap not (eq-eqb placed.ebr 0 none)

pub record_is : (placed : Placed) → placed.ebr ≢ 0 → has_record placed ≡ true
record_is placed some = ap not (ne_eqb placed.ebr 0 some)

plain_in_slot : (b : Bool) → is_logical (if b then Extended else InSlot) ≡ false
plain_in_slot true = refl
plain_in_slot false = refl

-- the numbers of slots
slot_number : (b : Bool) (role : Role) (number : ℕ) → role ≡ (if b then Extended else InSlot) → HasNumber Mbr role number → (1 ≤ number) × (number ≤ 4)
slot_number b InSlot number is has = (has.from_first, has.to_last)
slot_number b Extended number is has = (has.from_first, has.to_last)
slot_number b InChain number is has = absurd (both_ways (is_logical (if b then Extended else InSlot)) (plain_in_slot b) (ap is_logical (sym is)))

chain_number : (role : Role) (number : ℕ) → role ≡ InChain → HasNumber Mbr role number → (5 ≤ number) × (number ≤ 64)
chain_number InSlot number is has = absurd (cc is)
chain_number Extended number is has = absurd (cc is)
chain_number InChain number is has = (has.from_first, has.to_last)

-- the logical partitions of a source are used
pub used_in_chain : (slots : List Slot) (logicals : List Logical) → AreWithin slots logicals → (k : ℕ) → k < length logicals → is_used (slice_index_or logicals k no_logical).slot ≡ true
used_in_chain slots logicals within k h =
    elim (find holds_extended slots) as (λ o. MatchOption o (logicals ≡ []) (λ extended. AreLogicalsIn extended logicals) → is_used (slice_index_or logicals k no_logical).slot ≡ true) [
      | None ↦ λ none. absurd (omega (arith, ap length none))
      | Some extended ↦ λ are. (are.each k no_logical h).used
    ] within

module _ (source_sectors sectors : ℕ) (table : Table) (parts : List GuestPart) (wishes : List Wish) (layout : Layout) (plan : Plan)
    (is : IsMbrPlan source_sectors sectors table parts wishes layout plan) where
  abbrev source_parts : List Part
  source_parts = map planned_part parts

  abbrev made_parts : List Part
  made_parts = rest Mbr source_parts is.source wishes layout sectors plan is.known.is_plan

  abbrev new_wishes : List Wish
  new_wishes = all Mbr source_parts is.source wishes layout sectors plan is.known.is_plan

  few : sectors ≤ 2 ^ 31
  few = is.known.is_plan.due.room.not_too_many

  of_table : All (IsMbrPart table) source_parts
  of_table = mbr_parts table parts is.named

  part_in_table : (k : ℕ) → k < length plan.parts → IsMbrPart table (slice_index_or made_parts k any_part)
  part_in_table k h = All-contains (IsMbrPart table) source_parts (slice_index_or made_parts k any_part) of_table (part_there Mbr source_parts is.source wishes layout sectors plan is.known.is_plan k h)

  pub placed_in : (k : ℕ) (d : Placed) → k < length plan.parts → IsInSlot table.slots (slice_index_or plan.parts k d) ⊎ IsInChain table.logicals (slice_index_or plan.parts k d)
  placed_in k d h =
      let placed = slice_index_or plan.parts k d in
      let made = made_of Mbr source_parts is.source wishes layout sectors plan is.known.is_plan k d h in
      let numbered = is.known.numbers.each k d h in
      elim (part_in_table k h) [
        | inl one ↦
            let slot = slice_index_or table.slots one.place empty_slot in
            let role : role_of placed ≡ role_in_slot slot = made.role ∙ one.role in
            let number = slot_number (is_extended slot) (role_of placed) placed.number role numbered in
            inl (record {
              place = one.place;
              within = omega (arith, one.within, is.sound.four);
              from = made.from ∙ one.number;
              used = one.used;
              role = role;
              no_record = made.no_record (ap is_logical one.role ∙ plain_in_slot (is_extended slot));
              low = number.0;
              high = number.1;
            })
        | inr one ↦
            let role : role_of placed ≡ InChain = made.role ∙ one.role in
            let number = chain_number (role_of placed) placed.number role numbered in
            inr (record {
              place = one.place;
              within = one.within;
              from = made.from ∙ one.number;
              role = role;
              some_record = made.some_record (ap is_logical one.role);
              low = number.0;
              high = number.1;
            })
      ]

  -- the logical ones are those that have a record
  pub record_by_role : (k : ℕ) (d : Placed) → k < length plan.parts → has_record (slice_index_or plan.parts k d) ≡ is_logical (role_of (slice_index_or plan.parts k d))
  record_by_role k d h =
      let placed = slice_index_or plan.parts k d in
      elim (placed_in k d h) [
        | inl one ↦ no_record_is placed one.no_record ∙ sym (ap is_logical one.role ∙ plain_in_slot (is_extended (slice_index_or table.slots one.place empty_slot)))
        | inr one ↦ record_is placed one.some_record ∙ sym (ap is_logical one.role)
      ]

  pub in_slot : (k : ℕ) (d : Placed) → k < length plan.parts → has_record (slice_index_or plan.parts k d) ≡ false → IsInSlot table.slots (slice_index_or plan.parts k d)
  in_slot k d h none =
      elim (placed_in k d h) [ inl one ↦ one | inr one ↦ absurd (both_ways _ none (record_is (slice_index_or plan.parts k d) one.some_record)) ]

  pub of_chain : (k : ℕ) (d : Placed) → k < length plan.parts → has_record (slice_index_or plan.parts k d) ≡ true → IsInChain table.logicals (slice_index_or plan.parts k d)
  of_chain k d h some =
      elim (placed_in k d h) [ inl one ↦ absurd (both_ways _ (no_record_is (slice_index_or plan.parts k d) one.no_record) some) | inr one ↦ one ]

  abbrev made_test : Part → Bool
  made_test part = not (is_gone new_wishes source_parts part)

  -- what makes room for a part of the chain
  room_is : (part other : Part) → part.role ≡ InChain → makes_room new_wishes source_parts part other ≡ is_low_gone in_chain made_test part.number other
  room_is part other role =
      let class : same_class part other ≡ in_chain other = ap (λ r. if is_logical r then is_logical other.role else not (is_logical other.role)) role in
      let twice : is_gone new_wishes source_parts other ≡ not (made_test other) = elim (is_gone new_wishes source_parts other) as (λ b. b ≡ not (not b)) [ true ↦ refl | false ↦ refl ] in
      ap (λ b. b && (nat_lt other.number part.number && is_gone new_wishes source_parts other)) class
      ∙ ap (λ b. in_chain other && (nat_lt other.number part.number && b)) twice

  -- the numbers of the chain follow each other
  pub chain_numbers : (k : ℕ) (d : Placed) → k < length plan.parts → has_record (slice_index_or plan.parts k d) ≡ true
      → (slice_index_or plan.parts k d).number ≡ 5 + count_by has_record (take k plan.parts)
  chain_numbers k d h some =
      let placed = slice_index_or plan.parts k d in
      let part = slice_index_or made_parts k any_part in
      let made = made_of Mbr source_parts is.source wishes layout sectors plan is.known.is_plan k d h in
      let one = of_chain k d h some in
      let role : part.role ≡ InChain = sym made.role ∙ one.role in
      let number : part.number ≡ 5 + one.place = sym made.from ∙ one.from in
      let long = is.known.is_plan.placed.as_many in
      let splits = made_splits in_chain made_test source_parts is.source.by_number k any_part (omega (arith, h, long)) in
      let low : count_by (is_low in_chain part.number) source_parts ≡ part.number - 5 =
      low_parts table parts is.named part.number (omega (arith, number, one.within)) in
      let room = count_same (makes_room new_wishes source_parts part) (is_low_gone in_chain made_test part.number) source_parts (λ other. room_is part other role) in
      let kept = count_alike in_chain has_record made_parts plan.parts (sym long)
      (λ j a b lt.
      let in_j : j < length plan.parts = omega (arith, long) in
      ap in_chain (get_or_default made_parts j a any_part lt)
      ∙ ap is_logical (sym (made_of Mbr source_parts is.source wishes layout sectors plan is.known.is_plan j b in_j).role) ∙ sym (record_by_role j b in_j)) k in
      omega (arith, made.number, splits, low, room, kept, number)
