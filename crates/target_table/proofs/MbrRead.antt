-- The target is read as the planned table.
use Rattle.std.proofs.Common.{◌≡◌, ◌≢◌, ℕ, ◌*◌, ◌^◌, ◌<◌, ◌≤◌, Bool, true, false, List, [], length, map, filter, take, count_by, slice_index_or, slice_get, sym, ◌∙◌, ap, subst, inl, inr, arith, Option, Some, option_map, MatchOption}
use Rattle.std.specs.List.{list_any}
use Rattle.std.proofs.lemmas.Bool.{both_ways, cases_Bool}
use Rattle.std.proofs.lemmas.List.{get_or-take, get_or_default, length-take}
use Rattle.std.proofs.lemmas.List.Folds.{Any-from_list_any, list_any_at}
use Rattle.std.proofs.lemmas.Option.{slice_get-map, slice_get_within}
use Rattle.disk_base.specs.Image.{bytes_at, sector}
use Rattle.guest_view.specs.declared.guest.GuestPart.{GuestPart}
use Rattle.guest_view.specs.declared.table.Table.TheVariants.{Mbr as OfMbr}
use Rattle.guest_view.specs.Guests.{IsTableOf}
use Rattle.guest_view.specs.Contents.{planned_part}
use Rattle.layout_plan.specs.declared.part.Kind.TheVariants.{Mbr}
use Rattle.layout_plan.specs.declared.part.Placed.{Placed}
use Rattle.layout_plan.specs.declared.part.Role.TheVariants.{Extended}
use Rattle.layout_plan.specs.declared.wish.Layout.{Layout}
use Rattle.layout_plan.specs.declared.wish.Wish.{Wish}
use Rattle.layout_plan.specs.Plans.{Plan, role_of}
use Rattle.layout_plan.specs.Roles.{is_extended_role, is_logical}
use Rattle.mbr_table.specs.declared.slot.Logical.{Logical}
use Rattle.mbr_table.specs.declared.slot.Slot.{Slot}
use Rattle.mbr_table.specs.Chain.{IsLogicalIn}
use Rattle.mbr_table.specs.Mbr.{IsSectorTable, Table, mbr_sector_of}
use Rattle.mbr_table.specs.Record.{AreWritten, HasRecords, ebr_sector_of, link_after, own_slot}
use Rattle.mbr_table.specs.Slot.{stands_in}
use Rattle.mbr_table.proofs.Records.{table_written_back}
use Rattle.mbr_table.proofs.Tables.{table_written}
use Rattle.target_work.specs.declared.sector_write.SectorWrite.{SectorWrite}
use Rattle.target_work.specs.Works.{AreStanding, StandsIn}
use Rattle.target_table.specs.Slots.{AreRecordWrites, has_record, placed_logical, placed_slot, target_logicals, target_slots}
use Rattle.target_table.proofs.Counts.{count_none, filter_none, kept_at}
use Rattle.target_table.proofs.MbrChain.{base, base_is, few_links, length-ebr_sector_of, link_at, logical_in, outer_of, records_apart}
use Rattle.target_table.proofs.MbrPlans.{IsMbrPlan, of_chain, record_by_role}
use Rattle.target_table.proofs.MbrSlots.{fits, kept, no_outer_found, none_stands_in, outer_found, sound_slots}
use Rattle.target_table.proofs.Outer.{first_record, is_outer, nowhere}

-- the bytes of a write of one sector stand in it
in_sector : (image : List ℕ) (at : ℕ) (bytes : List ℕ) (write : SectorWrite) → write ≡ record { at = at; bytes = bytes } → length bytes ≡ 512 → StandsIn image write → sector image at ≡ bytes
in_sector image at bytes write same long stands =
    let Stands : SectorWrite → Type 0 = λ one. StandsIn image one in
    let here : bytes_at image (512 * at) (length bytes) ≡ bytes = subst Stands same stands in
    ap (λ n. bytes_at image (512 * at) n) (sym long) ∙ here

module _ (source_sectors sectors : ℕ) (table : Table) (parts : List GuestPart) (wishes : List Wish) (layout : Layout) (plan : Plan)
    (is : IsMbrPlan source_sectors sectors table parts wishes layout plan) (head : List ℕ) (long : length head ≡ 446) where
  abbrev placed_at : ℕ → Placed
  placed_at k = slice_index_or plan.parts k nowhere

  abbrev slots : List Slot
  slots = target_slots table.slots plan

  abbrev logicals : List Logical
  logicals = target_logicals table.logicals plan

  abbrev planned : Table
  planned = record { head = head; slots = slots; logicals = logicals }

  some_sectors : 0 < sectors
  some_sectors = let enough = is.known.is_plan.due.room.enough in omega arith

  few_sectors : sectors ≤ 2 ^ 31
  few_sectors = is.known.is_plan.due.room.not_too_many

  spelled : IsSectorTable sectors (mbr_sector_of head slots) planned
  spelled =
      let written = table_written sectors head slots some_sectors long (sound_slots source_sectors sectors table parts wishes layout plan is) (fits source_sectors sectors table parts wishes layout plan is) in
      let same = kept source_sectors sectors table parts wishes layout plan is in
      record { some = written.some; signature = written.signature; head = written.head; slots = sym same ∙ written.slots; sound = sound_slots source_sectors sectors table parts wishes layout plan is }

  -- the first record stands on the extended partition's first sector
  first_link : (e : ℕ) → e < length plan.parts → role_of (placed_at e) ≡ Extended
      → option_map (λ (logical : Logical). logical.ebr) (slice_get logicals 0) ≡ Some (placed_slot table.slots (placed_at e)).start
  first_link e in_e outer =
      let first = first_record Mbr (map planned_part parts) is.source wishes layout sectors plan is.known.is_plan is.known.froms e in_e outer in
      let k = first.place in
      let q = placed_at k in
      let some : has_record q ≡ true = record_by_role source_sectors sectors table parts wishes layout plan is k nowhere first.within ∙ ap is_logical (first.logical nowhere) in
      let none : count_by has_record (take k plan.parts) ≡ 0 =
      count_none has_record (take k plan.parts) (λ j d h.
      let early : j < k = omega (arith, h, length-take k plan.parts) in
      let in_j : j < length plan.parts = omega (arith, first.within) in
      ap has_record (get_or-take k plan.parts j d early) ∙ record_by_role source_sectors sectors table parts wishes layout plan is j d in_j ∙ first.no_earlier j d early) in
      let at = kept_at has_record plan.parts k nowhere first.within some in
      ap (option_map (λ (logical : Logical). logical.ebr)) (slice_get-map (placed_logical table.logicals) (filter has_record plan.parts) 0
      ∙ ap (option_map (placed_logical table.logicals)) (ap (slice_get (filter has_record plan.parts)) (sym none) ∙ at))
      ∙ ap Some (first.stands nowhere)

  module _ (image : List ℕ) (writes : List SectorWrite) (are : AreRecordWrites (base source_sectors sectors table parts wishes layout plan is) logicals writes) (standing : AreStanding writes (length writes) image) where
    written_around : (e : ℕ) → e < length plan.parts → role_of (placed_at e) ≡ Extended → AreWritten image (placed_slot table.slots (placed_at e)) logicals
    written_around e in_e outer =
        record {
          first = first_link e in_e outer;
          few = few_links source_sectors sectors table parts wishes layout plan is;
          distinct = λ i j d before h same.
              let one = link_at source_sectors sectors table parts wishes layout plan is i (omega arith) in
              let other = link_at source_sectors sectors table parts wishes layout plan is j h in
              let one_ebr = ap (λ (logical : Logical). logical.ebr) (one.same d) in
              let other_ebr = ap (λ (logical : Logical). logical.ebr) (other.same d) in
              elim (records_apart source_sectors sectors table parts wishes layout plan is i j before one other) [
                | inl ahead ↦ omega (arith, ahead, same, one_ebr, other_ebr)
                | inr behind ↦ omega (arith, behind, same, one_ebr, other_ebr)
              ];
          inside = λ i d h.
              let link = link_at source_sectors sectors table parts wishes layout plan is i h in
              let In : Logical → Type 0 = λ logical. IsLogicalIn (placed_slot table.slots (placed_at e)) logical in
              subst In (sym (link.same d)) (logical_in source_sectors sectors table parts wishes layout plan is e link.place in_e link.within outer link.of_it);
          written = λ i logical here.
              let within = slice_get_within logicals i logical here in
              let nothing : SectorWrite = record { at = 0; bytes = [] } in
              let start = base_is source_sectors sectors table parts wishes layout plan is e in_e outer in
              let In : ℕ → Type 0 = λ from. sector image logical.ebr ≡ ebr_sector_of (own_slot logical) (link_after from logicals i) in
              subst In start
              (in_sector image logical.ebr (ebr_sector_of (own_slot logical) (link_after (base source_sectors sectors table parts wishes layout plan is) logicals i)) (slice_index_or writes i nothing)
              (are.each i logical nothing here) (length-ebr_sector_of (own_slot logical) (link_after (base source_sectors sectors table parts wishes layout plan is) logicals i))
              (standing i nothing (omega (arith, within, are.as_many))));
        }

    abbrev is_outer_placed : Placed → Bool
    is_outer_placed placed = is_extended_role (role_of placed)

    has_records : HasRecords image planned
    has_records =
        elim (cases_Bool (list_any is_outer_placed plan.parts)) [
          | inl some ↦
              let any = Any-from_list_any is_outer_placed plan.parts some in
              let e = any.0 in
              let outer : role_of (placed_at e) ≡ Extended = is_outer (role_of (placed_at e)) (ap is_outer_placed (get_or_default plan.parts e nowhere any.1 any.2 ∙ any.3) ∙ any.4) in
              let Match : Option Slot → Type 0 = λ o. MatchOption o (logicals ≡ []) (λ extended. AreWritten image extended logicals) in
              subst Match (sym (outer_found source_sectors sectors table parts wishes layout plan is e any.2 outer)) (written_around e any.2 outer)
          | inr none ↦
              let plain : (k : ℕ) → k < length plan.parts → role_of (placed_at k) ≢ Extended =
              λ k h outer. both_ways _ none (list_any_at is_outer_placed plan.parts k nowhere h (ap is_extended_role outer)) in
              let Match : Option Slot → Type 0 = λ o. MatchOption o (logicals ≡ []) (λ extended. AreWritten image extended logicals) in
              subst Match (sym (no_outer_found source_sectors sectors table parts wishes layout plan is plain))
              (ap (map (placed_logical table.logicals)) (filter_none has_record plan.parts (λ k d h.
              elim (cases_Bool (has_record (slice_index_or plan.parts k d))) [
                | inr off ↦ off
                | inl on ↦
                    let same : slice_index_or plan.parts k d ≡ placed_at k = get_or_default plan.parts k d nowhere h in
                    let one = of_chain source_sectors sectors table parts wishes layout plan is k nowhere h (ap has_record (sym same) ∙ on) in
                    let outer = outer_of source_sectors sectors table parts wishes layout plan is k h one in
                    absurd (plain outer.place outer.within (outer.role_is nowhere))
              ])))
        ]

    pub read_as : list_any stands_in table.slots ≡ false → sector image 0 ≡ mbr_sector_of head slots → IsTableOf sectors image (OfMbr planned)
    read_as none first =
        let In : List ℕ → Type 0 = λ bytes. IsSectorTable sectors bytes planned in
        let here = subst In (sym first) spelled in (
          λ left. both_ways _ (none_stands_in source_sectors sectors table parts wishes layout plan is none) (ap (list_any stands_in) here.slots ∙ left.1.1),
          table_written_back sectors image planned few_sectors here has_records,
        )
