-- The sectors that are made of an MBR are those of the planned table.
use Rattle.std.proofs.Common.{◌≡◌, ℕ, ◌+◌, ◌^◌, ◌≤◌, List, length, map, slice_index_or, sym, ◌∙◌, subst, inl, inr, arith, Option, None, Some, IfSome}
use Rattle.std.proofs.lemmas.Bool.{cases_Bool}
use Rattle.guest_view.specs.declared.guest.GuestPart.{GuestPart}
use Rattle.guest_view.specs.declared.table.Table.{Table}
use Rattle.guest_view.specs.declared.table.Table.TheVariants.{Mbr as OfMbr}
use Rattle.guest_view.specs.Guests.{GuestView, IsSoundTable, kind_of}
use Rattle.guest_view.specs.Contents.{partition_of, planned_part}
use Rattle.guest_view.specs.Partitions.{partitions_of}
use Rattle.layout_plan.specs.declared.part.Kind.TheVariants.{Mbr}
use Rattle.layout_plan.specs.declared.part.Placed.{Placed}
use Rattle.layout_plan.specs.declared.wish.Layout.{Layout}
use Rattle.layout_plan.specs.declared.wish.Wish.{Wish}
use Rattle.layout_plan.specs.Plans.{IsBehind, Plan}
use Rattle.layout_plan.specs.Source.{IsSource}
use Rattle.mbr_table.specs.Mbr.{Table as MbrTable, mbr_sector_of}
use Rattle.target_work.specs.declared.sector_write.SectorWrite.{SectorWrite}
use Rattle.target_table.specs.Planned.{AreTableSectors, IsGuestPlan, IsSomePlan}
use Rattle.target_table.specs.Slots.{AreRecordWrites, chain_base, has_record, target_logicals, target_slots}
use Rattle.target_table.specs.inside.Sources.{IsOfMbr}
use Rattle.target_table.proofs.MbrChain.{all_apart, all_beside}
use Rattle.target_table.proofs.MbrNames.{has_placed, keeps_names}
use Rattle.target_table.proofs.MbrPlans.{IsMbrPlan, in_slot, of_chain}
use Rattle.target_table.proofs.MbrRead.{read_as}

-- what a guest with an MBR knows of itself and of a plan
pub mbr_plan : (guest : GuestView) (mbr : MbrTable) (sectors : ℕ) (plan : Plan) → guest.table ≡ OfMbr mbr → IsSoundTable guest.sectors guest.table
    → map partition_of guest.parts ≡ partitions_of guest.table → IsSource (kind_of guest.table) (map planned_part guest.parts) → (some : IsSomePlan guest sectors plan)
    → IsMbrPlan guest.sectors sectors mbr guest.parts some.wishes some.layout plan
mbr_plan guest mbr sectors plan same sound named source some =
    let Sound : Table → Type 0 = λ table. IsSoundTable guest.sectors table in
    let Named : Table → Type 0 = λ table. map partition_of guest.parts ≡ partitions_of table in
    let Source : Table → Type 0 = λ table. IsSource (kind_of table) (map planned_part guest.parts) in
    let Known : Table → Type 0 = λ table. IsGuestPlan (record { sectors = guest.sectors; table = table; parts = guest.parts }) some.wishes some.layout sectors plan in
    let entries = (subst Sound same sound).entries in
    record {
      sound = entries.0;
      within = entries.1;
      named = subst Named same named;
      source = subst Source same source;
      known = subst Known same some.is;
    }

-- what is placed comes from the table
pub of_mbr : (source_sectors sectors : ℕ) (table : MbrTable) (parts : List GuestPart) (wishes : List Wish) (layout : Layout) (plan : Plan)
    → IsMbrPlan source_sectors sectors table parts wishes layout plan → IsOfMbr table plan
of_mbr source_sectors sectors table parts wishes layout plan is =
    let few = is.known.is_plan.due.room.not_too_many in
    record {
      parts = λ k d h.
          let placed = slice_index_or plan.parts k d in
          let inside = is.known.inside k d h in
          record {
            few = omega (arith, inside.before_limit, is.known.limit);
            record_before = inside.record_before;
            slot = λ none. let one = in_slot source_sectors sectors table parts wishes layout plan is k d h none in (omega (arith, one.from), omega (arith, one.from, one.within));
            logical = λ some. let one = of_chain source_sectors sectors table parts wishes layout plan is k d h some in (omega (arith, one.from), omega (arith, one.from, one.within));
            low = λ low. elim (cases_Bool (has_record placed)) [
              | inr none ↦ none
              | inl some ↦ absurd (omega (arith, (of_chain source_sectors sectors table parts wishes layout plan is k d h some).low))
            ];
          };
      extra = few_extra plan.limit plan.parts plan.extra few is.known.limit is.known.behind;
    }
  where
    few_extra : (limit : ℕ) (parts : List Placed) (extra : Option Placed) → sectors ≤ 2 ^ 31 → limit ≤ sectors → IfSome extra (IsBehind Mbr parts limit)
        → IfSome extra (λ (one : Placed). one.start + one.count ≤ 2 ^ 31)
    few_extra limit parts None few inside behind = tt
    few_extra limit parts (Some one) few inside behind = omega (arith, behind.inside.before_limit)

-- the sectors that are made are those of the planned table
pub table_sectors : (source_sectors sectors : ℕ) (any : Table) (table : MbrTable) (parts : List GuestPart) (wishes : List Wish) (layout : Layout) (plan : Plan)
    → IsMbrPlan source_sectors sectors table parts wishes layout plan → any ≡ OfMbr table → (head first : List ℕ) (writes : List SectorWrite) → length head ≡ 446
    → first ≡ mbr_sector_of head (target_slots table.slots plan)
    → AreRecordWrites (chain_base (target_slots table.slots plan)) (target_logicals table.logicals plan) writes → AreTableSectors any plan head sectors first writes
table_sectors source_sectors sectors any table parts wishes layout plan is same head first writes long first_is are =
    let Are : Table → Type 0 = λ one. AreTableSectors one plan head sectors first writes in
    subst Are (sym same) (record {
      first_is = first_is;
      writes_are = are;
      read_back = λ none image image_long here standing. read_as source_sectors sectors table parts wishes layout plan is head long image writes are standing none (here ∙ first_is);
      planned = has_placed source_sectors sectors table parts wishes layout plan is head;
      names = keeps_names source_sectors sectors table parts wishes layout plan is head;
      beside = all_beside source_sectors sectors table parts wishes layout plan is writes are;
      writes_apart = all_apart source_sectors sectors table parts wishes layout plan is writes are;
    })
