-- What a guest knows of itself and of its plan is what the slots, the chain and the table's sectors take.
use Rattle.std.proofs.Common.{◌≡◌, ℕ, List, All, ap, sym, ◌∙◌, subst, arith}
use Rattle.mbr_table.specs.declared.slot.Logical.{Logical}
use Rattle.mbr_table.specs.Mbr.{mbr_sector_of}
use Rattle.target_table.specs.Slots.{AreRecordWrites, chain_base, target_logicals, target_slots}
use Rattle.target_table.specs.inside.Sources.{IsBehindBase}
use Rattle.target_table.proofs.MbrChain.{behind_base}
use Rattle.target_table.proofs.MbrSectors.{mbr_plan, of_mbr, table_sectors}
use Rattle.target_table.proofs.mbr.sectors_of_mbr.Goals as goal

pub slots_to-slots-requires : goal.slots_to-slots-requires
slots_to-slots-requires c =
    let some = c.requires.plan.is in
    of_mbr c.args.guest.now.sectors c.requires.plan.sectors c.args.mbr.now c.args.guest.now.parts some.wishes some.layout c.args.planned.now
    (mbr_plan c.args.guest.now c.args.mbr.now c.requires.plan.sectors c.args.planned.now c.requires.table c.table-table.ensures.sound c.parts-parts.ensures.named c.parts-parts.ensures.source some)

pub logicals_to-requires : goal.logicals_to-requires
logicals_to-requires c =
    let some = c.requires.plan.is in
    of_mbr c.args.guest.now.sectors c.requires.plan.sectors c.args.mbr.now c.args.guest.now.parts some.wishes some.layout c.args.planned.now
    (mbr_plan c.args.guest.now c.args.mbr.now c.requires.plan.sectors c.args.planned.now c.requires.table c.table-table.ensures.sound c.parts-parts.ensures.named c.parts-parts.ensures.source some)

pub records-requires : goal.records-requires
records-requires c =
    let some = c.requires.plan.is in
    let logicals : c.deref.result.now ≡ target_logicals c.args.mbr.now.logicals c.args.planned.now = c.deref.ensures.value ∙ c.in_ok-logicals.ensures in
    let base : c.base_of.result ≡ chain_base (target_slots c.args.mbr.now.slots c.args.planned.now) = c.base_of.ensures ∙ ap chain_base c.slots_to-slots.ensures in
    let From : ℕ → Type 0 = λ n. All (IsBehindBase n) (target_logicals c.args.mbr.now.logicals c.args.planned.now) in
    let Of : List Logical → Type 0 = λ all. All (IsBehindBase c.base_of.result) all in
    subst Of (sym logicals)
    (subst From (sym base)
    (behind_base c.args.guest.now.sectors c.requires.plan.sectors c.args.mbr.now c.args.guest.now.parts some.wishes some.layout c.args.planned.now
    (mbr_plan c.args.guest.now c.args.mbr.now c.requires.plan.sectors c.args.planned.now c.requires.table c.table-table.ensures.sound c.parts-parts.ensures.named c.parts-parts.ensures.source some)))

pub returns : goal.returns
returns c = λ sectors some.
    let logicals : c.deref.result.now ≡ target_logicals c.args.mbr.now.logicals c.args.planned.now = c.deref.ensures.value ∙ c.in_ok-logicals.ensures in
    let base : c.base_of.result ≡ chain_base (target_slots c.args.mbr.now.slots c.args.planned.now) = c.base_of.ensures ∙ ap chain_base c.slots_to-slots.ensures in
    let first = c.mbr_sector.ensures.bytes ∙ ap (mbr_sector_of c.args.head.now) c.slots_to-slots.ensures in
    let From : ℕ → Type 0 = λ n. AreRecordWrites n (target_logicals c.args.mbr.now.logicals c.args.planned.now) c.in_ok-writes.writes.items in
    let Of : List Logical → Type 0 = λ all. AreRecordWrites c.base_of.result all c.in_ok-writes.writes.items in
    table_sectors c.args.guest.now.sectors sectors c.args.guest.now.table c.args.mbr.now c.args.guest.now.parts some.wishes some.layout c.args.planned.now
    (mbr_plan c.args.guest.now c.args.mbr.now sectors c.args.planned.now c.requires.table c.table-table.ensures.sound c.parts-parts.ensures.named c.parts-parts.ensures.source some)
    c.requires.table c.args.head.now c.mbr_sector.new.out c.in_ok-writes.writes.items (omega (arith, c.told-head)) first (subst From base (subst Of logicals c.in_ok-writes.ensures))
