-- What is known of the plan, of the entries that are made, and of the writes.
use Rattle.std.proofs.Common.{false, sym, subst}
use Rattle.gpt_table.specs.Gpt.{AreInside, EntryTable, IsReadWhereWritten}
use Rattle.guest_view.specs.declared.table.Table.{Table}
use Rattle.guest_view.specs.Guests.{HasSoundEntries}
use Rattle.target_table.specs.Entries.{planned_entries}
use Rattle.target_table.specs.Planned.{AreTableSectors}
use Rattle.target_table.specs.inside.Entering.{AreCopies}
use Rattle.target_table.proofs.GptPlans.{IsGptPlan, can_be_entered, gpt_plan, gpt_room}
use Rattle.target_table.proofs.GptTables.{are_writable, has_placed, keeps_names}
use Rattle.target_table.proofs.GptWrites.{are_writes, beside, read_as, writes_apart}
use Rattle.target_table.proofs.gpt.sectors_of_gpt.Goals as goal

pub planned_table-requires : goal.planned_table-requires
planned_table-requires c =
    can_be_entered c.args.gpt.now.entries c.args.target.now.sectors c.args.target.now.planned.now
    (gpt_plan c.args.guest.now c.args.gpt.now c.args.target.now.sectors c.args.target.now.planned.now c.requires.table c.parts-parts.ensures.named c.requires.plan)
    (gpt_room c.args.guest.now c.args.gpt.now c.args.target.now.sectors c.args.target.now.planned.now c.requires.table c.requires.plan).not_too_many

pub writes_of-requires : goal.writes_of-requires
writes_of-requires c = (gpt_room c.args.guest.now c.args.gpt.now c.args.target.now.sectors c.args.target.now.planned.now c.requires.table c.requires.plan).enough

pub protective_of-first-requires : goal.protective_of-first-requires
protective_of-first-requires c = (gpt_room c.args.guest.now c.args.gpt.now c.args.target.now.sectors c.args.target.now.planned.now c.requires.table c.requires.plan).enough

pub returns : goal.returns
returns c =
    let source = c.args.gpt.now in
    let plan = c.args.target.now.planned.now in
    let head = c.args.target.now.head.now in
    let sectors = c.args.target.now.sectors in
    let entries = planned_entries source.disk source.entries plan in
    let made : EntryTable = record { disk = source.disk; entries = entries; from_backup = false } in
    let known : IsGptPlan source.entries sectors plan = gpt_plan c.args.guest.now source sectors plan c.requires.table c.parts-parts.ensures.named c.requires.plan in
    let room = gpt_room c.args.guest.now source sectors plan c.requires.table c.requires.plan in
    let Sound : Table → Type 0 = λ t. HasSoundEntries c.args.guest.now.sectors t in
    let sound : AreInside c.args.guest.now.sectors source.entries = subst Sound c.requires.table c.table-table.ensures.sound.entries in
    let Copies : EntryTable → Type 0 = λ t. AreCopies t sectors c.in_ok-writes.writes.items in
    let copies : AreCopies made sectors c.in_ok-writes.writes.items = subst Copies c.in_ok-table.ensures c.in_ok-writes.ensures.copies in
    let reads : IsReadWhereWritten made = subst IsReadWhereWritten c.in_ok-table.ensures c.writes_of.ensures.table in
    let Made : Table → Type 0 = λ t. AreTableSectors t plan head sectors c.protective_of-first.result c.in_ok-writes.writes.items in
    subst Made (sym c.requires.table)
    (record {
      first_is = c.protective_of-first.ensures.bytes;
      writes_are = are_writes source sectors plan known room.enough source.disk entries c.in_ok-writes.writes.items copies;
      read_back = λ none.
          read_as source sectors plan known room.enough source.disk entries c.in_ok-writes.writes.items copies head c.protective_of-first.result
          c.protective_of-first.ensures.long c.protective_of-first.ensures.bytes room.not_too_many
          (are_writable source sectors plan known c.args.guest.now.sectors sound) reads;
      planned = has_placed source sectors plan known;
      names = keeps_names source sectors plan known;
      beside = beside source sectors plan known room.enough source.disk entries c.in_ok-writes.writes.items copies;
      writes_apart = writes_apart source sectors plan known room.enough source.disk entries c.in_ok-writes.writes.items copies;
    })
