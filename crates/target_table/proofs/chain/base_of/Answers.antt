use Rattle.std.proofs.Common.{ap, arith, sym, ◌∙◌}
use Rattle.mbr_table.specs.Slot.{empty_slot, holds_extended}
use Rattle.target_table.specs.Slots.{start_of_slot}
use Rattle.target_table.proofs.Found.{find_here, find_more}
use Rattle.target_table.proofs.chain.base_of.Goals as goal

pub returns-then-holds_extended : goal.returns-then-holds_extended
returns-then-holds_extended c =
    ap start_of_slot (sym (find_here holds_extended c.args.slots.now c.loop-slot.slot-index empty_slot (omega arith) c.loop-slot.invariant (sym c.holds_extended.ensures ∙ c.if-holds_extended.true)))

pub loop-slot-preserved : goal.loop-slot-preserved
loop-slot-preserved c =
    find_more holds_extended c.args.slots.now c.loop-slot.slot-index empty_slot (omega arith) c.loop-slot.invariant (sym c.holds_extended.ensures ∙ c.if-holds_extended.false)
