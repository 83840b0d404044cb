use Rattle.std.proofs.Common.{◌≡◌, arith, refl}
use Rattle.layout_plan.specs.Wishes.{remaining}
use Rattle.layout_plan.proofs.Placing.{placed_all, placed_more}
use Rattle.layout_plan.proofs.places.place.Goals as goal

pub loop-part-preserved : goal.loop-part-preserved
loop-part-preserved c =
    let laid = c.args.laid.now in
    rw c.in_ok-push.ensures.items
    (placed_more laid.wishes.items c.args.task.now.parts.now c.deref-part-items.result.now laid.parts.items laid.spots.items c.loop-part.part-index c.loop-part.all.items _ _
    c.loop-part.invariant c.loop-part-test.true c.placed.ensures)

pub returns : goal.returns
returns c =
    let laid = c.args.laid.now in
    let parts = c.args.task.now.parts.now in
    let rest : c.deref-part-items.result.now ≡ remaining laid.wishes.items parts = rw (c.deref-part-items.ensures.value, c.in_ok-remaining.ensures, c.deref.ensures.value) refl in
    placed_all laid.wishes.items parts c.deref-part-items.result.now laid.parts.items laid.spots.items c.loop-part.part-index c.loop-part.all.items rest (omega (arith, c.loop-part-test.false, c.loop-part.auto.part-index-end))
    c.loop-part.invariant
