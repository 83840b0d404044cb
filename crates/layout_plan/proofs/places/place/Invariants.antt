use Rattle.layout_plan.proofs.Placing.{ArePlacedSoFar}
use Rattle.layout_plan.proofs.places.place.Given as goal

abbrev pub invariant-loop-part : goal.invariant-loop-part
invariant-loop-part l = ArePlacedSoFar l.laid.wishes.items l.task.parts.now l.part-items l.laid.parts.items l.laid.spots.items l.part-index l.all.items
