use Rattle.layout_plan.proofs.Placing.{is_the_part}
use Rattle.layout_plan.proofs.places.spot_of.Goals as goal

pub returns-then-other-part : goal.returns-then-other-part
returns-then-other-part c =
    is_the_part c.args.laid.now c.args.spots.now c.args.part.now c.loop-place.place _ c.requires.other_numbers c.requires.there c.loop-place-test.true c.if-other-part.true
