use Rattle.std.proofs.Common.{◌∙◌, sym}
use Rattle.volume_choice.proofs.Firsts.{first_joined, first_left, parts_step}
use Rattle.volume_choice.proofs.unread.first_unread.Goals as goal

pub returns-in-Some : goal.returns-in-Some
returns-in-Some c =
    first_joined _ _ _ _
    (parts_step c.args.choices.now c.args.parts.now c.args.parts.now c.loop-part.part-index _ c.loop-part-test.true c.part-item.is)
    (sym c.in-Some.is ∙ c.in_ok-unread.ensures)
    ∙ c.loop-part.invariant

pub loop-part-preserved : goal.loop-part-preserved
loop-part-preserved c =
    first_left _ _ _
    (parts_step c.args.choices.now c.args.parts.now c.args.parts.now c.loop-part.part-index _ c.loop-part-test.true c.part-item.is)
    (sym c.in_default.is ∙ c.in_ok-unread.ensures)
    ∙ c.loop-part.invariant
