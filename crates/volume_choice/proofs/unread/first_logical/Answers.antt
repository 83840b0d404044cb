use Rattle.std.proofs.Common.{◌∙◌, arith}
use Rattle.volume_choice.proofs.Firsts.{first_joined, first_left, logicals_step}
use Rattle.volume_choice.proofs.unread.first_logical.Goals as goal

pub returns-in-Some : goal.returns-in-Some
returns-in-Some c =
    first_joined _ _ _ _
    (logicals_step c.args.choices.now c.args.parts.now c.args.holder c.args.volumes.now c.loop-volume.lv c.loop-volume.volume-index _ c.loop-volume-test.true c.volume-item.is)
    c.in-Some.ensures
    ∙ c.loop-volume.invariant.left

pub loop-volume-preserved : goal.loop-volume-preserved
loop-volume-preserved c = record {
  place = omega arith;
  left = first_left _ _ _
      (logicals_step c.args.choices.now c.args.parts.now c.args.holder c.args.volumes.now c.loop-volume.lv c.loop-volume.volume-index _ c.loop-volume-test.true c.volume-item.is)
      c.in_default.ensures
      ∙ c.loop-volume.invariant.left;
}
