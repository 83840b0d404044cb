use Rattle.std.proofs.Common.{arith}
use Rattle.layout_plan.proofs.Ends.{too_many_is}
use Rattle.layout_plan.proofs.Inside.{limit_inside}
use Rattle.layout_plan.proofs.flexing.most.Goals as goal

pub greatest-requires-clause-too_many : goal.greatest-requires-clause-too_many
greatest-requires-clause-too_many c =
    let task = c.args.task.now in
    too_many_is task.kind task.parts.now task.wishes.now task.layout.now task.source task.due.asked task.limit 4294967296 _ c.args.part.now c.requires.flexible c.in_ok-end_with.ensures
    (omega (arith, task.is_limit, limit_inside task.kind task.target, task.due.room.not_too_many))
