use Rattle.std.proofs.Common.{arith}
use Rattle.layout_plan.proofs.Ends.{greatest_is}
use Rattle.layout_plan.proofs.flexing.greatest.Goals as goal

pub returns-clause-greatest : goal.returns-clause-greatest
returns-clause-greatest c =
    let task = c.args.task.now in
    let found = c.loop-fitting.invariant in
    greatest_is task.kind task.parts.now task.wishes.now task.layout.now task.limit c.loop-fitting.fitting c.loop-fitting.too_many found.fits found.many (omega arith)
