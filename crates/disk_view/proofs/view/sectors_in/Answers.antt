use Rattle.std.proofs.Common.{arith, ◌≡◌, drop, ap, []}
use Rattle.std.proofs.Math.ListN.{drop_of_length-le}
use Rattle.disk_view.specs.Join.{total}
use Rattle.disk_view.proofs.view.sectors_in.Goals as goal

pub returns : goal.returns
returns c =
    let none : drop c.loop-run.run-index c.args.runs.now ≡ [] = drop_of_length-le c.args.runs.now (omega arith) in
    let left : total (drop c.loop-run.run-index c.args.runs.now) ≡ 0 = ap total none in
    omega (arith, left, c.loop-run.invariant.0, c.loop-run.invariant.1)
