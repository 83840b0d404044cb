use Rattle.std.proofs.Common.{◌≡◌, length, refl, arith}
use Rattle.std.proofs.lemmas.List.{same_lists}
use Rattle.xfs_alloc.proofs.judging.are_equal.Goals as goal

pub returns : goal.returns
returns c =
    let long : length c.args.xs.now ≡ length c.args.ys.now = omega (arith, c.if-xs-ys.false) in
    (λ yes. same_lists c.args.xs.now c.args.ys.now long (λ k d lt. c.loop-i.invariant k d (omega arith)), λ same. refl)
