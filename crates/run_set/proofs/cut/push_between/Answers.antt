use Rattle.run_set.proofs.Cutting.{pushed_holds, pushed_below}
use Rattle.run_set.proofs.cut.push_between.Goals as goal

pub returns-in_ok-push-clause-added : goal.returns-in_ok-push-clause-added
returns-in_ok-push-clause-added c =
    λ x. rw c.in_ok-push.ensures.items (pushed_holds c.args.out.now.items c.args.from c.args.to x c.if-from-to.true)

pub returns-in_ok-push-clause-below : goal.returns-in_ok-push-clause-below
returns-in_ok-push-clause-below c =
    λ bound from_le to_lt. rw c.in_ok-push.ensures.items (pushed_below c.args.out.now.items c.args.from c.args.to bound c.if-from-to.true c.requires.end to_lt c.requires.below)
