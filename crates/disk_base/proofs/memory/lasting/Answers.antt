-- One more call, and all of them.
use Rattle.std.proofs.Common.{◌≡◌, ℕ, length, arith, subst}
use Rattle.disk_base.specs.Past.{events_of}
use Rattle.disk_base.specs.Stopped.{IsLasting}
use Rattle.disk_base.proofs.memory.lasting.Goals as goal

pub loop-i-preserved : goal.loop-i-preserved
loop-i-preserved c =
    let before = c.loop-i.invariant in
    record {
      bound = omega arith;
      order = c.lasting_with-lasting.ensures.bound before.order;
      holds = λ written. c.lasting_with-lasting.ensures.lasting written (before.holds written);
    }

pub returns-clause-lasting : goal.returns-clause-lasting
returns-clause-lasting c = λ written.
    let before = c.loop-i.invariant in
    let all : c.loop-i.i ≡ length c.args.history.now = omega (arith, before.bound) in
    subst (λ (n : ℕ). IsLasting (events_of written c.args.history.now) n c.loop-i.lasting) all (before.holds written)
