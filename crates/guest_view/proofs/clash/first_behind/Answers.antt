use Rattle.std.proofs.Common.{arith, sym, ◌∙◌}
use Rattle.guest_view.proofs.clash.first_behind.Goals as goal

pub returns-then-clashes : goal.returns-then-clashes
returns-then-clashes c = record {
  order = omega (arith, c.loop-l.auto.l);
  within = c.loop-l-test.true;
  clash = sym c.clashes.ensures ∙ c.if-clashes.true;
  none_before = c.loop-l.invariant;
}
