use Rattle.std.proofs.Common.{refl, arith}
use Rattle.layout_plan.proofs.Entries.{are_source, entries_more}
use Rattle.plan_tests.proofs.wider_plans.full.Goals as goal

pub loop-place-preserved : goal.loop-place-preserved
loop-place-preserved c = rw c.in_ok-push.ensures.items (entries_more c.loop-place.place c.loop-place.parts.items _ c.loop-place.invariant record { number = refl; slot = refl; start = rw c.from.ensures refl; some = omega arith; few = omega arith })

pub returns : goal.returns
returns c = are_source c.loop-place.place c.loop-place.parts.items c.loop-place.invariant (omega arith)
