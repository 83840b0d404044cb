use Rattle.layout_plan.proofs.Entries.{AreEntries}
use Rattle.plan_tests.proofs.wider_plans.full.Given as goal

abbrev pub invariant-loop-place : goal.invariant-loop-place
invariant-loop-place l = AreEntries l.place l.parts.items
