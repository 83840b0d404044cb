use Rattle.run_set.specs.Runs.{AreRuns}
use Rattle.run_set.proofs.Rising.{RisesFrom-runs}
use Rattle.run_set.proofs.Cutting.{IsMinus, minus_step}
use Rattle.run_set.proofs.Runs.minus.Goals as goal

pub cut-requires-clause-run : goal.cut-requires-clause-run
cut-requires-clause-run c =
    let set : AreRuns c.deref-run-items.result.now = rw c.deref-run-items.ensures.value c.self.invariant in
    RisesFrom-runs 0 c.deref-run-items.result.now set c.loop-run.run-index (record { start = 0; count = 0 }) c.loop-run-test.true

pub loop-run-preserved : goal.loop-run-preserved
loop-run-preserved c =
    let set : AreRuns c.deref-run-items.result.now = rw c.deref-run-items.ensures.value c.self.invariant in
    let before : IsMinus c.loop-run.runs.items c.deref-run-items.result.now c.deref.result.now c.loop-run.run-index c.loop-run.past = rw c.deref.ensures.value c.loop-run.invariant in
    rw (← c.deref.ensures.value)
    (minus_step c.loop-run.runs.items c.cut.new.out.items c.deref-run-items.result.now c.deref.result.now (record { start = 0; count = 0 }) c.loop-run.run-index c.loop-run.past c.in_ok-past.past set c.loop-run-test.true before c.in_ok-past.ensures.first c.in_ok-past.ensures.past c.in_ok-past.ensures.below c.in_ok-past.ensures.kept)
