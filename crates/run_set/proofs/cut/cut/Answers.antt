use Rattle.std.proofs.Common.{◌≡◌, ◌≤◌, ◌<◌, ◌⊎◌, ap, ◌∙◌, max, min, arith, get_or, length, inl, inr}
use Rattle.run_set.specs.declared.run.Run.{Run}
use Rattle.run_set.specs.Runs.{IsRun, past_of}
use Rattle.run_set.proofs.Rising.{RisesFrom-runs}
use Rattle.run_set.proofs.Cutting.{cut_step, cut_end}
use Rattle.run_set.proofs.cut.cut.Goals as goal
use Rattle.run_set.proofs.cut.cut.Goals.{then-loop-at-test+else-end, else-loop-at-test, then-at-holes, else-at-holes}

pub end-requires : goal.end-requires
end-requires c = RisesFrom-runs 0 c.args.holes.now c.requires.holes c.loop-at.at _ c.loop-at-test.true

pub end-requires-in-loop-at : goal.end-requires-in-loop-at
end-requires-in-loop-at c = RisesFrom-runs 0 c.args.holes.now c.requires.holes c.loop-at.at _ c.loop-at-test.true

pub loop-at-preserved : goal.loop-at-preserved
loop-at-preserved c =
    let hole : Run = get_or c.args.holes.now c.loop-at.at (record { start = 0; count = 0 }) in
    let is_run : IsRun hole = RisesFrom-runs 0 c.args.holes.now c.requires.holes c.loop-at.at (record { start = 0; count = 0 }) c.loop-at-test.true in
    let further : c.max-from.result ≡ max c.loop-at.from (past_of hole) = c.max-from.ensures ∙ ap (λ n. max c.loop-at.from n) c.end-in-loop-at.ensures in
    let ends : past_of hole ≤ past_of c.args.run = omega arith in
    rw further
    (cut_step c.args.out.now.items c.loop-at.out.items c.push_between.new.out.items c.args.holes.now c.args.run (record { start = 0; count = 0 }) c.loop-at.from c.loop-at.at c.loop-at.invariant c.requires.holes c.loop-at-test.true ends c.in_ok-push_between.ensures.added (c.in_ok-push_between.ensures.below (max c.loop-at.from (past_of hole)) (omega arith) (omega arith)))

pub returns-clause-kept : goal.returns-clause-kept
returns-clause-kept c =
    let hole : Run = get_or c.args.holes.now c.loop-at.at (record { start = 0; count = 0 }) in
    let reaches : (c.loop-at.at < length c.args.holes.now) → past_of c.args.run < past_of hole =
    elim c.loop-at-test.branch [ then-loop-at-test+else-end w ↦ λ within. omega arith | else-loop-at-test w ↦ λ within. absurd (omega arith) ]
    in
    let stop : ((c.loop-at.at < length c.args.holes.now) × (past_of c.args.run < past_of hole) × (c.if-at-holes.to ≡ min (past_of c.args.run) hole.start)) ⊎ ((length c.args.holes.now ≤ c.loop-at.at) × (c.if-at-holes.to ≡ past_of c.args.run)) =
    elim c.if-at-holes.branch [
      | then-at-holes w ↦ inl (w.if-at-holes.true, reaches w.if-at-holes.true, w.to-is ∙ w.min-to.ensures ∙ ap (λ n. min n hole.start) c.end-end.ensures)
      | else-at-holes w ↦ inr (w.if-at-holes.false, w.to-is ∙ c.end-end.ensures)
    ]
    in
    λ x. cut_end c.args.out.now.items c.loop-at.out.items c.push_between-2.new.out.items c.args.holes.now c.args.run (record { start = 0; count = 0 }) c.loop-at.from c.loop-at.at c.if-at-holes.to x c.loop-at.invariant c.requires.holes stop (c.in_ok-push_between-2.ensures.added x)
