use Rattle.std.proofs.Common.{◌+◌, ◌∙◌, drop, subst, sym, slice_index_or, All, refl}
use Rattle.std.proofs.lemmas.Bool.{false≢true}
use Rattle.disk_base.specs.Run.{AreApart, run_of}
use Rattle.disk_base.specs.declared.run.Run.{Run}
use Rattle.disk_view.proofs.LyingApart.{to_the_last, each_apart, one_more_apart, none_left}
use Rattle.disk_view.proofs.apart.are_apart.Goals as goal

pub loop-i-preserved : goal.loop-i-preserved
loop-i-preserved c =
    let run : Run = slice_index_or c.args.runs.now c.loop-i.i (run_of 0 0) in
    let one : All (AreApart run) (drop (c.loop-i.i + 1) c.args.runs.now) =
    subst (All (AreApart run)) (to_the_last c.args.runs.now (c.loop-i.i + 1)) (c.is_apart.ensures.0 c.if-not-is_apart.false) in
    λ rest. c.loop-i.invariant (one_more_apart c.args.runs.now c.loop-i.i c.loop-i-test.true one rest)

pub returns-then-not-is_apart : goal.returns-then-not-is_apart
returns-then-not-is_apart c =
    let run : Run = slice_index_or c.args.runs.now c.loop-i.i (run_of 0 0) in (
      λ told. absurd (false≢true told),
      λ apart. sym c.if-not-is_apart.true
          ∙ c.is_apart.ensures.1 (subst (All (AreApart run)) (sym (to_the_last c.args.runs.now (c.loop-i.i + 1))) (each_apart c.args.runs.now c.loop-i.i c.loop-i-test.true apart)),
    )

pub returns : goal.returns
returns c = (λ told. c.loop-i.invariant (none_left c.args.runs.now c.loop-i.i c.loop-i-test.false), λ apart. refl)
