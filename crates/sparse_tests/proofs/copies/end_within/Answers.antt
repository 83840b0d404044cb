use Rattle.std.proofs.Common.{◌≤◌, slice_index_or, subst, arith}
use Rattle.std.proofs.lemmas.List.{take_all}
use Rattle.std.proofs.lemmas.List.Elements.{All-more}
use Rattle.run_set.specs.declared.run.Run.{Run}
use Rattle.run_set.specs.Runs.{past_of}
use Rattle.sparse_copy.specs.Sparse.{EndWithin}
use Rattle.sparse_tests.proofs.copies.end_within.Goals as goal

-- src/copies.rt:40:5
pub loop-index-preserved : goal.loop-index-preserved
loop-index-preserved c =
    let run : Run = record { start = 0; count = 0 } in
    let small : past_of (slice_index_or c.args.runs.now c.loop-index.index run) ≤ c.args.sectors = rw (c.get-start.ensures.run run) search in
    All-more (λ (one : Run). past_of one ≤ c.args.sectors) c.args.runs.now c.loop-index.index run (omega arith) c.loop-index.invariant small

-- src/copies.rt:37:1
pub returns : goal.returns
returns c =
    let whole = take_all c.loop-index.index c.args.runs.now (omega arith) in
    λ t. subst (λ runs. EndWithin c.args.sectors runs) whole c.loop-index.invariant
