use Rattle.std.proofs.Common.{get_or, ◌∙◌, arith}
use Rattle.std.proofs.lemmas.Result.{err_from_is_err_and}
use Rattle.xfs_super.specs.Super.{geometry_of}
use Rattle.xfs_tree.specs.Marks.{marked}
use Rattle.xfs_tree.specs.declared.free_run.ByStart.{ByStart}
use Rattle.xfs_alloc.proofs.Claimed.{runs_more, run_fault_in, lies_inside}
use Rattle.xfs_alloc.proofs.claiming.claim_runs.Goals as goal

pub claim_run-requires-clause-inside : goal.claim_run-requires-clause-inside
claim_run-requires-clause-inside g c =
    let z : ByStart = record { start = 0; count = 0 } in
    let geo = c.args.geo.now in
    let r : ByStart = get_or c.args.runs.now c.loop-run.run-index z in
    lies_inside geo.dblocks geo.agblocks geo.agcount geo.agblklog c.args.group r.start r.count geo.groups c.requires.group (c.requires.lie c.loop-run.run-index z (omega arith))

pub claim_run-requires-clause-admits : goal.claim_run-requires-clause-admits
claim_run-requires-clause-admits g c = λ n lt. c.loop-run.invariant.admits _ _ ∙ c.requires.admits n lt

pub returns-in_err-claim_run-clause-fault : goal.returns-in_err-claim_run-clause-fault
returns-in_err-claim_run-clause-fault g c =
    let p = err_from_is_err_and c.from_residual.result c.from_residual.ensures.1 in
    let mark = marked c.args.geo.now.agblocks in
    rw (p.1, p.2) (run_fault_in (geometry_of c.args.geo.now) c.args.group (mark (g.M.Mark.claimed c.args.marks.now)) (mark (g.M.Mark.claimed c.loop-run.marks)) c.args.runs.now c.loop-run.run-index _ (omega arith) c.loop-run.invariant.claimed c.in_err-claim_run.ensures.fault)

pub loop-run-preserved : goal.loop-run-preserved
loop-run-preserved g c =
    let mark = marked c.args.geo.now.agblocks in
    record {
      claimed = runs_more (geometry_of c.args.geo.now) c.args.group (mark (g.M.Mark.claimed c.args.marks.now)) (mark (g.M.Mark.claimed c.loop-run.marks)) (mark (g.M.Mark.claimed c.claim_run.new.marks)) c.args.runs.now c.loop-run.run-index (omega arith) c.loop-run.invariant.claimed c.in_ok-claim_run.ensures.claimed;
      admits = λ h b. c.in_ok-claim_run.ensures.admits h b ∙ c.loop-run.invariant.admits h b;
    }
