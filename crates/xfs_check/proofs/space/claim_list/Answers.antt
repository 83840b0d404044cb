use Rattle.std.proofs.Common.{◌*◌, ◌∙◌, arith}
use Rattle.std.proofs.lemmas.Result.{err_from_is_err_and}
use Rattle.xfs_check.proofs.Listed.{listed_all, listed_fault, listed_more, many_used}
use Rattle.xfs_super.specs.Headers.{used_entries}
use Rattle.xfs_tree.specs.Marks.{marked}
use Rattle.xfs_check.proofs.space.claim_list.Goals as goal

pub claim_run-requires-clause-admits : goal.claim_run-requires-clause-admits
claim_run-requires-clause-admits g c = λ n lt. c.loop-i.invariant.admits _ _ ∙ c.requires.admits n lt

pub returns-in_err-claim_run-clause-fault : goal.returns-in_err-claim_run-clause-fault
returns-in_err-claim_run-clause-fault g c =
    let p = err_from_is_err_and c.from_residual.result c.from_residual.ensures.1 in
    let mark = marked c.args.geo.now.agblocks in
    rw (p.1, p.2) (listed_fault (c.args.group * c.args.geo.now.agblocks) (used_entries c.args.agf.now c.args.bytes.now) (mark (g.M.Mark.claimed c.args.marks.now)) (mark (g.M.Mark.claimed c.loop-i.marks))
    c.args.geo.now.agblocks c.loop-i.i c.listed_block.result _ (omega (arith, many_used c.args.agf.now c.args.bytes.now, c.loop-i-test.true)) c.listed_block.ensures.block c.loop-i.invariant.claimed c.in_err-claim_run.ensures.fault)

pub loop-i-preserved : goal.loop-i-preserved
loop-i-preserved g c =
    let mark = marked c.args.geo.now.agblocks in
    record {
      claimed = listed_more (c.args.group * c.args.geo.now.agblocks) (used_entries c.args.agf.now c.args.bytes.now) (mark (g.M.Mark.claimed c.args.marks.now)) (mark (g.M.Mark.claimed c.loop-i.marks))
          (mark (g.M.Mark.claimed c.claim_run.new.marks)) c.loop-i.i c.listed_block.result (omega (arith, many_used c.args.agf.now c.args.bytes.now, c.loop-i-test.true)) c.listed_block.ensures.block c.loop-i.invariant.claimed c.in_ok-claim_run.ensures.claimed;
      admits = λ h b. c.in_ok-claim_run.ensures.admits h b ∙ c.loop-i.invariant.admits h b;
    }

pub returns-clause-claimed : goal.returns-clause-claimed
returns-clause-claimed g c =
    let mark = marked c.args.geo.now.agblocks in
    listed_all (c.args.group * c.args.geo.now.agblocks) (used_entries c.args.agf.now c.args.bytes.now) (mark (g.M.Mark.claimed c.args.marks.now)) (mark (g.M.Mark.claimed c.loop-i.marks))
    c.loop-i.i (omega (arith, many_used c.args.agf.now c.args.bytes.now, c.loop-i-test.false)) c.loop-i.invariant.claimed
