use Rattle.std.proofs.Common.{get_or, ◌∙◌, arith, false}
use Rattle.std.proofs.lemmas.Result.{err_from_is_err_and}
use Rattle.xfs_super.specs.Super.{geometry_of}
use Rattle.xfs_tree.specs.Marks.{marked}
use Rattle.xfs_tree.specs.declared.extent.Extent.{Extent}
use Rattle.xfs_inode.specs.Extents.{extent_blocks}
use Rattle.xfs_inode.proofs.Pieces.{claimed_more, claim_fault_in, claimed_from, fault_from}
use Rattle.xfs_inode.proofs.claiming.claim_extents.Goals as goal

abbrev none : Extent
none = record { unwritten = false; file = 0; block = 0; count = 0 }

pub claim_run-requires-clause-admits : goal.claim_run-requires-clause-admits
claim_run-requires-clause-admits g c = λ n lt. c.loop-extent.invariant.admits _ _ ∙ c.requires.admits n lt

pub returns-in_err-claim_run-clause-fault : goal.returns-in_err-claim_run-clause-fault
returns-in_err-claim_run-clause-fault g c =
    let p = err_from_is_err_and c.from_residual.result c.from_residual.ensures.1 in
    let geo = geometry_of c.args.geo.now in
    let mark = marked c.args.geo.now.agblocks in
    let e : Extent = get_or c.args.extents.now c.loop-extent.extent-index none in
    rw (p.1, p.2) (claim_fault_in (extent_blocks geo) none (mark (g.M.Mark.claimed c.args.marks.now)) (mark (g.M.Mark.claimed c.loop-extent.marks)) c.args.geo.now.agblocks c.args.extents.now c.loop-extent.extent-index _ (omega arith) c.loop-extent.invariant.claimed
    (fault_from c.args.geo.now.agblocks (mark (g.M.Mark.claimed c.loop-extent.marks)) c.first_block.result _ e.count _ c.first_block.ensures.first c.in_err-claim_run.ensures.fault))

pub loop-extent-preserved : goal.loop-extent-preserved
loop-extent-preserved g c =
    let geo = geometry_of c.args.geo.now in
    let mark = marked c.args.geo.now.agblocks in
    let e : Extent = get_or c.args.extents.now c.loop-extent.extent-index none in
    record {
      claimed = claimed_more (extent_blocks geo) none (mark (g.M.Mark.claimed c.args.marks.now)) (mark (g.M.Mark.claimed c.loop-extent.marks)) (mark (g.M.Mark.claimed c.claim_run.new.marks)) c.args.extents.now c.loop-extent.extent-index (omega arith) c.loop-extent.invariant.claimed
          (claimed_from (mark (g.M.Mark.claimed c.loop-extent.marks)) (mark (g.M.Mark.claimed c.claim_run.new.marks)) c.first_block.result _ e.count c.first_block.ensures.first c.in_ok-claim_run.ensures.claimed);
      admits = λ h b. c.in_ok-claim_run.ensures.admits h b ∙ c.loop-extent.invariant.admits h b;
    }
