use Rattle.std.proofs.Common.{[], ◌∷◌, sym, subst}
use Rattle.block_claims.specs.Agreement.{block}
use Rattle.xfs_check.proofs.Turning.{claim_turned}
use Rattle.xfs_check.specs.Parts.{LogBlocks}
use Rattle.xfs_check.specs.inside.Steps.{IsStepRefused}
use Rattle.xfs_log.specs.Log.{SpeaksAgainstLog, log_seen}
use Rattle.xfs_super.specs.Super.{geometry_of}
use Rattle.xfs_tree.specs.Marks.{marked}
use Rattle.xfs_check.proofs.unmount.check_log.Goals as goal

pub returns-in-Err-clause-fault : goal.returns-in-Err-clause-fault
returns-in-Err-clause-fault g c = λ told.
    let geo = geometry_of c.args.geo.now in
    let old = marked c.args.geo.now.agblocks (g.M.Mark.claimed c.args.marks.now) in
    let speaks = SpeaksAgainstLog (log_seen geo (block (g.B.Blocks.image c.args.disk.now))) in
    let due = rw (c.log_first.ensures.first, c.from.ensures) at c.in-Err.ensures.fault in
    subst (IsStepRefused speaks geo (LogBlocks ∷ []) old) (sym c.told.ensures) (claim_turned speaks geo LogBlocks old c.in-Err.fault tt due)
