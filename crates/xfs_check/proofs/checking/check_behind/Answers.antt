use Rattle.std.proofs.Common.{sym, ◌∙◌}
use Rattle.std.proofs.lemmas.Result.{err_from_is_err_and}
use Rattle.block_claims.specs.Agreement.{block}
use Rattle.xfs_check.proofs.Ended.{groups_behind, log_behind, none_claimed, sound_behind}
use Rattle.xfs_check.specs.Seen.{groups_seen}
use Rattle.xfs_check.specs.inside.Claiming.{claimed_in}
use Rattle.xfs_log.specs.Log.{log_seen}
use Rattle.xfs_super.specs.Super.{geometry_of}
use Rattle.xfs_tree.specs.Marks.{marked}
use Rattle.xfs_check.proofs.checking.check_behind.Goals as goal

pub returns-in_err-groups-clause-fault : goal.returns-in_err-groups-clause-fault
returns-in_err-groups-clause-fault g c = λ told.
    let p = err_from_is_err_and c.from_residual-in_err-groups.result c.from_residual-in_err-groups.ensures.1 in
    let geo = geometry_of c.args.geo.now in
    let volume = block (g.B.Blocks.image c.args.disk.now) in
    let claims = claimed_in c.in_ok-claims.claims.groups.items in
    rw (p.1, p.2) (groups_behind geo (groups_seen geo volume) (log_seen geo volume) (marked c.args.geo.now.agblocks claims) (none_claimed c.args.geo.now.agblocks claims c.in_ok-claims.ensures.none) _ (c.in_err-groups.ensures.fault told))

pub returns-in_err-check_log-clause-fault : goal.returns-in_err-check_log-clause-fault
returns-in_err-check_log-clause-fault g c = λ told.
    let p = err_from_is_err_and c.from_residual-in_err-check_log.result c.from_residual-in_err-check_log.ensures.1 in
    let geo = geometry_of c.args.geo.now in
    let volume = block (g.B.Blocks.image c.args.disk.now) in
    let claims = claimed_in c.in_ok-claims.claims.groups.items in
    let mid = marked c.args.geo.now.agblocks (claimed_in c.check_groups.new.marks.groups.items) in
    let same = g.met.B.Blocks.same_image c.args.disk.now c.check_groups.new.disk c.in_ok-groups.ensures.read told in
    rw (p.1, p.2) (log_behind geo (groups_seen geo volume) (log_seen geo volume) (marked c.args.geo.now.agblocks claims) (none_claimed c.args.geo.now.agblocks claims c.in_ok-claims.ensures.none) mid _
    (c.in_ok-groups.ensures.checked told) (rw same at (c.in_err-check_log.ensures.fault told)))

pub returns-clause-sound : goal.returns-clause-sound
returns-clause-sound g c = λ told.
    let geo = geometry_of c.args.geo.now in
    let volume = block (g.B.Blocks.image c.args.disk.now) in
    let claims = claimed_in c.in_ok-claims.claims.groups.items in
    let mid = marked c.args.geo.now.agblocks (claimed_in c.check_groups.new.marks.groups.items) in
    let same = g.met.B.Blocks.same_image c.args.disk.now c.check_groups.new.disk c.in_ok-groups.ensures.read told in
    sound_behind geo (groups_seen geo volume) (log_seen geo volume) (marked c.args.geo.now.agblocks claims) (none_claimed c.args.geo.now.agblocks claims c.in_ok-claims.ensures.none) mid (claimed_in c.check_log.new.marks.groups.items)
    (c.in_ok-groups.ensures.checked told) (sym (c.in_ok-groups.ensures.root told) ∙ c.if-not-root.false) c.in_ok-check_log.ensures.taken (rw same at (c.in_ok-check_log.ensures.clean told))
