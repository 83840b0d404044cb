use Rattle.std.proofs.Common.{map}
use Rattle.std.proofs.lemmas.Result.{err_from_is_err_and}
use Rattle.block_claims.specs.Agreement.{block}
use Rattle.xfs_check.proofs.Ended.{superblock_refused, volume_is, volume_refused, volume_valid}
use Rattle.xfs_check.proofs.Frames.{frame}
use Rattle.xfs_check.specs.inside.Grouping.{as_space}
use Rattle.xfs_super.specs.Super.{geometry_of}
use Rattle.xfs_check.proofs.checking.check.Goals as goal

pub returns-in_err-geo-clause-fault : goal.returns-in_err-geo-clause-fault
returns-in_err-geo-clause-fault g c = λ told.
    let p = err_from_is_err_and c.from_residual.result c.from_residual.ensures.1 in
    rw (p.1, p.2) (superblock_refused (g.B.Blocks.size c.args.disk.now) (block (g.B.Blocks.image c.args.disk.now)) _ (c.in_err-geo.ensures.fault told))

pub returns-in_err-groups-clause-fault : goal.returns-in_err-groups-clause-fault
returns-in_err-groups-clause-fault g c = λ told.
    let p = err_from_is_err_and c.from_residual-in_err-groups.result c.from_residual-in_err-groups.ensures.1 in
    let same = g.met.B.Blocks.same_image c.args.disk.now c.read_superblock.new.disk c.in_ok-geo.ensures.read told in
    rw (p.1, p.2) (volume_refused (g.B.Blocks.size c.args.disk.now) (block (g.B.Blocks.image c.args.disk.now)) (geometry_of c.in_ok-geo.geo) _ (c.in_ok-geo.ensures.sound told) (c.in_ok-geo.ensures.geometry told) (rw same at (c.in_err-groups.ensures.fault told)))

pub returns-clause-read : goal.returns-clause-read
returns-clause-read g c = g.met.B.Blocks.read_on c.args.disk.now c.read_superblock.new.disk c.check_behind.new.disk c.in_ok-geo.ensures.read c.in_ok-groups.ensures.read

pub returns-clause-valid : goal.returns-clause-valid
returns-clause-valid g c = λ told.
    let same = g.met.B.Blocks.same_image c.args.disk.now c.read_superblock.new.disk c.in_ok-geo.ensures.read told in
    volume_valid (g.B.Blocks.size c.args.disk.now) (block (g.B.Blocks.image c.args.disk.now)) (geometry_of c.in_ok-geo.geo) (c.in_ok-geo.ensures.sound told) (c.in_ok-geo.ensures.geometry told) (rw same at (c.in_ok-groups.ensures.sound told))

pub returns-clause-volume : goal.returns-clause-volume
returns-clause-volume g c = λ told.
    let same = g.met.B.Blocks.same_image c.args.disk.now c.read_superblock.new.disk c.in_ok-geo.ensures.read told in
    volume_is (block (g.B.Blocks.image c.args.disk.now)) c.of.result (geometry_of c.in_ok-geo.geo) (map as_space c.in_ok-groups.groups.items) (c.in_ok-geo.ensures.geometry told) c.of.ensures.geometry c.of.ensures.groups
    (rw same at (c.in_ok-groups.ensures.space told))

pub returns-clause-frame : goal.returns-clause-frame
returns-clause-frame g c = λ told.
    let same = g.met.B.Blocks.same_image c.args.disk.now c.read_superblock.new.disk c.in_ok-geo.ensures.read told in
    frame (g.B.Blocks.size c.args.disk.now) (g.B.Blocks.image c.args.disk.now)
    (volume_valid (g.B.Blocks.size c.args.disk.now) (block (g.B.Blocks.image c.args.disk.now)) (geometry_of c.in_ok-geo.geo) (c.in_ok-geo.ensures.sound told) (c.in_ok-geo.ensures.geometry told) (rw same at (c.in_ok-groups.ensures.sound told)))
