use Rattle.std.proofs.Common.{Err, refl, ap, arith}
use Rattle.std.proofs.lemmas.Result.{err_from_is_err_and}
use Rattle.block_claims.specs.Agreement.{block}
use Rattle.xfs_check.proofs.Causes.{error_is}
use Rattle.xfs_check.proofs.Judged.{attributes_refused, contents_refused, core_refused, entries_refused, extents_seen_again, inode_checked}
use Rattle.xfs_inode.specs.Core.{core_of, data_fork}
use Rattle.xfs_inode.specs.Inode.{front_inode}
use Rattle.xfs_super.specs.Super.{geometry_of}
use Rattle.xfs_tree.specs.Marks.{marked}
use Rattle.xfs_check.proofs.inode.check_inode.Goals as goal

pub returns-in_err-core-clause-fault : goal.returns-in_err-core-clause-fault
returns-in_err-core-clause-fault g c = λ told.
    let p = err_from_is_err_and c.from_residual.result c.from_residual.ensures.1 in
    let mark = marked c.args.geo.now.agblocks in
    rw (p.1, p.2) (core_refused (geometry_of c.args.geo.now) (block (g.B.Blocks.image c.args.disk.now)) c.args.ino (front_inode c.args.geo.now c.args.bytes.now) (mark (g.M.Mark.claimed c.args.marks.now)) _ (c.in_err-core.ensures.fault told))

pub returns-in_err-contents-clause-fault : goal.returns-in_err-contents-clause-fault
returns-in_err-contents-clause-fault g c = λ told.
    let p = err_from_is_err_and c.from_residual-in_err-contents.result c.from_residual-in_err-contents.ensures.1 in
    let mark = marked c.args.geo.now.agblocks in
    let same = g.met.B.Blocks.same_image c.args.disk.now c.inode_in.new.disk c.in_ok-core.ensures.read told in
    let due = rw (same, c.in_ok-core.ensures.core) at (c.in_err-contents.ensures.fault told) in
    rw (p.1, p.2) (contents_refused (geometry_of c.args.geo.now) (block (g.B.Blocks.image c.args.disk.now)) c.args.ino (front_inode c.args.geo.now c.args.bytes.now) (mark (g.M.Mark.claimed c.args.marks.now)) _ (c.in_ok-core.ensures.sound told) due)

pub returns-in_err-extents_of-clause-read : goal.returns-in_err-extents_of-clause-read
returns-in_err-extents_of-clause-read g c =
    g.met.B.Blocks.read_on c.args.disk.now c.extents_of.new.disk c.extents_of-2.new.disk
    (g.met.B.Blocks.read_on c.args.disk.now c.inode_in.new.disk c.extents_of.new.disk c.in_ok-core.ensures.read c.in_ok-contents.ensures.read) c.in_err-extents_of.ensures.read

pub returns-in_err-extents_of-clause-fault : goal.returns-in_err-extents_of-clause-fault
returns-in_err-extents_of-clause-fault g c = λ told.
    let p = err_from_is_err_and c.from_residual-in_err-extents_of.result c.from_residual-in_err-extents_of.ensures.1 in
    let mark = marked c.args.geo.now.agblocks in
    let first = g.met.B.Blocks.same_image c.args.disk.now c.inode_in.new.disk c.in_ok-core.ensures.read told in
    let second = g.met.B.Blocks.same_image c.inode_in.new.disk c.extents_of.new.disk c.in_ok-contents.ensures.read told in
    rw (p.1, p.2) (attributes_refused (geometry_of c.args.geo.now) (block (g.B.Blocks.image c.args.disk.now)) c.args.ino (front_inode c.args.geo.now c.args.bytes.now) (mark (g.M.Mark.claimed c.args.marks.now)) (mark (g.M.Mark.claimed c.extents_of.new.marks)) _
    (c.in_ok-core.ensures.sound told) (rw (first, c.in_ok-core.ensures.core) at (c.in_ok-contents.ensures.sound told)) (rw (first, c.in_ok-core.ensures.core) at (c.in_ok-contents.ensures.claimed told))
    (rw (second, first, c.in_ok-core.ensures.core) at (c.in_err-extents_of.ensures.fault told)))

pub judge_directory-requires-clause-volume : goal.judge_directory-requires-clause-volume
judge_directory-requires-clause-volume g c =
    omega (
      arith,
      c.requires.volume,
      g.met.B.Blocks.same_size c.args.disk.now c.inode_in.new.disk c.in_ok-core.ensures.read,
      g.met.B.Blocks.same_size c.inode_in.new.disk c.extents_of.new.disk c.in_ok-contents.ensures.read,
      g.met.B.Blocks.same_size c.extents_of.new.disk c.extents_of-2.new.disk c.in_ok-extents_of.ensures.read,
    )

pub returns-in_err-judge_directory-clause-read : goal.returns-in_err-judge_directory-clause-read
returns-in_err-judge_directory-clause-read g c =
    g.met.B.Blocks.read_on c.args.disk.now c.extents_of-2.new.disk c.judge_directory.new.disk
    (g.met.B.Blocks.read_on c.args.disk.now c.extents_of.new.disk c.extents_of-2.new.disk
    (g.met.B.Blocks.read_on c.args.disk.now c.inode_in.new.disk c.extents_of.new.disk c.in_ok-core.ensures.read c.in_ok-contents.ensures.read) c.in_ok-extents_of.ensures.read) c.in_err-judge_directory.ensures.read

pub returns-in_err-judge_directory-clause-fault : goal.returns-in_err-judge_directory-clause-fault
returns-in_err-judge_directory-clause-fault g c = λ told.
    let p = err_from_is_err_and c.from_residual-in_err-judge_directory.result c.from_residual-in_err-judge_directory.ensures.1 in
    let geo = geometry_of c.args.geo.now in
    let mark = marked c.args.geo.now.agblocks in
    let volume = block (g.B.Blocks.image c.args.disk.now) in
    let bytes = front_inode c.args.geo.now c.args.bytes.now in
    let first = g.met.B.Blocks.same_image c.args.disk.now c.inode_in.new.disk c.in_ok-core.ensures.read told in
    let second = g.met.B.Blocks.same_image c.inode_in.new.disk c.extents_of.new.disk c.in_ok-contents.ensures.read told in
    let third = g.met.B.Blocks.same_image c.extents_of.new.disk c.extents_of-2.new.disk c.in_ok-extents_of.ensures.read told in
    let extents = rw (first, c.in_ok-core.ensures.core) at (c.in_ok-contents.ensures.extents told) in
    let again = extents_seen_again volume geo (data_fork geo (core_of geo bytes) bytes) in
    rw (p.1, p.2) (entries_refused geo volume c.args.ino bytes (mark (g.M.Mark.claimed c.args.marks.now)) _
    (c.in_ok-core.ensures.sound told) (rw (first, c.in_ok-core.ensures.core) at (c.in_ok-contents.ensures.sound told)).extents
    (rw (third, second, first, c.in_ok-core.ensures.core, c.items.ensures, extents, again) at (c.in_err-judge_directory.ensures.fault told)))

pub returns-in_err-judge_directory-clause-device : goal.returns-in_err-judge_directory-clause-device
returns-in_err-judge_directory-clause-device g c = λ h.
    let p = err_from_is_err_and c.from_residual-in_err-judge_directory.result c.from_residual-in_err-judge_directory.ensures.1 in
    let is = error_is c.from_residual-in_err-judge_directory.result c.in_err-judge_directory.field-0.0 (rw (p.1, p.2) refl) h in
    let rose = c.in_err-judge_directory.ensures.device (ap Err is) in
    omega (
      arith,
      rose,
      g.met.B.Blocks.no_fewer c.args.disk.now c.inode_in.new.disk c.in_ok-core.ensures.read,
      g.met.B.Blocks.no_fewer c.inode_in.new.disk c.extents_of.new.disk c.in_ok-contents.ensures.read,
      g.met.B.Blocks.no_fewer c.extents_of.new.disk c.extents_of-2.new.disk c.in_ok-extents_of.ensures.read,
    )

pub returns-clause-read : goal.returns-clause-read
returns-clause-read g c =
    g.met.B.Blocks.read_on c.args.disk.now c.extents_of-2.new.disk c.judge_directory.new.disk
    (g.met.B.Blocks.read_on c.args.disk.now c.extents_of.new.disk c.extents_of-2.new.disk
    (g.met.B.Blocks.read_on c.args.disk.now c.inode_in.new.disk c.extents_of.new.disk c.in_ok-core.ensures.read c.in_ok-contents.ensures.read) c.in_ok-extents_of.ensures.read) c.in_ok-judge_directory.ensures.read

pub returns-clause-checked : goal.returns-clause-checked
returns-clause-checked g c = λ told.
    let geo = geometry_of c.args.geo.now in
    let mark = marked c.args.geo.now.agblocks in
    let volume = block (g.B.Blocks.image c.args.disk.now) in
    let bytes = front_inode c.args.geo.now c.args.bytes.now in
    let first = g.met.B.Blocks.same_image c.args.disk.now c.inode_in.new.disk c.in_ok-core.ensures.read told in
    let second = g.met.B.Blocks.same_image c.inode_in.new.disk c.extents_of.new.disk c.in_ok-contents.ensures.read told in
    let third = g.met.B.Blocks.same_image c.extents_of.new.disk c.extents_of-2.new.disk c.in_ok-extents_of.ensures.read told in
    let extents = rw (first, c.in_ok-core.ensures.core) at (c.in_ok-contents.ensures.extents told) in
    let again = extents_seen_again volume geo (data_fork geo (core_of geo bytes) bytes) in
    inode_checked geo volume c.args.ino bytes (mark (g.M.Mark.claimed c.args.marks.now)) (mark (g.M.Mark.claimed c.extents_of.new.marks)) (mark (g.M.Mark.claimed c.extents_of-2.new.marks)) (c.in_ok-core.ensures.sound told)
    (rw (first, c.in_ok-core.ensures.core) at (c.in_ok-contents.ensures.sound told)) (rw (first, c.in_ok-core.ensures.core) at (c.in_ok-contents.ensures.claimed told))
    (rw (second, first, c.in_ok-core.ensures.core) at (c.in_ok-extents_of.ensures.sound told)) (rw (second, first, c.in_ok-core.ensures.core) at (c.in_ok-extents_of.ensures.claimed told))
    (rw (third, second, first, c.in_ok-core.ensures.core, c.items.ensures, extents, again) at (c.in_ok-judge_directory.ensures.sound told))
