use Rattle.std.proofs.Common.{Err, refl, sym, subst, ap}
use Rattle.std.proofs.lemmas.Result.{err_from_is_err_and}
use Rattle.block_claims.specs.Agreement.{block}
use Rattle.xfs_check.proofs.Causes.{rose_since, told_device}
use Rattle.xfs_check.proofs.Parting.{chunks_refused, chunks_taken, frees_refused, levels_are, trees_sound}
use Rattle.xfs_check.specs.Parts.{chunk_parts}
use Rattle.xfs_check.specs.Valid.{SpeaksAgainstInodes}
use Rattle.xfs_check.specs.inside.Reading.{group_on, head_on}
use Rattle.xfs_check.specs.inside.Steps.{IsStepRefused}
use Rattle.xfs_super.specs.Super.{geometry_of}
use Rattle.xfs_tree.specs.Marks.{marked}
use Rattle.xfs_check.proofs.chunks.check_chunks.Goals as goal

pub returns-in_err-chunks-clause-fault : goal.returns-in_err-chunks-clause-fault
returns-in_err-chunks-clause-fault g c = λ told.
    let p = err_from_is_err_and c.from_residual.result c.from_residual.ensures.1 in
    let geo = geometry_of c.args.geo.now in
    let image = g.B.Blocks.image c.args.disk.now in
    let mark = marked c.args.geo.now.agblocks in
    let head = c.requires.head told in
    rw (p.1, p.2) (chunks_refused geo (block image) c.args.group (head_on c.args.geo.now c.args.group image) (mark (g.M.Mark.claimed c.args.marks.now)) (λ n. 0) _ head.sound (rw head.agi at (c.in_err-chunks.ensures.fault told)))

pub returns-in-Err-clause-fault : goal.returns-in-Err-clause-fault
returns-in-Err-clause-fault g c = λ told.
    let geo = geometry_of c.args.geo.now in
    let image = g.B.Blocks.image c.args.disk.now in
    let x = group_on c.args.geo.now c.args.group image in
    let mark = marked c.args.geo.now.agblocks in
    let old = mark (g.M.Mark.claimed c.args.marks.now) in
    let mid = mark (g.M.Mark.claimed c.chunks_of.new.marks) in
    let head = c.requires.head told in
    let same = g.met.B.Blocks.same_image c.args.disk.now c.chunks_of.new.disk c.in_ok-chunks.ensures.read told in
    subst (IsStepRefused (SpeaksAgainstInodes geo x) geo (chunk_parts x) old) (sym c.told.ensures)
    (frees_refused geo (block image) c.args.group (head_on c.args.geo.now c.args.group image) old mid c.in-Err.fault head.sound (rw head.agi at (c.in_ok-chunks.ensures.sound told))
    (rw head.agi at (c.in_ok-chunks.ensures.claimed told)) (rw (same, head.agi) at (c.in-Err.ensures.fault told)))

pub returns-clause-chunks : goal.returns-clause-chunks
returns-clause-chunks g c = λ told.
    let geo = geometry_of c.args.geo.now in
    let image = g.B.Blocks.image c.args.disk.now in
    let head = c.requires.head told in
    rw (levels_are geo (block image) c.args.group (head_on c.args.geo.now c.args.group image) (λ n. 0) (λ n. 0)) (rw head.agi at (c.in_ok-chunks.ensures.chunks told))

pub returns-clause-sound : goal.returns-clause-sound
returns-clause-sound g c = λ told.
    let geo = geometry_of c.args.geo.now in
    let image = g.B.Blocks.image c.args.disk.now in
    let head = c.requires.head told in
    let mark = marked c.args.geo.now.agblocks in
    let same = g.met.B.Blocks.same_image c.args.disk.now c.chunks_of.new.disk c.in_ok-chunks.ensures.read told in
    trees_sound geo (block image) c.args.group (head_on c.args.geo.now c.args.group image) (mark (g.M.Mark.claimed c.args.marks.now)) (λ n. 0) (rw head.agi at (c.in_ok-chunks.ensures.sound told))
    (rw (same, head.agi) at (c.in-Ok.ensures.sound told))

pub returns-clause-taken : goal.returns-clause-taken
returns-clause-taken g c = λ told.
    let geo = geometry_of c.args.geo.now in
    let image = g.B.Blocks.image c.args.disk.now in
    let mark = marked c.args.geo.now.agblocks in
    let head = c.requires.head told in
    let same = g.met.B.Blocks.same_image c.args.disk.now c.chunks_of.new.disk c.in_ok-chunks.ensures.read told in
    chunks_taken geo (block image) c.args.group (head_on c.args.geo.now c.args.group image) (mark (g.M.Mark.claimed c.args.marks.now)) (mark (g.M.Mark.claimed c.chunks_of.new.marks)) (mark (g.M.Mark.claimed c.walk_free_inodes.new.marks)) head.sound
    (rw head.agi at (c.in_ok-chunks.ensures.sound told)) (rw head.agi at (c.in_ok-chunks.ensures.claimed told)) (rw (same, head.agi) at (c.in-Ok.ensures.claimed told))

pub returns-in-Err-clause-device : goal.returns-in-Err-clause-device
returns-in-Err-clause-device g c = λ h.
    rose_since (g.B.Blocks.faults c.args.disk.now) (g.B.Blocks.faults c.chunks_of.new.disk) (g.B.Blocks.faults c.walk_free_inodes.new.disk) (g.met.B.Blocks.no_fewer _ _ c.in_ok-chunks.ensures.read)
    (c.in-Err.ensures.device (ap Err (told_device c.args.geo.now.agblocks c.in-Err.fault c.told.result _ c.told.ensures refl h)))

pub returns-clause-read : goal.returns-clause-read
returns-clause-read g c = g.met.B.Blocks.read_on c.args.disk.now c.chunks_of.new.disk c.walk_free_inodes.new.disk c.in_ok-chunks.ensures.read c.in-Ok.ensures.read
