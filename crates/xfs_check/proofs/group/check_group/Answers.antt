use Rattle.std.proofs.Common.{Err, refl, ap, ◌∙◌, arith}
use Rattle.std.proofs.lemmas.Result.{err_from_is_err_and}
use Rattle.block_claims.specs.Agreement.{block}
use Rattle.xfs_check.proofs.Causes.{error_is}
use Rattle.xfs_check.proofs.Whole.{free_as, group_checked, head_as, head_fault_as, head_refused, inodes_are, inodes_refused, space_is, space_refused, trees_refused}
use Rattle.xfs_check.specs.inside.Reading.{group_on, head_on}
use Rattle.xfs_super.specs.Super.{geometry_of}
use Rattle.xfs_tree.specs.Marks.{marked}
use Rattle.xfs_check.proofs.group.check_group.Goals as goal

pub returns-in_err-head-clause-fault : goal.returns-in_err-head-clause-fault
returns-in_err-head-clause-fault g c = λ told.
    let p = err_from_is_err_and c.from_residual.result c.from_residual.ensures.1 in
    let geo = geometry_of c.args.geo.now in
    let mark = marked c.args.geo.now.agblocks in
    let volume = block (g.B.Blocks.image c.args.disk.now) in
    let head = head_on c.args.geo.now c.args.group (g.B.Blocks.image c.args.disk.now) in
    let x = group_on c.args.geo.now c.args.group (g.B.Blocks.image c.args.disk.now) in
    rw (p.1, p.2) (head_refused geo x (mark (g.M.Mark.claimed c.args.marks.now)) _ (head_fault_as geo volume c.args.group head _ (c.in_err-head.ensures.fault told)))

pub check_space-requires-clause-head : goal.check_space-requires-clause-head
check_space-requires-clause-head g c = λ told.
    let s1 = g.met.B.Blocks.same_image c.args.disk.now c.read_head.new.disk c.in_ok-head.ensures.read told in
    rw s1 (c.in_ok-head.ensures.head told)

pub returns-in_err-free-clause-read : goal.returns-in_err-free-clause-read
returns-in_err-free-clause-read g c = (g.met.B.Blocks.read_on c.args.disk.now c.read_head.new.disk c.check_space.new.disk c.in_ok-head.ensures.read c.in_err-free.ensures.read)

pub returns-in_err-free-clause-fault : goal.returns-in_err-free-clause-fault
returns-in_err-free-clause-fault g c = λ told.
    let p = err_from_is_err_and c.from_residual-in_err-free.result c.from_residual-in_err-free.ensures.1 in
    let geo = geometry_of c.args.geo.now in
    let mark = marked c.args.geo.now.agblocks in
    let volume = block (g.B.Blocks.image c.args.disk.now) in
    let head = head_on c.args.geo.now c.args.group (g.B.Blocks.image c.args.disk.now) in
    let x = group_on c.args.geo.now c.args.group (g.B.Blocks.image c.args.disk.now) in
    let s1 = g.met.B.Blocks.same_image c.args.disk.now c.read_head.new.disk c.in_ok-head.ensures.read told in
    rw (p.1, p.2) (space_refused geo x (mark (g.M.Mark.claimed c.args.marks.now)) _ (rw s1 at (c.in_err-free.ensures.fault told)))

pub check_chunks-requires-clause-volume : goal.check_chunks-requires-clause-volume
check_chunks-requires-clause-volume g c = omega (arith, c.requires.volume, g.met.B.Blocks.same_size c.args.disk.now c.read_head.new.disk c.in_ok-head.ensures.read, g.met.B.Blocks.same_size c.read_head.new.disk c.check_space.new.disk c.in_ok-free.ensures.read)

pub check_chunks-requires-clause-head : goal.check_chunks-requires-clause-head
check_chunks-requires-clause-head g c = λ told.
    let s1 = g.met.B.Blocks.same_image c.args.disk.now c.read_head.new.disk c.in_ok-head.ensures.read told in
    let s2 = g.met.B.Blocks.same_image c.read_head.new.disk c.check_space.new.disk c.in_ok-free.ensures.read told in
    rw (s2, s1) (c.in_ok-head.ensures.head told)

pub check_chunks-requires-clause-admits : goal.check_chunks-requires-clause-admits
check_chunks-requires-clause-admits g c = λ n lt. c.in_ok-free.ensures.admits _ _ ∙ c.requires.admits n lt

pub returns-in_err-chunks-clause-read : goal.returns-in_err-chunks-clause-read
returns-in_err-chunks-clause-read g c = (g.met.B.Blocks.read_on c.args.disk.now c.check_space.new.disk c.check_chunks.new.disk (g.met.B.Blocks.read_on c.args.disk.now c.read_head.new.disk c.check_space.new.disk c.in_ok-head.ensures.read c.in_ok-free.ensures.read) c.in_err-chunks.ensures.read)

pub returns-in_err-chunks-clause-fault : goal.returns-in_err-chunks-clause-fault
returns-in_err-chunks-clause-fault g c = λ told.
    let p = err_from_is_err_and c.from_residual-in_err-chunks.result c.from_residual-in_err-chunks.ensures.1 in
    let geo = geometry_of c.args.geo.now in
    let mark = marked c.args.geo.now.agblocks in
    let volume = block (g.B.Blocks.image c.args.disk.now) in
    let head = head_on c.args.geo.now c.args.group (g.B.Blocks.image c.args.disk.now) in
    let x = group_on c.args.geo.now c.args.group (g.B.Blocks.image c.args.disk.now) in
    let s1 = g.met.B.Blocks.same_image c.args.disk.now c.read_head.new.disk c.in_ok-head.ensures.read told in
    let s2 = g.met.B.Blocks.same_image c.read_head.new.disk c.check_space.new.disk c.in_ok-free.ensures.read told in
    let space = rw s1 at (c.in_ok-free.ensures.taken told) in
    rw (p.1, p.2) (trees_refused geo x (mark (g.M.Mark.claimed c.args.marks.now)) (mark (g.M.Mark.claimed c.check_space.new.marks)) space _ (rw (s2, s1) at (c.in_err-chunks.ensures.fault told)))

pub returns-in_err-chunks-clause-device : goal.returns-in_err-chunks-clause-device
returns-in_err-chunks-clause-device g c = λ h.
    let p = err_from_is_err_and c.from_residual-in_err-chunks.result c.from_residual-in_err-chunks.ensures.1 in
    let is = error_is c.from_residual-in_err-chunks.result c.in_err-chunks.field-0.0 (rw (p.1, p.2) refl) h in
    let rose = c.in_err-chunks.ensures.device (ap Err is) in
    omega (arith, rose, g.met.B.Blocks.no_fewer c.args.disk.now c.read_head.new.disk c.in_ok-head.ensures.read, g.met.B.Blocks.no_fewer c.read_head.new.disk c.check_space.new.disk c.in_ok-free.ensures.read)

pub check_inodes-requires-clause-volume : goal.check_inodes-requires-clause-volume
check_inodes-requires-clause-volume g c = omega (arith, c.requires.volume, g.met.B.Blocks.same_size c.args.disk.now c.read_head.new.disk c.in_ok-head.ensures.read, g.met.B.Blocks.same_size c.read_head.new.disk c.check_space.new.disk c.in_ok-free.ensures.read, g.met.B.Blocks.same_size c.check_space.new.disk c.check_chunks.new.disk c.in_ok-chunks.ensures.read)

pub check_inodes-requires-clause-sound : goal.check_inodes-requires-clause-sound
check_inodes-requires-clause-sound g c = rw c.items.ensures c.in_ok-chunks.ensures.laid

pub check_inodes-requires-clause-admits : goal.check_inodes-requires-clause-admits
check_inodes-requires-clause-admits g c = λ n lt. c.in_ok-chunks.ensures.admits _ _ ∙ c.in_ok-free.ensures.admits _ _ ∙ c.requires.admits n lt

pub returns-in_err-root-clause-read : goal.returns-in_err-root-clause-read
returns-in_err-root-clause-read g c = (g.met.B.Blocks.read_on c.args.disk.now c.check_chunks.new.disk c.check_inodes.new.disk (g.met.B.Blocks.read_on c.args.disk.now c.check_space.new.disk c.check_chunks.new.disk (g.met.B.Blocks.read_on c.args.disk.now c.read_head.new.disk c.check_space.new.disk c.in_ok-head.ensures.read c.in_ok-free.ensures.read) c.in_ok-chunks.ensures.read) c.in_err-root.ensures.read)

pub returns-in_err-root-clause-fault : goal.returns-in_err-root-clause-fault
returns-in_err-root-clause-fault g c = λ told.
    let p = err_from_is_err_and c.from_residual-in_err-root.result c.from_residual-in_err-root.ensures.1 in
    let geo = geometry_of c.args.geo.now in
    let mark = marked c.args.geo.now.agblocks in
    let volume = block (g.B.Blocks.image c.args.disk.now) in
    let head = head_on c.args.geo.now c.args.group (g.B.Blocks.image c.args.disk.now) in
    let x = group_on c.args.geo.now c.args.group (g.B.Blocks.image c.args.disk.now) in
    let s1 = g.met.B.Blocks.same_image c.args.disk.now c.read_head.new.disk c.in_ok-head.ensures.read told in
    let s2 = g.met.B.Blocks.same_image c.read_head.new.disk c.check_space.new.disk c.in_ok-free.ensures.read told in
    let s3 = g.met.B.Blocks.same_image c.check_space.new.disk c.check_chunks.new.disk c.in_ok-chunks.ensures.read told in
    let was = c.in_ok-head.ensures.head told in
    let sound = head_as geo volume c.args.group head was.sound in
    let space = rw s1 at (c.in_ok-free.ensures.taken told) in
    let trees = rw (s2, s1) at (c.in_ok-chunks.ensures.sound told) in
    let chunks = rw (s2, s1) at (c.in_ok-chunks.ensures.taken told) in
    let are = c.items.ensures ∙ (rw (s2, s1) at (c.in_ok-chunks.ensures.chunks told)) in
    let inodes = inodes_are geo volume c.args.group head in
    rw (p.1, p.2) (inodes_refused geo x (mark (g.M.Mark.claimed c.args.marks.now)) (mark (g.M.Mark.claimed c.check_space.new.marks)) space (mark (g.M.Mark.claimed c.check_chunks.new.marks)) _ sound trees chunks (rw (s3, s2, s1, are, inodes) at (c.in_err-root.ensures.fault told)))

pub returns-in_err-root-clause-device : goal.returns-in_err-root-clause-device
returns-in_err-root-clause-device g c = λ h.
    let p = err_from_is_err_and c.from_residual-in_err-root.result c.from_residual-in_err-root.ensures.1 in
    let is = error_is c.from_residual-in_err-root.result c.in_err-root.field-0.0 (rw (p.1, p.2) refl) h in
    let rose = c.in_err-root.ensures.device (ap Err is) in
    omega (arith, rose, g.met.B.Blocks.no_fewer c.args.disk.now c.read_head.new.disk c.in_ok-head.ensures.read, g.met.B.Blocks.no_fewer c.read_head.new.disk c.check_space.new.disk c.in_ok-free.ensures.read, g.met.B.Blocks.no_fewer c.check_space.new.disk c.check_chunks.new.disk c.in_ok-chunks.ensures.read)

pub returns-clause-read : goal.returns-clause-read
returns-clause-read g c = (g.met.B.Blocks.read_on c.args.disk.now c.check_chunks.new.disk c.check_inodes.new.disk (g.met.B.Blocks.read_on c.args.disk.now c.check_space.new.disk c.check_chunks.new.disk (g.met.B.Blocks.read_on c.args.disk.now c.read_head.new.disk c.check_space.new.disk c.in_ok-head.ensures.read c.in_ok-free.ensures.read) c.in_ok-chunks.ensures.read) c.in_ok-root.ensures.read)

pub returns-clause-space : goal.returns-clause-space
returns-clause-space g c = λ told.
    let geo = geometry_of c.args.geo.now in
    let volume = block (g.B.Blocks.image c.args.disk.now) in
    let head = head_on c.args.geo.now c.args.group (g.B.Blocks.image c.args.disk.now) in
    let s1 = g.met.B.Blocks.same_image c.args.disk.now c.read_head.new.disk c.in_ok-head.ensures.read told in
    let was = c.in_ok-head.ensures.head told in
    space_is geo volume c.args.group head c.in_ok-head.head.agf c.in_ok-head.head.agi c.in_ok-free.free was.agf was.agi (rw s1 at (c.in_ok-free.ensures.space told))

pub returns-clause-root : goal.returns-clause-root
returns-clause-root g c = λ told.
    let geo = geometry_of c.args.geo.now in
    let volume = block (g.B.Blocks.image c.args.disk.now) in
    let head = head_on c.args.geo.now c.args.group (g.B.Blocks.image c.args.disk.now) in
    let s1 = g.met.B.Blocks.same_image c.args.disk.now c.read_head.new.disk c.in_ok-head.ensures.read told in
    let s2 = g.met.B.Blocks.same_image c.read_head.new.disk c.check_space.new.disk c.in_ok-free.ensures.read told in
    let s3 = g.met.B.Blocks.same_image c.check_space.new.disk c.check_chunks.new.disk c.in_ok-chunks.ensures.read told in
    let are = c.items.ensures ∙ (rw (s2, s1) at (c.in_ok-chunks.ensures.chunks told)) in
    let inodes = inodes_are geo volume c.args.group head in
    rw (s3, s2, s1, are, inodes) at (c.in_ok-root.ensures.root told)

pub returns-clause-checked : goal.returns-clause-checked
returns-clause-checked g c = λ told.
    let geo = geometry_of c.args.geo.now in
    let mark = marked c.args.geo.now.agblocks in
    let volume = block (g.B.Blocks.image c.args.disk.now) in
    let head = head_on c.args.geo.now c.args.group (g.B.Blocks.image c.args.disk.now) in
    let x = group_on c.args.geo.now c.args.group (g.B.Blocks.image c.args.disk.now) in
    let s1 = g.met.B.Blocks.same_image c.args.disk.now c.read_head.new.disk c.in_ok-head.ensures.read told in
    let s2 = g.met.B.Blocks.same_image c.read_head.new.disk c.check_space.new.disk c.in_ok-free.ensures.read told in
    let s3 = g.met.B.Blocks.same_image c.check_space.new.disk c.check_chunks.new.disk c.in_ok-chunks.ensures.read told in
    let was = c.in_ok-head.ensures.head told in
    let sound = head_as geo volume c.args.group head was.sound in
    let space = rw s1 at (c.in_ok-free.ensures.taken told) in
    let trees = rw (s2, s1) at (c.in_ok-chunks.ensures.sound told) in
    let chunks = rw (s2, s1) at (c.in_ok-chunks.ensures.taken told) in
    let are = c.items.ensures ∙ (rw (s2, s1) at (c.in_ok-chunks.ensures.chunks told)) in
    let inodes = inodes_are geo volume c.args.group head in
    let free = free_as geo volume c.args.group head (rw s1 at (c.in_ok-free.ensures.sound told)) in
    group_checked geo x (mark (g.M.Mark.claimed c.args.marks.now)) (mark (g.M.Mark.claimed c.check_space.new.marks)) space (mark (g.M.Mark.claimed c.check_chunks.new.marks)) (mark (g.M.Mark.claimed c.check_inodes.new.marks)) sound free trees chunks (rw (s3, s2, s1, are, inodes) at (c.in_ok-root.ensures.checked told))
