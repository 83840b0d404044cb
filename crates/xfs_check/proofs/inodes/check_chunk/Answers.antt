use Rattle.std.proofs.lemmas.Result.{err_from_is_err_and}
use Rattle.xfs_check.proofs.inodes.check_chunk.Goals as goal

pub returns-in_err-root-clause-fault : goal.returns-in_err-root-clause-fault
returns-in_err-root-clause-fault g c = λ told.
    let p = err_from_is_err_and c.from_residual-in_err-root.result c.from_residual-in_err-root.ensures.1 in
    let same = g.met.B.Blocks.same_image c.args.disk.now c.read_chunk.new.disk c.in_ok-read_chunk.ensures.read told in
    rw (p.1, p.2) (rw same at (c.in_err-root.ensures.fault told))

pub returns-clause-checked : goal.returns-clause-checked
returns-clause-checked g c = λ told.
    let same = g.met.B.Blocks.same_image c.args.disk.now c.read_chunk.new.disk c.in_ok-read_chunk.ensures.read told in
    rw same at (c.in_ok-root.ensures.checked told)
