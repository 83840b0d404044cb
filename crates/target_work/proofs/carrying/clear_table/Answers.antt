-- A write of sector 0 that failed left it as it was, or zeros.
use Rattle.std.proofs.Common.{◌≤◌, length, replicate, arith}
use Rattle.disk_base.specs.Image.{HalfWritten}
use Rattle.disk_base.specs.Stops.{After, adds_on}
use Rattle.disk_base.proofs.Moments.{adds_nothing}
use Rattle.target_work.proofs.Finishing.{old_or_with, on_err, zeros_long}
use Rattle.target_work.proofs.carrying.clear_table.Goals as goal

pub returns-in_err-write-clause-half : goal.returns-in_err-write-clause-half
returns-in_err-write-clause-half g c = λ t.
    let whole = g.met.T.Blocks.whole c.args.target.now t in
    let some : 512 ≤ length (g.T.Blocks.image c.args.target.now) = omega (arith, whole, c.requires.some) in
    on_err _ (old_or_with _ _ (replicate 512 0) zeros_long some (c.in_err-write.ensures.half t))

-- the flush adds nothing
pub returns-in_err-flush-clause-stops : goal.returns-in_err-flush-clause-stops
returns-in_err-flush-clause-stops g c = λ t.
    adds_on _ _ _ (After (HalfWritten 0 (replicate 512 0)) (g.T.Disk.stops c.args.target.now).may_leave) (c.write.ensures.stops t)
    (adds_nothing _ _ _ (c.flush.ensures.stops t))

pub returns-clause-stops : goal.returns-clause-stops
returns-clause-stops g c = λ t.
    adds_on _ _ _ (After (HalfWritten 0 (replicate 512 0)) (g.T.Disk.stops c.args.target.now).may_leave) (c.write.ensures.stops t)
    (adds_nothing _ _ _ (c.flush.ensures.stops t))
