use Rattle.std.proofs.Common.{arith}
use Rattle.disk_base.specs.Run.{IsIn, run_of}
use Rattle.disk_view.specs.Join.{IsInOne}
use Rattle.free_sectors.specs.inside.Adding.{DoesItem, SomeBelow}
use Rattle.free_sectors.proofs.Adding.{Gathers-as, Gathers-at, Gathers-start}
use Rattle.free_sectors.proofs.Unused.{in_one, one_in}
use Rattle.free_sectors.proofs.volume.put_all.Goals as goal

pub loop-run-init : goal.loop-run-init
loop-run-init c = Gathers-start c.args.out.now (DoesItem c.args.runs.now IsIn)

pub loop-run-preserved : goal.loop-run-preserved
loop-run-preserved c =
    Gathers-at c.args.out.now c.loop-run.out c.put.new.self c.args.runs.now IsIn c.loop-run.run-index (run_of 0 0) c.loop-run.invariant (omega arith) c.in_ok-put.ensures

pub returns : goal.returns
returns c =
    Gathers-as c.args.out.now c.loop-run.out (SomeBelow c.loop-run.run-index (DoesItem c.args.runs.now IsIn)) (IsInOne c.args.runs.now) c.loop-run.invariant
    (λ x on some. in_one c.args.runs.now c.loop-run.run-index x some)
    (λ x on one. one_in c.args.runs.now c.loop-run.run-index x (omega arith) one)
