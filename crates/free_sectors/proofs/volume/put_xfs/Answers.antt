use Rattle.std.proofs.Common.{◌≡◌, arith, ap}
use Rattle.volume_content.specs.declared.content.Inner.TheVariants as inner
use Rattle.xfs_super.specs.Geometry.{Geometry}
use Rattle.free_sectors.specs.Free.{IsUnusedIn}
use Rattle.free_sectors.specs.inside.Adding.{IsFreeInGroup, SomeBelow}
use Rattle.free_sectors.proofs.Adding.{Gathers-as, Gathers-start, Gathers-step}
use Rattle.free_sectors.proofs.Unused.{xfs_back, xfs_to}
use Rattle.free_sectors.proofs.volume.put_xfs.Goals as goal

pub loop-number-init : goal.loop-number-init
loop-number-init c = Gathers-start c.args.out.now (IsFreeInGroup c.args.runs.now c.args.volume.now)

pub loop-number-preserved : goal.loop-number-preserved
loop-number-preserved c =
    Gathers-step c.args.out.now c.loop-number.out c.put_group.new.out c.loop-number.number (IsFreeInGroup c.args.runs.now c.args.volume.now) c.loop-number.invariant c.in_ok-put_group.ensures

pub returns : goal.returns
returns c =
    let groups : c.geo.result.now.agcount ≡ c.args.volume.now.geometry.agcount = ap (λ (g : Geometry). g.agcount) c.geo.ensures in
    Gathers-as c.args.out.now c.loop-number.out (SomeBelow c.loop-number.number (IsFreeInGroup c.args.runs.now c.args.volume.now)) (IsUnusedIn c.args.runs.now (inner.Xfs c.args.volume.now)) c.loop-number.invariant
    (λ x on some. xfs_to c.args.runs.now c.args.volume.now c.loop-number.number x (omega arith) some)
    (λ x on unused. xfs_back c.args.runs.now c.args.volume.now c.loop-number.number x (omega arith) unused)
