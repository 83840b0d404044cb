use Rattle.std.proofs.Common.{◌≡◌, ℕ, ◌+◌, ◌*◌, arith, ap, subst, get_or}
use Rattle.xfs_super.specs.Geometry.{Geometry}
use Rattle.free_sectors.specs.inside.Adding.{Gathers, DoesItem, IsFreeInGroup, SomeBelow, StandsInJoin}
use Rattle.free_sectors.proofs.Adding.{Gathers-as, Gathers-at}
use Rattle.free_sectors.proofs.Unused.{AreFreeRuns, RunStands, begins_at, group_in, in_group}
use Rattle.free_sectors.proofs.volume.put_group.Goals as goal

pub loop-run-preserved : goal.loop-run-preserved
loop-run-preserved c =
    let runs = c.args.runs.now in
    let volume = c.args.volume.now in
    let items = c.runs-run-items.result.now in
    let i = c.loop-run.run-index in
    let run : ℕ × ℕ = get_or items i (0, 0) in
    let first : c.sector_of-first.result ≡ 8 * (volume.geometry.agblocks * c.args.number + run.0) =
    begins_at _ c.args.number c.geo-geo.result.now.agblocks _ _ c.sector_of-first.ensures (ap (λ (g : Geometry). g.agblocks) c.geo-geo.ensures) in
    let more : Gathers c.loop-run.out c.put_inside.new.self (StandsInJoin runs c.sector_of-first.result (8 * run.1)) = c.in_ok-put_inside.ensures in
    Gathers-at c.args.out.now c.loop-run.out c.put_inside.new.self items (RunStands runs volume c.args.number) i (0, 0) c.loop-run.invariant (omega arith)
    (subst (λ (f : ℕ). Gathers c.loop-run.out c.put_inside.new.self (StandsInJoin runs f (8 * run.1))) first more)

pub returns : goal.returns
returns c =
    let items = c.runs-run-items.result.now in
    let are : AreFreeRuns c.args.volume.now c.args.number items = record { free = c.free.result.now; is_free = c.free.ensures; items_are = c.runs-run-items.ensures } in
    Gathers-as c.args.out.now c.loop-run.out (SomeBelow c.loop-run.run-index (DoesItem items (RunStands c.args.runs.now c.args.volume.now c.args.number))) (IsFreeInGroup c.args.runs.now c.args.volume.now c.args.number) c.loop-run.invariant
    (λ x on some. in_group c.args.runs.now c.args.volume.now c.args.number c.loop-run.run-index x items are some)
    (λ x on there. group_in c.args.runs.now c.args.volume.now c.args.number c.loop-run.run-index x items are (omega arith) there)
