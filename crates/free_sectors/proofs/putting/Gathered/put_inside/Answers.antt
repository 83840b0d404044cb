use Rattle.std.proofs.Common.{arith, drop, ◌+◌, ◌-◌, ◌^◌, ◌≤◌}
use Rattle.disk_base.specs.Run.{IsIn, run_of}
use Rattle.disk_base.specs.declared.run.Run.{Run}
use Rattle.free_sectors.specs.inside.Adding.{StandsInJoin}
use Rattle.free_sectors.proofs.Adding.{Remains-end, Remains-step}
use Rattle.free_sectors.proofs.Standing.{turn_back, turn_to, stands_not}
use Rattle.free_sectors.proofs.putting.Gathered.put_inside.Goals as goal

pub loop-run-preserved : goal.loop-run-preserved
loop-run-preserved c =
    let few : c.loop-run.self.sectors ≤ 2 ^ 31 = c.loop-run.self.few in
    let runs = c.args.runs.now in
    let i = c.loop-run.run-index in
    let d : Run = run_of 0 0 in
    Remains-step c.args.self.now c.loop-run.self c.put.new.self (StandsInJoin runs c.args.first c.args.n) (StandsInJoin (drop i runs) c.loop-run.skip c.loop-run.left)
    (IsIn (run_of c.saturating_add.result c.min-count.result)) (StandsInJoin (drop (i + 1) runs) (c.loop-run.skip - c.min-from.result) (c.loop-run.left - c.min-count.result))
    c.loop-run.invariant c.in_ok-put.ensures
    (λ x on at. turn_to runs i d c.loop-run.skip c.loop-run.left c.min-from.result c.min-count.result c.saturating_add.result x (omega arith) c.min-from.ensures c.min-count.ensures c.saturating_add.ensures (omega (arith, on, few)) at)
    (λ x on e. turn_back runs i d c.loop-run.skip c.loop-run.left c.min-from.result c.min-count.result c.saturating_add.result x (omega arith) c.min-from.ensures c.min-count.ensures c.saturating_add.ensures (omega (arith, on, few)) e)

pub returns : goal.returns
returns c =
    Remains-end c.args.self.now c.loop-run.self (StandsInJoin c.args.runs.now c.args.first c.args.n) (StandsInJoin (drop c.loop-run.run-index c.args.runs.now) c.loop-run.skip c.loop-run.left)
    c.loop-run.invariant (λ x at. stands_not c.args.runs.now c.loop-run.run-index c.loop-run.skip c.loop-run.left x (omega arith) at)
