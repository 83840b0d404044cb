use Rattle.std.proofs.Common.{ℕ, ◌+◌, ◌^◌, ◌≤◌, arith, subst, get_or}
use Rattle.disk_base.specs.Run.{IsIn, run_of}
use Rattle.disk_base.specs.declared.run.Run.{Run}
use Rattle.free_sectors.specs.Free.{IsInFreeExtent}
use Rattle.free_sectors.specs.inside.Adding.{Gathers, DoesItem, SomeBelow}
use Rattle.free_sectors.proofs.Adding.{Gathers-as, Gathers-at}
use Rattle.free_sectors.proofs.Members.{ExtentStands, extent_back, extent_to}
use Rattle.free_sectors.proofs.Standing.{cut_back, uncut}
use Rattle.free_sectors.proofs.group.put_free.Goals as goal

pub loop-run-preserved : goal.loop-run-preserved
loop-run-preserved c =
    let parts = c.args.parts.now in
    let content = c.args.content.now in
    let items = c.free_extents-run-items.result.now in
    let i = c.loop-run.run-index in
    let run : ℕ × ℕ × ℕ = get_or items i (0, 0, 0) in
    let few : c.loop-run.out.sectors ≤ 2 ^ 31 = c.loop-run.out.few in
    let start = c.saturating_add.result in
    let whole : ℕ = c.member_run-member.result.start + run.1 in
    let more : Gathers c.loop-run.out c.put.new.self (IsIn (run_of start run.2)) = c.in_ok-put.ensures in
    let uncut_more : Gathers c.loop-run.out c.put.new.self (IsIn (run_of whole run.2)) =
    Gathers-as c.loop-run.out c.put.new.self (IsIn (run_of start run.2)) (IsIn (run_of whole run.2)) more
    (λ x on here. cut_back whole start run.2 x c.saturating_add.ensures (omega (arith, on, few)) here)
    (λ x on here. uncut whole start run.2 x c.saturating_add.ensures (omega (arith, on, few)) here) in
    Gathers-at c.args.out.now c.loop-run.out c.put.new.self items (ExtentStands parts content) i (0, 0, 0) c.loop-run.invariant (omega arith)
    (subst (λ (m : Run). Gathers c.loop-run.out c.put.new.self (IsIn (run_of (m.start + run.1) run.2))) c.member_run-member.ensures uncut_more)

pub returns : goal.returns
returns c =
    let items = c.free_extents-run-items.result.now in
    Gathers-as c.args.out.now c.loop-run.out (SomeBelow c.loop-run.run-index (DoesItem items (ExtentStands c.args.parts.now c.args.content.now))) (IsInFreeExtent c.args.parts.now c.args.content.now) c.loop-run.invariant
    (λ x on some. extent_to c.args.parts.now c.args.content.now items c.free_extents-run-items.ensures c.loop-run.run-index x some)
    (λ x on there. extent_back c.args.parts.now c.args.content.now items c.free_extents-run-items.ensures c.loop-run.run-index x (omega arith) there)
