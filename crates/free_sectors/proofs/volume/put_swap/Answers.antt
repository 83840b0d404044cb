use Rattle.std.proofs.Common.{◌*◌}
use Rattle.volume_content.specs.declared.content.Inner.TheVariants as inner
use Rattle.free_sectors.specs.Free.{IsUnusedIn}
use Rattle.free_sectors.specs.inside.Adding.{StandsInJoin}
use Rattle.free_sectors.proofs.Adding.{Gathers-as}
use Rattle.free_sectors.proofs.Unused.{swap_back, swap_to}
use Rattle.free_sectors.proofs.volume.put_swap.Goals as goal

pub returns : goal.returns
returns c =
    Gathers-as c.args.out.now c.put_inside.new.self (StandsInJoin c.args.runs.now 8 (8 * c.args.swap.now.last_page)) (IsUnusedIn c.args.runs.now (inner.Swap c.args.swap.now)) c.in_ok-put_inside.ensures
    (λ x on at. swap_to c.args.runs.now c.args.swap.now x at)
    (λ x on unused. swap_back c.args.runs.now c.args.swap.now x unused)
