-- Runs that lie apart have no more sectors than the disk, whose number is a u64.
use Rattle.std.proofs.Common.{arith, ◌≤◌}
use Rattle.disk_view.specs.Join.{total}
use Rattle.disk_view.proofs.Counts.{total_fits}
use Rattle.disk_view.proofs.view.View.new.Goals as goal

pub invariant_of-result : goal.invariant_of-result
invariant_of-result g c =
    let fits : total c.args.runs.now ≤ g.B.Blocks.size c.args.disk.now = total_fits (g.B.Blocks.size c.args.disk.now) c.args.runs.now c.requires.inside c.requires.apart in
    record { inside = c.requires.inside; few = omega (arith, c.sectors.ensures); counted = omega (arith, fits, c.sectors.ensures, c.sectors_in.ensures, c.min-count.ensures) }
