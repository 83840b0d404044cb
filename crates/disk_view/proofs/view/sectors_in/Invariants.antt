-- The sum so far and what the later runs have come to the whole, as far as the number goes.
use Rattle.std.proofs.Common.{◌≡◌, ◌+◌, ◌^◌, ◌-◌, ◌≤◌, min, drop}
use Rattle.disk_view.specs.Join.{total}
use Rattle.disk_view.proofs.view.sectors_in.Given as goal

abbrev pub invariant-loop-run : goal.invariant-loop-run
invariant-loop-run l = (min (l.sum + total (drop l.run-index l.runs)) (2 ^ 64 - 1) ≡ min (total l.runs) (2 ^ 64 - 1)) × (l.sum ≤ 2 ^ 64 - 1)
