use Rattle.std.proofs.Common.{◌≡◌, take, find, None, ◌==◌}
use Rattle.layout_plan.specs.declared.part.Placed.{Placed}
use Rattle.resize_core.proofs.copied.placed_from.Given as goal

abbrev pub invariant-loop-placed : goal.invariant-loop-placed
invariant-loop-placed l = find (λ (placed : Placed). placed.from == l.number) (take l.placed-index l.placed-items) ≡ None
