use Rattle.std.proofs.Common.{◌≡◌, take, find, None, ◌==◌}
use Rattle.layout_plan.specs.declared.part.Placed.{Placed}
use Rattle.target_table.proofs.slots.placed_with.Given as goal

abbrev pub invariant-loop-one : goal.invariant-loop-one
invariant-loop-one l = find (λ (one : Placed). one.number == l.number) (take l.one-index l.one-items) ≡ None
