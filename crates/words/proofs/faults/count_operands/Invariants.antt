use Rattle.std.proofs.Common.{◌≡◌, ◌+◌, ◌≤◌, length, drop}
use Rattle.words.specs.Usage.{operands}
use Rattle.words.proofs.faults.count_operands.Given as goal

abbrev pub invariant-loop-item : goal.invariant-loop-item
invariant-loop-item l = record { counted : l.count + length (operands (drop l.item-index l.items)) ≡ length (operands l.items); few : l.count ≤ l.item-index }
