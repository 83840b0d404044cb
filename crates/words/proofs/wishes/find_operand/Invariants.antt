use Rattle.std.proofs.Common.{◌≡◌, drop, slice_get}
use Rattle.words.specs.Usage.{operands}
use Rattle.words.proofs.wishes.find_operand.Given as goal

abbrev pub invariant-loop-item : goal.invariant-loop-item
invariant-loop-item l = slice_get (operands (drop l.item-index l.items)) l.left ≡ slice_get (operands l.items) l.number
