use Rattle.std.proofs.Common.{◌≡◌, drop}
use Rattle.words.specs.JobOf.{value_of}
use Rattle.words.proofs.wishes.find_value.Given as goal

abbrev pub invariant-loop-item : goal.invariant-loop-item
invariant-loop-item l = value_of l.option (drop l.item-index l.items) ≡ value_of l.option l.items
