use Rattle.std.proofs.Common.{◌≡◌, take}
use Rattle.std.specs.List.{filter_map}
use Rattle.words.specs.JobOf.{item_wish}
use Rattle.words.proofs.wishes.read_wishes.Given as goal

abbrev pub invariant-loop-item : goal.invariant-loop-item
invariant-loop-item l = l.wishes ≡ filter_map item_wish (take l.item-index l.items)
