use Rattle.std.proofs.Common.{◌≡◌, take}
use Rattle.std.specs.List.{filter_map}
use Rattle.words.specs.JobOf.{volume_wish_of}
use Rattle.words.proofs.wishes.read_volume_wishes.Given as goal

abbrev pub invariant-loop-item : goal.invariant-loop-item
invariant-loop-item l = l.wishes ≡ filter_map (volume_wish_of l.option) (take l.item-index l.items)
