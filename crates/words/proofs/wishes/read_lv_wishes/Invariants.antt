use Rattle.std.proofs.Common.{◌≡◌, take}
use Rattle.std.specs.List.{filter_map}
use Rattle.words.specs.JobOf.{lv_wish_of}
use Rattle.words.proofs.wishes.read_lv_wishes.Given as goal

abbrev pub invariant-loop-item : goal.invariant-loop-item
invariant-loop-item l = l.wishes ≡ filter_map lv_wish_of (take l.item-index l.items)
