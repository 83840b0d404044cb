use Rattle.std.proofs.Common.{◌≡◌, drop}
use Rattle.std.specs.Prelude.{slice_get}
use Rattle.std.specs.List.{flat_map}
use Rattle.volume_choice.specs.Unread.{unread_in, unread_volumes}
use Rattle.volume_choice.proofs.unread.first_unread.Given as goal

abbrev pub invariant-loop-part : goal.invariant-loop-part
invariant-loop-part l =
    slice_get (flat_map (unread_in l.choices l.parts) (drop l.part-index l.parts)) 0 ≡ slice_get (unread_volumes l.choices l.parts) 0
