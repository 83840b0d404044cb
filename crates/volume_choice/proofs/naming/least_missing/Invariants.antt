use Rattle.std.proofs.Common.{◌≡◌, drop}
use Rattle.volume_choice.specs.Chosen.{missing_places}
use Rattle.volume_choice.specs.inside.Least.{least_of, lesser}
use Rattle.volume_choice.proofs.naming.least_missing.Given as goal

abbrev pub invariant-loop-wish : goal.invariant-loop-wish
invariant-loop-wish l =
    lesser l.least (least_of (missing_places l.parts (drop l.wish-index l.wishes))) ≡ least_of (missing_places l.parts l.wishes)
