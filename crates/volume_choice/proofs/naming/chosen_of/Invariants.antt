use Rattle.std.proofs.Common.{◌≡◌, ◌++◌, drop}
use Rattle.volume_choice.specs.Chosen.{chosen_of}
use Rattle.volume_choice.proofs.naming.chosen_of.Given as goal

abbrev pub invariant-loop-wish : goal.invariant-loop-wish
invariant-loop-wish l = l.all.items ++ chosen_of l.parts (drop l.wish-index l.wishes) ≡ chosen_of l.parts l.wishes
