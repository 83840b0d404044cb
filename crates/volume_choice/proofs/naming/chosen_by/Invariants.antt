use Rattle.std.proofs.Common.{◌≡◌, drop}
use Rattle.volume_choice.specs.Chosen.{chosen_by}
use Rattle.volume_choice.proofs.naming.chosen_by.Given as goal

abbrev pub invariant-loop-part : goal.invariant-loop-part
invariant-loop-part l = chosen_by (drop l.part-index l.parts) l.name ≡ chosen_by l.parts l.name
