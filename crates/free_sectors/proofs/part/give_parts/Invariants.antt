use Rattle.free_sectors.specs.Free.{PartGives}
use Rattle.free_sectors.specs.inside.Adding.{Gathers, DoesItem, SomeBelow}
use Rattle.free_sectors.proofs.part.give_parts.Given as goal

abbrev pub invariant-loop-part : goal.invariant-loop-part
invariant-loop-part l = Gathers l.initial.out l.out (SomeBelow l.part-index (DoesItem l.parts (PartGives l.choices l.parts)))
