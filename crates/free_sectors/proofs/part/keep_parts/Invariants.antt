use Rattle.free_sectors.specs.Free.{PartKeeps}
use Rattle.free_sectors.specs.inside.Adding.{Gathers, DoesItem, SomeBelow}
use Rattle.free_sectors.proofs.part.keep_parts.Given as goal

abbrev pub invariant-loop-part : goal.invariant-loop-part
invariant-loop-part l = Gathers l.initial.out l.out (SomeBelow l.part-index (DoesItem l.parts (PartKeeps l.choices l.parts)))
