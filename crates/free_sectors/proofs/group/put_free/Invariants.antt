use Rattle.free_sectors.specs.inside.Adding.{Gathers, DoesItem, SomeBelow}
use Rattle.free_sectors.proofs.Members.{ExtentStands}
use Rattle.free_sectors.proofs.group.put_free.Given as goal

abbrev pub invariant-loop-run : goal.invariant-loop-run
invariant-loop-run l = Gathers l.initial.out l.out (SomeBelow l.run-index (DoesItem l.run-items (ExtentStands l.parts l.content)))
