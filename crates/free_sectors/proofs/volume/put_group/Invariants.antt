use Rattle.free_sectors.specs.inside.Adding.{Gathers, DoesItem, SomeBelow}
use Rattle.free_sectors.proofs.Unused.{RunStands}
use Rattle.free_sectors.proofs.volume.put_group.Given as goal

abbrev pub invariant-loop-run : goal.invariant-loop-run
invariant-loop-run l = Gathers l.initial.out l.out (SomeBelow l.run-index (DoesItem l.run-items (RunStands l.runs l.volume l.number)))
