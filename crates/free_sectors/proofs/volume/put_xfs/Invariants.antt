use Rattle.free_sectors.specs.inside.Adding.{Gathers, IsFreeInGroup, SomeBelow}
use Rattle.free_sectors.proofs.volume.put_xfs.Given as goal

abbrev pub invariant-loop-number : goal.invariant-loop-number
invariant-loop-number l = Gathers l.initial.out l.out (SomeBelow l.number (IsFreeInGroup l.runs l.volume))
