use Rattle.free_sectors.specs.Free.{LogicalGives}
use Rattle.free_sectors.specs.inside.Adding.{Gathers, SomeBelow}
use Rattle.free_sectors.proofs.Free.{DoesVolume}
use Rattle.free_sectors.proofs.logical.give_logicals.Given as goal

abbrev pub invariant-loop-index : goal.invariant-loop-index
invariant-loop-index l = Gathers l.initial.out l.out (SomeBelow l.index (DoesVolume l.volumes (LogicalGives l.choices l.holder)))
