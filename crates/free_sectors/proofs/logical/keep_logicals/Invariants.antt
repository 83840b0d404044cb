use Rattle.free_sectors.specs.Free.{LogicalKeeps}
use Rattle.free_sectors.specs.inside.Adding.{Gathers, SomeBelow}
use Rattle.free_sectors.proofs.Free.{DoesVolume}
use Rattle.free_sectors.proofs.logical.keep_logicals.Given as goal

abbrev pub invariant-loop-index : goal.invariant-loop-index
invariant-loop-index l = Gathers l.initial.out l.out (SomeBelow l.index (DoesVolume l.volumes (LogicalKeeps l.choices l.holder)))
