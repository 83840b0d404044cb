use Rattle.std.proofs.Common.{◌≡◌, drop}
use Rattle.free_sectors.specs.Free.{part_run}
use Rattle.free_sectors.proofs.group.part_run.Given as goal

abbrev pub invariant-loop-part : goal.invariant-loop-part
invariant-loop-part l = part_run (drop l.part-index l.parts) l.number ≡ part_run l.parts l.number
