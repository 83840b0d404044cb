use Rattle.std.proofs.Common.{drop}
use Rattle.free_sectors.specs.inside.Adding.{StandsInJoin}
use Rattle.free_sectors.proofs.Adding.{Remains}
use Rattle.free_sectors.proofs.putting.Gathered.put_inside.Given as goal

abbrev pub invariant-loop-run : goal.invariant-loop-run
invariant-loop-run l = Remains l.initial.self l.self (StandsInJoin l.runs l.first l.n) (StandsInJoin (drop l.run-index l.runs) l.skip l.left)
