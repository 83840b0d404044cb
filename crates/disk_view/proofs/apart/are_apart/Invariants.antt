-- Where the runs that are left lie apart, all do.
use Rattle.std.proofs.Common.{drop, AllPairs}
use Rattle.disk_base.specs.Run.{AreApart}
use Rattle.disk_view.proofs.apart.are_apart.Given as goal

abbrev pub invariant-loop-i : goal.invariant-loop-i
invariant-loop-i l = AllPairs AreApart (drop l.i l.runs) → AllPairs AreApart l.runs
