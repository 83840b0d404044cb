use Rattle.std.proofs.Common.{◌≡◌, map, take}
use Rattle.xfs_alloc.proofs.free.runs_of.Given as goal

abbrev pub invariant-loop-run : goal.invariant-loop-run
invariant-loop-run l = l.pairs.items ≡ map (λ r. (r.start, r.count)) (take l.run-index l.runs)
