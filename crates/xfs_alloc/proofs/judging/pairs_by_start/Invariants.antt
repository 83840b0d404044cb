use Rattle.std.proofs.Common.{◌≡◌, map, take}
use Rattle.xfs_alloc.proofs.judging.pairs_by_start.Given as goal

abbrev pub invariant-loop-run : goal.invariant-loop-run
invariant-loop-run l = l.pairs.items ≡ map (λ r. (r.count, r.start)) (take l.run-index l.runs)
