use Rattle.xfs_dir.proofs.Shorts.{IsShortPassed}
use Rattle.xfs_dir.proofs.short.short_entries.Given as goal

abbrev pub invariant-loop-k : goal.invariant-loop-k
invariant-loop-k l = IsShortPassed l.wide l.head l.items l._k l.at l.rest
