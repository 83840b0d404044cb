use Rattle.std.proofs.Common.{length}
use Rattle.xfs_dir.proofs.Lists.{IsPassed}
use Rattle.xfs_dir.proofs.block.block_entries.Given as goal

abbrev pub invariant-loop-len : goal.invariant-loop-len
invariant-loop-len l = IsPassed 64 l.items l.at l.rest

abbrev pub decreases-loop-len : goal.decreases-loop-len
decreases-loop-len l = length l.rest
