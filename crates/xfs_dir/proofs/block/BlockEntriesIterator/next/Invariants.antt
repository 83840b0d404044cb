use Rattle.std.proofs.Common.{◌≡◌, length}
use Rattle.xfs_dir.specs.Block.{entries_left}
use Rattle.xfs_dir.proofs.block.BlockEntriesIterator.next.Given as goal

abbrev pub invariant-loop-len : goal.invariant-loop-len
invariant-loop-len l = entries_left l.self ≡ entries_left l.fn.self

abbrev pub decreases-loop-len : goal.decreases-loop-len
decreases-loop-len l = length l.self.rest.now
