use Rattle.std.proofs.Common.{◌≡◌, ◌<◌, ◌≤◌, length, take, get_or}
use Rattle.xfs_alloc.specs.Free.{free_blocks}
use Rattle.xfs_tree.specs.declared.free_run.ByStart.{ByStart}
use Rattle.xfs_alloc.proofs.judging.count_blocks.Given as goal

abbrev pub invariant-loop-run : goal.invariant-loop-run
invariant-loop-run l = record {
  total : l.total ≡ free_blocks (take l.run-index l.runs);
  bound : (d : ByStart) → l.run-index < length l.runs → l.total ≤ (get_or l.runs l.run-index d).start;
}
