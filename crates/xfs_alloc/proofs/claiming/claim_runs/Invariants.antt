use Rattle.std.proofs.Common.{◌≡◌, ℕ, take}
use Rattle.xfs_alloc.specs.Free.{runs_blocks}
use Rattle.xfs_super.specs.Super.{geometry_of}
use Rattle.xfs_tree.specs.Marks.{AreClaimed}
use Rattle.xfs_alloc.proofs.claiming.claim_runs.Given as goal

abbrev pub invariant-loop-run : goal.invariant-loop-run
invariant-loop-run g l = record {
  claimed : AreClaimed l.geo (g.M.Mark.claimed l.initial.marks) (runs_blocks (geometry_of l.geo) l.group (take l.run-index l.runs)) (g.M.Mark.claimed l.marks);
  admits : (h b : ℕ) → g.M.Mark.admits l.marks h b ≡ g.M.Mark.admits l.initial.marks h b;
}
