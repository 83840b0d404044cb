use Rattle.std.proofs.Common.{◌≡◌, ℕ}
use Rattle.std.specs.List.{range_with_len}
use Rattle.xfs_tree.specs.Marks.{AreClaimed}
use Rattle.xfs_tree.proofs.claiming.claim_run.Given as goal

abbrev pub invariant-loop-i : goal.invariant-loop-i
invariant-loop-i g l = record {
  claimed : AreClaimed l.geo (g.M.Mark.claimed l.initial.marks) (range_with_len l.first l.i) (g.M.Mark.claimed l.marks);
  admits : (h b : ℕ) → g.M.Mark.admits l.marks h b ≡ g.M.Mark.admits l.initial.marks h b;
}
