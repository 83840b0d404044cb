use Rattle.std.proofs.Common.{◌≡◌, ℕ, ◌*◌, take}
use Rattle.std.specs.List.{flat_map}
use Rattle.xfs_check.proofs.Listed.{one_block}
use Rattle.xfs_super.specs.Headers.{used_entries}
use Rattle.xfs_tree.specs.Marks.{AreClaimed}
use Rattle.xfs_check.proofs.space.claim_list.Given as goal

abbrev pub invariant-loop-i : goal.invariant-loop-i
invariant-loop-i g l = record {
  claimed : AreClaimed l.geo (g.M.Mark.claimed l.initial.marks) (flat_map (one_block (l.group * l.geo.agblocks)) (take l.i (used_entries l.agf l.bytes))) (g.M.Mark.claimed l.marks);
  admits : (h b : ℕ) → g.M.Mark.admits l.marks h b ≡ g.M.Mark.admits l.initial.marks h b;
}
