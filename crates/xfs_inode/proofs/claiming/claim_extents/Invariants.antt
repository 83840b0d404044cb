use Rattle.std.proofs.Common.{◌≡◌, ℕ, take}
use Rattle.xfs_super.specs.Super.{geometry_of}
use Rattle.xfs_tree.specs.Marks.{AreClaimed}
use Rattle.xfs_inode.specs.inside.Telling.{extents_blocks}
use Rattle.xfs_inode.proofs.claiming.claim_extents.Given as goal

abbrev pub invariant-loop-extent : goal.invariant-loop-extent
invariant-loop-extent g l = record {
  claimed : AreClaimed l.geo (g.M.Mark.claimed l.initial.marks) (extents_blocks (geometry_of l.geo) (take l.extent-index l.extents)) (g.M.Mark.claimed l.marks);
  admits : (h b : ℕ) → g.M.Mark.admits l.marks h b ≡ g.M.Mark.admits l.initial.marks h b;
}
