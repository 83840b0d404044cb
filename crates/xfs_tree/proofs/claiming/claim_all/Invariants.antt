use Rattle.std.proofs.Common.{◌≡◌, ℕ, take}
use Rattle.xfs_tree.specs.Marks.{marked}
use Rattle.block_claims.specs.Agreement.{Claimed}
use Rattle.xfs_tree.proofs.claiming.claim_all.Given as goal

abbrev pub invariant-loop-block : goal.invariant-loop-block
invariant-loop-block g l = record {
  claimed : Claimed (marked l.geo.agblocks (g.M.Mark.claimed l.initial.marks)) (take l.block-index l.blocks) (marked l.geo.agblocks (g.M.Mark.claimed l.marks));
  admits : (h b : ℕ) → g.M.Mark.admits l.marks h b ≡ g.M.Mark.admits l.initial.marks h b;
}
