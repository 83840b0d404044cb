use Rattle.std.proofs.Common.{ℕ, List, [], ◌∷◌, take, get_or, sym, subst, ◌∙◌, arith}
use Rattle.std.proofs.lemmas.Grind.{take_at_read}
use Rattle.std.proofs.lemmas.Result.{err_from_is_err_and}
use Rattle.xfs_tree.specs.Marks.{marked}
use Rattle.block_claims.specs.Agreement.{Claimed}
use Rattle.block_claims.proofs.Agreements.{claimed_on}
use Rattle.xfs_tree.proofs.Levels.{claim_fault_in}
use Rattle.xfs_tree.proofs.claiming.claim_all.Goals as goal

pub claim_one-requires-clause-admits : goal.claim_one-requires-clause-admits
claim_one-requires-clause-admits g c = c.loop-block.invariant.admits _ _ ∙ c.requires.admits _ (c.requires.inside c.loop-block.block-index 0 (omega arith))

pub returns-in_err-claim_one-clause-fault : goal.returns-in_err-claim_one-clause-fault
returns-in_err-claim_one-clause-fault g c =
    let p = err_from_is_err_and c.from_residual.result c.from_residual.ensures.1 in
    rw (p.1, p.2) (claim_fault_in c.args.geo.now.agblocks (marked c.args.geo.now.agblocks (g.M.Mark.claimed c.args.marks.now)) (marked c.args.geo.now.agblocks (g.M.Mark.claimed c.loop-block.marks))
    c.args.blocks.now c.loop-block.block-index _ (omega arith) c.loop-block.invariant.claimed c.in_err-claim_one.ensures.fault)

pub loop-block-preserved : goal.loop-block-preserved
loop-block-preserved g c =
    let i : ℕ = c.loop-block.block-index in
    let old : ℕ → ℕ = marked c.args.geo.now.agblocks (g.M.Mark.claimed c.args.marks.now) in
    let mid : ℕ → ℕ = marked c.args.geo.now.agblocks (g.M.Mark.claimed c.loop-block.marks) in
    let new : ℕ → ℕ = marked c.args.geo.now.agblocks (g.M.Mark.claimed c.claim_one.new.marks) in
    record {
      claimed = subst (λ (l : List ℕ). Claimed old l new) (sym (take_at_read c.args.blocks.now i 0 (omega arith)).1) (claimed_on old mid new (take i c.args.blocks.now) (get_or c.args.blocks.now i 0 ∷ []) c.loop-block.invariant.claimed c.in_ok-claim_one.ensures.claimed);
      admits = λ h b. c.in_ok-claim_one.ensures.admits h b ∙ c.loop-block.invariant.admits h b;
    }
