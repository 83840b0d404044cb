use Rattle.std.proofs.Common.{ℕ, List, [], ◌∷◌, ◌+◌, sym, subst, ◌∙◌, arith}
use Rattle.std.specs.List.{range_with_len}
use Rattle.std.proofs.lemmas.Result.{err_from_is_err_and}
use Rattle.xfs_tree.specs.Marks.{marked}
use Rattle.block_claims.specs.Agreement.{Claimed}
use Rattle.block_claims.proofs.Agreements.{claimed_on}
use Rattle.xfs_tree.proofs.Levels.{claim_fault_run, run_more}
use Rattle.xfs_tree.proofs.claiming.claim_run.Goals as goal

pub claim_one-requires-clause-admits : goal.claim_one-requires-clause-admits
claim_one-requires-clause-admits g c = c.loop-i.invariant.admits _ _ ∙ c.requires.admits _ (omega arith)

pub returns-in_err-claim_one-clause-fault : goal.returns-in_err-claim_one-clause-fault
returns-in_err-claim_one-clause-fault g c =
    let p = err_from_is_err_and c.from_residual.result c.from_residual.ensures.1 in
    let i : ℕ = c.loop-i.i in
    let old : ℕ → ℕ = marked c.args.geo.now.agblocks (g.M.Mark.claimed c.args.marks.now) in
    let mid : ℕ → ℕ = marked c.args.geo.now.agblocks (g.M.Mark.claimed c.loop-i.marks) in
    rw (p.1, p.2) (claim_fault_run c.args.geo.now.agblocks old mid c.args.first c.args.count i _ (omega arith) c.loop-i.invariant.claimed c.in_err-claim_one.ensures.fault)

pub loop-i-preserved : goal.loop-i-preserved
loop-i-preserved g c =
    let i : ℕ = c.loop-i.i in
    let old : ℕ → ℕ = marked c.args.geo.now.agblocks (g.M.Mark.claimed c.args.marks.now) in
    let mid : ℕ → ℕ = marked c.args.geo.now.agblocks (g.M.Mark.claimed c.loop-i.marks) in
    let new : ℕ → ℕ = marked c.args.geo.now.agblocks (g.M.Mark.claimed c.claim_one.new.marks) in
    record {
      claimed = subst (λ (l : List ℕ). Claimed old l new) (sym (run_more c.args.first i)) (claimed_on old mid new (range_with_len c.args.first i) ((c.args.first + i) ∷ []) c.loop-i.invariant.claimed c.in_ok-claim_one.ensures.claimed);
      admits = λ h b. c.in_ok-claim_one.ensures.admits h b ∙ c.loop-i.invariant.admits h b;
    }
