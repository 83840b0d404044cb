use Rattle.std.proofs.Common.{◌∙◌, ℕ, ◌+◌, ◌-◌, Some, sym, ap, arith}
use Rattle.std.proofs.lemmas.Bool.{cond-true, cond-false}
use Rattle.xfs_tree.specs.declared.extent.Extent.{Extent}
use Rattle.xfs_inode.specs.Extents.{listed_extent, covers}
use Rattle.xfs_inode.proofs.Searches.{covering_step}
use Rattle.xfs_inode.proofs.extent.listed_covering.Goals as goal

pub returns-then-covers : goal.returns-then-covers
returns-then-covers c =
    let f = listed_extent c.args.fork.now in
    let k : ℕ = c.loop-k.k in
    let step = covering_step c.args.block f k (c.args.count - k) (c.args.count - (k + 1)) (omega (arith, c.loop-k-test.true)) in
    let there = ap (λ (e : Extent). covers c.args.block e) (sym c.listed_extent-extent.ensures) ∙ sym c.covers.ensures ∙ c.if-covers.true in
    ap (λ (e : Extent). Some e) c.listed_extent-extent.ensures ∙ sym (cond-true (covers c.args.block (f k)) _ _ there) ∙ sym step ∙ c.loop-k.invariant

pub loop-k-preserved : goal.loop-k-preserved
loop-k-preserved c =
    let f = listed_extent c.args.fork.now in
    let k : ℕ = c.loop-k.k in
    let step = covering_step c.args.block f k (c.args.count - k) (c.args.count - (k + 1)) (omega (arith, c.loop-k-test.true)) in
    let gone = ap (λ (e : Extent). covers c.args.block e) (sym c.listed_extent-extent.ensures) ∙ sym c.covers.ensures ∙ c.if-covers.false in
    sym (cond-false (covers c.args.block (f k)) _ _ gone) ∙ sym step ∙ c.loop-k.invariant
