use Rattle.std.proofs.Common.{◌≡◌, ℕ, not, eqb, List, length, sym, ap, ◌∙◌, arith, w8}
use lib.Lanes.{chunk}
use Rattle.std.proofs.lemmas.Simd.{length-chunk, bitmask_splat}
use Rattle.run_set.proofs.Masked.{zero_from_mask, mask_from_zero}
use Rattle.run_set.proofs.zero.vector_is_zero.Goals as goal

pub returns : goal.returns
returns c =
    let v : List ℕ = chunk c.args.at 64 c.args.bytes.now in
    let long : length v ≡ 64 = length-chunk c.args.at 64 c.args.bytes.now c.requires in
    let hits = bitmask_splat w8 (λ (a b : ℕ). not (eqb a b)) v 64 0 long (omega arith) in
    (λ zero. zero_from_mask v (sym (ap (λ n. eqb n 0) hits) ∙ zero), λ all. ap (λ n. eqb n 0) hits ∙ mask_from_zero v all)
