use Rattle.std.proofs.Common.{◌≡◌, ℕ, ◌/◌, ◌*◌, inl, inr, subst, arith}
use Rattle.std.proofs.lemmas.Bool.{cases_lt}
use Rattle.xfs_inode.specs.Chunks.{is_hole}
use Rattle.xfs_inode.proofs.chunk.has_whole_blocks.Goals as goal

pub loop-i-preserved : goal.loop-i-preserved
loop-i-preserved c = λ k lt. elim (cases_lt k c.loop-i.i) [
  | inl before ↦ c.loop-i.invariant k before
  | inr past ↦
      let width : ℕ = c.inodes_in_block-width.result in
      let here : c.loop-i.i ≡ k = omega arith in
      subst (λ (n : ℕ). is_hole c.args.chunk.now n ≡ is_hole c.args.chunk.now (n / width * width)) here
      (c.is_as_first.ensures.0 c.if-not-is_as_first.false)
]
