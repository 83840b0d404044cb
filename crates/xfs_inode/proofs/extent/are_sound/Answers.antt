use Rattle.std.proofs.Common.{◌≡◌, ℕ, subst, inl, inr, arith}
use Rattle.std.proofs.lemmas.Bool.{cases_lt}
use Rattle.xfs_super.specs.Super.{geometry_of}
use Rattle.xfs_inode.specs.inside.Searching.{IsSoundAt}
use Rattle.xfs_inode.proofs.Searches.{all_sound}
use Rattle.xfs_inode.proofs.extent.are_sound.Goals as goal

pub loop-i-preserved : goal.loop-i-preserved
loop-i-preserved c = λ k lt. elim (cases_lt k c.loop-i.i) [
  | inl before ↦ c.loop-i.invariant k before
  | inr past ↦
      let here : c.loop-i.i ≡ k = omega arith in
      subst (λ (i : ℕ). IsSoundAt (geometry_of c.args.geo.now) c.args.extents.now i) here (c.is_sound_at.ensures.0 c.if-not-is_sound_at.false)
]

pub returns-clause-yes : goal.returns-clause-yes
returns-clause-yes c = λ t. all_sound (geometry_of c.args.geo.now) c.args.extents.now (λ i lt. c.loop-i.invariant i (omega (arith, lt, c.loop-i-test.false, c.loop-i.auto.i-end)))
