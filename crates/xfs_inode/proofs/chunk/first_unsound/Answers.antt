use Rattle.std.proofs.Common.{◌≡◌, ℕ, inl, inr, subst, slice_index_or, arith}
use Rattle.std.proofs.lemmas.Bool.{cases_lt}
use Rattle.std.proofs.lemmas.List.{get_or_default}
use Rattle.xfs_super.specs.Super.{geometry_of}
use Rattle.xfs_tree.specs.declared.sparse_chunk.SparseChunk.{SparseChunk}
use Rattle.xfs_inode.specs.Chunks.{IsSoundChunk}
use Rattle.xfs_inode.proofs.chunk.first_unsound.Goals as goal

pub loop-i-preserved : goal.loop-i-preserved
loop-i-preserved c = λ k d lt. elim (cases_lt k c.loop-i.i) [
  | inl before ↦ c.loop-i.invariant k d before
  | inr past ↦
      let here : c.loop-i.i ≡ k = omega arith in
      subst (λ (n : ℕ). IsSoundChunk (geometry_of c.args.geo.now) c.args.group (slice_index_or c.args.chunks.now n d)) here
      (subst (λ (x : SparseChunk). IsSoundChunk (geometry_of c.args.geo.now) c.args.group x) (get_or_default c.args.chunks.now c.loop-i.i _ d (omega arith)) (c.is_sound_chunk.ensures.0 c.if-not-is_sound_chunk.false))
]
