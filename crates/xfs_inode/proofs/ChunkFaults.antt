-- The chunks of a group that were read are sound, or a reason speaks against them.
use Rattle.std.proofs.Common.{◌≡◌, ℕ, ◌+◌, ◌*◌, List, ◌++◌, slice_index_or, inl, inr, refl, sym, ap, subst, ◌∙◌}
use Rattle.std.specs.List.{All}
use Rattle.std.proofs.lemmas.List.{get_or_default}
use Rattle.block_claims.specs.Agreement.{Claimed, IsTwice}
use Rattle.block_claims.proofs.Agreements.{twice_on, claimed_on}
use Rattle.xfs_super.specs.Geometry.{Geometry}
use Rattle.xfs_tree.specs.Block.{Sight}
use Rattle.xfs_tree.specs.Marks.{Claims, marked, IsClaimFault}
use Rattle.xfs_tree.specs.Tree.{blocks_of}
use Rattle.xfs_tree.proofs.Claims.{claimed_free}
use Rattle.xfs_tree.specs.declared.fault.TreeFault.{TreeFault}
use Rattle.xfs_tree.specs.declared.fault.TreeFault.TheVariants as tree
use Rattle.xfs_tree.specs.declared.sparse_chunk.SparseChunk.{SparseChunk}
use Rattle.xfs_inode.specs.Chunks.{IsSoundChunk, tree_chunks, chunks_blocks, chunk_claims, inode_number, HasInodeTreeFault, AreSoundChunks, IsBadChunk, HasChunkFault}
use Rattle.xfs_inode.specs.inside.ReadingChunks.{AreReadChunks, IsChunkReadFault, IsUnsoundAt}
use Rattle.xfs_inode.specs.TreeFaults.{told_of_tree}

module _ (geo : Geometry) (group : ℕ) (levels : List (List Sight)) (old : ℕ → ℕ) where
  -- the tree is refused
  tree_refused : (fault : TreeFault) → HasInodeTreeFault geo group levels old fault → HasChunkFault geo group levels old (told_of_tree geo.agblocks fault)
  tree_refused (tree.Checksum g b) due = record { fault = tree.Checksum g b; names = (refl, refl); due = due }
  tree_refused (tree.Header g b) due = record { fault = tree.Header g b; names = (refl, refl); due = due }
  tree_refused (tree.Level g b) due = record { fault = tree.Level g b; names = (refl, refl); due = due }
  tree_refused (tree.Order g b) due = record { fault = tree.Order g b; names = (refl, refl); due = due }
  tree_refused (tree.Range g b) due = record { fault = tree.Range g b; names = (refl, refl); due = due }
  tree_refused (tree.Marked g b) (inl due) = inl due.1
  tree_refused (tree.Marked g b) (inr due) = inl due.1
  tree_refused tree.Device due = tt
  tree_refused tree.Memory due = tt

  pub chunk_read_refused : (fault : TreeFault) → IsChunkReadFault geo group levels old fault → HasChunkFault geo group levels old (told_of_tree geo.agblocks fault)
  chunk_read_refused fault (inl memory) = subst (λ (x : TreeFault). HasChunkFault geo group levels old (told_of_tree geo.agblocks x)) (sym memory) tt
  chunk_read_refused fault (inr due) = tree_refused fault due

  -- a chunk is
  pub chunk_refused : (chunks : List SparseChunk) (at ino : ℕ) (z : SparseChunk) → chunks ≡ tree_chunks geo group levels → IsUnsoundAt geo group chunks at → ino ≡ inode_number geo group (slice_index_or chunks at z) 0
      → IsBadChunk geo group (tree_chunks geo group levels) ino
  chunk_refused chunks at ino z is bad named =
      subst (λ (l : List SparseChunk). IsBadChunk geo group l ino) is
      (record {
        place = at;
        there = bad.there;
        unsound = bad.unsound;
        named = λ d. named ∙ ap (λ (x : SparseChunk). inode_number geo group x 0) (get_or_default chunks at z d bad.there);
      })

  -- a block of theirs was claimed before
  pub chunk_claims_refused : (mid : ℕ → ℕ) (chunks : List SparseChunk) (fault : TreeFault) → chunks ≡ tree_chunks geo group levels → All (IsSoundChunk geo group) chunks → Claimed old (blocks_of levels) mid
      → IsClaimFault geo.agblocks mid (chunks_blocks geo group chunks) fault → HasChunkFault geo group levels old (told_of_tree geo.agblocks fault)
  chunk_claims_refused mid chunks (tree.Checksum g b) is sound claimed due = absurd due
  chunk_claims_refused mid chunks (tree.Header g b) is sound claimed due = absurd due
  chunk_claims_refused mid chunks (tree.Level g b) is sound claimed due = absurd due
  chunk_claims_refused mid chunks (tree.Order g b) is sound claimed due = absurd due
  chunk_claims_refused mid chunks (tree.Range g b) is sound claimed due = absurd due
  chunk_claims_refused mid chunks (tree.Marked g b) is sound claimed due =
      let n : ℕ = g * geo.agblocks + b in
      inr (
        subst (All (IsSoundChunk geo group)) is sound,
        subst (λ (l : List SparseChunk). IsTwice old (blocks_of levels ++ chunks_blocks geo group l) n) is (twice_on old mid (blocks_of levels) (chunks_blocks geo group chunks) n claimed due),
      )
  chunk_claims_refused mid chunks tree.Device is sound claimed due = absurd due
  chunk_claims_refused mid chunks tree.Memory is sound claimed due = tt

  -- all is claimed, and the chunks are sound
  pub all_chunks_claimed : (mid new : ℕ → ℕ) (chunks : List SparseChunk) → chunks ≡ tree_chunks geo group levels → Claimed old (blocks_of levels) mid → Claimed mid (chunks_blocks geo group chunks) new → Claimed old (chunk_claims geo group levels) new
  all_chunks_claimed mid new chunks is p q =
      subst (λ (l : List SparseChunk). Claimed old (blocks_of levels ++ chunks_blocks geo group l) new) is (claimed_on old mid new (blocks_of levels) (chunks_blocks geo group chunks) p q)

  pub chunks_are_sound : (new : Claims) (chunks : List SparseChunk) → AreReadChunks geo group levels chunks → All (IsSoundChunk geo group) chunks → Claimed old (chunk_claims geo group levels) (marked geo.agblocks new) → AreSoundChunks geo group levels old
  chunks_are_sound new chunks read sound claimed = record {
    tree = read.tree;
    chunks = subst (All (IsSoundChunk geo group)) read.chunks_are sound;
    free = claimed_free old geo.agblocks new (chunk_claims geo group levels) claimed;
  }
