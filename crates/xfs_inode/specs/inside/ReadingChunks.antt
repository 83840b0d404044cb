-- The chunks of a group as they are read, before they are judged.
use Rattle.std.specs.Prelude.{◌≡◌, ℕ, ◌<◌, List, length, slice_index_or, ◌⊎◌}
use Rattle.xfs_super.specs.Geometry.{Geometry}
use Rattle.xfs_tree.specs.Block.{Sight}
use Rattle.xfs_tree.specs.declared.fault.TreeFault.{TreeFault}
use Rattle.xfs_tree.specs.declared.fault.TreeFault.TheVariants.{Memory}
use Rattle.xfs_tree.specs.declared.sparse_chunk.SparseChunk.{SparseChunk}
use Rattle.xfs_inode.specs.Chunks.{IsSoundInodeTree, HasInodeTreeFault, IsSoundChunk, tree_chunks}

-- the tree is sound, and these are its chunks
pub record AreReadChunks (geo : Geometry) (group : ℕ) (levels : List (List Sight)) (chunks : List SparseChunk) : Type 0 where
  pub tree : IsSoundInodeTree geo group levels
  pub chunks_are : chunks ≡ tree_chunks geo group levels

-- memory was refused, or the tree isn't one
abbrev pub IsChunkReadFault : Geometry → ℕ → List (List Sight) → (ℕ → ℕ) → TreeFault → Type 0
IsChunkReadFault geo group levels claimed fault = (fault ≡ Memory) ⊎ HasInodeTreeFault geo group levels claimed fault

-- the chunk at that place isn't sound
pub record IsUnsoundAt (geo : Geometry) (group : ℕ) (chunks : List SparseChunk) (at : ℕ) : Type 0 where
  pub there : at < length chunks
  pub unsound : (d : SparseChunk) → IsSoundChunk geo group (slice_index_or chunks at d) → ⊥
