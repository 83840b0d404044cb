-- Against what is sound no reason speaks.
use Rattle.std.proofs.Common.{◌≡◌, ℕ, ◌<◌, true, List, [], ◌∷◌, length, inl, inr, sym, ◌∙◌, arith}
use Rattle.disk_base.specs.Memory.{true_is_not_false}
use Rattle.block_claims.proofs.Agreements.{times_in-append}
use Rattle.std.specs.List.{flat_map}
use Rattle.xfs_super.specs.Geometry.{Geometry}
use Rattle.xfs_super.specs.declared.reason.Reason.{Reason}
use Rattle.xfs_super.specs.declared.reason.Reason.TheVariants as why
use Rattle.xfs_tree.specs.Block.{Sight}
use Rattle.xfs_tree.specs.Fork.{IsSoundRoot, IsRootFault}
use Rattle.xfs_tree.specs.Form.{Setting}
use Rattle.xfs_tree.specs.Records.{by_inode, by_sparse_inode}
use Rattle.xfs_tree.specs.Tree.{blocks_of, all_sights, leaves_of, IsSoundTree, HasTreeFault}
use Rattle.xfs_tree.proofs.TreeLaws.{sound_excludes, in_order_excludes}
use Rattle.xfs_tree.specs.declared.fault.TreeFault.{TreeFault}
use Rattle.xfs_tree.specs.declared.fault.TreeFault.TheVariants as tree
use Rattle.xfs_inode.specs.Chunks.{tree_chunks, chunks_blocks, chunk_setting, IsSoundInodeTree, AreSoundChunks, IsBadInodeTree, SpeaksAgainstChunks}
use Rattle.xfs_tree.specs.declared.sparse_chunk.SparseChunk.{SparseChunk}
use Rattle.xfs_inode.specs.Core.{InodeFork}
use Rattle.xfs_inode.specs.ForkReading.{IsSoundForkTree, NamesTreeBlock, IsSoundFork, IsBadForkTree, SpeaksAgainstFork}
use Rattle.xfs_inode.specs.Inode.{is_sound_inode, SpeaksAgainstInode}
use Rattle.xfs_inode.specs.Seen.{SeenFork, SeenInode, extent_claims, extent_setting}

tree_excludes : {R : Type 0} (t : Setting R) (geo : Geometry) (levels : List (List Sight)) (claimed : ℕ → ℕ) (fault : TreeFault) (g b : ℕ) → IsSoundTree t geo levels → NamesTreeBlock g b fault → HasTreeFault t geo levels claimed fault → ⊥
tree_excludes t geo levels claimed (tree.Checksum h k) g b sound names due = sound_excludes t geo (all_sights levels) (tree.Checksum h k) sound.blocks due
tree_excludes t geo levels claimed (tree.Header h k) g b sound names due = sound_excludes t geo (all_sights levels) (tree.Header h k) sound.blocks due
tree_excludes t geo levels claimed (tree.Level h k) g b sound names due = sound_excludes t geo (all_sights levels) (tree.Level h k) sound.blocks due
tree_excludes t geo levels claimed (tree.Range h k) g b sound names due = sound_excludes t geo (all_sights levels) (tree.Range h k) sound.blocks due
tree_excludes t geo levels claimed (tree.Order h k) g b sound names (inl due) = sound_excludes t geo (all_sights levels) (tree.Order h k) sound.blocks due
tree_excludes t geo levels claimed (tree.Order h k) g b sound names (inr due) = in_order_excludes t (leaves_of levels) h k sound.order due
tree_excludes t geo levels claimed (tree.Marked h k) g b sound names due = names
tree_excludes t geo levels claimed tree.Device g b sound names due = names
tree_excludes t geo levels claimed tree.Memory g b sound names due = names

root_excludes : {R : Type 0} (t : Setting R) (geo : Geometry) (fork : List ℕ) (fault : TreeFault) → IsSoundRoot t geo fork → IsRootFault t geo fork fault → ⊥
root_excludes t geo fork (tree.Checksum g b) root due = due
root_excludes t geo fork (tree.Header g b) root due = due
root_excludes t geo fork (tree.Level g b) root due = due.1 root.level
root_excludes t geo fork (tree.Range g b) root due = due.1 root.range
root_excludes t geo fork (tree.Order g b) root due = due.1 root.order
root_excludes t geo fork (tree.Marked g b) root due = due
root_excludes t geo fork tree.Device root due = due
root_excludes t geo fork tree.Memory root due = due

bad_excludes : (geo : Geometry) (f : InodeFork) (levels : List (List Sight)) (g b : ℕ) → IsSoundForkTree geo f levels → IsBadForkTree geo f levels g b → ⊥
bad_excludes geo f levels g b sound bad = elim bad.due [
  | inl due ↦ root_excludes (extent_setting geo f.ino) geo f.bytes bad.fault (sound.root bad.rooted) due
  | inr due ↦ tree_excludes (extent_setting geo f.ino) geo levels (λ n. 0) bad.fault g b sound.tree bad.names due
]

pub no_fork_reason : (geo : Geometry) (f : InodeFork) (s : SeenFork) (claimed : ℕ → ℕ) (reason : Reason) → IsSoundFork geo f s claimed → SpeaksAgainstFork geo f s claimed reason → ⊥
no_fork_reason geo f s claimed (why.Tree g b) sound due = bad_excludes geo f s.levels g b sound.tree due.1
no_fork_reason geo f s claimed (why.Inode n) sound due = true_is_not_false (sym sound.holds ∙ due.1)
no_fork_reason geo f s claimed (why.Extent n) sound due = due.2 sound.extents
no_fork_reason geo f s claimed (why.ClaimedTwice n) sound due = elim due.1 [
  | inl twice ↦ omega (arith, sound.free n, twice, times_in-append n (blocks_of s.levels) (flat_map extent_claims s.extents))
  | inr twice ↦ omega (arith, sound.free n, twice.1)
]
no_fork_reason geo f s claimed why.Geometry sound due = due
no_fork_reason geo f s claimed why.Feature sound due = due
no_fork_reason geo f s claimed why.Reflink sound due = due
no_fork_reason geo f s claimed why.ReverseMap sound due = due
no_fork_reason geo f s claimed why.RealTime sound due = due
no_fork_reason geo f s claimed why.ExternalLog sound due = due
no_fork_reason geo f s claimed why.NeedsRepair sound due = due
no_fork_reason geo f s claimed why.InProgress sound due = due
no_fork_reason geo f s claimed (why.Checksum n) sound due = due
no_fork_reason geo f s claimed (why.Header n) sound due = due
no_fork_reason geo f s claimed (why.FreeTreesDiffer g) sound due = due
no_fork_reason geo f s claimed (why.FreeCount g stored found) sound due = due
no_fork_reason geo f s claimed (why.Directory n b) sound due = due
no_fork_reason geo f s claimed why.DirtyLog sound due = due
no_fork_reason geo f s claimed why.LogShape sound due = due

inode_tree_excludes : (geo : Geometry) (group : ℕ) (levels : List (List Sight)) (g b : ℕ) → IsSoundInodeTree geo group levels → IsBadInodeTree geo group levels g b → ⊥
inode_tree_excludes geo group levels g b sound bad = elim bad.due [
  | inl due ↦ tree_excludes (chunk_setting by_sparse_inode geo group) geo levels (λ n. 0) bad.fault g b (sound.sparse due.0) bad.names due.1
  | inr due ↦ tree_excludes (chunk_setting by_inode geo group) geo levels (λ n. 0) bad.fault g b (sound.full due.0) bad.names due.1
]

-- a list that has a place has a chunk
some_chunk : (chunks : List SparseChunk) (n : ℕ) → n < length chunks → (SparseChunk → ⊥) → ⊥
some_chunk [] n lt none = omega arith
some_chunk (c ∷ cs) n lt none = none c

pub no_chunk_reason : (geo : Geometry) (group : ℕ) (levels : List (List Sight)) (claimed : ℕ → ℕ) (reason : Reason) → AreSoundChunks geo group levels claimed → SpeaksAgainstChunks geo group levels claimed reason → ⊥
no_chunk_reason geo group levels claimed (why.Tree g b) sound due = inode_tree_excludes geo group levels g b sound.tree due
no_chunk_reason geo group levels claimed (why.Inode n) sound due = some_chunk (tree_chunks geo group levels) due.place due.there (λ c. due.unsound c (sound.chunks due.place c due.there))
no_chunk_reason geo group levels claimed (why.ClaimedTwice n) sound due = elim due [
  | inl twice ↦ omega (arith, sound.free n, twice, times_in-append n (blocks_of levels) (chunks_blocks geo group (tree_chunks geo group levels)))
  | inr twice ↦ omega (arith, sound.free n, twice.1)
]
no_chunk_reason geo group levels claimed why.Geometry sound due = due
no_chunk_reason geo group levels claimed why.Feature sound due = due
no_chunk_reason geo group levels claimed why.Reflink sound due = due
no_chunk_reason geo group levels claimed why.ReverseMap sound due = due
no_chunk_reason geo group levels claimed why.RealTime sound due = due
no_chunk_reason geo group levels claimed why.ExternalLog sound due = due
no_chunk_reason geo group levels claimed why.NeedsRepair sound due = due
no_chunk_reason geo group levels claimed why.InProgress sound due = due
no_chunk_reason geo group levels claimed (why.Checksum n) sound due = due
no_chunk_reason geo group levels claimed (why.Header n) sound due = due
no_chunk_reason geo group levels claimed (why.FreeTreesDiffer g) sound due = due
no_chunk_reason geo group levels claimed (why.FreeCount g stored found) sound due = due
no_chunk_reason geo group levels claimed (why.Extent n) sound due = due
no_chunk_reason geo group levels claimed (why.Directory n b) sound due = due
no_chunk_reason geo group levels claimed why.DirtyLog sound due = due
no_chunk_reason geo group levels claimed why.LogShape sound due = due

pub no_reason : (geo : Geometry) (i : SeenInode) (reason : Reason) → is_sound_inode geo i ≡ true → SpeaksAgainstInode geo i reason → ⊥
no_reason geo i (why.Inode n) sound due = true_is_not_false (sym sound ∙ due.1)
no_reason geo i why.Geometry sound due = due
no_reason geo i why.Feature sound due = due
no_reason geo i why.Reflink sound due = due
no_reason geo i why.ReverseMap sound due = due
no_reason geo i why.RealTime sound due = due
no_reason geo i why.ExternalLog sound due = due
no_reason geo i why.NeedsRepair sound due = due
no_reason geo i why.InProgress sound due = due
no_reason geo i (why.Checksum n) sound due = due
no_reason geo i (why.Header n) sound due = due
no_reason geo i (why.Tree g b) sound due = due
no_reason geo i (why.FreeTreesDiffer g) sound due = due
no_reason geo i (why.FreeCount g stored found) sound due = due
no_reason geo i (why.Extent n) sound due = due
no_reason geo i (why.Directory n b) sound due = due
no_reason geo i (why.ClaimedTwice n) sound due = due
no_reason geo i why.DirtyLog sound due = due
no_reason geo i why.LogShape sound due = due
