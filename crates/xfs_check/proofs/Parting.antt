-- A group that is seen, part by part.
use Rattle.std.proofs.Common.{◌≡◌, ℕ, ◌+◌, ◌*◌, List, [], ◌∷◌, map, refl}
use Rattle.block_claims.specs.Agreement.{Claimed}
use Rattle.xfs_alloc.specs.Free.{FreeSeen, HasFreeFault, IsFreeSpace, free_claims, free_seen}
use Rattle.xfs_check.proofs.Steps.{refused_first, refused_then, taken_on}
use Rattle.xfs_check.proofs.Turning.{chunks_turned, claim_turned, free_alone, free_inodes_turned, free_turned, one_taken, two_taken}
use Rattle.xfs_check.specs.Parts.{Chunks, FreeInodeTree, FreeList, FreeRuns, FreeTrees, Headers, InodeTree, Part, chunk_parts, header_claims, space_parts}
use Rattle.xfs_check.specs.Seen.{GroupHead, SeenGroup, agf_seen, agi_seen, free_inode_tree, group_of}
use Rattle.xfs_check.specs.Valid.{AreSoundInodeTrees, HasFreeInodeTreeFault, IsSoundFreeInodeTree, IsSoundHead, SpeaksAgainstInodes, SpeaksAgainstSpace, unclaimed}
use Rattle.xfs_check.specs.inside.Steps.{AreTaken, IsStepRefused}
use Rattle.xfs_inode.specs.Chunks.{AreSoundChunks, HasChunkFault, chunk_claims, inode_tree}
use Rattle.xfs_inode.specs.TreeFaults.{told_of_tree}
use Rattle.xfs_super.specs.Geometry.{Geometry}
use Rattle.xfs_super.specs.Headers.{used_entries}
use Rattle.xfs_super.specs.declared.reason.CheckFault.{CheckFault}
use Rattle.xfs_tree.specs.Block.{Sight}
use Rattle.xfs_tree.specs.Marks.{IsClaimFault}
use Rattle.xfs_tree.specs.Tree.{blocks_of}
use Rattle.xfs_tree.specs.declared.fault.TreeFault.{TreeFault}

-- what was sound among other claims is so by itself
pub space_alone : (geo : Geometry) (group : ℕ) (agf : _) (s : FreeSeen) (old : ℕ → ℕ) → IsFreeSpace geo group agf s old → IsFreeSpace geo group agf s unclaimed
space_alone geo group agf s old sound = record { trees = sound.trees; same = sound.same; counted = sound.counted; free = free_alone old (free_claims geo group s) sound.free }

module _ (geo : Geometry) (volume : ℕ → List ℕ) (group : ℕ) (head : GroupHead) (old : ℕ → ℕ) where
  abbrev x : SeenGroup
  x = group_of geo volume group head

  abbrev listed : List ℕ
  listed = map (λ b. group * geo.agblocks + b) (used_entries (agf_seen head) head.agfl)

  abbrev before : List Part
  before = Headers x ∷ (FreeList x ∷ [])

  abbrev behind : List Part
  behind = FreeTrees x ∷ (FreeRuns x ∷ [])

  heads_taken : (mid : ℕ → ℕ) → Claimed old (header_claims geo group) mid → AreTaken geo (Headers x ∷ []) old mid
  unfolding group_of
  heads_taken mid claimed = one_taken geo (Headers x) old mid tt claimed

  list_taken : (mid new : ℕ → ℕ) → IsSoundHead geo group head → Claimed mid listed new → AreTaken geo (FreeList x ∷ []) mid new
  unfolding group_of
  list_taken mid new sound claimed = one_taken geo (FreeList x) mid new (sound.agf, sound.agfl, sound.used) claimed

  both_taken : (mid new : ℕ → ℕ) → IsSoundHead geo group head → Claimed old (header_claims geo group) mid → Claimed mid listed new → AreTaken geo before old new
  both_taken mid new sound p q = taken_on geo old mid (Headers x ∷ []) new (FreeList x ∷ []) (heads_taken mid p) (list_taken mid new sound q)

  free_taken : (mid new : ℕ → ℕ) → IsSoundHead geo group head → IsFreeSpace geo group (agf_seen head) (free_seen geo group (agf_seen head) volume) mid
      → Claimed mid (free_claims geo group (free_seen geo group (agf_seen head) volume)) new → AreTaken geo behind mid new
  unfolding group_of
  free_taken mid new sound space claimed = two_taken geo (FreeTrees x) (FreeRuns x) mid new sound.agf (sound.agf, space.trees.starts) claimed

  pub space_taken : (one mid new : ℕ → ℕ) → IsSoundHead geo group head → Claimed old (header_claims geo group) one → Claimed one listed mid
      → IsFreeSpace geo group (agf_seen head) (free_seen geo group (agf_seen head) volume) mid → Claimed mid (free_claims geo group (free_seen geo group (agf_seen head) volume)) new
      → AreTaken geo (space_parts x) old new
  space_taken one mid new sound p q space r = taken_on geo old mid before new behind (both_taken one mid sound p q) (free_taken mid new sound space r)

  -- and what refuses a part of it
  pub headers_refused : (fault : TreeFault) → IsClaimFault geo.agblocks old (header_claims geo group) fault → IsStepRefused (SpeaksAgainstSpace geo x) geo (space_parts x) old (told_of_tree geo.agblocks fault)
  unfolding group_of
  headers_refused fault due =
      refused_first geo old (Headers x ∷ []) (SpeaksAgainstSpace geo x) (SpeaksAgainstSpace geo x) (FreeList x ∷ behind) _ (λ r h. h) (claim_turned (SpeaksAgainstSpace geo x) geo (Headers x) old fault tt due)

  list_turned : (mid : ℕ → ℕ) (fault : TreeFault) → IsSoundHead geo group head → IsClaimFault geo.agblocks mid listed fault → IsStepRefused (SpeaksAgainstSpace geo x) geo (FreeList x ∷ []) mid (told_of_tree geo.agblocks fault)
  unfolding group_of
  list_turned mid fault sound due = claim_turned (SpeaksAgainstSpace geo x) geo (FreeList x) mid fault (sound.agf, sound.agfl, sound.used) due

  pub list_refused : (mid : ℕ → ℕ) (fault : TreeFault) → IsSoundHead geo group head → Claimed old (header_claims geo group) mid → IsClaimFault geo.agblocks mid listed fault
      → IsStepRefused (SpeaksAgainstSpace geo x) geo (space_parts x) old (told_of_tree geo.agblocks fault)
  list_refused mid fault sound p due =
      refused_then geo old mid (Headers x ∷ []) (SpeaksAgainstSpace geo x) (SpeaksAgainstSpace geo x) (FreeList x ∷ behind) _ (heads_taken mid p) (λ r h. h)
      (refused_first geo mid (FreeList x ∷ []) (SpeaksAgainstSpace geo x) (SpeaksAgainstSpace geo x) behind _ (λ r h. h) (list_turned mid fault sound due))

  runs_turned : (mid : ℕ → ℕ) (fault : CheckFault) → IsSoundHead geo group head → HasFreeFault geo group (agf_seen head) (free_seen geo group (agf_seen head) volume) mid fault → IsStepRefused (SpeaksAgainstSpace geo x) geo behind mid fault
  unfolding group_of
  runs_turned mid fault sound due = free_turned geo x mid fault sound.agf due

  pub free_refused : (one mid : ℕ → ℕ) (fault : CheckFault) → IsSoundHead geo group head → Claimed old (header_claims geo group) one → Claimed one listed mid
      → HasFreeFault geo group (agf_seen head) (free_seen geo group (agf_seen head) volume) mid fault → IsStepRefused (SpeaksAgainstSpace geo x) geo (space_parts x) old fault
  free_refused one mid fault sound p q due =
      refused_then geo old mid before (SpeaksAgainstSpace geo x) (SpeaksAgainstSpace geo x) behind fault (both_taken one mid sound p q) (λ r h. h) (runs_turned mid fault sound due)

  pub free_is : x.free ≡ free_seen geo group (agf_seen head) volume
  unfolding group_of
  free_is = refl

-- ---- its chunks

chunks_alone : (geo : Geometry) (group : ℕ) (levels : List (List Sight)) (old : ℕ → ℕ) → AreSoundChunks geo group levels old → AreSoundChunks geo group levels unclaimed
chunks_alone geo group levels old sound = record { tree = sound.tree; chunks = sound.chunks; free = free_alone old (chunk_claims geo group levels) sound.free }

module _ (geo : Geometry) (volume : ℕ → List ℕ) (group : ℕ) (head : GroupHead) (old mid : ℕ → ℕ) where
  abbrev y : SeenGroup
  y = group_of geo volume group head

  abbrev levels : List (List Sight)
  levels = inode_tree geo group (agi_seen head) volume

  abbrev frees : List (List Sight)
  frees = free_inode_tree geo group (agi_seen head) volume

  abbrev with_chunks : List Part
  with_chunks = InodeTree y ∷ (Chunks y ∷ [])

  with_chunks_taken : IsSoundHead geo group head → AreSoundChunks geo group levels old → Claimed old (chunk_claims geo group levels) mid → AreTaken geo with_chunks old mid
  unfolding group_of
  with_chunks_taken sound chunks claimed = two_taken geo (InodeTree y) (Chunks y) old mid sound.agi (sound.agi, chunks.chunks) claimed

  frees_taken : (new : ℕ → ℕ) → IsSoundHead geo group head → Claimed mid (blocks_of frees) new → AreTaken geo (FreeInodeTree y ∷ []) mid new
  unfolding group_of
  frees_taken new sound claimed = one_taken geo (FreeInodeTree y) mid new sound.agi claimed

  pub chunks_taken : (new : ℕ → ℕ) → IsSoundHead geo group head → AreSoundChunks geo group levels old → Claimed old (chunk_claims geo group levels) mid → Claimed mid (blocks_of frees) new → AreTaken geo (chunk_parts y) old new
  chunks_taken new sound chunks p q = taken_on geo old mid with_chunks new (FreeInodeTree y ∷ []) (with_chunks_taken sound chunks p) (frees_taken new sound q)

  chunks_fault : (fault : CheckFault) → IsSoundHead geo group head → HasChunkFault geo group levels old fault → IsStepRefused (SpeaksAgainstInodes geo y) geo with_chunks old fault
  unfolding group_of
  chunks_fault fault sound due = chunks_turned geo y old fault sound.agi due

  pub chunks_refused : (fault : CheckFault) → IsSoundHead geo group head → HasChunkFault geo group levels old fault → IsStepRefused (SpeaksAgainstInodes geo y) geo (chunk_parts y) old fault
  chunks_refused fault sound due = refused_first geo old with_chunks (SpeaksAgainstInodes geo y) (SpeaksAgainstInodes geo y) (FreeInodeTree y ∷ []) fault (λ r h. h) (chunks_fault fault sound due)

  frees_fault : (fault : TreeFault) → IsSoundHead geo group head → HasFreeInodeTreeFault geo group frees mid fault → IsStepRefused (SpeaksAgainstInodes geo y) geo (FreeInodeTree y ∷ []) mid (told_of_tree geo.agblocks fault)
  unfolding group_of
  frees_fault fault sound due = free_inodes_turned geo y mid fault sound.agi due

  pub frees_refused : (fault : TreeFault) → IsSoundHead geo group head → AreSoundChunks geo group levels old → Claimed old (chunk_claims geo group levels) mid → HasFreeInodeTreeFault geo group frees mid fault
      → IsStepRefused (SpeaksAgainstInodes geo y) geo (chunk_parts y) old (told_of_tree geo.agblocks fault)
  frees_refused fault sound chunks p due =
      refused_then geo old mid with_chunks (SpeaksAgainstInodes geo y) (SpeaksAgainstInodes geo y) (FreeInodeTree y ∷ []) (told_of_tree geo.agblocks fault) (with_chunks_taken sound chunks p) (λ r h. h) (frees_fault fault sound due)

  pub trees_sound : AreSoundChunks geo group levels old → IsSoundFreeInodeTree geo group frees → AreSoundInodeTrees geo y
  unfolding group_of
  trees_sound chunks free = record { chunks = chunks_alone geo group levels old chunks; free = free }

  pub levels_are : y.inode_levels ≡ levels
  unfolding group_of
  levels_are = refl
