-- What refuses a part of a volume, as what refuses the step that takes it.
use Rattle.std.proofs.Common.{ℕ, ◌+◌, ◌*◌, List, [], ◌∷◌, ◌++◌, inl, inr, refl, arith, ◌⊎◌}
use Rattle.std.specs.List.{All}
use Rattle.std.proofs.lemmas.List.Elements.{All-cons, All-nil}
use Rattle.block_claims.proofs.Agreements.{times_in-append, twice_more}
use Rattle.block_claims.specs.Agreement.{Claimed, IsTwice}
use Rattle.xfs_alloc.specs.Free.{HasFreeFault, SpeaksAgainstFree}
use Rattle.xfs_check.specs.Parts.{AreTwice, ClaimTwice, HasMeaning, Part, Chunks, ForkExtents, ForkTree, FreeInodeTree, FreeRuns, FreeTrees, InodeTree, fork_parts, part_claims}
use Rattle.xfs_check.specs.Seen.{SeenGroup, agf_seen}
use Rattle.xfs_check.specs.Valid.{HasFreeInodeTreeFault, SpeaksAgainstInodes, SpeaksAgainstSpace, unclaimed}
use Rattle.xfs_check.specs.inside.Steps.{AreTaken, IsStepRefused}
use Rattle.xfs_inode.specs.Chunks.{HasChunkFault, SpeaksAgainstChunks}
use Rattle.xfs_inode.specs.Core.{InodeFork}
use Rattle.xfs_inode.specs.ForkReading.{HasFaultInFork, SpeaksAgainstFork}
use Rattle.xfs_inode.specs.Seen.{SeenFork}
use Rattle.xfs_inode.specs.TreeFaults.{told_of_tree}
use Rattle.xfs_super.specs.Geometry.{Geometry}
use Rattle.xfs_super.specs.Headers.{IsAgf, IsAgi}
use Rattle.xfs_super.specs.declared.reason.CheckFault.{CheckFault}
use Rattle.xfs_super.specs.declared.reason.CheckFault.TheVariants as check
use Rattle.xfs_super.specs.declared.reason.Reason.{Reason}
use Rattle.xfs_super.specs.declared.reason.Reason.TheVariants as why
use Rattle.xfs_tree.specs.Marks.{AreFree, IsClaimFault}
use Rattle.xfs_tree.specs.declared.fault.TreeFault.{TreeFault}
use Rattle.xfs_tree.specs.declared.fault.TreeFault.TheVariants as tree

-- what was free among other claims is so by itself
pub free_alone : (old : ℕ → ℕ) (blocks : List ℕ) → AreFree old blocks → AreFree unclaimed blocks
free_alone old blocks free = λ n. omega (arith, free n)

-- ---- one part, and two

pub one_means : (geo : Geometry) (p : Part) → HasMeaning geo p → All (HasMeaning geo) (p ∷ [])
one_means geo p h = All-cons (HasMeaning geo) p [] h (All-nil (HasMeaning geo))

pub two_mean : (geo : Geometry) (p q : Part) → HasMeaning geo p → HasMeaning geo q → All (HasMeaning geo) (p ∷ (q ∷ []))
two_mean geo p q h k = All-cons (HasMeaning geo) p (q ∷ []) h (one_means geo q k)

pub one_taken : (geo : Geometry) (p : Part) (old new : ℕ → ℕ) → HasMeaning geo p → Claimed old (part_claims geo p) new → AreTaken geo (p ∷ []) old new
one_taken geo p old new h claimed = record { meaning = one_means geo p h; claimed = λ n. omega (arith, claimed n, times_in-append n (part_claims geo p) []) }

pub two_taken : (geo : Geometry) (p q : Part) (old new : ℕ → ℕ) → HasMeaning geo p → HasMeaning geo q → Claimed old (part_claims geo p ++ part_claims geo q) new → AreTaken geo (p ∷ (q ∷ [])) old new
two_taken geo p q old new h k claimed = record {
  meaning = two_mean geo p q h k;
  claimed = λ n. omega (arith, claimed n, times_in-append n (part_claims geo p) (part_claims geo q), times_in-append n (part_claims geo p) (part_claims geo q ++ []), times_in-append n (part_claims geo q) []);
}

one_twice : (geo : Geometry) (p : Part) (ps : List Part) (old : ℕ → ℕ) (n : ℕ) → HasMeaning geo p → IsTwice old (part_claims geo p) n → AreTwice geo old (p ∷ ps) n
one_twice geo p ps old n h twice = record { some = p ∷ []; among = inl (refl, tt); meaning = one_means geo p h; twice = twice_more old (part_claims geo p) [] n twice }

two_twice : (geo : Geometry) (p q : Part) (old : ℕ → ℕ) (n : ℕ) → HasMeaning geo p → HasMeaning geo q → IsTwice old (part_claims geo p ++ part_claims geo q) n → AreTwice geo old (p ∷ (q ∷ [])) n
two_twice geo p q old n h k twice = record {
  some = p ∷ (q ∷ []);
  among = inl (refl, inl (refl, tt));
  meaning = two_mean geo p q h k;
  twice = omega (arith, twice, times_in-append n (part_claims geo p) (part_claims geo q), times_in-append n (part_claims geo p) (part_claims geo q ++ []), times_in-append n (part_claims geo q) []);
}

-- a claim of one part
pub claim_turned : (speaks : Reason → Type 0) (geo : Geometry) (p : Part) (old : ℕ → ℕ) (fault : TreeFault) → HasMeaning geo p → IsClaimFault geo.agblocks old (part_claims geo p) fault
    → IsStepRefused speaks geo (p ∷ []) old (told_of_tree geo.agblocks fault)
claim_turned speaks geo p old (tree.Checksum g b) h due = absurd due
claim_turned speaks geo p old (tree.Header g b) h due = absurd due
claim_turned speaks geo p old (tree.Level g b) h due = absurd due
claim_turned speaks geo p old (tree.Order g b) h due = absurd due
claim_turned speaks geo p old (tree.Range g b) h due = absurd due
claim_turned speaks geo p old (tree.Marked g b) h due = inr (one_twice geo p [] old (g * geo.agblocks + b) h due)
claim_turned speaks geo p old tree.Device h due = tt
claim_turned speaks geo p old tree.Memory h due = tt

-- ---- the free space of a group

free_reason : (geo : Geometry) (x : SeenGroup) (old : ℕ → ℕ) (reason : Reason) → IsAgf geo x.number x.head.agf → SpeaksAgainstFree geo x.number (agf_seen x.head) x.free old reason
    → SpeaksAgainstSpace geo x reason ⊎ ClaimTwice geo old (FreeTrees x ∷ (FreeRuns x ∷ [])) reason
free_reason geo x old (why.Tree g b) agf due = inl (agf, due)
free_reason geo x old (why.FreeTreesDiffer g) agf due = inl (agf, due)
free_reason geo x old (why.FreeCount g stored found) agf due = inl (agf, due)
free_reason geo x old (why.ClaimedTwice n) agf (inl twice) = inr (one_twice geo (FreeTrees x) (FreeRuns x ∷ []) old n agf twice)
free_reason geo x old (why.ClaimedTwice n) agf (inr due) = inr (two_twice geo (FreeTrees x) (FreeRuns x) old n agf (agf, due.0) due.1)
free_reason geo x old _ agf due = absurd due

pub free_turned : (geo : Geometry) (x : SeenGroup) (old : ℕ → ℕ) (fault : CheckFault) → IsAgf geo x.number x.head.agf → HasFreeFault geo x.number (agf_seen x.head) x.free old fault
    → IsStepRefused (SpeaksAgainstSpace geo x) geo (FreeTrees x ∷ (FreeRuns x ∷ [])) old fault
free_turned geo x old (check.Bad reason) agf due = free_reason geo x old reason agf due
free_turned geo x old check.Device agf due = tt
free_turned geo x old check.Memory agf due = tt

-- ---- its chunks

chunk_reason : (geo : Geometry) (x : SeenGroup) (old : ℕ → ℕ) (reason : Reason) → IsAgi geo x.number x.head.agi → SpeaksAgainstChunks geo x.number x.inode_levels old reason
    → SpeaksAgainstInodes geo x reason ⊎ ClaimTwice geo old (InodeTree x ∷ (Chunks x ∷ [])) reason
chunk_reason geo x old (why.Tree g b) agi due = inl (agi, inl due)
chunk_reason geo x old (why.Inode n) agi due = inl (agi, inl due)
chunk_reason geo x old (why.ClaimedTwice n) agi (inl twice) = inr (one_twice geo (InodeTree x) (Chunks x ∷ []) old n agi twice)
chunk_reason geo x old (why.ClaimedTwice n) agi (inr due) = inr (two_twice geo (InodeTree x) (Chunks x) old n agi (agi, due.0) due.1)
chunk_reason geo x old _ agi due = absurd due

pub chunks_turned : (geo : Geometry) (x : SeenGroup) (old : ℕ → ℕ) (fault : CheckFault) → IsAgi geo x.number x.head.agi → HasChunkFault geo x.number x.inode_levels old fault
    → IsStepRefused (SpeaksAgainstInodes geo x) geo (InodeTree x ∷ (Chunks x ∷ [])) old fault
chunks_turned geo x old (check.Bad reason) agi due = chunk_reason geo x old reason agi due
chunks_turned geo x old check.Device agi due = tt
chunks_turned geo x old check.Memory agi due = tt

-- ---- the tree of its chunks with free inodes

free_inodes_twice : (geo : Geometry) (x : SeenGroup) (old : ℕ → ℕ) (g b : ℕ) → IsAgi geo x.number x.head.agi → HasFreeInodeTreeFault geo x.number x.free_inode_levels old (tree.Marked g b)
    → AreTwice geo old (FreeInodeTree x ∷ []) (g * geo.agblocks + b)
free_inodes_twice geo x old g b agi due = elim due.1 [
  | inl sparse ↦ one_twice geo (FreeInodeTree x) [] old (g * geo.agblocks + b) agi sparse.1
  | inr full ↦ one_twice geo (FreeInodeTree x) [] old (g * geo.agblocks + b) agi full.1
]

pub free_inodes_turned : (geo : Geometry) (x : SeenGroup) (old : ℕ → ℕ) (fault : TreeFault) → IsAgi geo x.number x.head.agi → HasFreeInodeTreeFault geo x.number x.free_inode_levels old fault
    → IsStepRefused (SpeaksAgainstInodes geo x) geo (FreeInodeTree x ∷ []) old (told_of_tree geo.agblocks fault)
free_inodes_turned geo x old (tree.Checksum g b) agi due = inl (agi, inr (inl (record { fault = tree.Checksum g b; names = (refl, refl); due = due })))
free_inodes_turned geo x old (tree.Header g b) agi due = inl (agi, inr (inl (record { fault = tree.Header g b; names = (refl, refl); due = due })))
free_inodes_turned geo x old (tree.Level g b) agi due = inl (agi, inr (inl (record { fault = tree.Level g b; names = (refl, refl); due = due })))
free_inodes_turned geo x old (tree.Order g b) agi due = inl (agi, inr (inl (record { fault = tree.Order g b; names = (refl, refl); due = due })))
free_inodes_turned geo x old (tree.Range g b) agi due = inl (agi, inr (inl (record { fault = tree.Range g b; names = (refl, refl); due = due })))
free_inodes_turned geo x old (tree.Marked g b) agi due = inr (free_inodes_twice geo x old g b agi due)
free_inodes_turned geo x old tree.Device agi due = tt
free_inodes_turned geo x old tree.Memory agi due = tt

-- ---- a fork of an inode

fork_twice : (geo : Geometry) (f : InodeFork) (s : SeenFork) (old : ℕ → ℕ) (n : ℕ) → SpeaksAgainstFork geo f s old (why.ClaimedTwice n) → AreTwice geo old (fork_parts f s) n
fork_twice geo f s old n due = elim due.1 [
  | inl twice ↦ one_twice geo (ForkTree f s) (ForkExtents f s ∷ []) old n due.0 twice
  | inr more ↦ two_twice geo (ForkTree f s) (ForkExtents f s) old n due.0 (due.0, more.0) more.1
]

fork_reason : (geo : Geometry) (f : InodeFork) (s : SeenFork) (old : ℕ → ℕ) (reason : Reason) → SpeaksAgainstFork geo f s old reason
    → SpeaksAgainstFork geo f s unclaimed reason ⊎ ClaimTwice geo old (fork_parts f s) reason
fork_reason geo f s old (why.Inode n) due = inl due
fork_reason geo f s old (why.Tree g b) due = inl due
fork_reason geo f s old (why.Extent n) due = inl due
fork_reason geo f s old (why.ClaimedTwice n) due = inr (fork_twice geo f s old n due)
fork_reason geo f s old _ due = absurd due

pub fork_turned : (geo : Geometry) (f : InodeFork) (s : SeenFork) (old : ℕ → ℕ) (fault : CheckFault) → HasFaultInFork geo f s old fault
    → IsStepRefused (SpeaksAgainstFork geo f s unclaimed) geo (fork_parts f s) old fault
fork_turned geo f s old (check.Bad reason) due = fork_reason geo f s old reason due
fork_turned geo f s old check.Device due = tt
fork_turned geo f s old check.Memory due = tt
