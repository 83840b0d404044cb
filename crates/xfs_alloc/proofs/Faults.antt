-- The faults of the two trees of a group, of their runs and of the claims, as reasons of the check.
use Rattle.std.proofs.Common.{◌≡◌, ℕ, ◌+◌, ◌*◌, List, inl, inr, refl, sym, ap, subst, ◌∙◌, arith}
use Rattle.block_claims.specs.Agreement.{Claimed}
use Rattle.block_claims.proofs.Agreements.{claimed_on, twice_on, twice_more, times_in-append}
use Rattle.xfs_super.specs.Geometry.{Geometry}
use Rattle.xfs_super.specs.declared.agf.Agf.{Agf}
use Rattle.xfs_super.specs.declared.reason.CheckFault.{CheckFault}
use Rattle.xfs_super.specs.declared.reason.CheckFault.TheVariants as check
use Rattle.xfs_super.specs.declared.reason.Reason.{Reason}
use Rattle.xfs_super.specs.declared.reason.Reason.TheVariants as why
use Rattle.xfs_tree.specs.Form.{Setting}
use Rattle.xfs_tree.specs.Block.{Sight}
use Rattle.xfs_tree.specs.Marks.{Claims, marked, IsClaimFault}
use Rattle.xfs_tree.proofs.Claims.{claimed_free}
use Rattle.xfs_tree.specs.declared.free_run.ByCount.{ByCount}
use Rattle.xfs_tree.specs.declared.free_run.ByStart.{ByStart}
use Rattle.xfs_tree.specs.Records.{by_start, by_count}
use Rattle.xfs_tree.specs.Tree.{blocks_of, all_sights, leaves_of, IsSoundTree, HasTreeFault}
use Rattle.xfs_tree.proofs.TreeLaws.{sound_excludes, in_order_excludes}
use Rattle.xfs_tree.specs.declared.fault.TreeFault.{TreeFault}
use Rattle.xfs_tree.specs.declared.fault.TreeFault.TheVariants as tree
use Rattle.xfs_alloc.specs.Free.{FreeSeen, group_setting, start_runs, count_runs, free_blocks, AreSameRuns, runs_blocks, tree_claims, free_claims, AreSoundTrees, NamesBlock, IsBadTree, IsFreeSpace, SpeaksAgainstFree, HasFreeFault}
use Rattle.xfs_alloc.specs.inside.Telling.{told, SpeaksAgainstRuns, IsRunsFault}

-- the tree by start is refused
pub start_fault : (geo : Geometry) (group : ℕ) (agf : Agf) (s : FreeSeen) (old : ℕ → ℕ) (fault : TreeFault)
    → HasTreeFault (group_setting by_start geo group) geo s.starts old fault → HasFreeFault geo group agf s old (told geo.agblocks fault)
start_fault geo group agf s old (tree.Checksum g b) due = inl (record { fault = tree.Checksum g b; names = (refl, refl); holds = due })
start_fault geo group agf s old (tree.Header g b) due = inl (record { fault = tree.Header g b; names = (refl, refl); holds = due })
start_fault geo group agf s old (tree.Level g b) due = inl (record { fault = tree.Level g b; names = (refl, refl); holds = due })
start_fault geo group agf s old (tree.Order g b) due = inl (record { fault = tree.Order g b; names = (refl, refl); holds = due })
start_fault geo group agf s old (tree.Range g b) due = inl (record { fault = tree.Range g b; names = (refl, refl); holds = due })
start_fault geo group agf s old (tree.Marked g b) due = inl (twice_more old (blocks_of s.starts) (blocks_of s.counts) (g * geo.agblocks + b) due)
start_fault geo group agf s old tree.Device due = tt
start_fault geo group agf s old tree.Memory due = tt

-- the tree by count is, after the blocks of the other one were claimed
pub count_fault : (geo : Geometry) (group : ℕ) (agf : Agf) (s : FreeSeen) (old mid : ℕ → ℕ) (fault : TreeFault) → Claimed old (blocks_of s.starts) mid
    → HasTreeFault (group_setting by_count geo group) geo s.counts mid fault → HasFreeFault geo group agf s old (told geo.agblocks fault)
count_fault geo group agf s old mid (tree.Checksum g b) claimed due = inr (record { fault = tree.Checksum g b; names = (refl, refl); holds = due })
count_fault geo group agf s old mid (tree.Header g b) claimed due = inr (record { fault = tree.Header g b; names = (refl, refl); holds = due })
count_fault geo group agf s old mid (tree.Level g b) claimed due = inr (record { fault = tree.Level g b; names = (refl, refl); holds = due })
count_fault geo group agf s old mid (tree.Order g b) claimed due = inr (record { fault = tree.Order g b; names = (refl, refl); holds = due })
count_fault geo group agf s old mid (tree.Range g b) claimed due = inr (record { fault = tree.Range g b; names = (refl, refl); holds = due })
count_fault geo group agf s old mid (tree.Marked g b) claimed due = inl (twice_on old mid (blocks_of s.starts) (blocks_of s.counts) (g * geo.agblocks + b) claimed due)
count_fault geo group agf s old mid tree.Device claimed due = tt
count_fault geo group agf s old mid tree.Memory claimed due = tt

-- the runs are refused
speaks_of_runs : (geo : Geometry) (group : ℕ) (agf : Agf) (s : FreeSeen) (old : ℕ → ℕ) (reason : Reason) → AreSoundTrees geo group s
    → SpeaksAgainstRuns group agf.freeblks (start_runs geo group s) (count_runs geo group s) reason → SpeaksAgainstFree geo group agf s old reason
speaks_of_runs geo group agf s old (why.FreeTreesDiffer g) trees due = record { named = due.0; trees = trees; differ = due.1 }
speaks_of_runs geo group agf s old (why.FreeCount g stored found) trees due = record { named = due.0; starts = trees.starts; stored_is = due.1; found_is = due.2; differ = due.3 }
speaks_of_runs geo group agf s old why.Geometry trees due = absurd due
speaks_of_runs geo group agf s old why.Feature trees due = absurd due
speaks_of_runs geo group agf s old why.Reflink trees due = absurd due
speaks_of_runs geo group agf s old why.ReverseMap trees due = absurd due
speaks_of_runs geo group agf s old why.RealTime trees due = absurd due
speaks_of_runs geo group agf s old why.ExternalLog trees due = absurd due
speaks_of_runs geo group agf s old why.NeedsRepair trees due = absurd due
speaks_of_runs geo group agf s old why.InProgress trees due = absurd due
speaks_of_runs geo group agf s old (why.Checksum n) trees due = absurd due
speaks_of_runs geo group agf s old (why.Header n) trees due = absurd due
speaks_of_runs geo group agf s old (why.Tree g b) trees due = absurd due
speaks_of_runs geo group agf s old (why.Inode n) trees due = absurd due
speaks_of_runs geo group agf s old (why.Extent n) trees due = absurd due
speaks_of_runs geo group agf s old (why.Directory n b) trees due = absurd due
speaks_of_runs geo group agf s old (why.ClaimedTwice n) trees due = absurd due
speaks_of_runs geo group agf s old why.DirtyLog trees due = absurd due
speaks_of_runs geo group agf s old why.LogShape trees due = absurd due

pub runs_fault : (geo : Geometry) (group : ℕ) (agf : Agf) (s : FreeSeen) (old : ℕ → ℕ) (fault : CheckFault) → AreSoundTrees geo group s
    → IsRunsFault group agf.freeblks (start_runs geo group s) (count_runs geo group s) fault → HasFreeFault geo group agf s old fault
runs_fault geo group agf s old (check.Bad reason) trees due = speaks_of_runs geo group agf s old reason trees due
runs_fault geo group agf s old check.Device trees due = tt
runs_fault geo group agf s old check.Memory trees due = tt

-- a block of the runs was claimed before
pub claim_fault : (geo : Geometry) (group : ℕ) (agf : Agf) (s : FreeSeen) (old mid : ℕ → ℕ) (fault : TreeFault) → AreSoundTrees geo group s → Claimed old (tree_claims s) mid
    → IsClaimFault geo.agblocks mid (runs_blocks geo group (start_runs geo group s)) fault → HasFreeFault geo group agf s old (told geo.agblocks fault)
claim_fault geo group agf s old mid (tree.Checksum g b) trees claimed due = absurd due
claim_fault geo group agf s old mid (tree.Header g b) trees claimed due = absurd due
claim_fault geo group agf s old mid (tree.Level g b) trees claimed due = absurd due
claim_fault geo group agf s old mid (tree.Order g b) trees claimed due = absurd due
claim_fault geo group agf s old mid (tree.Range g b) trees claimed due = absurd due
claim_fault geo group agf s old mid (tree.Marked g b) trees claimed due =
    inr (trees.starts, twice_on old mid (tree_claims s) (runs_blocks geo group (start_runs geo group s)) (g * geo.agblocks + b) claimed due)
claim_fault geo group agf s old mid tree.Device trees claimed due = tt
claim_fault geo group agf s old mid tree.Memory trees claimed due = tt

-- ---- the laws

sound_tree_excludes : {R : Type 0} (t : Setting R) (geo : Geometry) (levels : List (List Sight)) (claimed : ℕ → ℕ) (fault : TreeFault) (g b : ℕ) → IsSoundTree t geo levels → NamesBlock g b fault → HasTreeFault t geo levels claimed fault → ⊥
sound_tree_excludes t geo levels claimed (tree.Checksum h k) g b sound names due = sound_excludes t geo (all_sights levels) (tree.Checksum h k) sound.blocks due
sound_tree_excludes t geo levels claimed (tree.Header h k) g b sound names due = sound_excludes t geo (all_sights levels) (tree.Header h k) sound.blocks due
sound_tree_excludes t geo levels claimed (tree.Level h k) g b sound names due = sound_excludes t geo (all_sights levels) (tree.Level h k) sound.blocks due
sound_tree_excludes t geo levels claimed (tree.Range h k) g b sound names due = sound_excludes t geo (all_sights levels) (tree.Range h k) sound.blocks due
sound_tree_excludes t geo levels claimed (tree.Order h k) g b sound names (inl due) = sound_excludes t geo (all_sights levels) (tree.Order h k) sound.blocks due
sound_tree_excludes t geo levels claimed (tree.Order h k) g b sound names (inr due) = in_order_excludes t (leaves_of levels) h k sound.order due
sound_tree_excludes t geo levels claimed (tree.Marked h k) g b sound names due = names
sound_tree_excludes t geo levels claimed tree.Device g b sound names due = names
sound_tree_excludes t geo levels claimed tree.Memory g b sound names due = names

bad_tree_excludes : {R : Type 0} (t : Setting R) (geo : Geometry) (levels : List (List Sight)) (g b : ℕ) → IsSoundTree t geo levels → IsBadTree t geo levels g b → ⊥
bad_tree_excludes t geo levels g b sound bad = sound_tree_excludes t geo levels (λ n. 0) bad.fault g b sound bad.names bad.holds

pub no_reason : (geo : Geometry) (group : ℕ) (agf : Agf) (s : FreeSeen) (claimed : ℕ → ℕ) (reason : Reason) → IsFreeSpace geo group agf s claimed → SpeaksAgainstFree geo group agf s claimed reason → ⊥
no_reason geo group agf s claimed (why.Tree g b) free (inl due) = bad_tree_excludes (group_setting by_start geo group) geo s.starts g b free.trees.starts due
no_reason geo group agf s claimed (why.Tree g b) free (inr due) = bad_tree_excludes (group_setting by_count geo group) geo s.counts g b free.trees.counts due
no_reason geo group agf s claimed (why.FreeTreesDiffer g) free due = due.differ free.same
no_reason geo group agf s claimed (why.FreeCount g stored found) free due = due.differ (due.stored_is ∙ free.counted ∙ sym due.found_is)
no_reason geo group agf s claimed (why.ClaimedTwice n) free (inl due) =
    omega (arith, free.free n, due, times_in-append n (tree_claims s) (runs_blocks geo group (start_runs geo group s)))
no_reason geo group agf s claimed (why.ClaimedTwice n) free (inr due) = omega (arith, free.free n, due.1)
no_reason geo group agf s claimed why.Geometry free due = due
no_reason geo group agf s claimed why.Feature free due = due
no_reason geo group agf s claimed why.Reflink free due = due
no_reason geo group agf s claimed why.ReverseMap free due = due
no_reason geo group agf s claimed why.RealTime free due = due
no_reason geo group agf s claimed why.ExternalLog free due = due
no_reason geo group agf s claimed why.NeedsRepair free due = due
no_reason geo group agf s claimed why.InProgress free due = due
no_reason geo group agf s claimed (why.Checksum n) free due = due
no_reason geo group agf s claimed (why.Header n) free due = due
no_reason geo group agf s claimed (why.Inode n) free due = due
no_reason geo group agf s claimed (why.Extent n) free due = due
no_reason geo group agf s claimed (why.Directory n b) free due = due
no_reason geo group agf s claimed why.DirtyLog free due = due
no_reason geo group agf s claimed why.LogShape free due = due

-- the same of lists that are those runs
pub runs_fault_on : (geo : Geometry) (group : ℕ) (agf : Agf) (s : FreeSeen) (old : ℕ → ℕ) (xs : List ByStart) (ys : List ByCount) (fault : CheckFault) → xs ≡ start_runs geo group s → ys ≡ count_runs geo group s → AreSoundTrees geo group s
    → IsRunsFault group agf.freeblks xs ys fault → HasFreeFault geo group agf s old fault
runs_fault_on geo group agf s old xs ys fault is are trees due =
    runs_fault geo group agf s old fault trees
    (subst (λ (l : List ByCount). IsRunsFault group agf.freeblks (start_runs geo group s) l fault) are (subst (λ (l : List ByStart). IsRunsFault group agf.freeblks l ys fault) is due))

pub claim_fault_on : (geo : Geometry) (group : ℕ) (agf : Agf) (s : FreeSeen) (old mid : ℕ → ℕ) (xs : List ByStart) (fault : TreeFault) → xs ≡ start_runs geo group s → AreSoundTrees geo group s → Claimed old (tree_claims s) mid
    → IsClaimFault geo.agblocks mid (runs_blocks geo group xs) fault → HasFreeFault geo group agf s old (told geo.agblocks fault)
claim_fault_on geo group agf s old mid xs fault is trees claimed due =
    claim_fault geo group agf s old mid fault trees claimed (subst (λ (l : List ByStart). IsClaimFault geo.agblocks mid (runs_blocks geo group l) fault) is due)

pub all_claimed : (geo : Geometry) (group : ℕ) (s : FreeSeen) (old mid new : ℕ → ℕ) (xs : List ByStart) → xs ≡ start_runs geo group s → Claimed old (tree_claims s) mid → Claimed mid (runs_blocks geo group xs) new → Claimed old (free_claims geo group s) new
all_claimed geo group s old mid new xs is p q =
    claimed_on old mid new (tree_claims s) (runs_blocks geo group (start_runs geo group s)) p (subst (λ (l : List ByStart). Claimed mid (runs_blocks geo group l) new) is q)

pub free_space_is : (geo : Geometry) (group : ℕ) (agf : Agf) (s : FreeSeen) (old : ℕ → ℕ) (new : Claims) (xs : List ByStart) (ys : List ByCount) → xs ≡ start_runs geo group s → ys ≡ count_runs geo group s → AreSoundTrees geo group s
    → AreSameRuns xs ys → agf.freeblks ≡ free_blocks xs → Claimed old (free_claims geo group s) (marked geo.agblocks new) → IsFreeSpace geo group agf s old
free_space_is geo group agf s old new xs ys is are trees same counted claimed = record {
  trees = trees;
  same = subst (λ (l : List ByCount). AreSameRuns (start_runs geo group s) l) are (subst (λ (l : List ByStart). AreSameRuns l ys) is same);
  counted = counted ∙ ap (λ (l : List ByStart). free_blocks l) is;
  free = claimed_free old geo.agblocks new (free_claims geo group s) claimed;
}
