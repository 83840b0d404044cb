-- The free space of a group: what is seen of its two trees, and why they are refused. A volume is a function from a
-- block's number to its bytes.
use Rattle.std.specs.Prelude.{◌≡◌, ℕ, ◌+◌, ◌-◌, ◌*◌, ◌==◌, ◌&&◌, List, [], ◌∷◌, ◌++◌, count_by, sum_by, ◌⊎◌}
use Rattle.std.specs.List.{flat_map, range_with_len}
use Rattle.block_claims.specs.Agreement.{block, IsTwice}
use Rattle.xfs_super.specs.Geometry.{Geometry}
use Rattle.xfs_super.specs.Super.{geometry_of}
use Rattle.xfs_super.specs.declared.agf.Agf.{Agf}
use Rattle.xfs_super.specs.declared.geometry.Super.{Super}
use Rattle.xfs_super.specs.declared.reason.CheckFault.{CheckFault}
use Rattle.xfs_super.specs.declared.reason.CheckFault.TheVariants as check
use Rattle.xfs_super.specs.declared.reason.Reason.{Reason}
use Rattle.xfs_super.specs.declared.reason.Reason.TheVariants as why
use Rattle.xfs_tree.specs.Block.{Sight}
use Rattle.xfs_tree.specs.Form.{Form, Setting, setting_of}
use Rattle.xfs_tree.specs.Marks.{Claims, marked, AreFree, AreClaimed}
use Rattle.xfs_tree.specs.Records.{by_start, by_count}
use Rattle.xfs_tree.specs.Tree.{levels_below, blocks_of, records_of, IsSoundTree, HasTreeFault}
use Rattle.xfs_tree.specs.declared.fault.TreeFault.{TreeFault}
use Rattle.xfs_tree.specs.declared.fault.TreeFault.TheVariants as tree
use Rattle.xfs_tree.specs.declared.free_run.ByCount.{ByCount}
use Rattle.xfs_tree.specs.declared.free_run.ByStart.{ByStart}

-- ---- what is seen

-- the levels of the tree by start and of the tree by count
pub record FreeSeen : Type 0 where
  pub starts : List (List Sight)
  pub counts : List (List Sight)

abbrev pub group_setting : {R : Type 0} → Form R → Geometry → ℕ → Setting R
group_setting form geo group = setting_of form geo group group

-- a tree of the group whose root is that block of it, and which has so many levels
abbrev pub tree_seen : {R : Type 0} → Form R → Geometry → ℕ → (ℕ → List ℕ) → ℕ → ℕ → List (List Sight)
tree_seen form geo group volume root level =
    levels_below (group_setting form geo group) volume (level - 1) 0 ((group * geo.agblocks + root) ∷ [])

-- the two trees, whose roots and heights the AGF has
abbrev pub free_seen : Geometry → ℕ → Agf → (ℕ → List ℕ) → FreeSeen
free_seen geo group agf volume = record {
  starts = tree_seen by_start geo group volume agf.bno_root agf.bno_level;
  counts = tree_seen by_count geo group volume agf.cnt_root agf.cnt_level;
}

-- the runs that they hold
abbrev pub start_runs : Geometry → ℕ → FreeSeen → List ByStart
start_runs geo group s = records_of (group_setting by_start geo group) s.starts

abbrev pub count_runs : Geometry → ℕ → FreeSeen → List ByCount
count_runs geo group s = records_of (group_setting by_count geo group) s.counts

-- how often a run stands among them
abbrev pub start_times : ℕ → ℕ → List ByStart → ℕ
start_times start count runs = count_by (λ r. r.start == start && r.count == count) runs

abbrev pub count_times : ℕ → ℕ → List ByCount → ℕ
count_times start count runs = count_by (λ r. r.start == start && r.count == count) runs

-- each run stands as often among the ones as among the others
abbrev pub AreSameRuns : List ByStart → List ByCount → Type 0
AreSameRuns xs ys = (start count : ℕ) → start_times start count xs ≡ count_times start count ys

-- how many blocks they have
abbrev pub free_blocks : List ByStart → ℕ
free_blocks runs = sum_by (λ r. r.count) runs

-- the blocks of a run, by their numbers in the volume
abbrev pub run_blocks : Geometry → ℕ → ByStart → List ℕ
run_blocks geo group r = range_with_len (group * geo.agblocks + r.start) r.count

abbrev pub runs_blocks : Geometry → ℕ → List ByStart → List ℕ
runs_blocks geo group runs = flat_map (run_blocks geo group) runs

-- what the group claims by its free space: the blocks of the trees, and those of the runs
abbrev pub tree_claims : FreeSeen → List ℕ
tree_claims s = blocks_of s.starts ++ blocks_of s.counts

abbrev pub free_claims : Geometry → ℕ → FreeSeen → List ℕ
free_claims geo group s = tree_claims s ++ runs_blocks geo group (start_runs geo group s)

-- ---- when it is sound, and which reasons speak against it

-- both trees are sound
pub record AreSoundTrees (geo : Geometry) (group : ℕ) (s : FreeSeen) : Type 0 where
  pub starts : IsSoundTree (group_setting by_start geo group) geo s.starts
  pub counts : IsSoundTree (group_setting by_count geo group) geo s.counts

-- the trees are sound and hold the same runs, the AGF has the number of their blocks, and nothing is claimed twice
pub record IsFreeSpace (geo : Geometry) (group : ℕ) (agf : Agf) (s : FreeSeen) (claimed : ℕ → ℕ) : Type 0 where
  pub trees : AreSoundTrees geo group s
  pub same : AreSameRuns (start_runs geo group s) (count_runs geo group s)
  pub counted : agf.freeblks ≡ free_blocks (start_runs geo group s)
  pub free : AreFree claimed (free_claims geo group s)

-- a fault names that block, and speaks of the block itself
abbrev pub NamesBlock : ℕ → ℕ → TreeFault → Type 0
NamesBlock g b (tree.Checksum h k) = (h ≡ g) × (k ≡ b)
NamesBlock g b (tree.Header h k) = (h ≡ g) × (k ≡ b)
NamesBlock g b (tree.Level h k) = (h ≡ g) × (k ≡ b)
NamesBlock g b (tree.Order h k) = (h ≡ g) × (k ≡ b)
NamesBlock g b (tree.Range h k) = (h ≡ g) × (k ≡ b)
NamesBlock g b (tree.Marked h k) = ⊥
NamesBlock g b tree.Device = ⊥
NamesBlock g b tree.Memory = ⊥

-- a tree has such a fault there
pub record IsBadTree {R : Type 0} (t : Setting R) (geo : Geometry) (levels : List (List Sight)) (g b : ℕ) : Type 0 where
  pub fault : TreeFault
  pub names : NamesBlock g b fault
  pub holds : HasTreeFault t geo levels (λ n. 0) fault

-- the trees are sound, and one has a run that the other hasn't
pub record DoDiffer (geo : Geometry) (group : ℕ) (s : FreeSeen) (g : ℕ) : Type 0 where
  pub named : g ≡ group
  pub trees : AreSoundTrees geo group s
  pub differ : AreSameRuns (start_runs geo group s) (count_runs geo group s) → ⊥

-- the tree by start is sound, and the AGF has another number of blocks than its runs
pub record IsMiscounted (geo : Geometry) (group : ℕ) (agf : Agf) (s : FreeSeen) (g stored found : ℕ) : Type 0 where
  pub named : g ≡ group
  pub starts : IsSoundTree (group_setting by_start geo group) geo s.starts
  pub stored_is : stored ≡ agf.freeblks
  pub found_is : found ≡ free_blocks (start_runs geo group s)
  pub differ : stored ≡ found → ⊥

-- block n is claimed twice by the trees, or the tree by start is sound and it is by them and its runs
abbrev pub HasTwice : Geometry → ℕ → FreeSeen → (ℕ → ℕ) → ℕ → Type 0
HasTwice geo group s claimed n =
    IsTwice claimed (tree_claims s) n
    ⊎ (IsSoundTree (group_setting by_start geo group) geo s.starts × IsTwice claimed (free_claims geo group s) n)

abbrev pub SpeaksAgainstFree : Geometry → ℕ → Agf → FreeSeen → (ℕ → ℕ) → Reason → Type 0
SpeaksAgainstFree geo group agf s claimed (why.Tree g b) =
    IsBadTree (group_setting by_start geo group) geo s.starts g b ⊎ IsBadTree (group_setting by_count geo group) geo s.counts g b
SpeaksAgainstFree geo group agf s claimed (why.FreeTreesDiffer g) = DoDiffer geo group s g
SpeaksAgainstFree geo group agf s claimed (why.FreeCount g stored found) = IsMiscounted geo group agf s g stored found
SpeaksAgainstFree geo group agf s claimed (why.ClaimedTwice n) = HasTwice geo group s claimed n
SpeaksAgainstFree geo group agf s claimed _ = ⊥

abbrev pub HasFreeFault : Geometry → ℕ → Agf → FreeSeen → (ℕ → ℕ) → CheckFault → Type 0
HasFreeFault geo group agf s claimed (check.Bad reason) = SpeaksAgainstFree geo group agf s claimed reason
HasFreeFault geo group agf s claimed check.Device = Unit {0}
HasFreeFault geo group agf s claimed check.Memory = Unit {0}

-- ---- the same of a volume on an image, where some blocks are claimed

abbrev pub free_on : Super → ℕ → Agf → List ℕ → FreeSeen
free_on geo group agf image = free_seen (geometry_of geo) group agf (block image)

abbrev pub IsFreeOn : Super → ℕ → Agf → List ℕ → Claims → Type 0
IsFreeOn geo group agf image claimed =
    IsFreeSpace (geometry_of geo) group agf (free_on geo group agf image) (marked geo.agblocks claimed)

abbrev pub HasFaultOn : Super → ℕ → Agf → List ℕ → Claims → CheckFault → Type 0
HasFaultOn geo group agf image claimed =
    HasFreeFault (geometry_of geo) group agf (free_on geo group agf image) (marked geo.agblocks claimed)

abbrev pub FreeClaimed : Super → ℕ → Agf → List ℕ → Claims → Claims → Type 0
FreeClaimed geo group agf image old new =
    AreClaimed geo old (free_claims (geometry_of geo) group (free_on geo group agf image)) new
