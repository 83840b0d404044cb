-- What the parts of a reading find.
use Rattle.std.specs.Prelude.{◌≡◌, ℕ, ◌+◌, ◌*◌, List}
use Rattle.xfs_super.specs.declared.reason.CheckFault.{CheckFault}
use Rattle.xfs_super.specs.declared.reason.CheckFault.TheVariants as check
use Rattle.xfs_super.specs.declared.reason.Reason.{Reason}
use Rattle.xfs_super.specs.declared.reason.Reason.TheVariants as why
use Rattle.xfs_tree.specs.declared.fault.TreeFault.{TreeFault}
use Rattle.xfs_tree.specs.declared.fault.TreeFault.TheVariants as tree
use Rattle.xfs_tree.specs.declared.free_run.ByCount.{ByCount}
use Rattle.xfs_tree.specs.declared.free_run.ByStart.{ByStart}
use Rattle.xfs_alloc.specs.Free.{free_blocks, AreSameRuns}

-- a fault of a tree, as a check names it, where groups have that many blocks
abbrev pub told : ℕ → TreeFault → CheckFault
told agblocks (tree.Checksum g b) = check.Bad (why.Tree g b)
told agblocks (tree.Header g b) = check.Bad (why.Tree g b)
told agblocks (tree.Level g b) = check.Bad (why.Tree g b)
told agblocks (tree.Order g b) = check.Bad (why.Tree g b)
told agblocks (tree.Range g b) = check.Bad (why.Tree g b)
told agblocks (tree.Marked g b) = check.Bad (why.ClaimedTwice (g * agblocks + b))
told agblocks tree.Device = check.Device
told agblocks tree.Memory = check.Memory

-- what speaks against the runs of two trees of a group, of which so many blocks are stored
abbrev pub SpeaksAgainstRuns : ℕ → ℕ → List ByStart → List ByCount → Reason → Type 0
SpeaksAgainstRuns group freeblks starts counts (why.FreeTreesDiffer g) = (g ≡ group) × (AreSameRuns starts counts → ⊥)
SpeaksAgainstRuns group freeblks starts counts (why.FreeCount g stored found) =
    (g ≡ group) × (stored ≡ freeblks) × (found ≡ free_blocks starts) × (stored ≡ found → ⊥)
SpeaksAgainstRuns group freeblks starts counts _ = ⊥

abbrev pub IsRunsFault : ℕ → ℕ → List ByStart → List ByCount → CheckFault → Type 0
IsRunsFault group freeblks starts counts (check.Bad reason) = SpeaksAgainstRuns group freeblks starts counts reason
IsRunsFault group freeblks starts counts check.Device = ⊥
IsRunsFault group freeblks starts counts check.Memory = Unit {0}
