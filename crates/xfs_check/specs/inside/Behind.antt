-- What is judged of a volume behind its superblock.
use Rattle.std.specs.Prelude.{◌≡◌, ℕ, true, List, [], ◌∷◌, ◌++◌, ◌⊎◌}
use Rattle.std.specs.List.{All}
use Rattle.block_claims.specs.Agreement.{StandApart}
use Rattle.xfs_check.specs.Parts.{ClaimTwice, LogBlocks, Part, groups_parts, parts_claims}
use Rattle.xfs_check.specs.Seen.{SeenGroup, inodes_of_groups}
use Rattle.xfs_check.specs.Valid.{HasBadGroup, IsSoundGroup, LacksRoot, has_root, unclaimed}
use Rattle.xfs_log.specs.Log.{IsCleanLog, SpeaksAgainstLog}
use Rattle.xfs_super.specs.Geometry.{Geometry}
use Rattle.xfs_super.specs.declared.reason.CheckFault.{CheckFault}
use Rattle.xfs_super.specs.declared.reason.CheckFault.TheVariants as check

abbrev pub all_parts : Geometry → List SeenGroup → List Part
all_parts geo groups = groups_parts geo groups ++ (LogBlocks ∷ [])

pub record IsSoundBehind (geo : Geometry) (groups : List SeenGroup) (log : List (List ℕ)) : Type 0 where
  pub sound : All (IsSoundGroup geo) groups
  pub root : has_root geo (inodes_of_groups groups) ≡ true
  pub apart : StandApart (parts_claims geo (all_parts geo groups))
  pub clean : IsCleanLog log

abbrev pub HasFaultBehind : Geometry → List SeenGroup → List (List ℕ) → CheckFault → Type 0
HasFaultBehind geo groups log (check.Bad reason) =
    HasBadGroup geo groups reason
    ⊎ (LacksRoot geo groups reason ⊎ (ClaimTwice geo unclaimed (all_parts geo groups) reason ⊎ SpeaksAgainstLog log reason))
HasFaultBehind geo groups log check.Device = Unit {0}
HasFaultBehind geo groups log check.Memory = Unit {0}
