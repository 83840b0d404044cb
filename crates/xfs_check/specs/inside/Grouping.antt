-- Groups that are judged, one after the other.
use Rattle.std.specs.Prelude.{ℕ, List}
use Rattle.std.specs.List.{All}
use Rattle.xfs_check.specs.Parts.{groups_parts}
use Rattle.xfs_check.specs.Seen.{SeenGroup}
use Rattle.xfs_check.specs.Valid.{HasBadGroup, IsSoundGroup}
use Rattle.xfs_check.specs.Volume.{GroupSpace}
use Rattle.xfs_check.specs.declared.group.Group.{Group}
use Rattle.xfs_check.specs.inside.Steps.{AreTaken, IsStepRefused}
use Rattle.xfs_super.specs.Geometry.{Geometry}
use Rattle.xfs_super.specs.declared.reason.CheckFault.{CheckFault}

pub record AreGroupsChecked (geo : Geometry) (groups : List SeenGroup) (old new : ℕ → ℕ) : Type 0 where
  pub sound : All (IsSoundGroup geo) groups
  pub taken : AreTaken geo (groups_parts geo groups) old new

abbrev pub AreGroupsRefused : Geometry → List SeenGroup → (ℕ → ℕ) → CheckFault → Type 0
AreGroupsRefused geo groups old fault = IsStepRefused (HasBadGroup geo groups) geo (groups_parts geo groups) old fault

-- a group as a value
abbrev pub as_space : Group → GroupSpace
as_space g = record { agf = g.agf; agi = g.agi; free = g.free }
