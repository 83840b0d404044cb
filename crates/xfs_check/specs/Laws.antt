-- What holds of every volume.
use Rattle.std.specs.Prelude.{◌≡◌, ℕ, List}
use Rattle.xfs_check.specs.Frame.{FreeCarriesNoFile, StaysOnOtherDisk, volume_on}
use Rattle.xfs_check.specs.Seen.{GroupHead, SeenVolume, group_of}
use Rattle.xfs_check.specs.Valid.{IsValidVolume, SpeaksAgainstVolume}
use Rattle.xfs_super.specs.Geometry.{Geometry}
use Rattle.xfs_super.specs.declared.reason.Reason.{Reason}

-- against a valid volume no reason speaks
abbrev pub NoReasonAgainstValid : Type 0
NoReasonAgainstValid =
    (sectors : ℕ) (s : SeenVolume) (reason : Reason) → IsValidVolume sectors s → SpeaksAgainstVolume sectors s reason → ⊥

-- what is free in a valid volume carries no file
abbrev pub FreeHoldsNothing : Type 0
FreeHoldsNothing = (sectors : ℕ) (image : List ℕ) → IsValidVolume sectors (volume_on image) → FreeCarriesNoFile sectors image

-- a valid volume lies in the blocks that its superblock counts
abbrev pub BlocksHoldVolume : Type 0
BlocksHoldVolume = (sectors : ℕ) (image : List ℕ) → IsValidVolume sectors (volume_on image) → StaysOnOtherDisk image

-- growth, which changes how many blocks and groups there are, leaves each group as it is seen
abbrev pub GroupsStayInGrowth : Type 0
GroupsStayInGrowth =
    (geo : Geometry) (dblocks agcount group : ℕ) (head : GroupHead) (volume : ℕ → List ℕ)
    → group_of (record geo { dblocks = dblocks; agcount = agcount }) volume group head ≡ group_of geo volume group head
