-- What the parts of a check promise of the parts of a volume that they take, one after the other.
use Rattle.std.specs.Prelude.{ℕ, List, ◌⊎◌}
use Rattle.std.specs.List.{All}
use Rattle.block_claims.specs.Agreement.{Claimed}
use Rattle.xfs_check.specs.Parts.{ClaimTwice, HasMeaning, Part, inodes_parts, parts_claims}
use Rattle.xfs_check.specs.Valid.{HasBadInode, IsSoundSeen}
use Rattle.xfs_inode.specs.Seen.{SeenInode}
use Rattle.xfs_super.specs.Geometry.{Geometry}
use Rattle.xfs_super.specs.declared.reason.CheckFault.{CheckFault}
use Rattle.xfs_super.specs.declared.reason.CheckFault.TheVariants as check
use Rattle.xfs_super.specs.declared.reason.Reason.{Reason}

-- each has a meaning, and their blocks were claimed
pub record AreTaken (geo : Geometry) (parts : List Part) (old new : ℕ → ℕ) : Type 0 where
  pub meaning : All (HasMeaning geo) parts
  pub claimed : Claimed old (parts_claims geo parts) new

-- a reason speaks against what they belong to, or they claim a block twice
abbrev pub IsStepRefused : (Reason → Type 0) → Geometry → List Part → (ℕ → ℕ) → CheckFault → Type 0
IsStepRefused speaks geo parts old (check.Bad reason) = speaks reason ⊎ ClaimTwice geo old parts reason
IsStepRefused speaks geo parts old check.Device = Unit {0}
IsStepRefused speaks geo parts old check.Memory = Unit {0}

-- inodes that were judged, and taken
pub record AreChecked (geo : Geometry) (inodes : List SeenInode) (old new : ℕ → ℕ) : Type 0 where
  pub sound : All (IsSoundSeen geo) inodes
  pub taken : AreTaken geo (inodes_parts geo inodes) old new

abbrev pub AreRefused : Geometry → List SeenInode → (ℕ → ℕ) → CheckFault → Type 0
AreRefused geo inodes old fault = IsStepRefused (HasBadInode geo inodes) geo (inodes_parts geo inodes) old fault
