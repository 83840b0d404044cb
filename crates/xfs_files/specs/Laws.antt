-- What holds of every directory.
use Rattle.std.specs.Prelude.{ℕ, List}
use Rattle.xfs_inode.specs.Seen.{SeenExtent}
use Rattle.xfs_inode.specs.declared.core_fields.Core.{Core}
use Rattle.xfs_super.specs.Geometry.{Geometry}
use Rattle.xfs_super.specs.declared.reason.Reason.{Reason}
use Rattle.xfs_files.specs.Directory.{IsSoundDirectory, SpeaksAgainstDirectory}

-- against a sound directory no reason speaks
abbrev pub NoDirectoryReason : Type 0
NoDirectoryReason =
    (geo : Geometry) (core : Core) (bytes : List ℕ) (es : List SeenExtent) (reason : Reason)
    → IsSoundDirectory geo core bytes es → SpeaksAgainstDirectory geo core bytes es reason → ⊥
