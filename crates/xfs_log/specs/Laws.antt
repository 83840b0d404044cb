-- What holds of every log.
use Rattle.std.specs.Prelude.{◌≡◌, ℕ, List}
use Rattle.xfs_super.specs.declared.reason.Reason.{Reason}
use Rattle.xfs_log.specs.Log.{IsNewestRecord, IsCleanLog, SpeaksAgainstLog}

-- there is one newest record at most
abbrev pub OneNewestRecord : Type 0
OneNewestRecord = (sectors : List (List ℕ)) (j k : ℕ) → IsNewestRecord sectors j → IsNewestRecord sectors k → j ≡ k

-- against a log that was ended by an unmount no reason speaks
abbrev pub NoLogReason : Type 0
NoLogReason = (sectors : List (List ℕ)) (reason : Reason) → IsCleanLog sectors → SpeaksAgainstLog sectors reason → ⊥
