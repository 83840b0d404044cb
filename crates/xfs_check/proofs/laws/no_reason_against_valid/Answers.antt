use Rattle.xfs_check.proofs.Excluded.{no_reason}
use Rattle.xfs_check.proofs.laws.no_reason_against_valid.Goals as goal

pub returns : goal.returns
returns c = no_reason
