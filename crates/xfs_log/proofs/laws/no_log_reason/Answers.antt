use Rattle.xfs_log.proofs.Excluded.{no_reason}
use Rattle.xfs_log.proofs.laws.no_log_reason.Goals as goal

pub returns : goal.returns
returns c = no_reason
