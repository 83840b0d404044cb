use Rattle.xfs_alloc.proofs.Faults.{no_reason}
use Rattle.xfs_alloc.proofs.laws.no_free_reason.Goals as goal

pub returns : goal.returns
returns c = no_reason
