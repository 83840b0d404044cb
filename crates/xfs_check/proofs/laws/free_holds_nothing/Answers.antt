use Rattle.xfs_check.proofs.Frames.{frame}
use Rattle.xfs_check.proofs.laws.free_holds_nothing.Goals as goal

pub returns : goal.returns
returns c = frame
