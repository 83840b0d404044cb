use Rattle.xfs_files.proofs.Verdicts.{no_reason}
use Rattle.xfs_files.proofs.laws.no_directory_reason.Goals as goal

pub returns : goal.returns
returns c = no_reason
