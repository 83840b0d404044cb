use Rattle.xfs_alloc.proofs.Same.{same_free}
use Rattle.xfs_alloc.proofs.laws.is_same_free.Goals as goal

pub returns : goal.returns
returns c = same_free
