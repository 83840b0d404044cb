use Rattle.xfs_alloc.proofs.Same.{grown_free, grown_trees}
use Rattle.xfs_alloc.proofs.laws.free_grows.Goals as goal

pub returns : goal.returns
returns c = record { same = grown_free; sound = grown_trees }
