use Rattle.xfs_check.proofs.Bounds.{stays}
use Rattle.xfs_check.proofs.laws.blocks_hold_volume.Goals as goal

pub returns : goal.returns
returns c = stays
