use Rattle.xfs_super.proofs.Placed.{header_stands}
use Rattle.xfs_super.proofs.laws.headers_stand_in_blocks.Goals as goal

pub returns : goal.returns
returns c = header_stands
