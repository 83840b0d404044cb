use Rattle.std.proofs.Common.{refl}
use Rattle.xfs_check.specs.Seen.{group_of, inode_block_seen}
use Rattle.xfs_inode.specs.Core.{core_of}
use Rattle.xfs_inode.specs.Seen.{extent_seen, fork_seen, inode_of}
use Rattle.xfs_check.proofs.laws.groups_stay_in_growth.Goals as goal

pub returns : goal.returns
unfolding group_of inode_block_seen inode_of fork_seen extent_seen core_of
returns c = λ geo dblocks agcount group head volume. refl
