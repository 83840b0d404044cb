use Rattle.xfs_inode.proofs.Same.{grown_inode, grown_chunks}
use Rattle.xfs_inode.proofs.laws.inodes_stay_in_growth.Goals as goal

pub returns : goal.returns
returns c = record { inode = grown_inode; chunks = grown_chunks }
