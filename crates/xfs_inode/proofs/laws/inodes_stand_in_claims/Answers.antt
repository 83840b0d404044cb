use Rattle.xfs_inode.proofs.Same.{same_fork, same_chunks, same_inode}
use Rattle.xfs_inode.proofs.laws.inodes_stand_in_claims.Goals as goal

pub returns : goal.returns
returns c = record { fork = same_fork; chunks = same_chunks; inode = same_inode }
