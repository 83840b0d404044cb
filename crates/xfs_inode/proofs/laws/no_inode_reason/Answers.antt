use Rattle.xfs_inode.proofs.Excluded.{no_fork_reason, no_chunk_reason, no_reason}
use Rattle.xfs_inode.proofs.laws.no_inode_reason.Goals as goal

pub returns : goal.returns
returns c = record { fork = no_fork_reason; chunks = no_chunk_reason; inode = no_reason }
