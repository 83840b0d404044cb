use Rattle.xfs_super.proofs.Reasons.{superblock_speaks, superblock_left, header_speaks, header_left}
use Rattle.xfs_super.proofs.laws.sound_without_a_reason.Goals as goal

pub returns-clause-excluded : goal.returns-clause-excluded
returns-clause-excluded c = record { superblock = superblock_speaks; header = header_speaks }

pub returns-clause-nothing_else : goal.returns-clause-nothing_else
returns-clause-nothing_else c = record { superblock = superblock_left; header = header_left }
