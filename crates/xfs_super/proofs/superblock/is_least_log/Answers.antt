use Rattle.std.proofs.Common.{sym, arith}
use Rattle.xfs_super.proofs.Laid.{too_great}
use Rattle.xfs_super.proofs.superblock.is_least_log.Goals as goal

pub returns-then-log-gt28 : goal.returns-then-log-gt28
returns-then-log-gt28 c = sym (too_great c.args.log c.args.number c.requires (omega arith))
