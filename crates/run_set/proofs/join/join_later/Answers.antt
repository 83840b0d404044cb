use Rattle.std.proofs.Common.{arith}
use Rattle.run_set.proofs.Joining.{joins_first, joins_below_first, common_first}
use Rattle.run_set.proofs.join.join_later.Goals as goal

pub returns-then-after-start-clause-common : goal.returns-then-after-start-clause-common
returns-then-after-start-clause-common c =
    rw c.max.ensures (common_first c.args.later.now _ c.args.start c.args.n c.in-len1-up.len_at_least c.requires.some c.requires.set c.requires.place c.if-after-start.true)

pub returns-then-after-start-2-clause-joins : goal.returns-then-after-start-2-clause-joins
returns-then-after-start-2-clause-joins c =
    joins_first c.args.later.now (record { start = 0; count = 0 }) c.args.start c.args.n c.in-len1-up.len_at_least c.requires.some c.requires.set c.if-after-start-2.true

pub returns-else-after-start-2-clause-joins : goal.returns-else-after-start-2-clause-joins
returns-else-after-start-2-clause-joins c =
    joins_below_first c.args.later.now (record { start = 0; count = 0 }) c.args.start c.args.n c.in-len1-up.len_at_least c.requires.some c.requires.end c.requires.set (omega (arith, c.if-after-start.false, c.if-after-start-2.false))
