use Rattle.std.proofs.Common.{rules, length, ap, arith}
use Rattle.xfs_dir.specs.Block.{seen_entry}
use Rattle.xfs_dir.proofs.Shorts.{left_none, left_stop, left_step}
use Rattle.xfs_dir.proofs.short.ShortEntriesIterator.next.Goals as goal

pub returns-then-self-eq0-clause-steps : goal.returns-then-self-eq0-clause-steps
returns-then-self-eq0-clause-steps c =
    let s = c.args.self.now in
    let none = left_none s.wide s.count s.rest.now c.if-self-eq0.true in (none, none)

pub returns-in_default-clause-steps : goal.returns-in_default-clause-steps
returns-in_default-clause-steps c =
    let s = c.args.self.now in
    let none = left_stop s.wide s.count s.rest.now c.in_default.ensures in (none, none)

pub returns-clause-steps : goal.returns-clause-steps
returns-clause-steps c =
    let s = c.args.self.now in
    left_step s.wide s.count s.rest.now c.in-Some.len c.behind-self.result.now (seen_entry c.short_entry.result) (omega (arith, c.if-self-eq0.false)) c.in-Some.ensures c.behind-self.ensures c.short_entry.ensures

pub returns-clause-goes : goal.returns-clause-goes
returns-clause-goes c =
    let s = c.args.self.now in
    let shorter = ap length (left_step s.wide s.count s.rest.now c.in-Some.len c.behind-self.result.now (seen_entry c.short_entry.result) (omega (arith, c.if-self-eq0.false)) c.in-Some.ensures c.behind-self.ensures c.short_entry.ensures) in
    search rules
