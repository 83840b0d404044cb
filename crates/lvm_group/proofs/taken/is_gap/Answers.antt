use Rattle.lvm_group.proofs.Line.{first_above}
use Rattle.lvm_group.proofs.taken.is_gap.Goals as goal

pub returns-in-Some : goal.returns-in-Some
returns-in-Some c =
    first_above c.args.begin c.args.behind c.args.line.now.entries c.range.result c.next.new.self (c.in-Some.field-0-0.now, c.in-Some.next.now) (c.range.ensures.between tt) c.in-Some.ensures.steps
