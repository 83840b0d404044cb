use Rattle.std.proofs.Common.{rules, arith, ◌+◌, ◌≤◌, ◌∙◌, sym}
use Rattle.lvm_group.proofs.Line.{is_free_line}
use Rattle.lvm_group.proofs.taken.Taken.is_free.Goals as goal

pub returns : goal.returns
returns c =
    let fits : c.args.s.first + c.args.s.count ≤ 1099511627776 = search (rules, arith) in
    c.is_gap.ensures
    ∙ sym (is_free_line c.begin.result c.behind.result c.args.self.now c.args.s c.self.inside.line.entries c.begin.ensures c.behind.ensures fits c.requires c.self.inside.in_line (search rules))
