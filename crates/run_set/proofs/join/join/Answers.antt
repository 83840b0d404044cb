use Rattle.std.proofs.Common.{◌^◌, ◌≤◌, ◌+◌, ◌∙◌, arith, get_or, length}
use Rattle.std.proofs.lemmas.Bool.Decides.{nat_tests}
use Rattle.run_set.proofs.Joining.{later_past, rest_past, joins_with_first, counts_fit}
use Rattle.run_set.proofs.join.join.Goals as goal
use Rattle.run_set.proofs.join.join.Goals.{then-is_empty-via-then-is_empty, then-is_empty-via-else-is_empty+then-end-start}

pub join_later-requires-clause-place : goal.join_later-requires-clause-place
join_later-requires-clause-place c =
    rest_past c.args.rest.now (record { start = 0; count = 0 }) c.args.start c.requires.set c.requires.place
    (elim c.then-is_empty.branch [
      | then-is_empty-via-then-is_empty w ↦ λ some touch. grind (arith, nat_tests, w.if-is_empty.ensures)
      | then-is_empty-via-else-is_empty+then-end-start w ↦ λ some touch. w.if-end-start.true (w.end.ensures ∙ touch)
    ])

pub join_later-requires-2-clause-place : goal.join_later-requires-2-clause-place
join_later-requires-2-clause-place c =
    later_past c.args.rest.now (record { start = 0; count = 0 }) c.args.start c.requires.set (cc)

pub overflow_add-run : goal.overflow_add-run
overflow_add-run c =
    let some : 1 ≤ length c.args.rest.now = grind (arith, nat_tests) in
    let fits : (get_or c.args.rest.now 0 (record { start = 0; count = 0 })).count + c.in_ok-join.join.run.count ≤ 2 ^ 63 =
    counts_fit c.args.rest.now (record { start = 0; count = 0 }) c.args.start c.args.n c.in_ok-join.join.run c.in_ok-join.join.replaced c.requires.set some (cc) c.in_ok-join.ensures.starts c.in_ok-join.ensures.joins
    in
    omega arith

pub returns-clause-joins : goal.returns-clause-joins
returns-clause-joins c =
    let some : 1 ≤ length c.args.rest.now = grind (arith, nat_tests) in
    joins_with_first c.args.rest.now (record { start = 0; count = 0 }) c.args.start c.args.n c.in_ok-join.join.run c.in_ok-join.join.replaced some (cc) c.in_ok-join.ensures.starts c.in_ok-join.ensures.joins
