use Rattle.std.proofs.Common.{◌≡◌, ◌+◌, ◌<◌, ◌≤◌, ◌∙◌, ap, arith, length, take, drop, ◌++◌, ◌∷◌, vec_len}
use Rattle.std.specs.List.{remove}
use Rattle.run_set.proofs.Joining.{set_one, set_two}
use Rattle.run_set.proofs.join.replace.Goals as goal
use Rattle.run_set.proofs.join.replace.Goals.{then-join-eq2, else-join-eq2}

pub returns-clause-ok : goal.returns-clause-ok
returns-clause-ok c =
    let len : vec_len c.args.runs.now ≡ length c.args.runs.now.items = search Rattle.std.proofs.Common.rules in
    elim c.if-join-eq2.branch [
      | then-join-eq2 w ↦
          let items : c.if-join-eq2.runs.items ≡ remove c.args.runs.now.items (c.args.at + 1) = ap (λ v. v.items) w.runs-is ∙ w.remove.ensures.items in
          rw (items, w.if-join-eq2.true) (set_two c.args.runs.now.items c.args.at c.args.join.run (omega (arith, w.if-join-eq2.true)))
      | else-join-eq2 w ↦
          let items : c.if-join-eq2.runs.items ≡ c.args.runs.now.items = ap (λ v. v.items) w.runs-is in
          let one : c.args.join.replaced ≡ 1 = omega arith in
          rw (items, one) (set_one c.args.runs.now.items c.args.at c.args.join.run (omega arith))
    ]
