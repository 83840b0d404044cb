use Rattle.layout_plan.proofs.Unique.{one_planned, only_memory}
use Rattle.layout_plan.proofs.planner.one_plan.Goals as goal

pub returns : goal.returns
returns c = λ kind parts wishes layout sectors one is_plan.
    (λ other. one_planned kind parts wishes layout sectors one other is_plan, λ fault. only_memory kind parts wishes layout sectors one fault is_plan)
