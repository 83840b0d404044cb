use Rattle.layout_plan.specs.Plans.{HasEnd}
use Rattle.layout_plan.specs.Wishes.{flexible_part}
use Rattle.layout_plan.proofs.Flexed.{least_long}
use Rattle.layout_plan.proofs.flexing.flexed.Goals as goal

pub returns-then-limit-laid-clause-none : goal.returns-then-limit-laid-clause-none
returns-then-limit-laid-clause-none c =
    let task = c.args.task.now in
    let laid = c.in_ok-laid.laid in
    let out = c.in_ok-laid.ensures in
    let ends : HasEnd task.kind task.parts.now task.wishes.now task.layout.now c.in_ok-sectors.sectors laid.last =
    record { laid = laid.parts.items; spots = laid.spots.items; order = out.order; is_last = out.is_last } in
    record {
      due = task.due;
      is_last = least_long task.kind task.parts.now task.wishes.now task.layout.now task.limit c.in_ok-sectors.sectors laid.last ends c.if-limit-laid.true
          (flexible_part task.wishes.now task.parts.now) c.in_ok-sectors.ensures.right;
      is_limit = task.is_limit;
      too_long = c.if-limit-laid.true;
    }
