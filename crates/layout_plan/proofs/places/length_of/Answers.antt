use Rattle.std.proofs.Common.{ap}
use Rattle.layout_plan.specs.Roles.{is_extended_role}
use Rattle.layout_plan.proofs.places.length_of.Goals as goal

pub overflow_sub-result : goal.overflow_sub-result
overflow_sub-result c =
    c.requires.around (ap is_extended_role c.in-Extended.is) c.logical_end.result (rw (c.deref.ensures.value, c.deref-in-Extended.ensures.value) at c.logical_end.ensures)
