use Rattle.std.proofs.Common.{◌≡◌, map, take}
use Rattle.guest_view.specs.Contents.{planned_part}
use Rattle.guest_view.proofs.guest.Guest.parts_to_plan.Given as goal

abbrev pub invariant-loop-part : goal.invariant-loop-part
invariant-loop-part l = l.parts.items ≡ map planned_part (take l.part-index l.part-items)
