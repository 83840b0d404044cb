use Rattle.std.proofs.Common.{◌≡◌, drop, find}
use Rattle.layout_plan.specs.declared.part.Part.{Part}
use Rattle.layout_plan.specs.Plans.{extended_start, start_of}
use Rattle.layout_plan.specs.Roles.{is_extended_role}
use Rattle.layout_plan.proofs.laying.extended_start.Given as goal

-- what is found behind the parts that were looked at is what is found at all
abbrev pub invariant-loop-part : goal.invariant-loop-part
invariant-loop-part l = start_of (find (λ (part : Part). is_extended_role part.role) (drop l.part-index l.parts)) ≡ extended_start l.parts
