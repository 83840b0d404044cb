use Rattle.std.proofs.Common.{◌≡◌, drop, find}
use Rattle.layout_plan.specs.declared.part.Part.{Part}
use Rattle.layout_plan.specs.Wishes.{flexible_part, is_flexible_wish, wish_of}
use Rattle.layout_plan.proofs.flexing.flexible_part.Given as goal

-- what is found behind the parts that were looked at is what is found at all
abbrev pub invariant-loop-part : goal.invariant-loop-part
invariant-loop-part l = find (λ (part : Part). is_flexible_wish (wish_of l.wishes part.number)) (drop l.part-index l.parts) ≡ flexible_part l.wishes l.parts
