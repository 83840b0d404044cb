use Rattle.std.proofs.Common.{◌≡◌, ◌++◌, drop}
use Rattle.std.specs.List.{filter_map}
use Rattle.resize_core.specs.Growth.{stuck_part, stuck_parts}
use Rattle.resize_core.proofs.growth.stuck_parts.Given as goal

abbrev pub invariant-loop-part : goal.invariant-loop-part
invariant-loop-part l =
    l.faults.items ++ filter_map (stuck_part l.grow l.planned l.parts) (drop l.part-index l.parts) ≡ stuck_parts l.grow l.planned l.parts
