use Rattle.std.proofs.Common.{◌≡◌, take, string_bytes}
use Rattle.std.specs.List.{flat_map}
use Rattle.resize_core.specs.Summary.{part_line}
use Rattle.resize_core.proofs.lines.lines_of_parts.Given as goal

abbrev pub invariant-loop-part : goal.invariant-loop-part
invariant-loop-part l = string_bytes l.text ≡ flat_map (part_line l.planned) (take l.part-index l.parts)
