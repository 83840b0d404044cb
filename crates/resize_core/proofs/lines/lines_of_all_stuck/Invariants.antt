use Rattle.std.proofs.Common.{◌≡◌, take, string_bytes}
use Rattle.std.specs.List.{flat_map}
use Rattle.resize_core.specs.Summary.{stuck_line}
use Rattle.resize_core.proofs.lines.lines_of_all_stuck.Given as goal

abbrev pub invariant-loop-fault : goal.invariant-loop-fault
invariant-loop-fault l = string_bytes l.text ≡ flat_map stuck_line (take l.fault-index l.stuck)
