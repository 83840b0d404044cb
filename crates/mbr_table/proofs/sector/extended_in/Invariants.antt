use Rattle.std.proofs.Common.{◌≡◌, drop}
use Rattle.std.specs.List.{find}
use Rattle.mbr_table.specs.Slot.{holds_extended}
use Rattle.mbr_table.proofs.sector.extended_in.Given as goal

abbrev pub invariant-loop-slot : goal.invariant-loop-slot
invariant-loop-slot l = find holds_extended (drop l.slot-index l.slots) ≡ find holds_extended l.slots
