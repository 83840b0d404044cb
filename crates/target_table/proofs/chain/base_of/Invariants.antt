use Rattle.std.proofs.Common.{◌≡◌, take, find, None}
use Rattle.mbr_table.specs.Slot.{holds_extended}
use Rattle.target_table.proofs.chain.base_of.Given as goal

abbrev pub invariant-loop-slot : goal.invariant-loop-slot
invariant-loop-slot l = find holds_extended (take l.slot-index l.slots) ≡ None
