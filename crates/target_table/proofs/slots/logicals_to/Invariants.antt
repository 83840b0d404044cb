use Rattle.std.proofs.Common.{◌≡◌, take, map, filter}
use Rattle.target_table.specs.Slots.{has_record, placed_logical}
use Rattle.target_table.proofs.slots.logicals_to.Given as goal

abbrev pub invariant-loop-placed : goal.invariant-loop-placed
invariant-loop-placed l = l.all.items ≡ map (placed_logical l.mbr.logicals) (filter has_record (take l.placed-index l.placed-items))
