use Rattle.std.proofs.Common.{◌≡◌, ℕ, ◌+◌, ◌*◌, ◌<◌, ◌++◌, take, get_or}
use Rattle.std.specs.List.{flat_map}
use Rattle.mbr_table.specs.Slot.{slot_of, empty_slot, kept_slot, slot_entry}
use Rattle.mbr_table.proofs.writing.mbr_sector.Given as goal

abbrev pub invariant-loop-i : goal.invariant-loop-i
invariant-loop-i l = record {
  written : take (446 + 16 * l.i) l.out ≡ l.head ++ flat_map slot_entry (take l.i l.slots);
  read_back : (k : ℕ) → k < l.i → slot_of (slot_entry (get_or l.slots k empty_slot)) ≡ kept_slot (get_or l.slots k empty_slot);
}
