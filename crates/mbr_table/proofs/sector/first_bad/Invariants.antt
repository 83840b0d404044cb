use Rattle.std.proofs.Common.{◌≡◌, ℕ, ◌<◌, take}
use Rattle.std.specs.List.{list_any}
use Rattle.mbr_table.specs.Slot.{holds_extended, IsBadEntry}
use Rattle.mbr_table.proofs.sector.first_bad.Given as goal

abbrev pub invariant-loop-i : goal.invariant-loop-i
invariant-loop-i l = record {
  seen : l.extended ≡ list_any holds_extended (take l.i l.slots);
  none_bad : (k : ℕ) → k < l.i → IsBadEntry l.sectors l.slots k → ⊥;
}
