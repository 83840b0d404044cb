use Rattle.std.proofs.Common.{◌≡◌, ◌+◌, ◌≤◌, drop}
use Rattle.lvm_group.specs.Spelt.{sections}
use Rattle.lvm_group.proofs.spelt.section_count.Given as goal

abbrev pub invariant-loop-item : goal.invariant-loop-item
invariant-loop-item l = (l.n + sections (drop l.item-index l.items) ≡ sections l.items) × l.n ≤ l.item-index
