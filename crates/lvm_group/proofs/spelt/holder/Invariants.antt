use Rattle.std.proofs.Common.{◌≡◌, drop}
use Rattle.lvm_group.specs.Spelt.{first_section}
use Rattle.lvm_group.proofs.spelt.holder.Given as goal

abbrev pub invariant-loop-item : goal.invariant-loop-item
invariant-loop-item l = first_section (drop l.item-index l.items) ≡ first_section l.items
