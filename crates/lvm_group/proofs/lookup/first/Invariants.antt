use Rattle.std.proofs.Common.{◌≡◌, drop}
use Rattle.lvm_group.specs.Lookup.{first_named}
use Rattle.lvm_group.proofs.lookup.first.Given as goal

abbrev pub invariant-loop-item : goal.invariant-loop-item
invariant-loop-item l = first_named l.wanted (drop l.item-index l.items) ≡ first_named l.wanted l.items
