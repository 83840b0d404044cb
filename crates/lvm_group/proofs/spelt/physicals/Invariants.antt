use Rattle.std.proofs.Common.{◌≡◌, drop}
use Rattle.lvm_group.specs.Spelt.{each_section, physical_volume_of}
use Rattle.lvm_group.proofs.Ahead.{ahead}
use Rattle.lvm_group.proofs.spelt.physicals.Given as goal

abbrev pub invariant-loop-item : goal.invariant-loop-item
invariant-loop-item l = ahead l.done (each_section physical_volume_of (drop l.item-index l.items)) ≡ each_section physical_volume_of l.items
