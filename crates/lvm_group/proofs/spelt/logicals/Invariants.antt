use Rattle.std.proofs.Common.{◌≡◌, drop}
use Rattle.lvm_group.specs.Spelt.{each_section, logical_volume_of}
use Rattle.lvm_group.proofs.Ahead.{ahead}
use Rattle.lvm_group.proofs.spelt.logicals.Given as goal

abbrev pub invariant-loop-item : goal.invariant-loop-item
invariant-loop-item l = ahead l.done (each_section (logical_volume_of l.physicals) (drop l.item-index l.items)) ≡ each_section (logical_volume_of l.physicals) l.items
