use Rattle.std.proofs.Common.{◌≡◌, drop}
use Rattle.lvm_group.specs.Volumes.{names_of}
use Rattle.volume_choice.specs.Chosen.{index_from}
use Rattle.volume_choice.proofs.naming.place_of.Given as goal

abbrev pub invariant-loop-lv : goal.invariant-loop-lv
invariant-loop-lv l =
    index_from l.lv l.name (drop l.lv (names_of l.group.spelt.logicals)) ≡ index_from 0 l.name (names_of l.group.spelt.logicals)
