use Rattle.std.proofs.Common.{◌≡◌, drop}
use Rattle.std.specs.List.{list_all}
use Rattle.lvm_group.specs.Judged.{fits}
use Rattle.lvm_group.proofs.judged.fits_each.Given as goal

abbrev pub invariant-loop-m : goal.invariant-loop-m
invariant-loop-m l = list_all (fits l.extent l.p) (drop l.m-index l.ms) ≡ list_all (fits l.extent l.p) l.ms
