use Rattle.std.proofs.Common.{◌≡◌, drop}
use Rattle.lvm_group.specs.Judged.{all_fit}
use Rattle.lvm_group.proofs.judged.fit_all.Given as goal

abbrev pub invariant-loop-p : goal.invariant-loop-p
invariant-loop-p l = all_fit l.extent l.ms (drop l.p-index l.ps) ≡ all_fit l.extent l.ms l.ps
