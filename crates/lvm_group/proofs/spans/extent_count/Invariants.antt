use Rattle.std.proofs.Common.{◌≡◌, drop}
use Rattle.lvm_group.specs.Judged.{extents_from}
use Rattle.lvm_group.proofs.spans.extent_count.Given as goal

abbrev pub invariant-loop-p : goal.invariant-loop-p
invariant-loop-p l = (l.n ≡ l.p-index) × extents_from l.n l.m (drop l.p-index l.ps) ≡ extents_from 0 l.m l.ps
