use Rattle.std.proofs.Common.{◌≡◌, drop}
use Rattle.lvm_group.specs.Volumes.{start_from}
use Rattle.lvm_group.proofs.spans.extent_start.Given as goal

abbrev pub invariant-loop-p : goal.invariant-loop-p
invariant-loop-p l = (l.n ≡ l.p-index) × start_from l.n l.m (drop l.p-index l.ps) ≡ start_from 0 l.m l.ps
