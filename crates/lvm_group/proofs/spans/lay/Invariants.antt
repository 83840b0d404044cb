use Rattle.std.proofs.Common.{◌≡◌, ◌++◌, [], drop}
use Rattle.lvm_group.specs.Judged.{first_unsound}
use Rattle.lvm_group.specs.Free.{all_spans}
use Rattle.lvm_group.specs.Volumes.{volumes_with}
use Rattle.lvm_group.proofs.spans.lay.Given as goal

abbrev pub invariant-loop-l : goal.invariant-loop-l
invariant-loop-l l = record {
  number : l.n ≡ l.l-index;
  sound : first_unsound l.ps l.taken l.n (drop l.l-index l.ls) ≡ first_unsound l.ps [] 0 l.ls;
  spans : l.taken ++ all_spans l.ps (drop l.l-index l.ls) ≡ all_spans l.ps l.ls;
  volumes : l.volumes ++ volumes_with l.ps l.extent (drop l.l-index l.ls) ≡ volumes_with l.ps l.extent l.ls;
}
