use Rattle.std.proofs.Common.{◌≡◌, ◌++◌, ◌+◌, drop}
use Rattle.lvm_group.specs.Judged.{taken_after}
use Rattle.lvm_group.specs.Free.{spans_in}
use Rattle.lvm_group.specs.Volumes.{runs_in, extents_in}
use Rattle.lvm_group.proofs.spans.volume_in.Given as goal

abbrev pub invariant-loop-p : goal.invariant-loop-p
invariant-loop-p l = record {
  taken : taken_after l.ps l.taken l.at (drop l.p-index l.segments) ≡ taken_after l.ps l.fn.earlier 0 l.segments;
  spans : l.taken ++ spans_in l.ps (drop l.p-index l.segments) ≡ l.fn.earlier ++ spans_in l.ps l.segments;
  runs : l.runs ++ runs_in l.ps l.extent (drop l.p-index l.segments) ≡ runs_in l.ps l.extent l.segments;
  extents : l.at + extents_in (drop l.p-index l.segments) ≡ extents_in l.segments;
}
