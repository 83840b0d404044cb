use Rattle.std.proofs.Common.{◌≡◌, drop}
use Rattle.std.specs.List.{list_all}
use Rattle.lvm_group.specs.Judged.{is_known}
use Rattle.lvm_group.proofs.judged.knows.Given as goal

abbrev pub invariant-loop-segment : goal.invariant-loop-segment
invariant-loop-segment l = list_all is_known (drop l.segment-index l.segments) ≡ list_all is_known l.segments
