use Rattle.std.proofs.Common.{◌≡◌, ◌≤◌, ◌++◌}
use Rattle.lvm_group.specs.inside.Line.{gaps}
use Rattle.lvm_group.specs.inside.Parts.{as_runs, gaps_of}
use Rattle.lvm_group.proofs.free.with_gaps.Given as goal

abbrev pub invariant-loop-behind : goal.invariant-loop-behind
invariant-loop-behind l = record {
  from : l.part.lo ≤ l.at;
  runs : l.runs ++ as_runs l.part (gaps l.part.lo l.at l.part.end l.behind-iterator) ≡ l.fn.earlier ++ as_runs l.part (gaps_of l.part l.line.entries);
}
