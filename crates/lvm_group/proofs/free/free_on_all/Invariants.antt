use Rattle.std.proofs.Common.{◌≡◌, ◌++◌, drop}
use Rattle.std.specs.List.{list_all}
use Rattle.lvm_group.specs.inside.Line.{free_on_all, is_small}
use Rattle.lvm_group.proofs.free.free_on_all.Given as goal

abbrev pub invariant-loop-p : goal.invariant-loop-p
invariant-loop-p l = record {
  number : l.member ≡ l.p-index;
  runs : l.runs ++ free_on_all l.member l.extent l.line.entries (drop l.p-index l.ps) ≡ free_on_all 0 l.extent l.line.entries l.ps;
  small : list_all is_small (drop l.p-index l.ps) ≡ list_all is_small l.ps;
}
