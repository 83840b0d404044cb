use Rattle.std.proofs.Common.{◌≡◌, drop}
use Rattle.std.specs.List.{list_all}
use Rattle.lvm_group.specs.Judged.{is_found}
use Rattle.lvm_group.proofs.judged.all_found.Given as goal

abbrev pub invariant-loop-p : goal.invariant-loop-p
invariant-loop-p l = list_all (is_found l.ps l.ms) (drop l.p-index l.ps) ≡ list_all (is_found l.ps l.ms) l.ps
