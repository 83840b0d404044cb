use Rattle.std.proofs.Common.{◌≡◌, drop}
use Rattle.std.specs.List.{list_all}
use Rattle.lvm_group.specs.Judged.{is_named_member}
use Rattle.lvm_group.proofs.judged.all_named.Given as goal

abbrev pub invariant-loop-m : goal.invariant-loop-m
invariant-loop-m l = list_all (is_named_member l.ps) (drop l.m-index l.ms) ≡ list_all (is_named_member l.ps) l.ms
