use Rattle.std.proofs.Common.{◌≡◌, drop}
use Rattle.std.specs.List.{list_any}
use Rattle.lvm_group.specs.Judged.{is_of}
use Rattle.lvm_group.proofs.judged.some_of.Given as goal

abbrev pub invariant-loop-p : goal.invariant-loop-p
invariant-loop-p l = list_any (λ p. is_of p l.m) (drop l.p-index l.ps) ≡ list_any (λ p. is_of p l.m) l.ps
