use Rattle.std.proofs.Common.{◌≡◌, ◌+◌, ◌≤◌, drop}
use Rattle.std.specs.List.{count_by}
use Rattle.lvm_group.specs.Judged.{is_of}
use Rattle.lvm_group.proofs.judged.times_found.Given as goal

abbrev pub invariant-loop-m : goal.invariant-loop-m
invariant-loop-m l = (l.n + count_by (λ m. is_of l.p m) (drop l.m-index l.ms) ≡ count_by (λ m. is_of l.p m) l.ms) × l.n ≤ l.m-index
