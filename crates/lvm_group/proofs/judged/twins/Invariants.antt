use Rattle.std.proofs.Common.{◌≡◌, ◌+◌, ◌≤◌, drop}
use Rattle.std.specs.List.{count_by}
use Rattle.std.specs.Str.{bytes_eq}
use Rattle.lvm_group.proofs.judged.twins.Given as goal

abbrev pub invariant-loop-q : goal.invariant-loop-q
invariant-loop-q l = (l.n + count_by (λ q. bytes_eq q.id l.p.id) (drop l.q-index l.ps) ≡ count_by (λ q. bytes_eq q.id l.p.id) l.ps) × l.n ≤ l.q-index
