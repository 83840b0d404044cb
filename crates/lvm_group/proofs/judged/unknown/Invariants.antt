use Rattle.std.proofs.Common.{◌≡◌, drop}
use Rattle.lvm_group.specs.Judged.{first_bad, is_known_volume}
use Rattle.lvm_group.proofs.judged.unknown.Given as goal

abbrev pub invariant-loop-l : goal.invariant-loop-l
invariant-loop-l l = (l.n ≡ l.l-index) × first_bad is_known_volume l.n (drop l.l-index l.logicals) ≡ first_bad is_known_volume 0 l.logicals
