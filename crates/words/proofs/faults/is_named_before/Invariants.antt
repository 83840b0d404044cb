use Rattle.std.proofs.Common.{◌≡◌, false, take}
use Rattle.std.specs.List.{list_any}
use Rattle.words.specs.Usage.{are_one, volume_in}
use Rattle.words.proofs.faults.is_named_before.Given as goal

abbrev pub invariant-loop-other : goal.invariant-loop-other
invariant-loop-other l = list_any (λ other. are_one l.volume (volume_in other)) (take l.other-index l.earlier) ≡ false
