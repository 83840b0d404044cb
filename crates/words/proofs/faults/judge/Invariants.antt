use Rattle.std.proofs.Common.{◌≡◌, [], take, drop}
use Rattle.words.specs.Usage.{first_fault}
use Rattle.words.proofs.faults.judge.Given as goal

abbrev pub invariant-loop-at : goal.invariant-loop-at
invariant-loop-at l = first_fault (take l.at l.items) (drop l.at l.items) ≡ first_fault [] l.items
