use Rattle.std.proofs.Common.{◌≡◌, ◌++◌, drop}
use Rattle.lvm_group.specs.Spelt.{unmarked}
use Rattle.lvm_group.proofs.spelt.without_marks.Given as goal

abbrev pub invariant-loop-b : goal.invariant-loop-b
invariant-loop-b l = l.bytes.items ++ unmarked (drop l.b-index l.id) ≡ unmarked l.id
