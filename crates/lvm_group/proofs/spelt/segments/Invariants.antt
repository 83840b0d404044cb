use Rattle.std.proofs.Common.{◌≡◌, ◌+◌, ◌-◌}
use Rattle.lvm_text.specs.Tree.{items_in}
use Rattle.lvm_group.specs.Spelt.{segments_from}
use Rattle.lvm_group.proofs.Ahead.{ahead}
use Rattle.lvm_group.proofs.spelt.segments.Given as goal

abbrev pub invariant-loop-k : goal.invariant-loop-k
invariant-loop-k l = ahead l.done (segments_from l.physicals (l.k + 1) (l.n - l.k) (items_in l.tree)) ≡ segments_from l.physicals 1 l.n (items_in l.tree)
