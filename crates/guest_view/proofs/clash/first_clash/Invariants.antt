use Rattle.std.proofs.Common.{ℕ, ◌<◌, length}
use Rattle.guest_view.specs.inside.Search.{ClashesWithNone}
use Rattle.guest_view.proofs.clash.first_clash.Given as goal

abbrev pub invariant-loop-k : goal.invariant-loop-k
invariant-loop-k l = (i : ℕ) → i < l.k → ClashesWithNone l.partitions i (length l.partitions)
