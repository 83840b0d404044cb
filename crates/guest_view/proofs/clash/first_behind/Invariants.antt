use Rattle.guest_view.specs.inside.Search.{ClashesWithNone}
use Rattle.guest_view.proofs.clash.first_behind.Given as goal

abbrev pub invariant-loop-l : goal.invariant-loop-l
invariant-loop-l l = ClashesWithNone l.partitions l.k l.l
