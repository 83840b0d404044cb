use Rattle.std.proofs.Common.{◌≡◌, ◌%◌, map, take}
use Rattle.xfs_alloc.proofs.free.numbers_in_group.Given as goal

abbrev pub invariant-loop-at : goal.invariant-loop-at
invariant-loop-at l = l.out.items ≡ map (λ n. n % l.agblocks) (take l.at-index l.level)
