use Rattle.std.proofs.Common.{◌≡◌, map, take}
use Rattle.xfs_alloc.specs.FreeSpace.{in_group}
use Rattle.xfs_alloc.proofs.free.blocks_in_group.Given as goal

abbrev pub invariant-loop-level : goal.invariant-loop-level
invariant-loop-level l = map (λ v. v.items) l.out.items ≡ in_group l.agblocks (map (λ v. v.items) (take l.level-index l.levels))
