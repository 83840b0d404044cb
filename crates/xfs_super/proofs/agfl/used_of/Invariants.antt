use Rattle.std.proofs.Common.{◌≡◌, true, nat_lt, take}
use Rattle.std.specs.List.{list_all}
use Rattle.xfs_super.specs.Geometry.{group_len}
use Rattle.xfs_super.specs.Super.{geometry_of}
use Rattle.xfs_super.specs.Headers.{used_entries}
use Rattle.xfs_super.proofs.agfl.used_of.Given as goal

abbrev pub invariant-loop-i : goal.invariant-loop-i
invariant-loop-i l = list_all (λ block. nat_lt block (group_len (geometry_of l.geo) l.group)) (take l.i (used_entries l.agf l.bytes)) ≡ true
