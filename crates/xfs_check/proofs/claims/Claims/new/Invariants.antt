use Rattle.std.proofs.Common.{◌≡◌, ◌≤◌}
use Rattle.xfs_check.proofs.Marking.{all_marks}
use Rattle.xfs_super.specs.Super.{geometry_of}
use Rattle.xfs_check.proofs.claims.Claims.new.Given as goal

abbrev pub invariant-loop-group : goal.invariant-loop-group
invariant-loop-group l = record {
  are : l.groups.items ≡ all_marks (geometry_of l.geo) l.group;
  within : l.group ≤ l.geo.agcount;
}
