use Rattle.std.proofs.Common.{◌≡◌, ◌≤◌, ℕ, length, map, IsTrue}
use Rattle.std.specs.List.{range_with_len}
use Rattle.block_claims.specs.Agreement.{block}
use Rattle.xfs_check.specs.Seen.{group_seen, inodes_of_groups}
use Rattle.xfs_check.specs.Valid.{has_root}
use Rattle.xfs_check.specs.Volume.{group_space}
use Rattle.xfs_check.specs.inside.Grouping.{AreGroupsChecked, as_space}
use Rattle.xfs_super.specs.Super.{geometry_of}
use Rattle.xfs_tree.specs.Marks.{marked}
use Rattle.xfs_check.proofs.groups.check_groups.Given as goal

abbrev pub invariant-loop-group : goal.invariant-loop-group
invariant-loop-group g l = record {
  read : g.B.Blocks.only_read l.initial.disk l.disk;
  within : l.group ≤ l.geo.agcount;
  many : length l.groups.items ≡ l.group;
  space : IsTrue g.B.Blocks.tells → map as_space l.groups.items
      ≡ map (group_space (geometry_of l.geo)) (map (group_seen (geometry_of l.geo) (block (g.B.Blocks.image l.initial.disk))) (range_with_len 0 l.group));
  checked : IsTrue g.B.Blocks.tells → AreGroupsChecked (geometry_of l.geo)
      (map (group_seen (geometry_of l.geo) (block (g.B.Blocks.image l.initial.disk))) (range_with_len 0 l.group))
      (marked l.geo.agblocks (g.M.Mark.claimed l.initial.marks)) (marked l.geo.agblocks (g.M.Mark.claimed l.marks));
  root : IsTrue g.B.Blocks.tells → l.root ≡ has_root (geometry_of l.geo)
      (inodes_of_groups (map (group_seen (geometry_of l.geo) (block (g.B.Blocks.image l.initial.disk))) (range_with_len 0 l.group)));
  admits : (h b : ℕ) → g.M.Mark.admits l.marks h b ≡ g.M.Mark.admits l.initial.marks h b;
}
