use Rattle.std.proofs.Common.{◌≡◌, map, IsTrue}
use Rattle.std.specs.List.{All, range_with_len}
use Rattle.xfs_super.specs.Super.{geometry_of}
use Rattle.xfs_tree.specs.inside.Rows.{setting_of_row}
use Rattle.xfs_tree.specs.Block.{leads_to, points_inside}
use Rattle.xfs_tree.specs.Fork.{fork_pointer}
use Rattle.xfs_tree.specs.Records.{by_file}
use Rattle.xfs_tree.proofs.fork.root_blocks.Given as goal

abbrev pub invariant-loop-i : goal.invariant-loop-i
invariant-loop-i l =
    let t = setting_of_row by_file l.row in
    let so_far = map (fork_pointer l.fork) (range_with_len 0 l.i) in
    record {
      blocks : l.blocks.items ≡ map (leads_to t) so_far;
      inside : All (λ p. IsTrue (points_inside t (geometry_of l.row.geo) p)) so_far;
    }
