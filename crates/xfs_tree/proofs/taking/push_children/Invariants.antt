use Rattle.std.proofs.Common.{◌≡◌, ◌++◌, map, IsTrue}
use Rattle.std.specs.List.{All, range_with_len}
use Rattle.xfs_super.specs.Super.{geometry_of}
use Rattle.xfs_tree.specs.inside.Rows.{setting_of_row}
use Rattle.xfs_tree.specs.Block.{pointer_at, leads_to, points_inside}
use Rattle.xfs_tree.proofs.taking.push_children.Given as goal

abbrev pub invariant-loop-i : goal.invariant-loop-i
invariant-loop-i g l =
    let t = setting_of_row g.R.Record.form l.row in
    let so_far = map (pointer_at g.R.Record.form l.bytes) (range_with_len 0 l.i) in
    record {
      children : l.below.items ≡ l.initial.below.items ++ map (leads_to t) so_far;
      inside : All (λ p. IsTrue (points_inside t (geometry_of l.row.geo) p)) so_far;
    }
