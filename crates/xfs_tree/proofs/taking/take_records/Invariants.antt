use Rattle.std.proofs.Common.{◌≡◌, ◌++◌, map, IsTrue}
use Rattle.std.specs.List.{All, range_with_len}
use Rattle.xfs_tree.specs.Block.{record_at}
use Rattle.xfs_tree.specs.inside.Rows.{LieIn}
use Rattle.xfs_tree.specs.Tree.{AreInOrder}
use Rattle.xfs_super.specs.Super.{geometry_of}
use Rattle.xfs_tree.proofs.taking.take_records.Given as goal

abbrev pub invariant-loop-i : goal.invariant-loop-i
invariant-loop-i g l =
    let so_far = map (record_at g.R.Record.form l.bytes) (range_with_len 0 l.i) in
    record {
      records : l.records ≡ l.initial.records ++ so_far;
      inside : All (λ r. IsTrue (g.R.Record.form.inside (geometry_of l.row.geo) l.row.group r)) so_far;
      order : AreInOrder g.R.Record.form l.records;
      lie : LieIn g.R.Record.form l.row l.records;
      fits : All (λ r. IsTrue (g.R.Record.form.fits r)) l.records;
    }
