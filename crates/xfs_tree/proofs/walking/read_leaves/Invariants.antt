use Rattle.std.proofs.Common.{IsTrue, take}
use Rattle.std.specs.List.{All}
use Rattle.xfs_tree.specs.inside.Rows.{LeavesTaken, LieIn}
use Rattle.xfs_tree.specs.Tree.{AreInOrder}
use Rattle.xfs_tree.proofs.walking.read_leaves.Given as goal

abbrev pub invariant-loop-leaf : goal.invariant-loop-leaf
invariant-loop-leaf g l = record {
  read : g.B.Blocks.only_read l.initial.disk l.disk;
  leaves : IsTrue g.B.Blocks.tells →
      LeavesTaken g.R.Record.form l.row (g.B.Blocks.image l.initial.disk) (take l.leaf-index l.leaves) l.records;
  order : AreInOrder g.R.Record.form l.records;
  lie : LieIn g.R.Record.form l.row l.records;
  fits : All (λ r. IsTrue (g.R.Record.form.fits r)) l.records;
}
