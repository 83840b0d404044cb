use Rattle.std.proofs.Common.{◌≡◌, ℕ, IsTrue, take}
use Rattle.xfs_super.specs.Super.{geometry_of}
use Rattle.xfs_tree.specs.inside.Rows.{RowTaken}
use Rattle.xfs_tree.specs.inside.Reading.{AreInVolume}
use Rattle.xfs_tree.proofs.walking.descend.Given as goal

abbrev pub invariant-loop-node : goal.invariant-loop-node
invariant-loop-node g l = record {
  read : g.B.Blocks.only_read l.initial.disk l.disk;
  level : IsTrue g.B.Blocks.tells →
      RowTaken g.R.Record.form l.row (g.B.Blocks.image l.initial.disk) (take l.node-index l.nodes) (g.M.Mark.claimed l.initial.marks) (g.M.Mark.claimed l.marks) l.below.items;
  inside : AreInVolume (geometry_of l.row.geo) l.below.items;
  admits : (h b : ℕ) → g.M.Mark.admits l.marks h b ≡ g.M.Mark.admits l.initial.marks h b;
}
