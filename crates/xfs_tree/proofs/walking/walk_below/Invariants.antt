use Rattle.std.proofs.Common.{◌≡◌, ℕ, ◌-◌, IsTrue, map}
use Rattle.block_claims.specs.Agreement.{block}
use Rattle.xfs_super.specs.Super.{geometry_of}
use Rattle.xfs_tree.specs.inside.Rows.{setting_of_row}
use Rattle.xfs_tree.specs.Marks.{marked}
use Rattle.xfs_tree.specs.inside.Reading.{AreInVolume}
use Rattle.xfs_tree.specs.Tree.{levels_below}
use Rattle.xfs_tree.proofs.Trees.{IsWalkedTo}
use Rattle.xfs_tree.proofs.walking.walk_below.Given as goal

abbrev pub invariant-loop-depth : goal.invariant-loop-depth
invariant-loop-depth g l =
    let t = setting_of_row g.R.Record.form l.row in
    let disk = block (g.B.Blocks.image l.initial.disk) in
    record {
      read : g.B.Blocks.only_read l.initial.disk l.disk;
      walked : IsTrue g.B.Blocks.tells →
          IsWalkedTo t (geometry_of l.row.geo) (levels_below t disk l.row.height l.row.least l.fn.blocks.items) disk (marked l.row.geo.agblocks (g.M.Mark.claimed l.fn.marks)) (marked l.row.geo.agblocks (g.M.Mark.claimed l.marks)) (l.row.height - l.depth) l.least l.nodes.items (map (λ v. v.items) l.upper.items);
      inside : AreInVolume (geometry_of l.row.geo) l.nodes.items;
      admits : (h b : ℕ) → g.M.Mark.admits l.marks h b ≡ g.M.Mark.admits l.fn.marks h b;
    }
