use Rattle.std.proofs.Common.{ℕ, List, ap, arith}
use Rattle.std.proofs.lemmas.Result.{err_from_is_err_and}
use Rattle.block_claims.specs.Agreement.{block}
use Rattle.xfs_super.specs.Super.{geometry_of}
use Rattle.xfs_tree.specs.inside.Rows.{setting_of_row}
use Rattle.xfs_tree.specs.Form.{Setting}
use Rattle.xfs_tree.proofs.Levels.{leaves_more_on, leaf_fault_on}
use Rattle.xfs_tree.proofs.walking.read_leaves.Goals as goal

pub returns-in_err-read_leaf-clause-fault : goal.returns-in_err-read_leaf-clause-fault
returns-in_err-read_leaf-clause-fault g c =
    λ told.
    let p = err_from_is_err_and c.from_residual.result c.from_residual.ensures.1 in
    let t : Setting g.row.R.Denot = setting_of_row g.R.Record.form c.args.row.now in
    rw (p.1, p.2) (leaf_fault_on t (geometry_of c.args.row.now.geo) (block (g.B.Blocks.image c.args.disk.now)) (block (g.B.Blocks.image c.loop-leaf.disk)) c.args.row.now.height c.args.row.now.least c.args.leaves.now c.loop-leaf.leaf-index c.loop-leaf.records _
    (ap (λ (i : List ℕ). block i) (g.met.B.Blocks.same_image _ _ c.loop-leaf.invariant.read told)) (omega arith) (c.loop-leaf.invariant.leaves told) (c.in_err-read_leaf.ensures.fault told))

pub loop-leaf-preserved : goal.loop-leaf-preserved
loop-leaf-preserved g c =
    let t : Setting g.row.R.Denot = setting_of_row g.R.Record.form c.args.row.now in
    record {
      read = g.met.B.Blocks.read_on _ _ _ c.loop-leaf.invariant.read c.in_ok-read_leaf.ensures.read;
      leaves = λ told.
          leaves_more_on t (geometry_of c.args.row.now.geo) (block (g.B.Blocks.image c.args.disk.now)) (block (g.B.Blocks.image c.loop-leaf.disk)) c.args.row.now.height c.args.row.now.least c.args.leaves.now c.loop-leaf.leaf-index c.loop-leaf.records c.read_leaf.new.records
          (ap (λ (i : List ℕ). block i) (g.met.B.Blocks.same_image _ _ c.loop-leaf.invariant.read told)) (omega arith) (c.loop-leaf.invariant.leaves told) (c.in_ok-read_leaf.ensures.leaf told);
      order = c.in_ok-read_leaf.ensures.order;
      lie = c.in_ok-read_leaf.ensures.lie;
      fits = c.in_ok-read_leaf.ensures.fits;
    }
