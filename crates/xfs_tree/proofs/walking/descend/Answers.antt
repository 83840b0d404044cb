use Rattle.std.proofs.Common.{ℕ, List, ap, ◌∙◌, arith}
use Rattle.std.proofs.lemmas.Result.{err_from_is_err_and}
use Rattle.block_claims.specs.Agreement.{block}
use Rattle.xfs_super.specs.Super.{geometry_of}
use Rattle.xfs_tree.specs.inside.Rows.{setting_of_row}
use Rattle.xfs_tree.specs.Form.{Setting}
use Rattle.xfs_tree.specs.Marks.{marked}
use Rattle.xfs_tree.proofs.Levels.{level_more_on, node_fault_on}
use Rattle.xfs_tree.proofs.walking.descend.Goals as goal

pub returns-in_err-descend_from-clause-fault : goal.returns-in_err-descend_from-clause-fault
returns-in_err-descend_from-clause-fault g c =
    λ told.
    let p = err_from_is_err_and c.from_residual.result c.from_residual.ensures.1 in
    let t : Setting g.row.R.Denot = setting_of_row g.R.Record.form c.args.row.now in
    let mark = marked c.args.row.now.geo.agblocks in
    rw (p.1, p.2) (node_fault_on t (geometry_of c.args.row.now.geo) (block (g.B.Blocks.image c.args.disk.now)) (block (g.B.Blocks.image c.loop-node.disk)) c.args.row.now.height c.args.row.now.least c.args.nodes.now c.loop-node.node-index
    (mark (g.M.Mark.claimed c.args.marks.now)) (mark (g.M.Mark.claimed c.loop-node.marks)) c.loop-node.below.items _
    (ap (λ (i : List ℕ). block i) (g.met.B.Blocks.same_image _ _ c.loop-node.invariant.read told)) (omega arith) (c.loop-node.invariant.level told) (c.in_err-descend_from.ensures.fault told))

pub loop-node-preserved : goal.loop-node-preserved
loop-node-preserved g c =
    let t : Setting g.row.R.Denot = setting_of_row g.R.Record.form c.args.row.now in
    let mark = marked c.args.row.now.geo.agblocks in
    record {
      read = g.met.B.Blocks.read_on _ _ _ c.loop-node.invariant.read c.in_ok-descend_from.ensures.read;
      level = λ told.
          level_more_on t (geometry_of c.args.row.now.geo) (block (g.B.Blocks.image c.args.disk.now)) (block (g.B.Blocks.image c.loop-node.disk)) c.args.row.now.height c.args.row.now.least c.args.nodes.now c.loop-node.node-index
          (mark (g.M.Mark.claimed c.args.marks.now)) (mark (g.M.Mark.claimed c.loop-node.marks)) (mark (g.M.Mark.claimed c.descend_from.new.marks)) c.loop-node.below.items c.descend_from.new.below.items
          (ap (λ (i : List ℕ). block i) (g.met.B.Blocks.same_image _ _ c.loop-node.invariant.read told)) (omega arith) (c.loop-node.invariant.level told) (c.in_ok-descend_from.ensures.node told);
      inside = c.in_ok-descend_from.ensures.inside c.loop-node.invariant.inside;
      admits = λ h k. c.in_ok-descend_from.ensures.admits h k ∙ c.loop-node.invariant.admits h k;
    }
