use Rattle.std.proofs.Common.{ℕ, ◌+◌, ◌-◌, List, map, ap, ◌∙◌, arith}
use Rattle.std.proofs.lemmas.Result.{err_from_is_err_and}
use Rattle.std.proofs.lemmas.List.{map_push}
use Rattle.block_claims.specs.Agreement.{block}
use Rattle.xfs_super.specs.Super.{geometry_of}
use Rattle.xfs_tree.specs.inside.Rows.{setting_of_row}
use Rattle.xfs_tree.specs.Form.{Setting}
use Rattle.xfs_tree.specs.Marks.{marked}
use Rattle.xfs_tree.specs.Tree.{levels_below}
use Rattle.xfs_tree.proofs.Trees.{walked_root, walked_more_on, walked_tree_on, level_fault_on, leaves_fault_on, root_fault_on}
use Rattle.xfs_tree.proofs.walking.walk_below.Goals as goal

pub returns-in_err-claim_all-clause-fault : goal.returns-in_err-claim_all-clause-fault
returns-in_err-claim_all-clause-fault g c =
    λ told.
    let p = err_from_is_err_and c.from_residual.result c.from_residual.ensures.1 in
    let t : Setting g.row.R.Denot = setting_of_row g.R.Record.form c.args.row.now in
    rw (p.1, p.2) (root_fault_on t (geometry_of c.args.row.now.geo) (block (g.B.Blocks.image c.args.disk.now)) c.args.row.now.height c.args.row.now.least c.args.blocks.items c.deref.result.now (marked c.args.row.now.geo.agblocks (g.M.Mark.claimed c.args.marks.now)) _ c.deref.ensures.value c.in_err-claim_all.ensures.fault)

pub loop-depth-init : goal.loop-depth-init
loop-depth-init g c =
    let t : Setting g.row.R.Denot = setting_of_row g.R.Record.form c.args.row.now in
    let mark = marked c.args.row.now.geo.agblocks in
    record {
      read = g.met.B.Blocks.read_nothing _;
      walked = λ told.
          walked_root t (geometry_of c.args.row.now.geo) (block (g.B.Blocks.image c.args.disk.now)) (mark (g.M.Mark.claimed c.args.marks.now)) (mark (g.M.Mark.claimed c.claim_all.new.marks)) c.args.row.now.height (c.args.row.now.height - 0) c.args.row.now.least c.args.blocks.items c.deref.result.now _ (omega arith) c.deref.ensures.value
          (ap (λ l. map (λ v. v.items) l) c.new-upper.ensures.items) c.in_ok-claim_all.ensures.claimed;
      inside = c.requires.blocks;
      admits = c.in_ok-claim_all.ensures.admits;
    }

pub returns-in_err-below-clause-fault : goal.returns-in_err-below-clause-fault
returns-in_err-below-clause-fault g c =
    λ told.
    let p = err_from_is_err_and c.from_residual-in_err-below.result c.from_residual-in_err-below.ensures.1 in
    let t : Setting g.row.R.Denot = setting_of_row g.R.Record.form c.args.row.now in
    let mark = marked c.args.row.now.geo.agblocks in
    let disk = block (g.B.Blocks.image c.args.disk.now) in
    let now = block (g.B.Blocks.image c.loop-depth.disk) in
    rw (p.1, p.2) (level_fault_on t (geometry_of c.args.row.now.geo) (levels_below t disk c.args.row.now.height c.args.row.now.least c.args.blocks.items) disk now (mark (g.M.Mark.claimed c.args.marks.now)) (mark (g.M.Mark.claimed c.loop-depth.marks))
    (c.args.row.now.height - c.loop-depth.depth) (c.args.row.now.height - (c.loop-depth.depth + 1)) c.loop-depth.least c.loop-depth.nodes.items c.deref-in-loop-depth.result.now (map (λ v. v.items) c.loop-depth.upper.items) _
    (ap (λ (i : List ℕ). block i) (g.met.B.Blocks.same_image _ _ c.loop-depth.invariant.read told)) c.deref-in-loop-depth.ensures.value (omega arith) (c.loop-depth.invariant.walked told) (c.in_err-below.ensures.fault told))

pub loop-depth-preserved : goal.loop-depth-preserved
loop-depth-preserved g c =
    let t : Setting g.row.R.Denot = setting_of_row g.R.Record.form c.args.row.now in
    let mark = marked c.args.row.now.geo.agblocks in
    let disk = block (g.B.Blocks.image c.args.disk.now) in
    let now = block (g.B.Blocks.image c.loop-depth.disk) in
    record {
      read = g.met.B.Blocks.read_on _ _ _ c.loop-depth.invariant.read c.in_ok-below.ensures.read;
      walked = λ told.
          walked_more_on t (geometry_of c.args.row.now.geo) (levels_below t disk c.args.row.now.height c.args.row.now.least c.args.blocks.items) disk now (mark (g.M.Mark.claimed c.args.marks.now)) (mark (g.M.Mark.claimed c.loop-depth.marks)) (mark (g.M.Mark.claimed c.descend.new.marks))
          (c.args.row.now.height - c.loop-depth.depth) (c.args.row.now.height - (c.loop-depth.depth + 1)) c.loop-depth.least c.loop-depth.nodes.items c.deref-in-loop-depth.result.now c.in_ok-below.below.items (map (λ v. v.items) c.loop-depth.upper.items) _
          (ap (λ (i : List ℕ). block i) (g.met.B.Blocks.same_image _ _ c.loop-depth.invariant.read told)) c.deref-in-loop-depth.ensures.value (omega arith)
          (ap (λ l. map (λ v. v.items) l) c.in_ok-push.ensures.items ∙ map_push (λ v. v.items) c.loop-depth.upper.items c.loop-depth.nodes)
          (c.loop-depth.invariant.walked told) (c.in_ok-below.ensures.level told);
      inside = c.in_ok-below.ensures.inside;
      admits = λ h b. c.in_ok-below.ensures.admits h b ∙ c.loop-depth.invariant.admits h b;
    }

pub returns-in_err-records-clause-fault : goal.returns-in_err-records-clause-fault
returns-in_err-records-clause-fault g c =
    λ told.
    let p = err_from_is_err_and c.from_residual-in_err-records.result c.from_residual-in_err-records.ensures.1 in
    let t : Setting g.row.R.Denot = setting_of_row g.R.Record.form c.args.row.now in
    let mark = marked c.args.row.now.geo.agblocks in
    let disk = block (g.B.Blocks.image c.args.disk.now) in
    let now = block (g.B.Blocks.image c.loop-depth.disk) in
    rw (p.1, p.2) (leaves_fault_on t (geometry_of c.args.row.now.geo) (levels_below t disk c.args.row.now.height c.args.row.now.least c.args.blocks.items) disk now (mark (g.M.Mark.claimed c.args.marks.now)) (mark (g.M.Mark.claimed c.loop-depth.marks))
    (c.args.row.now.height - c.loop-depth.depth) c.loop-depth.least c.loop-depth.nodes.items c.deref-2.result.now (map (λ v. v.items) c.loop-depth.upper.items) _
    (ap (λ (i : List ℕ). block i) (g.met.B.Blocks.same_image _ _ c.loop-depth.invariant.read told)) c.deref-2.ensures.value (omega arith) (c.loop-depth.invariant.walked told) (c.in_err-records.ensures.fault told))

pub returns-clause-tree : goal.returns-clause-tree
returns-clause-tree g c =
    λ told.
    let t : Setting g.row.R.Denot = setting_of_row g.R.Record.form c.args.row.now in
    let mark = marked c.args.row.now.geo.agblocks in
    let disk = block (g.B.Blocks.image c.args.disk.now) in
    let now = block (g.B.Blocks.image c.loop-depth.disk) in
    (walked_tree_on t (geometry_of c.args.row.now.geo) (levels_below t disk c.args.row.now.height c.args.row.now.least c.args.blocks.items) disk now (mark (g.M.Mark.claimed c.args.marks.now)) c.args.row.now.geo.agblocks (g.M.Mark.claimed c.loop-depth.marks)
    (c.args.row.now.height - c.loop-depth.depth) c.loop-depth.least c.loop-depth.nodes.items c.deref-2.result.now (map (λ v. v.items) c.loop-depth.upper.items) _ c.in_ok-records.records
    (ap (λ (i : List ℕ). block i) (g.met.B.Blocks.same_image _ _ c.loop-depth.invariant.read told)) c.deref-2.ensures.value (omega arith)
    (ap (λ l. map (λ v. v.items) l) c.in_ok-push-2.ensures.items ∙ map_push (λ v. v.items) c.loop-depth.upper.items c.loop-depth.nodes)
    (c.loop-depth.invariant.walked told) (c.in_ok-records.ensures.leaves told) c.in_ok-records.ensures.order).0

pub returns-clause-levels : goal.returns-clause-levels
returns-clause-levels g c =
    λ told.
    let t : Setting g.row.R.Denot = setting_of_row g.R.Record.form c.args.row.now in
    let mark = marked c.args.row.now.geo.agblocks in
    let disk = block (g.B.Blocks.image c.args.disk.now) in
    let now = block (g.B.Blocks.image c.loop-depth.disk) in
    (walked_tree_on t (geometry_of c.args.row.now.geo) (levels_below t disk c.args.row.now.height c.args.row.now.least c.args.blocks.items) disk now (mark (g.M.Mark.claimed c.args.marks.now)) c.args.row.now.geo.agblocks (g.M.Mark.claimed c.loop-depth.marks)
    (c.args.row.now.height - c.loop-depth.depth) c.loop-depth.least c.loop-depth.nodes.items c.deref-2.result.now (map (λ v. v.items) c.loop-depth.upper.items) _ c.in_ok-records.records
    (ap (λ (i : List ℕ). block i) (g.met.B.Blocks.same_image _ _ c.loop-depth.invariant.read told)) c.deref-2.ensures.value (omega arith)
    (ap (λ l. map (λ v. v.items) l) c.in_ok-push-2.ensures.items ∙ map_push (λ v. v.items) c.loop-depth.upper.items c.loop-depth.nodes)
    (c.loop-depth.invariant.walked told) (c.in_ok-records.ensures.leaves told) c.in_ok-records.ensures.order).2

pub returns-clause-claimed : goal.returns-clause-claimed
returns-clause-claimed g c =
    λ told.
    let t : Setting g.row.R.Denot = setting_of_row g.R.Record.form c.args.row.now in
    let mark = marked c.args.row.now.geo.agblocks in
    let disk = block (g.B.Blocks.image c.args.disk.now) in
    let now = block (g.B.Blocks.image c.loop-depth.disk) in
    (walked_tree_on t (geometry_of c.args.row.now.geo) (levels_below t disk c.args.row.now.height c.args.row.now.least c.args.blocks.items) disk now (mark (g.M.Mark.claimed c.args.marks.now)) c.args.row.now.geo.agblocks (g.M.Mark.claimed c.loop-depth.marks)
    (c.args.row.now.height - c.loop-depth.depth) c.loop-depth.least c.loop-depth.nodes.items c.deref-2.result.now (map (λ v. v.items) c.loop-depth.upper.items) _ c.in_ok-records.records
    (ap (λ (i : List ℕ). block i) (g.met.B.Blocks.same_image _ _ c.loop-depth.invariant.read told)) c.deref-2.ensures.value (omega arith)
    (ap (λ l. map (λ v. v.items) l) c.in_ok-push-2.ensures.items ∙ map_push (λ v. v.items) c.loop-depth.upper.items c.loop-depth.nodes)
    (c.loop-depth.invariant.walked told) (c.in_ok-records.ensures.leaves told) c.in_ok-records.ensures.order).1
