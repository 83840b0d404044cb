use Rattle.std.proofs.Common.{ℕ, List, sym, subst}
use Rattle.std.proofs.lemmas.Result.{err_from_is_err_and}
use Rattle.block_claims.specs.Agreement.{block}
use Rattle.xfs_super.specs.Super.{geometry_of}
use Rattle.xfs_tree.specs.Form.{Setting}
use Rattle.xfs_tree.specs.Fork.{fork_pointers, fork_setting}
use Rattle.xfs_tree.specs.Marks.{marked}
use Rattle.xfs_tree.specs.inside.Reading.{AreInVolume}
use Rattle.xfs_tree.specs.declared.extent.Extent.{Extent}
use Rattle.xfs_tree.proofs.Blocks.{leads_all}
use Rattle.xfs_tree.proofs.Forks.{fork_fault, fork_tree, fork_claimed}
use Rattle.xfs_tree.proofs.fork.walk_fork.Goals as goal

pub walk_below-requires-clause-blocks : goal.walk_below-requires-clause-blocks
walk_below-requires-clause-blocks g c =
    let t : Setting Extent = fork_setting c.args.geo.now c.args.ino in
    let geo = geometry_of c.args.geo.now in
    subst (λ (l : List ℕ). AreInVolume geo l) (sym c.in_ok-blocks.ensures.blocks) (leads_all t geo (fork_pointers c.args.fork.now) c.in_ok-blocks.ensures.root.range.inside)

pub returns-in_err-walked-clause-fault : goal.returns-in_err-walked-clause-fault
returns-in_err-walked-clause-fault g c =
    λ told.
    let p = err_from_is_err_and c.from_residual-in_err-walked.result c.from_residual-in_err-walked.ensures.1 in
    let t : Setting Extent = fork_setting c.args.geo.now c.args.ino in
    rw (p.1, p.2) (fork_fault t (geometry_of c.args.geo.now) (block (g.B.Blocks.image c.args.disk.now)) c.args.fork.now c.height_below.result c.in_ok-blocks.blocks.items c.height_below.ensures c.in_ok-blocks.ensures.blocks c.in_ok-blocks.ensures.root
    (marked c.args.geo.now.agblocks (g.M.Mark.claimed c.args.marks.now)) _ (c.in_err-walked.ensures.fault told))

pub returns-clause-tree : goal.returns-clause-tree
returns-clause-tree g c =
    λ told.
    let t : Setting Extent = fork_setting c.args.geo.now c.args.ino in
    fork_tree t (geometry_of c.args.geo.now) (block (g.B.Blocks.image c.args.disk.now)) c.args.fork.now c.height_below.result c.in_ok-blocks.blocks.items c.height_below.ensures c.in_ok-blocks.ensures.blocks c.in_ok-blocks.ensures.root
    (marked c.args.geo.now.agblocks (g.M.Mark.claimed c.args.marks.now)) c.in_ok-walked.walked.records (c.in_ok-walked.ensures.tree told)

pub returns-clause-claimed : goal.returns-clause-claimed
returns-clause-claimed g c =
    λ told.
    let t : Setting Extent = fork_setting c.args.geo.now c.args.ino in
    let mark = marked c.args.geo.now.agblocks in
    fork_claimed t (geometry_of c.args.geo.now) (block (g.B.Blocks.image c.args.disk.now)) c.args.fork.now c.height_below.result c.in_ok-blocks.blocks.items c.height_below.ensures c.in_ok-blocks.ensures.blocks c.in_ok-blocks.ensures.root
    (mark (g.M.Mark.claimed c.args.marks.now)) (mark (g.M.Mark.claimed c.walk_below.new.marks)) (c.in_ok-walked.ensures.claimed told)
