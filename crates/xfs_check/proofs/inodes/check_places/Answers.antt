use Rattle.std.proofs.Common.{ℕ, ◌+◌, ◌*◌, ◌^◌, ◌<◌, List, ◌∙◌, ap, subst, arith}
use Rattle.std.proofs.lemmas.Result.{err_from_is_err_and}
use Rattle.block_claims.specs.Agreement.{block}
use Rattle.xfs_check.proofs.Rows.{counted_inodes, counted_refused, counted_root, whole_row}
use Rattle.xfs_check.specs.Seen.{inode_at_place}
use Rattle.xfs_check.specs.Valid.{has_root}
use Rattle.xfs_check.specs.inside.Steps.{AreChecked}
use Rattle.xfs_inode.specs.Seen.{SeenInode}
use Rattle.xfs_super.specs.Super.{geometry_of}
use Rattle.xfs_tree.specs.Marks.{marked}
use Rattle.xfs_check.proofs.inodes.check_places.Goals as goal

pub returns-in_err-root-clause-fault : goal.returns-in_err-root-clause-fault
returns-in_err-root-clause-fault g c = λ told.
    let p = err_from_is_err_and c.from_residual.result c.from_residual.ensures.1 in
    let geo = geometry_of c.args.geo.now in
    let mark = marked c.args.geo.now.agblocks in
    let at = c.args.at.now in
    let w : ℕ = 2 ^ c.args.geo.now.inopblog in
    let volume = block (g.B.Blocks.image c.args.disk.now) in
    let same = g.met.B.Blocks.same_image c.args.disk.now c.loop-k.disk c.loop-k.invariant.read told in
    rw (p.1, p.2) (counted_refused (λ k. inode_at_place geo volume at.group at.chunk.now c.args.bytes.now (w * at.block + k) k) w geo (mark (g.M.Mark.claimed c.args.marks.now)) (mark (g.M.Mark.claimed c.loop-k.marks)) c.loop-k.k _
    (omega (arith, c.inodes_in_block-k-end.ensures.inodes, c.loop-k-test.true)) (c.loop-k.invariant.checked told) (rw same at (c.in_err-root.ensures.fault told)))

pub loop-k-preserved : goal.loop-k-preserved
loop-k-preserved g c =
    let geo = geometry_of c.args.geo.now in
    let mark = marked c.args.geo.now.agblocks in
    let at = c.args.at.now in
    let w : ℕ = 2 ^ c.args.geo.now.inopblog in
    let volume = block (g.B.Blocks.image c.args.disk.now) in
    let lt : c.loop-k.k < w = omega (arith, c.inodes_in_block-k-end.ensures.inodes, c.loop-k-test.true) in
    record {
      read = g.met.B.Blocks.read_on c.args.disk.now c.loop-k.disk c.check_place.new.disk c.loop-k.invariant.read c.in_ok-root.ensures.read;
      checked = λ told.
          let same = g.met.B.Blocks.same_image c.args.disk.now c.loop-k.disk c.loop-k.invariant.read told in
          counted_inodes (λ k. inode_at_place geo volume at.group at.chunk.now c.args.bytes.now (w * at.block + k) k) w geo (mark (g.M.Mark.claimed c.args.marks.now)) (mark (g.M.Mark.claimed c.loop-k.marks)) (mark (g.M.Mark.claimed c.check_place.new.marks)) c.loop-k.k
          lt (c.loop-k.invariant.checked told) (rw same at (c.in_ok-root.ensures.checked told));
      root = λ told.
          let same = g.met.B.Blocks.same_image c.args.disk.now c.loop-k.disk c.loop-k.invariant.read told in
          counted_root (λ k. inode_at_place geo volume at.group at.chunk.now c.args.bytes.now (w * at.block + k) k) w geo c.loop-k.k c.loop-k.root c.in_ok-root.field-0 lt (c.loop-k.invariant.root told) (rw same at (c.in_ok-root.ensures.root told));
      admits = λ h b. c.in_ok-root.ensures.admits h b ∙ c.loop-k.invariant.admits h b;
    }

pub returns-clause-checked : goal.returns-clause-checked
returns-clause-checked g c = λ told.
    let geo = geometry_of c.args.geo.now in
    let mark = marked c.args.geo.now.agblocks in
    let at = c.args.at.now in
    let w : ℕ = 2 ^ c.args.geo.now.inopblog in
    let volume = block (g.B.Blocks.image c.args.disk.now) in
    subst (λ (l : List SeenInode). AreChecked geo l (mark (g.M.Mark.claimed c.args.marks.now)) (mark (g.M.Mark.claimed c.loop-k.marks)))
    (whole_row (λ k. inode_at_place geo volume at.group at.chunk.now c.args.bytes.now (w * at.block + k) k) w geo c.loop-k.k (omega (arith, c.inodes_in_block-k-end.ensures.inodes, c.loop-k-test.false))) (c.loop-k.invariant.checked told)

pub returns-clause-root : goal.returns-clause-root
returns-clause-root g c = λ told.
    let geo = geometry_of c.args.geo.now in
    let at = c.args.at.now in
    let w : ℕ = 2 ^ c.args.geo.now.inopblog in
    let volume = block (g.B.Blocks.image c.args.disk.now) in
    c.loop-k.invariant.root told
    ∙ ap (λ (l : List SeenInode). has_root geo l) (whole_row (λ k. inode_at_place geo volume at.group at.chunk.now c.args.bytes.now (w * at.block + k) k) w geo c.loop-k.k (omega (arith, c.inodes_in_block-k-end.ensures.inodes, c.loop-k-test.false)))
