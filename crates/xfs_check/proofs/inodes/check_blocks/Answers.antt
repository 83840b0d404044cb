use Rattle.std.proofs.Common.{ℕ, ◌<◌, List, ◌∙◌, ap, subst, arith}
use Rattle.std.proofs.lemmas.Result.{err_from_is_err_and}
use Rattle.block_claims.specs.Agreement.{block}
use Rattle.xfs_check.proofs.Rows.{block_of_many, chunk_row, counted_inodes, counted_refused, counted_root, whole_row}
use Rattle.xfs_check.specs.Valid.{has_root}
use Rattle.xfs_check.specs.inside.Reading.{chunk_place, inodes_of_chunk_block}
use Rattle.xfs_check.specs.inside.Steps.{AreChecked}
use Rattle.xfs_inode.specs.Chunks.{chunk_len}
use Rattle.xfs_inode.specs.Seen.{SeenInode}
use Rattle.xfs_super.specs.Super.{geometry_of}
use Rattle.xfs_tree.specs.Marks.{marked}
use Rattle.xfs_check.proofs.inodes.check_blocks.Goals as goal

pub returns-in_err-root-clause-fault : goal.returns-in_err-root-clause-fault
returns-in_err-root-clause-fault g c = λ told.
    let p = err_from_is_err_and c.from_residual.result c.from_residual.ensures.1 in
    let geo = geometry_of c.args.geo.now in
    let mark = marked c.args.geo.now.agblocks in
    let w : ℕ = chunk_len geo in
    let volume = block (g.B.Blocks.image c.args.disk.now) in
    let same = g.met.B.Blocks.same_image c.args.disk.now c.loop-number.disk c.loop-number.invariant.read told in
    rw (p.1, p.2, ← chunk_row geo volume c.args.group c.args.chunk.now) (counted_refused (inodes_of_chunk_block geo volume c.args.group c.args.chunk.now) w geo (mark (g.M.Mark.claimed c.args.marks.now)) (mark (g.M.Mark.claimed c.loop-number.marks)) c.loop-number.number _
    (omega (arith, c.blocks_in_chunk-number-end.ensures.blocks, c.loop-number-test.true)) (c.loop-number.invariant.checked told) (rw same at (c.in_err-root.ensures.fault told)))

pub loop-number-preserved : goal.loop-number-preserved
loop-number-preserved g c =
    let geo = geometry_of c.args.geo.now in
    let mark = marked c.args.geo.now.agblocks in
    let w : ℕ = chunk_len geo in
    let volume = block (g.B.Blocks.image c.args.disk.now) in
    let lt : c.loop-number.number < w = omega (arith, c.blocks_in_chunk-number-end.ensures.blocks, c.loop-number-test.true) in
    record {
      read = g.met.B.Blocks.read_on c.args.disk.now c.loop-number.disk c.check_chunk_block.new.disk c.loop-number.invariant.read c.in_ok-root.ensures.read;
      checked = λ told.
          let same = g.met.B.Blocks.same_image c.args.disk.now c.loop-number.disk c.loop-number.invariant.read told in
          counted_inodes (inodes_of_chunk_block geo volume c.args.group c.args.chunk.now) w geo (mark (g.M.Mark.claimed c.args.marks.now)) (mark (g.M.Mark.claimed c.loop-number.marks)) (mark (g.M.Mark.claimed c.check_chunk_block.new.marks)) c.loop-number.number
          lt (c.loop-number.invariant.checked told) (rw same at (c.in_ok-root.ensures.checked told));
      root = λ told.
          let same = g.met.B.Blocks.same_image c.args.disk.now c.loop-number.disk c.loop-number.invariant.read told in
          counted_root (inodes_of_chunk_block geo volume c.args.group c.args.chunk.now) w geo c.loop-number.number c.loop-number.root c.in_ok-root.field-0 lt (c.loop-number.invariant.root told) (rw same at (c.in_ok-root.ensures.root told));
      admits = λ h b. c.in_ok-root.ensures.admits h b ∙ c.loop-number.invariant.admits h b;
    }

pub returns-clause-checked : goal.returns-clause-checked
returns-clause-checked g c = λ told.
    let geo = geometry_of c.args.geo.now in
    let mark = marked c.args.geo.now.agblocks in
    let w : ℕ = chunk_len geo in
    let volume = block (g.B.Blocks.image c.args.disk.now) in
    subst (λ (l : List SeenInode). AreChecked geo l (mark (g.M.Mark.claimed c.args.marks.now)) (mark (g.M.Mark.claimed c.loop-number.marks)))
    (whole_row (inodes_of_chunk_block geo volume c.args.group c.args.chunk.now) w geo c.loop-number.number (omega (arith, c.blocks_in_chunk-number-end.ensures.blocks, c.loop-number-test.false)) ∙ chunk_row geo volume c.args.group c.args.chunk.now) (c.loop-number.invariant.checked told)

pub returns-clause-root : goal.returns-clause-root
returns-clause-root g c = λ told.
    let geo = geometry_of c.args.geo.now in
    let w : ℕ = chunk_len geo in
    let volume = block (g.B.Blocks.image c.args.disk.now) in
    c.loop-number.invariant.root told
    ∙ ap (λ (l : List SeenInode). has_root geo l) (whole_row (inodes_of_chunk_block geo volume c.args.group c.args.chunk.now) w geo c.loop-number.number (omega (arith, c.blocks_in_chunk-number-end.ensures.blocks, c.loop-number-test.false)) ∙ chunk_row geo volume c.args.group c.args.chunk.now)

pub check_chunk_block-requires-clause-held : goal.check_chunk_block-requires-clause-held
check_chunk_block-requires-clause-held g c = λ told.
    let geo = geometry_of c.args.geo.now in
    let same = g.met.B.Blocks.same_image c.args.disk.now c.loop-number.disk c.loop-number.invariant.read told in
    rw same
    (block_of_many (g.B.Blocks.image c.args.disk.now) c.args.bytes.now (chunk_place geo c.args.group c.args.chunk.now 0) (chunk_len geo) c.loop-number.number (chunk_place geo c.args.group c.args.chunk.now c.loop-number.number)
    c.requires.long (c.requires.held told) (omega (arith, c.blocks_in_chunk-number-end.ensures.blocks, c.loop-number-test.true)) (omega arith))
