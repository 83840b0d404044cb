use Rattle.std.proofs.Common.{◌≡◌, ℕ, List, length, ◌∙◌, ap, sym, subst, arith}
use Rattle.std.proofs.lemmas.List.{take_all}
use Rattle.std.proofs.lemmas.Result.{err_from_is_err_and}
use Rattle.block_claims.specs.Agreement.{block}
use Rattle.xfs_check.proofs.Heads.{front_of}
use Rattle.xfs_check.proofs.Rows.{chunks_row, inodes_fault, inodes_more, root_more}
use Rattle.xfs_check.specs.Valid.{has_root}
use Rattle.xfs_check.specs.inside.Reading.{inodes_of_chunk}
use Rattle.xfs_check.specs.inside.Steps.{AreChecked}
use Rattle.std.specs.List.{flat_map}
use Rattle.xfs_inode.specs.Seen.{SeenInode}
use Rattle.xfs_super.specs.Super.{geometry_of}
use Rattle.xfs_tree.specs.Marks.{marked}
use Rattle.xfs_tree.specs.declared.sparse_chunk.SparseChunk.{SparseChunk}
use Rattle.xfs_check.proofs.inodes.check_inodes.Goals as goal

abbrev none : SparseChunk
none = record { start = 0; holemask = 0; count = 0; freecount = 0; free = 0 }

pub returns-in_err-root-clause-fault : goal.returns-in_err-root-clause-fault
returns-in_err-root-clause-fault g c = λ told.
    let p = err_from_is_err_and c.from_residual-in_err-root.result c.from_residual-in_err-root.ensures.1 in
    let geo = geometry_of c.args.geo.now in
    let mark = marked c.args.geo.now.agblocks in
    let volume = block (g.B.Blocks.image c.args.disk.now) in
    let same = g.met.B.Blocks.same_image c.args.disk.now c.loop-chunk.disk c.loop-chunk.invariant.read told in
    rw (p.1, p.2, ← chunks_row geo volume c.args.group c.args.chunks.now)
    (inodes_fault (inodes_of_chunk geo volume c.args.group) none geo (mark (g.M.Mark.claimed c.args.marks.now)) (mark (g.M.Mark.claimed c.loop-chunk.marks)) c.args.chunks.now c.loop-chunk.chunk-index _ (omega arith)
    (c.loop-chunk.invariant.checked told) (rw same at (c.in_err-root.ensures.fault told)))

pub loop-chunk-preserved : goal.loop-chunk-preserved
loop-chunk-preserved g c =
    let geo = geometry_of c.args.geo.now in
    let mark = marked c.args.geo.now.agblocks in
    let volume = block (g.B.Blocks.image c.args.disk.now) in
    record {
      read = g.met.B.Blocks.read_on c.args.disk.now c.loop-chunk.disk c.check_chunk.new.disk c.loop-chunk.invariant.read c.in_ok-root.ensures.read;
      long =
          let as_long : length c.check_chunk.new.buffer ≡ length c.loop-chunk.buffer.items = c.in_ok-root.ensures.long ∙ ap (λ (l : List ℕ). length l) c.deref_mut.ensures.value in
          ap (λ (l : List ℕ). length l) (front_of c.loop-chunk.buffer.len c.check_chunk.new.buffer _ (as_long ∙ sym c.loop-chunk.buffer.ok.0)) ∙ as_long ∙ c.loop-chunk.invariant.long;
      checked = λ told.
          let same = g.met.B.Blocks.same_image c.args.disk.now c.loop-chunk.disk c.loop-chunk.invariant.read told in
          inodes_more (inodes_of_chunk geo volume c.args.group) none geo (mark (g.M.Mark.claimed c.args.marks.now)) (mark (g.M.Mark.claimed c.loop-chunk.marks)) (mark (g.M.Mark.claimed c.check_chunk.new.marks)) c.args.chunks.now c.loop-chunk.chunk-index (omega arith)
          (c.loop-chunk.invariant.checked told) (rw same at (c.in_ok-root.ensures.checked told));
      root = λ told.
          let same = g.met.B.Blocks.same_image c.args.disk.now c.loop-chunk.disk c.loop-chunk.invariant.read told in
          root_more (inodes_of_chunk geo volume c.args.group) none geo c.args.chunks.now c.loop-chunk.chunk-index c.loop-chunk.root c.in_ok-root.field-0 (omega arith) (c.loop-chunk.invariant.root told) (rw same at (c.in_ok-root.ensures.root told));
      admits = λ h b. c.in_ok-root.ensures.admits h b ∙ c.loop-chunk.invariant.admits h b;
    }

pub returns-clause-checked : goal.returns-clause-checked
returns-clause-checked g c = λ told.
    let geo = geometry_of c.args.geo.now in
    let mark = marked c.args.geo.now.agblocks in
    let volume = block (g.B.Blocks.image c.args.disk.now) in
    subst (λ (l : List SeenInode). AreChecked geo l (mark (g.M.Mark.claimed c.args.marks.now)) (mark (g.M.Mark.claimed c.loop-chunk.marks)))
    (ap (λ (l : List SparseChunk). flat_map (inodes_of_chunk geo volume c.args.group) l) (take_all c.loop-chunk.chunk-index c.args.chunks.now (omega arith)) ∙ chunks_row geo volume c.args.group c.args.chunks.now) (c.loop-chunk.invariant.checked told)

pub returns-clause-root : goal.returns-clause-root
returns-clause-root g c = λ told.
    let geo = geometry_of c.args.geo.now in
    let volume = block (g.B.Blocks.image c.args.disk.now) in
    c.loop-chunk.invariant.root told
    ∙ ap (λ (l : List SeenInode). has_root geo l)
    (ap (λ (l : List SparseChunk). flat_map (inodes_of_chunk geo volume c.args.group) l) (take_all c.loop-chunk.chunk-index c.args.chunks.now (omega arith)) ∙ chunks_row geo volume c.args.group c.args.chunks.now)
