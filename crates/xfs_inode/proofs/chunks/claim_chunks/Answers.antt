use Rattle.std.proofs.Common.{◌∙◌, arith}
use Rattle.std.proofs.lemmas.Result.{err_from_is_err_and}
use Rattle.xfs_super.specs.Super.{geometry_of}
use Rattle.xfs_tree.specs.Marks.{marked}
use Rattle.xfs_tree.specs.declared.sparse_chunk.SparseChunk.{SparseChunk}
use Rattle.xfs_inode.specs.Chunks.{chunk_blocks}
use Rattle.xfs_inode.proofs.Pieces.{claimed_more, claim_fault_in}
use Rattle.xfs_inode.proofs.chunks.claim_chunks.Goals as goal

abbrev none : SparseChunk
none = record { start = 0; holemask = 0; count = 0; freecount = 0; free = 0 }

pub returns-in_err-claim_chunk-clause-fault : goal.returns-in_err-claim_chunk-clause-fault
returns-in_err-claim_chunk-clause-fault g c =
    let p = err_from_is_err_and c.from_residual.result c.from_residual.ensures.1 in
    let geo = geometry_of c.args.geo.now in
    let mark = marked c.args.geo.now.agblocks in
    rw (p.1, p.2) (claim_fault_in (chunk_blocks geo c.args.group) none (mark (g.M.Mark.claimed c.args.marks.now)) (mark (g.M.Mark.claimed c.loop-chunk.marks)) c.args.geo.now.agblocks c.args.chunks.now c.loop-chunk.chunk-index _ (omega arith) c.loop-chunk.invariant.claimed c.in_err-claim_chunk.ensures.fault)

pub loop-chunk-preserved : goal.loop-chunk-preserved
loop-chunk-preserved g c =
    let geo = geometry_of c.args.geo.now in
    let mark = marked c.args.geo.now.agblocks in
    record {
      claimed = claimed_more (chunk_blocks geo c.args.group) none (mark (g.M.Mark.claimed c.args.marks.now)) (mark (g.M.Mark.claimed c.loop-chunk.marks)) (mark (g.M.Mark.claimed c.claim_chunk.new.marks)) c.args.chunks.now c.loop-chunk.chunk-index (omega arith) c.loop-chunk.invariant.claimed c.in_ok-claim_chunk.ensures.claimed;
      admits = λ h b. c.in_ok-claim_chunk.ensures.admits h b ∙ c.loop-chunk.invariant.admits h b;
    }
