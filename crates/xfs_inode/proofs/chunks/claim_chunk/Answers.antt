use Rattle.std.proofs.Common.{ℕ, ◌/◌, ◌∙◌, ap, arith}
use Rattle.std.proofs.lemmas.Result.{err_from_is_err_and}
use Rattle.xfs_super.specs.Super.{geometry_of}
use Rattle.xfs_tree.specs.Marks.{marked}
use Rattle.xfs_inode.specs.Chunks.{chunk_block, chunk_len}
use Rattle.xfs_inode.proofs.Pieces.{counted_more, counted_fault, counted_all}
use Rattle.xfs_inode.proofs.chunks.claim_chunk.Goals as goal

pub returns-in_err-claim_block-clause-fault : goal.returns-in_err-claim_block-clause-fault
returns-in_err-claim_block-clause-fault g c =
    let p = err_from_is_err_and c.from_residual.result c.from_residual.ensures.1 in
    let geo = geometry_of c.args.geo.now in
    let mark = marked c.args.geo.now.agblocks in
    let len = ap (λ (w : ℕ). 64 / w) c.inodes_in_block-len.ensures.inodes in
    rw (p.1, p.2) (counted_fault (chunk_block geo c.args.group c.args.chunk.now) (chunk_len geo) (mark (g.M.Mark.claimed c.args.marks.now)) (mark (g.M.Mark.claimed c.loop-j.marks)) c.args.geo.now.agblocks c.loop-j.j _ (omega (arith, len, c.loop-j-test.true)) c.loop-j.invariant.claimed c.in_err-claim_block.ensures.fault)

pub loop-j-preserved : goal.loop-j-preserved
loop-j-preserved g c =
    let geo = geometry_of c.args.geo.now in
    let mark = marked c.args.geo.now.agblocks in
    let len = ap (λ (w : ℕ). 64 / w) c.inodes_in_block-len.ensures.inodes in
    record {
      claimed = counted_more (chunk_block geo c.args.group c.args.chunk.now) (chunk_len geo) (mark (g.M.Mark.claimed c.args.marks.now)) (mark (g.M.Mark.claimed c.loop-j.marks)) (mark (g.M.Mark.claimed c.claim_block.new.marks)) c.loop-j.j (omega (arith, len, c.loop-j-test.true)) c.loop-j.invariant.claimed c.in_ok-claim_block.ensures.claimed;
      admits = λ h b. c.in_ok-claim_block.ensures.admits h b ∙ c.loop-j.invariant.admits h b;
    }

pub returns-clause-claimed : goal.returns-clause-claimed
returns-clause-claimed g c =
    let geo = geometry_of c.args.geo.now in
    let mark = marked c.args.geo.now.agblocks in
    let len = ap (λ (w : ℕ). 64 / w) c.inodes_in_block-len.ensures.inodes in
    counted_all (chunk_block geo c.args.group c.args.chunk.now) (chunk_len geo) (mark (g.M.Mark.claimed c.args.marks.now)) (mark (g.M.Mark.claimed c.loop-j.marks)) c.loop-j.j (omega (arith, len, c.loop-j-test.false)) c.loop-j.invariant.claimed
