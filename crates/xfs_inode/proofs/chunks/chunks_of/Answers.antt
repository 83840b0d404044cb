use Rattle.std.proofs.Common.{◌∙◌, List, sym, subst}
use Rattle.std.specs.List.{All}
use Rattle.xfs_super.specs.Super.{geometry_of}
use Rattle.xfs_tree.specs.Marks.{marked}
use Rattle.xfs_inode.specs.Chunks.{IsSoundChunk, inode_tree_on}
use Rattle.xfs_inode.specs.inside.ReadingChunks.{IsUnsoundAt}
use Rattle.xfs_tree.specs.declared.sparse_chunk.SparseChunk.{SparseChunk}
use Rattle.xfs_inode.proofs.ChunkFaults.{chunk_read_refused, chunk_refused, chunk_claims_refused, all_chunks_claimed, chunks_are_sound}
use Rattle.xfs_inode.proofs.chunks.chunks_of.Goals as goal

pub returns-in-Err-clause-fault : goal.returns-in-Err-clause-fault
returns-in-Err-clause-fault g c =
    λ told.
    let geo = c.args.geo.now in
    let levels = inode_tree_on geo c.args.group c.args.agi.now (g.B.Blocks.image c.args.disk.now) in
    rw c.told.ensures (chunk_read_refused (geometry_of geo) c.args.group levels (marked geo.agblocks (g.M.Mark.claimed c.args.marks.now)) c.in-Err.fault (c.in-Err.ensures.fault told))

pub returns-in-Some-clause-fault : goal.returns-in-Some-clause-fault
returns-in-Some-clause-fault g c =
    λ told.
    let geo = c.args.geo.now in
    let levels = inode_tree_on geo c.args.group c.args.agi.now (g.B.Blocks.image c.args.disk.now) in
    let bad = subst (λ (l : List SparseChunk). IsUnsoundAt (geometry_of geo) c.args.group l c.in-Some.at) (c.items.ensures ∙ sym c.items-in-Some.ensures) c.in-Some.ensures in
    chunk_refused (geometry_of geo) c.args.group levels (marked geo.agblocks (g.M.Mark.claimed c.args.marks.now)) c.items-in-Some.result.now c.in-Some.at c.inode_number-ino.result _ (c.items-in-Some.ensures ∙ (c.in-Ok.ensures.chunks told).chunks_are) bad c.inode_number-ino.ensures

pub returns-in-Err-claim_chunks-clause-fault : goal.returns-in-Err-claim_chunks-clause-fault
returns-in-Err-claim_chunks-clause-fault g c =
    λ told.
    let geo = c.args.geo.now in
    let levels = inode_tree_on geo c.args.group c.args.agi.now (g.B.Blocks.image c.args.disk.now) in
    let mark = marked geo.agblocks in
    let sound = subst (All (IsSoundChunk (geometry_of geo) c.args.group)) (c.items.ensures ∙ sym c.items-2.ensures) c.in_default.ensures in
    rw c.told-in-Err-claim_chunks.ensures (chunk_claims_refused (geometry_of geo) c.args.group levels (mark (g.M.Mark.claimed c.args.marks.now)) (mark (g.M.Mark.claimed c.read_chunks.new.marks)) c.items-2.result.now c.in-Err-claim_chunks.fault (c.items-2.ensures ∙ (c.in-Ok.ensures.chunks told).chunks_are) sound (c.in-Ok.ensures.claimed told) c.in-Err-claim_chunks.ensures.fault)

pub returns-clause-sound : goal.returns-clause-sound
returns-clause-sound g c =
    λ told.
    let geo = c.args.geo.now in
    let levels = inode_tree_on geo c.args.group c.args.agi.now (g.B.Blocks.image c.args.disk.now) in
    let mark = marked geo.agblocks in
    let read = c.in-Ok.ensures.chunks told in
    let sound = subst (All (IsSoundChunk (geometry_of geo) c.args.group)) c.items.ensures c.in_default.ensures in
    let all = all_chunks_claimed (geometry_of geo) c.args.group levels (mark (g.M.Mark.claimed c.args.marks.now)) (mark (g.M.Mark.claimed c.read_chunks.new.marks)) (mark (g.M.Mark.claimed c.claim_chunks.new.marks)) c.items-2.result.now (c.items-2.ensures ∙ read.chunks_are) (c.in-Ok.ensures.claimed told) c.in-Ok-claim_chunks.ensures.claimed in
    chunks_are_sound (geometry_of geo) c.args.group levels (mark (g.M.Mark.claimed c.args.marks.now)) (g.M.Mark.claimed c.claim_chunks.new.marks) c.in-Ok.chunks read sound all
