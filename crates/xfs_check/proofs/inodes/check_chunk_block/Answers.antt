use Rattle.std.proofs.Common.{◌≡◌, ℕ, ◌*◌, ◌^◌, false, ◌∙◌, ap, sym}
use Rattle.std.proofs.lemmas.Result.{err_from_is_err_and}
use Rattle.block_claims.specs.Agreement.{block}
use Rattle.xfs_check.proofs.Rows.{those_in_block}
use Rattle.xfs_inode.specs.Chunks.{is_hole}
use Rattle.xfs_super.specs.Super.{geometry_of}
use Rattle.xfs_check.proofs.inodes.check_chunk_block.Goals as goal

pub returns-in_err-root-clause-fault : goal.returns-in_err-root-clause-fault
returns-in_err-root-clause-fault g c = λ told.
    let p = err_from_is_err_and c.from_residual.result c.from_residual.ensures.1 in
    let at = c.args.at.now in
    let there : is_hole at.chunk.now (2 ^ c.args.geo.now.inopblog * at.block) ≡ false =
    ap (λ (w : ℕ). is_hole at.chunk.now (w * at.block)) (sym c.inodes_in_block.ensures.inodes) ∙ sym c.is_hole.ensures ∙ c.if-is_hole.false in
    let those = those_in_block (geometry_of c.args.geo.now) (block (g.B.Blocks.image c.args.disk.now)) at.group at.chunk.now at.block there in
    rw (p.1, p.2, those, ← c.requires.held told) (c.in_err-root.ensures.fault told)

pub returns-clause-checked : goal.returns-clause-checked
returns-clause-checked g c = λ told.
    let at = c.args.at.now in
    let there : is_hole at.chunk.now (2 ^ c.args.geo.now.inopblog * at.block) ≡ false =
    ap (λ (w : ℕ). is_hole at.chunk.now (w * at.block)) (sym c.inodes_in_block.ensures.inodes) ∙ sym c.is_hole.ensures ∙ c.if-is_hole.false in
    let those = those_in_block (geometry_of c.args.geo.now) (block (g.B.Blocks.image c.args.disk.now)) at.group at.chunk.now at.block there in
    rw (those, ← c.requires.held told) (c.in_ok-root.ensures.checked told)

pub returns-clause-root : goal.returns-clause-root
returns-clause-root g c = λ told.
    let at = c.args.at.now in
    let there : is_hole at.chunk.now (2 ^ c.args.geo.now.inopblog * at.block) ≡ false =
    ap (λ (w : ℕ). is_hole at.chunk.now (w * at.block)) (sym c.inodes_in_block.ensures.inodes) ∙ sym c.is_hole.ensures ∙ c.if-is_hole.false in
    let those = those_in_block (geometry_of c.args.geo.now) (block (g.B.Blocks.image c.args.disk.now)) at.group at.chunk.now at.block there in
    rw (those, ← c.requires.held told) (c.in_ok-root.ensures.root told)
