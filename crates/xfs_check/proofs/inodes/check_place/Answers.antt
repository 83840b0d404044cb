use Rattle.std.proofs.Common.{◌≡◌, ℕ, ◌+◌, ◌*◌, ◌^◌, ◌∙◌, ap, sym}
use Rattle.block_claims.specs.Agreement.{block}
use Rattle.xfs_check.proofs.Rows.{root_at_place}
use Rattle.xfs_inode.specs.Chunks.{inode_number, is_allocated}
use Rattle.xfs_super.specs.Super.{geometry_of}
use Rattle.xfs_check.proofs.inodes.check_place.Goals as goal

pub returns-clause-root : goal.returns-clause-root
returns-clause-root g c = λ told.
    let geo = geometry_of c.args.geo.now in
    let chunk = c.args.at.now.chunk.now in
    let at : ℕ = 2 ^ c.args.geo.now.inopblog * c.args.at.now.block + c.args.k in
    let is : c.inodes_in_block.result * c.args.at.now.block + c.args.k ≡ at = ap (λ (w : ℕ). w * c.args.at.now.block + c.args.k) c.inodes_in_block.ensures.inodes in
    root_at_place geo (block (g.B.Blocks.image c.args.disk.now)) c.args.at.now.group chunk c.args.bytes.now at c.args.k c.inode_number-ino.result
    (ap (λ (n : ℕ). is_allocated chunk n) (sym is) ∙ sym c.is_allocated.ensures ∙ c.if-not-is_allocated.false) (c.inode_number-ino.ensures ∙ ap (λ (n : ℕ). inode_number geo c.args.at.now.group chunk n) is)
