use Rattle.std.proofs.Common.{ℕ, ◌/◌, ◌≤◌, subst, sym}
use Rattle.xfs_check.proofs.Rows.{chunk_has_blocks}
use Rattle.xfs_check.proofs.inodes.blocks_in_chunk.Goals as goal

pub returns-clause-some : goal.returns-clause-some
returns-clause-some c = subst (λ (w : ℕ). 1 ≤ 64 / w) (sym c.inodes_in_block.ensures.inodes) (chunk_has_blocks c.args.geo.now.inopblog c.args.geo.now.sizes.inodes_most).0

pub returns-clause-most : goal.returns-clause-most
returns-clause-most c = subst (λ (w : ℕ). 64 / w ≤ 64) (sym c.inodes_in_block.ensures.inodes) (chunk_has_blocks c.args.geo.now.inopblog c.args.geo.now.sizes.inodes_most).1
