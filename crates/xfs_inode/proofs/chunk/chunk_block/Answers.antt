use Rattle.std.proofs.Common.{ℕ, ◌/◌, ap, arith}
use Rattle.xfs_super.specs.Super.{geometry_of}
use Rattle.xfs_inode.proofs.Chunking.{block_of_chunk}
use Rattle.xfs_inode.proofs.chunk.chunk_block.Goals as goal

pub overflow_add-result : goal.overflow_add-result
overflow_add-result c =
    let geo = c.args.geo.now in
    let below = block_of_chunk (geometry_of geo) c.args.group c.args.chunk.now.start c.args.j geo.groups c.requires.group geo.sizes.inodes_most c.requires.sound.inside c.requires.sound.aligned c.requires.j in
    let first = ap (λ (w : ℕ). c.args.chunk.now.start / w) c.inodes_in_block.ensures.inodes in
    omega (arith, below, first)

pub overflow_add-result-2 : goal.overflow_add-result-2
overflow_add-result-2 c =
    let geo = c.args.geo.now in
    let below = block_of_chunk (geometry_of geo) c.args.group c.args.chunk.now.start c.args.j geo.groups c.requires.group geo.sizes.inodes_most c.requires.sound.inside c.requires.sound.aligned c.requires.j in
    let first = ap (λ (w : ℕ). c.args.chunk.now.start / w) c.inodes_in_block.ensures.inodes in
    omega (arith, below, first)

pub returns-clause-inside : goal.returns-clause-inside
returns-clause-inside c =
    let geo = c.args.geo.now in
    let below = block_of_chunk (geometry_of geo) c.args.group c.args.chunk.now.start c.args.j geo.groups c.requires.group geo.sizes.inodes_most c.requires.sound.inside c.requires.sound.aligned c.requires.j in
    let first = ap (λ (w : ℕ). c.args.chunk.now.start / w) c.inodes_in_block.ensures.inodes in
    omega (arith, below, first)
