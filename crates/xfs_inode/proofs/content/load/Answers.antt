use Rattle.std.proofs.Common.{◌∙◌, sym, Some, None, ap}
use Rattle.std.proofs.lemmas.Bool.{cond-true, cond-false}
use Rattle.block_claims.specs.Agreement.{block}
use Rattle.xfs_super.specs.Super.{geometry_of}
use Rattle.xfs_inode.proofs.Contents.{file_block_is}
use Rattle.xfs_inode.proofs.content.load.Goals as goal

pub returns-then-extent-clause-bytes : goal.returns-then-extent-clause-bytes
returns-then-extent-clause-bytes g c =
    λ told.
    let d = block (g.B.Blocks.image c.args.disk.now) in
    c.clear.ensures ∙ sym (file_block_is d (geometry_of c.args.geo.now) c.args.extents.now c.args.number (Some c.in-Some.extent) (sym c.find_extent.ensures.first ∙ c.in-Some.is) ∙ cond-true c.in-Some.extent.unwritten _ _ c.if-extent.true)

pub returns-in_ok-read_block-in-Some-clause-bytes : goal.returns-in_ok-read_block-in-Some-clause-bytes
returns-in_ok-read_block-in-Some-clause-bytes g c =
    λ told.
    let d = block (g.B.Blocks.image c.args.disk.now) in
    c.in_ok-read_block-in-Some.ensures.bytes told ∙ ap d c.block_of.ensures.block ∙ sym (file_block_is d (geometry_of c.args.geo.now) c.args.extents.now c.args.number (Some c.in-Some.extent) (sym c.find_extent.ensures.first ∙ c.in-Some.is) ∙ cond-false c.in-Some.extent.unwritten _ _ c.if-extent.false)

pub returns-in-None-clause-bytes : goal.returns-in-None-clause-bytes
returns-in-None-clause-bytes g c =
    λ told.
    let d = block (g.B.Blocks.image c.args.disk.now) in
    c.clear-in-None.ensures ∙ sym (file_block_is d (geometry_of c.args.geo.now) c.args.extents.now c.args.number None (sym c.find_extent.ensures.first ∙ c.in-None.is))
