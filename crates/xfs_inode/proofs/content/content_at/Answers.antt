use Rattle.std.proofs.Common.{◌∙◌, [], sym, refl, arith}
use Rattle.block_claims.specs.Agreement.{block}
use Rattle.xfs_super.specs.Super.{geometry_of}
use Rattle.xfs_inode.specs.Inode.{front_inode}
use Rattle.xfs_inode.proofs.Contents.{gives_file, gives_none, gives_same, content_regular, content_link, content_device, content_else}
use Rattle.xfs_inode.proofs.content.content_at.Goals as goal

pub returns-then-is_regular_file-clause-bytes : goal.returns-then-is_regular_file-clause-bytes
returns-then-is_regular_file-clause-bytes g c =
    λ told.
    let d = block (g.B.Blocks.image c.args.disk.now) in
    let geo = geometry_of c.args.geo.now in
    gives_same _ _ c.args.offset c.in_ok-n.n c.args.out.now c.file_at.new.out
    (content_regular d geo c.args.core.now (front_inode c.args.geo.now c.args.bytes.now) c.args.extents.now (sym c.is_regular_file.ensures ∙ c.if-is_regular_file.true))
    (gives_file d geo c.args.extents.now c.args.core.now.size c.args.offset c.in_ok-n.n c.args.out.now c.file_at.new.out c.in_ok-n.ensures.count (c.in_ok-n.ensures.bytes told))

pub returns-then-is_link-clause-bytes : goal.returns-then-is_link-clause-bytes
returns-then-is_link-clause-bytes g c =
    λ told.
    let d = block (g.B.Blocks.image c.args.disk.now) in
    gives_same _ _ c.args.offset c.in_ok-n-2.n c.args.out.now c.target_at.new.out
    (content_link d (geometry_of c.args.geo.now) c.args.core.now (front_inode c.args.geo.now c.args.bytes.now) c.args.extents.now (sym c.is_regular_file.ensures ∙ c.if-is_regular_file.false) (sym c.is_link.ensures ∙ c.if-is_link.true))
    (c.in_ok-n-2.ensures.bytes told)

pub returns-then-is_device-clause-bytes : goal.returns-then-is_device-clause-bytes
returns-then-is_device-clause-bytes g c =
    λ told.
    let d = block (g.B.Blocks.image c.args.disk.now) in
    gives_same _ _ c.args.offset c.copy.result c.args.out.now c.copy.new.out
    (content_device d (geometry_of c.args.geo.now) c.args.core.now (front_inode c.args.geo.now c.args.bytes.now) c.args.extents.now (sym c.is_regular_file.ensures ∙ c.if-is_regular_file.false) (sym c.is_link.ensures ∙ c.if-is_link.false) (sym c.is_device.ensures ∙ c.if-is_device.true)) c.copy.ensures

pub returns-clause-bytes : goal.returns-clause-bytes
returns-clause-bytes g c =
    λ told.
    let d = block (g.B.Blocks.image c.args.disk.now) in
    gives_same _ [] c.args.offset 0 c.args.out.now c.args.out.now
    (content_else d (geometry_of c.args.geo.now) c.args.core.now (front_inode c.args.geo.now c.args.bytes.now) c.args.extents.now (sym c.is_regular_file.ensures ∙ c.if-is_regular_file.false) (sym c.is_link.ensures ∙ c.if-is_link.false) (sym c.is_device.ensures ∙ c.if-is_device.false))
    (gives_none [] c.args.offset 0 c.args.out.now refl (omega arith))
