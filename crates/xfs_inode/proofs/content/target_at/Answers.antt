use Rattle.std.proofs.Common.{◌≡◌, ◌∙◌, ℕ, ◌+◌, ◌-◌, List, Some, [], sym, ap, refl, arith}
use Rattle.block_claims.specs.Agreement.{block}
use Rattle.xfs_super.specs.Super.{geometry_of}
use Rattle.xfs_inode.specs.Extents.{block_named}
use Rattle.disk_base.specs.Image.{bytes_at}
use Rattle.xfs_inode.proofs.Contents.{gives_none, gives_same, target_inside, target_nowhere, target_outside}
use Rattle.xfs_inode.proofs.content.target_at.Goals as goal

pub returns-then-core-eq1-clause-bytes : goal.returns-then-core-eq1-clause-bytes
returns-then-core-eq1-clause-bytes g c =
    λ told.
    let d = block (g.B.Blocks.image c.args.disk.now) in
    gives_same _ _ c.args.offset c.copy.result c.args.out.now c.copy.new.out (target_inside d (geometry_of c.args.geo.now) c.args.core.now c.args.bytes.now c.args.extents.now c.if-core-eq1.true) c.copy.ensures

pub returns-in_default-clause-bytes : goal.returns-in_default-clause-bytes
returns-in_default-clause-bytes g c =
    λ told.
    let d = block (g.B.Blocks.image c.args.disk.now) in
    gives_same _ [] c.args.offset 0 c.args.out.now c.args.out.now
    (target_nowhere d (geometry_of c.args.geo.now) c.args.core.now c.args.bytes.now c.args.extents.now c.if-core-eq1.false (sym c.find_extent.ensures.first ∙ c.in_default.is)) (gives_none [] c.args.offset 0 c.args.out.now refl (omega arith))

pub returns-clause-bytes : goal.returns-clause-bytes
returns-clause-bytes g c =
    λ told.
    let d = block (g.B.Blocks.image c.args.disk.now) in
    let geo = geometry_of c.args.geo.now in
    let first : block_named geo c.in-Some.extent.block + (0 - c.in-Some.extent.file) ≡ block_named geo c.in-Some.extent.block = omega arith in
    let held = c.in_ok-read_block.ensures.bytes told ∙ ap d (c.block_of.ensures.block ∙ first) in
    gives_same _ (bytes_at c.read_block.new.out 56 c.args.core.now.size) c.args.offset c.copy-2.result c.args.out.now c.copy-2.new.out
    (target_outside d geo c.args.core.now c.args.bytes.now c.args.extents.now (Some c.in-Some.extent) c.if-core-eq1.false (sym c.find_extent.ensures.first ∙ c.in-Some.is) ∙ ap (λ (xs : List ℕ). bytes_at xs 56 c.args.core.now.size) (sym held)) c.copy-2.ensures
