use Rattle.std.proofs.Common.{◌∙◌, sym}
use Rattle.block_claims.specs.Agreement.{block}
use Rattle.xfs_super.specs.Super.{geometry_of}
use Rattle.xfs_inode.specs.Inode.{front_inode}
use Rattle.xfs_inode.proofs.Judged.{unjudged, sound_alone, without_target, wrong_target, right_target, holds_data}
use Rattle.xfs_inode.proofs.inode.inode_in.Goals as goal

pub returns-in_default-clause-fault : goal.returns-in_default-clause-fault
returns-in_default-clause-fault g c =
    λ told. unjudged (geometry_of c.args.geo.now) (block (g.B.Blocks.image c.args.disk.now)) c.args.ino (front_inode c.args.geo.now c.args.bytes.now) c.in_default.ensures

pub returns-then-not-needs_target_block-clause-sound : goal.returns-then-not-needs_target_block-clause-sound
returns-then-not-needs_target_block-clause-sound g c =
    λ told.
    sound_alone (geometry_of c.args.geo.now) (block (g.B.Blocks.image c.args.disk.now)) c.args.ino (front_inode c.args.geo.now c.args.bytes.now) c.in-Some.core c.in-Some.ensures
    (sym c.needs_target_block.ensures ∙ c.if-not-needs_target_block.true)

pub target_place-requires-clause-holds : goal.target_place-requires-clause-holds
target_place-requires-clause-holds g c = holds_data (geometry_of c.args.geo.now) c.args.ino (front_inode c.args.geo.now c.args.bytes.now) c.in-Some.core c.in-Some.ensures

pub returns-in_default-target_place-clause-fault : goal.returns-in_default-target_place-clause-fault
returns-in_default-target_place-clause-fault g c =
    λ told.
    without_target (geometry_of c.args.geo.now) (block (g.B.Blocks.image c.args.disk.now)) c.args.ino (front_inode c.args.geo.now c.args.bytes.now) c.in-Some.core c.in-Some.ensures
    (sym c.needs_target_block.ensures ∙ c.if-not-needs_target_block.false) c.in_default-target_place.ensures

pub returns-then-not-spells_target_block-clause-fault : goal.returns-then-not-spells_target_block-clause-fault
returns-then-not-spells_target_block-clause-fault g c =
    λ told.
    wrong_target (geometry_of c.args.geo.now) (block (g.B.Blocks.image c.args.disk.now)) c.args.ino (front_inode c.args.geo.now c.args.bytes.now) c.in-Some.core c.in-Some-target_place.at c.read_block.new.out c.in-Some.ensures
    (sym c.needs_target_block.ensures ∙ c.if-not-needs_target_block.false) c.in-Some-target_place.ensures (c.in_ok-read_block.ensures.bytes told) (sym c.spells_target_block.ensures ∙ c.if-not-spells_target_block.true)

pub returns-clause-sound : goal.returns-clause-sound
returns-clause-sound g c =
    λ told.
    right_target (geometry_of c.args.geo.now) (block (g.B.Blocks.image c.args.disk.now)) c.args.ino (front_inode c.args.geo.now c.args.bytes.now) c.in-Some.core c.in-Some-target_place.at c.read_block.new.out c.in-Some.ensures
    (sym c.needs_target_block.ensures ∙ c.if-not-needs_target_block.false) c.in-Some-target_place.ensures (c.in_ok-read_block.ensures.bytes told) (sym c.spells_target_block.ensures ∙ c.if-not-spells_target_block.false)
