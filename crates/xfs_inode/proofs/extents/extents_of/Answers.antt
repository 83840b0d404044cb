use Rattle.std.proofs.Common.{◌∙◌, sym, ap, subst}
use Rattle.block_claims.specs.Agreement.{block}
use Rattle.xfs_super.specs.Super.{geometry_of}
use Rattle.xfs_super.specs.declared.reason.Reason.TheVariants as why
use Rattle.xfs_tree.specs.Marks.{marked}
use Rattle.xfs_inode.specs.Core.{InodeFork}
use Rattle.xfs_inode.specs.Extents.{AreSoundExtents}
use Rattle.xfs_inode.specs.ForkReading.{fork_on, IsSoundForkOn, HasFaultInForkOn, ClaimedByFork, SpeaksAgainstFork}
use Rattle.xfs_inode.specs.Inode.{front_inode}
use Rattle.xfs_inode.specs.Seen.{extents_seen}
use Rattle.xfs_inode.specs.inside.Telling.{fork_as_data}
use Rattle.xfs_inode.specs.TreeFaults.{told_of_tree}
use Rattle.xfs_inode.proofs.Faults.{read_refused, extents_refused, claims_refused, all_claimed, fork_is_sound, ino_of_fork}
use Rattle.xfs_inode.proofs.Seeing.{seen_extents}
use Rattle.xfs_inode.proofs.extents.extents_of.Goals as goal

pub returns-in-Err-clause-fault : goal.returns-in-Err-clause-fault
returns-in-Err-clause-fault g c =
    λ told.
    let geo = c.args.geo.now in
    let image = g.B.Blocks.image c.args.disk.now in
    let f = fork_as_data c.in-Some.fork in
    let due = read_refused (geometry_of geo) (block image) f (marked geo.agblocks (g.M.Mark.claimed c.args.marks.now)) c.in-Err.fault c.in-Some.ensures.1 (c.in-Err.ensures.fault told) in
    rw c.told.ensures (subst (λ (x : InodeFork). HasFaultInForkOn geo x image (g.M.Mark.claimed c.args.marks.now) (told_of_tree geo.agblocks c.in-Err.fault)) c.in-Some.ensures.0 due)

pub returns-then-not-are_sound-clause-fault : goal.returns-then-not-are_sound-clause-fault
returns-then-not-are_sound-clause-fault g c =
    λ told.
    let geo = c.args.geo.now in
    let image = g.B.Blocks.image c.args.disk.now in
    let f = fork_as_data c.in-Some.fork in
    let old = marked geo.agblocks (g.M.Mark.claimed c.args.marks.now) in
    let named = sym (ino_of_fork (geometry_of geo) c.args.core.now (front_inode geo c.args.bytes.now) c.args.attribute) ∙ sym (ap (λ (x : InodeFork). x.ino) c.in-Some.ensures.0) in
    let is = c.items.ensures ∙ (c.in-Ok.ensures.fork told).extents_are in
    subst (λ (x : InodeFork). SpeaksAgainstFork (geometry_of geo) x (fork_on geo x image) old (why.Extent c.args.core.now.ino)) c.in-Some.ensures.0
    (extents_refused (geometry_of geo) (block image) f old c.items.result.now c.args.core.now.ino named c.in-Some.ensures.1 is (c.are_sound.ensures.no c.if-not-are_sound.true))

pub returns-in-Err-claim_extents-clause-fault : goal.returns-in-Err-claim_extents-clause-fault
returns-in-Err-claim_extents-clause-fault g c =
    λ told.
    let geo = c.args.geo.now in
    let image = g.B.Blocks.image c.args.disk.now in
    let f = fork_as_data c.in-Some.fork in
    let mark = marked geo.agblocks in
    let is = c.items-2.ensures ∙ (c.in-Ok.ensures.fork told).extents_are in
    let sound = subst (AreSoundExtents (geometry_of geo)) (c.items.ensures ∙ sym c.items-2.ensures) (c.are_sound.ensures.yes c.if-not-are_sound.false) in
    let due = claims_refused (geometry_of geo) (block image) f (mark (g.M.Mark.claimed c.args.marks.now)) (mark (g.M.Mark.claimed c.read_extents.new.marks)) c.items-2.result.now c.in-Err-claim_extents.fault c.in-Some.ensures.1 is sound (c.in-Ok.ensures.claimed told) c.in-Err-claim_extents.ensures.fault in
    rw c.told-in-Err-claim_extents.ensures (subst (λ (x : InodeFork). HasFaultInForkOn geo x image (g.M.Mark.claimed c.args.marks.now) (told_of_tree geo.agblocks c.in-Err-claim_extents.fault)) c.in-Some.ensures.0 due)

pub returns-clause-sound : goal.returns-clause-sound
returns-clause-sound g c =
    λ told.
    let geo = c.args.geo.now in
    let image = g.B.Blocks.image c.args.disk.now in
    let f = fork_as_data c.in-Some.fork in
    let mark = marked geo.agblocks in
    let read = c.in-Ok.ensures.fork told in
    let sound = subst (AreSoundExtents (geometry_of geo)) c.items.ensures (c.are_sound.ensures.yes c.if-not-are_sound.false) in
    let all = all_claimed (geometry_of geo) (block image) f (mark (g.M.Mark.claimed c.args.marks.now)) (mark (g.M.Mark.claimed c.read_extents.new.marks)) (mark (g.M.Mark.claimed c.claim_extents.new.marks)) c.items-2.result.now (c.items-2.ensures ∙ read.extents_are) (c.in-Ok.ensures.claimed told) c.in-Ok-claim_extents.ensures.claimed in
    subst (λ (x : InodeFork). IsSoundForkOn geo x image (g.M.Mark.claimed c.args.marks.now)) c.in-Some.ensures.0
    (fork_is_sound (geometry_of geo) (block image) f (mark (g.M.Mark.claimed c.args.marks.now)) (g.M.Mark.claimed c.claim_extents.new.marks) c.in-Ok.extents c.in-Some.ensures.1 read sound all)

pub returns-clause-extents : goal.returns-clause-extents
returns-clause-extents g c =
    λ told.
    let geo = c.args.geo.now in
    let image = g.B.Blocks.image c.args.disk.now in
    (c.in-Ok.ensures.fork told).extents_are ∙ sym (seen_extents (block image) (geometry_of geo) (fork_as_data c.in-Some.fork)) ∙ ap (λ (x : InodeFork). extents_seen (fork_on geo x image)) c.in-Some.ensures.0

pub returns-clause-claimed : goal.returns-clause-claimed
returns-clause-claimed g c =
    λ told.
    let geo = c.args.geo.now in
    let image = g.B.Blocks.image c.args.disk.now in
    let f = fork_as_data c.in-Some.fork in
    let mark = marked geo.agblocks in
    let all = all_claimed (geometry_of geo) (block image) f (mark (g.M.Mark.claimed c.args.marks.now)) (mark (g.M.Mark.claimed c.read_extents.new.marks)) (mark (g.M.Mark.claimed c.claim_extents.new.marks)) c.items-2.result.now (c.items-2.ensures ∙ (c.in-Ok.ensures.fork told).extents_are) (c.in-Ok.ensures.claimed told) c.in-Ok-claim_extents.ensures.claimed in
    subst (λ (x : InodeFork). ClaimedByFork geo x image (g.M.Mark.claimed c.args.marks.now) (g.M.Mark.claimed c.claim_extents.new.marks)) c.in-Some.ensures.0 all
