use Rattle.std.proofs.Common.{sym, subst, ap, ◌∙◌}
use Rattle.std.proofs.lemmas.Result.{err_from_is_err_and}
use Rattle.block_claims.specs.Agreement.{block}
use Rattle.xfs_alloc.specs.Free.{free_seen}
use Rattle.xfs_alloc.specs.FreeSpace.{free_space}
use Rattle.xfs_check.proofs.Parting.{free_is, free_refused, headers_refused, list_refused, space_alone, space_taken}
use Rattle.xfs_check.specs.Parts.{space_parts}
use Rattle.xfs_check.specs.Seen.{agf_seen}
use Rattle.xfs_check.specs.Valid.{SpeaksAgainstSpace}
use Rattle.xfs_check.specs.inside.Reading.{group_on, head_on}
use Rattle.xfs_check.specs.inside.Steps.{IsStepRefused}
use Rattle.xfs_super.specs.Super.{geometry_of}
use Rattle.xfs_tree.specs.Marks.{marked}
use Rattle.xfs_check.proofs.space.check_space.Goals as goal

pub returns-in-Err-clause-fault : goal.returns-in-Err-clause-fault
returns-in-Err-clause-fault g c = λ told.
    let geo = geometry_of c.args.geo.now in
    let image = g.B.Blocks.image c.args.disk.now in
    let x = group_on c.args.geo.now c.args.group image in
    let old = marked c.args.geo.now.agblocks (g.M.Mark.claimed c.args.marks.now) in
    subst (IsStepRefused (SpeaksAgainstSpace geo x) geo (space_parts x) old) (sym c.told.ensures)
    (headers_refused geo (block image) c.args.group (head_on c.args.geo.now c.args.group image) old c.in-Err.fault c.in-Err.ensures.fault)

pub returns-in-Err-claim_list-clause-fault : goal.returns-in-Err-claim_list-clause-fault
returns-in-Err-claim_list-clause-fault g c = λ told.
    let geo = geometry_of c.args.geo.now in
    let image = g.B.Blocks.image c.args.disk.now in
    let x = group_on c.args.geo.now c.args.group image in
    let mark = marked c.args.geo.now.agblocks in
    let old = mark (g.M.Mark.claimed c.args.marks.now) in
    let head = c.requires.head told in
    subst (IsStepRefused (SpeaksAgainstSpace geo x) geo (space_parts x) old) (sym c.told-in-Err-claim_list.ensures)
    (list_refused geo (block image) c.args.group (head_on c.args.geo.now c.args.group image) old (mark (g.M.Mark.claimed c.claim_headers.new.marks)) c.in-Err-claim_list.fault head.sound c.in-Ok.ensures.claimed
    (rw (head.agf, head.agfl) at c.in-Err-claim_list.ensures.fault))

pub returns-in_err-free-clause-fault : goal.returns-in_err-free-clause-fault
returns-in_err-free-clause-fault g c = λ told.
    let p = err_from_is_err_and c.from_residual.result c.from_residual.ensures.1 in
    let geo = geometry_of c.args.geo.now in
    let image = g.B.Blocks.image c.args.disk.now in
    let mark = marked c.args.geo.now.agblocks in
    let head = c.requires.head told in
    rw (p.1, p.2) (free_refused geo (block image) c.args.group (head_on c.args.geo.now c.args.group image) (mark (g.M.Mark.claimed c.args.marks.now))
    (mark (g.M.Mark.claimed c.claim_headers.new.marks)) (mark (g.M.Mark.claimed c.claim_list.new.marks)) _ head.sound c.in-Ok.ensures.claimed (rw (head.agf, head.agfl) at c.in-Ok-claim_list.ensures.claimed)
    (rw head.agf at (c.in_err-free.ensures.fault told)))

pub returns-clause-space : goal.returns-clause-space
returns-clause-space g c = λ told.
    let geo = geometry_of c.args.geo.now in
    let image = g.B.Blocks.image c.args.disk.now in
    let seen = head_on c.args.geo.now c.args.group image in
    let head = c.requires.head told in
    c.in_ok-free.ensures.space told
    ∙ ap (λ a. free_space geo c.args.group (free_seen geo c.args.group a (block image))) head.agf
    ∙ ap (λ f. free_space geo c.args.group f) (sym (free_is geo (block image) c.args.group seen (λ n. 0)))

pub returns-clause-sound : goal.returns-clause-sound
returns-clause-sound g c = λ told.
    let geo = geometry_of c.args.geo.now in
    let image = g.B.Blocks.image c.args.disk.now in
    let seen = head_on c.args.geo.now c.args.group image in
    let head = c.requires.head told in
    let mid = marked c.args.geo.now.agblocks (g.M.Mark.claimed c.claim_list.new.marks) in
    rw (free_is geo (block image) c.args.group seen (λ n. 0))
    (space_alone geo c.args.group (agf_seen seen) (free_seen geo c.args.group (agf_seen seen) (block image)) mid (rw head.agf at (c.in_ok-free.ensures.sound told)))

pub returns-clause-taken : goal.returns-clause-taken
returns-clause-taken g c = λ told.
    let geo = geometry_of c.args.geo.now in
    let image = g.B.Blocks.image c.args.disk.now in
    let mark = marked c.args.geo.now.agblocks in
    let head = c.requires.head told in
    space_taken geo (block image) c.args.group (head_on c.args.geo.now c.args.group image) (mark (g.M.Mark.claimed c.args.marks.now))
    (mark (g.M.Mark.claimed c.claim_headers.new.marks)) (mark (g.M.Mark.claimed c.claim_list.new.marks)) (mark (g.M.Mark.claimed c.free_of.new.marks)) head.sound c.in-Ok.ensures.claimed
    (rw (head.agf, head.agfl) at c.in-Ok-claim_list.ensures.claimed) (rw head.agf at (c.in_ok-free.ensures.sound told)) (rw head.agf at (c.in_ok-free.ensures.claimed told))
