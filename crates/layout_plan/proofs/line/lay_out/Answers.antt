use Rattle.std.proofs.Common.{◌≡◌, ◌<◌, refl, arith}
use Rattle.layout_plan.specs.Layouts.{Stands, StandsFirst, no_piece, piece_at}
use Rattle.layout_plan.proofs.Lines.{laid_more}
use Rattle.layout_plan.proofs.line.lay_out.Goals as goal
use Rattle.layout_plan.proofs.line.lay_out.Goals.{then-index-eq0, else-index-eq0}

pub next_spot-spot-requires-clause-room : goal.next_spot-spot-requires-clause-room
next_spot-spot-requires-clause-room c = omega (arith, c.loop-index.invariant.bound, c.requires.few, c.loop-index-test.true)

pub loop-index-preserved : goal.loop-index-preserved
loop-index-preserved c =
    let piece = piece_at c.args.pieces.now c.loop-index.index in
    let at_first : c.loop-index.index ≡ 0 → StandsFirst c.args.begin piece.role piece.count c.if-index-eq0.spot =
    λ none. elim c.if-index-eq0.branch [ then-index-eq0 w ↦ rw w.spot-is w.first_spot-spot.ensures | else-index-eq0 w ↦ absurd (omega arith) ] in
    let at_next : 0 < c.loop-index.index → Stands c.args.align c.loop-index.before c.loop-index.last piece.role piece.count c.if-index-eq0.spot =
    λ some. elim c.if-index-eq0.branch [ then-index-eq0 w ↦ absurd (omega arith) | else-index-eq0 w ↦ rw w.spot-is w.next_spot-spot.ensures ] in
    rw c.in_ok-push.ensures.items
    (laid_more c.args.floor c.args.align c.args.begin c.args.pieces.now c.loop-index.index c.loop-index.spots.items c.loop-index.before c.loop-index.last piece c.if-index-eq0.spot
    c.loop-index.invariant at_first at_next refl (c.requires.counts c.loop-index.index no_piece c.loop-index-test.true) c.requires.some c.requires.small c.requires.begin)
