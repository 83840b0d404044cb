use Rattle.std.proofs.Common.{◌≡◌, ◌^◌, ◌≤◌, map, take, All}
use Rattle.layout_plan.specs.declared.line.Piece.{Piece}
use Rattle.layout_plan.specs.Plans.{laid_piece}
use Rattle.layout_plan.proofs.sizing.pieces_of.Given as goal

abbrev pub invariant-loop-part : goal.invariant-loop-part
invariant-loop-part l =
    (l.pieces.items ≡ map (laid_piece l.wishes) (take l.part-index l.parts)) × All (λ (piece : Piece). piece.count ≤ 10 ^ 17) l.pieces.items
