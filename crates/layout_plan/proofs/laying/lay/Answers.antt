-- The parts that remain are few and small.
use Rattle.std.proofs.Common.{◌≡◌, ◌∙◌, List, map, sym, subst, arith, refl, IsPermutation}
use Rattle.std.proofs.lemmas.List.{length-map}
use Rattle.layout_plan.specs.declared.line.Piece.{Piece}
use Rattle.layout_plan.specs.declared.part.Part.{Part}
use Rattle.layout_plan.specs.Layouts.{IsLayout}
use Rattle.layout_plan.specs.Plans.{laid_piece}
use Rattle.layout_plan.specs.Wishes.{settled}
use Rattle.layout_plan.proofs.Remains.{few_laid, laid_parts, small_part}
use Rattle.layout_plan.proofs.Settled.{remaining_stays}
use Rattle.layout_plan.proofs.laying.lay.Goals as goal

pub pieces_of-requires : goal.pieces_of-requires
pieces_of-requires c =
    let task = c.args.task.now in
    let laid = c.in_ok-parts.parts.items in
    let each = laid_parts task.kind task.wishes.now task.parts.now laid task.source c.in_ok-parts.ensures.same_parts in
    rw c.deref-2.ensures.value (λ k d within. small_part task.kind _ (each k d within))

pub lay_out-requires-clause-few : goal.lay_out-requires-clause-few
lay_out-requires-clause-few c =
    let task = c.args.task.now in
    let laid = c.in_ok-parts.parts.items in
    rw (c.deref-3.ensures.value, c.in_ok-pieces.ensures.pieces, c.deref-2.ensures.value)
    (omega (arith, length-map laid (laid_piece c.deref.result.now), few_laid task.kind task.wishes.now task.parts.now laid task.source c.in_ok-parts.ensures.same_parts))

pub returns : goal.returns
returns c =
    let task = c.args.task.now in
    let laid = c.in_ok-parts.parts.items in
    let all = settled c.args.sectors task.wishes.now in
    let pieces : c.deref-3.result.now ≡ map (laid_piece all) laid =
    rw (c.deref-3.ensures.value, c.in_ok-pieces.ensures.pieces, c.deref-2.ensures.value, c.deref.ensures.value, c.in_ok-wishes.ensures) refl in
    let Remain : List Part → Type 0 = λ rest. IsPermutation rest laid in
    let Stand : List Piece → Type 0 = λ pieces. IsLayout task.layout.now.align c.begin.result pieces c.in_ok-line.line.spots.items in
    record {
      same_sectors = refl;
      same_wishes = c.in_ok-wishes.ensures;
      order = record {
        begin = c.begin.result;
        the_remaining = subst Remain (sym (remaining_stays c.args.sectors task.wishes.now task.parts.now)) c.in_ok-parts.ensures.same_parts;
        in_turn = c.in_ok-parts.ensures.in_turn;
        begins = c.begin.ensures.begins;
        stand = subst Stand pieces (rw c.from-align.ensures at c.in_ok-line.ensures.spots);
      };
      is_last = c.in_ok-line.ensures.last ∙ rw c.floor.ensures refl;
    }
