use Rattle.std.proofs.Common.{◌≡◌, arith, eq-eqb, ne_eqb, sym, ◌==◌, true, false, slice_index_or, ◌∙◌, ap, find}
use Rattle.layout_plan.specs.declared.part.Placed.{Placed}
use Rattle.target_table.proofs.Found.{find_here, find_more}
use Rattle.target_table.proofs.Outer.{nowhere}
use Rattle.target_table.proofs.slots.placed_with.Goals as goal

pub returns-then-one-number-clause-found : goal.returns-then-one-number-clause-found
returns-then-one-number-clause-found c =
    let here : ((slice_index_or c.parts-one-items.result.now c.loop-one.one-index nowhere).number == c.args.number) ≡ true = eq-eqb _ _ c.if-one-number.true in
    sym (ap (find (λ (one : Placed). one.number == c.args.number)) (sym c.parts-one-items.ensures)
    ∙ find_here (λ (one : Placed). one.number == c.args.number) c.parts-one-items.result.now c.loop-one.one-index nowhere (omega arith) c.loop-one.invariant here)

pub loop-one-preserved : goal.loop-one-preserved
loop-one-preserved c =
    let other : ((slice_index_or c.parts-one-items.result.now c.loop-one.one-index nowhere).number == c.args.number) ≡ false = ne_eqb _ _ c.if-one-number.false in
    find_more (λ (one : Placed). one.number == c.args.number) c.parts-one-items.result.now c.loop-one.one-index nowhere (omega arith) c.loop-one.invariant other
