use Rattle.std.proofs.Common.{◌≡◌, List, arith, ap, ◌∙◌, eq-eqb, find, ne_eqb, sym, ◌==◌, true, false, slice_index_or}
use Rattle.layout_plan.specs.declared.part.Placed.{Placed}
use Rattle.layout_plan.specs.declared.part.Fate.TheVariants.{Kept}
use Rattle.target_table.proofs.Found.{find_here, find_more}
use Rattle.target_table.proofs.gpt.placed_under.Goals as goal

abbrev nowhere : Placed
nowhere = record { from = 0; number = 0; ebr = 0; start = 0; count = 0; fate = Kept }

pub returns-then-one-number : goal.returns-then-one-number
returns-then-one-number c =
    let here : ((slice_index_or c.parts-one-items.result.now c.loop-one.one-index nowhere).number == c.args.number) ≡ true = eq-eqb _ _ c.if-one-number.true in
    sym (find_here (λ (one : Placed). one.number == c.args.number) c.parts-one-items.result.now c.loop-one.one-index nowhere (omega arith) c.loop-one.invariant here)
    ∙ ap (λ (parts : List Placed). find (λ (one : Placed). one.number == c.args.number) parts) c.parts-one-items.ensures

pub loop-one-preserved : goal.loop-one-preserved
loop-one-preserved c =
    let other : ((slice_index_or c.parts-one-items.result.now c.loop-one.one-index nowhere).number == c.args.number) ≡ false = ne_eqb _ _ c.if-one-number.false in
    find_more (λ (one : Placed). one.number == c.args.number) c.parts-one-items.result.now c.loop-one.one-index nowhere (omega arith) c.loop-one.invariant other
