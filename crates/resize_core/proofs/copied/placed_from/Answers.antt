use Rattle.std.proofs.Common.{◌≡◌, ◌∙◌, ap, find, List, arith, eq-eqb, ne_eqb, sym, ◌==◌, true, false, slice_index_or}
use Rattle.layout_plan.specs.declared.part.Placed.{Placed}
use Rattle.layout_plan.specs.declared.part.Fate.TheVariants.{Kept}
use Rattle.resize_core.proofs.Found.{find_here, find_more}
use Rattle.resize_core.proofs.copied.placed_from.Goals as goal

abbrev nowhere : Placed
nowhere = record { from = 0; number = 0; ebr = 0; start = 0; count = 0; fate = Kept }

pub returns-then-placed-number : goal.returns-then-placed-number
returns-then-placed-number c =
    let here : ((slice_index_or c.parts-placed-items.result.now c.loop-placed.placed-index nowhere).from == c.args.number) ≡ true = eq-eqb _ _ c.if-placed-number.true in
    sym (find_here (λ (placed : Placed). placed.from == c.args.number) c.parts-placed-items.result.now c.loop-placed.placed-index nowhere (omega arith) c.loop-placed.invariant here)
    ∙ ap (λ (ps : List Placed). find (λ (placed : Placed). placed.from == c.args.number) ps) c.parts-placed-items.ensures

pub loop-placed-preserved : goal.loop-placed-preserved
loop-placed-preserved c =
    let other : ((slice_index_or c.parts-placed-items.result.now c.loop-placed.placed-index nowhere).from == c.args.number) ≡ false = ne_eqb _ _ c.if-placed-number.false in
    find_more (λ (placed : Placed). placed.from == c.args.number) c.parts-placed-items.result.now c.loop-placed.placed-index nowhere (omega arith) c.loop-placed.invariant other
