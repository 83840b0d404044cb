use Rattle.std.proofs.Common.{◌∙◌, sym, ◌==◌}
use Rattle.layout_plan.specs.declared.part.Placed.{Placed}
use Rattle.target_table.specs.inside.Entering.{IsEntered}
use Rattle.target_table.proofs.Found.{found_has}
use Rattle.target_table.proofs.gpt.kept_entry.Goals as goal

pub placed_entry-requires : goal.placed_entry-requires
placed_entry-requires c =
    found_has IsEntered (λ (placed : Placed). placed.number == c.args.number) c.args.planned.now.parts c.in-Some.placed (sym c.placed_under.ensures ∙ c.in-Some.is) c.requires
