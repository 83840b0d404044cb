use Rattle.std.proofs.Common.{ap, ◌++◌, ◌∙◌, ℕ, List}
use Rattle.lvm_text.specs.Written.{item_lines}
use Rattle.lvm_text.proofs.Canon.{written_spells}
use Rattle.lvm_text.proofs.writer.write_text.Goals as goal

pub returns-clause-spells : goal.returns-clause-spells
returns-clause-spells c =
    let put = c.in_ok-put_items.ensures in
    written_spells c.args.tree.now c.from_vec.result c.requires
    (c.from_vec.ensures ∙ put ∙ ap (λ (x : List ℕ). x ++ item_lines c.items.result.now) c.new-out.ensures.items ∙ ap item_lines c.items.ensures)
