use Rattle.std.proofs.Common.{[], ◌++◌, get_or, ap, sym, ◌∙◌}
use Rattle.std.specs.List.{cons_option}
use Rattle.words.proofs.Collection.{collected_more}
use Rattle.words.specs.JobOf.{item_wish}
use Rattle.words.proofs.wishes.read_wishes.Goals as goal

pub loop-item-preserved : goal.loop-item-preserved
loop-item-preserved c =
    let at = c.loop-item.item-index in
    let found = item_wish in
    c.in_ok-add.ensures
    ∙ ap (λ wish. c.loop-item.wishes ++ cons_option wish []) (c.find_wish-wish.ensures ∙ ap found c.item-item.is)
    ∙ ap (λ wishes. wishes ++ cons_option (found (get_or c.args.items.now at c.item-item.result)) []) c.loop-item.invariant
    ∙ sym (collected_more found c.args.items.now at c.item-item.result c.loop-item-test.true)
