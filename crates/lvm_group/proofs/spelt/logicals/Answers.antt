use Rattle.std.proofs.Common.{◌≡◌, ◌++◌, ◌∷◌, ◌+◌, [], drop, ap, ◌∙◌, rules}
use Rattle.std.proofs.lemmas.List.{drop_more}
use Rattle.std.specs.Prelude.{Some}
use Rattle.lvm_text.specs.declared.tree.Item.{Item}
use Rattle.lvm_text.specs.Tree.{items_in}
use Rattle.lvm_group.specs.Spelt.{each_section, logical_volume_of}
use Rattle.lvm_group.proofs.Ahead.{section_step, value_step}
use Rattle.lvm_group.proofs.spelt.logicals.Goals.{in-Section+in_ok-logical+in-Some+in_ok-done-in-Some, in_default}
use Rattle.lvm_group.proofs.spelt.logicals.Goals as goal

pub loop-item-preserved : goal.loop-item-preserved
loop-item-preserved c =
    let here = drop c.loop-item.item-index c.args.items.now in
    let rest = drop (c.loop-item.item-index + 1) c.args.items.now in
    let split : here ≡ c.item-item.result ∷ rest = drop_more c.args.items.now c.loop-item.item-index c.item-item.result (search rules) ∙ ap (λ (x : Item). x ∷ rest) (search rules) in
    elim c.match-item.branch [
      | in-Section+in_ok-logical+in-Some+in_ok-done-in-Some w ↦
          let gives : (logical_volume_of c.args.physicals.now) w.in-Section.name (items_in w.in-Section.tree) ≡ Some w.in-Some.one = search rules in
          let new : c.match-item.done ≡ c.loop-item.done ++ w.in-Some.one ∷ [] = search rules in
          section_step (logical_volume_of c.args.physicals.now) c.loop-item.done c.match-item.done c.item-item.result here rest w.in-Section.name w.in-Section.tree w.in-Some.one (each_section (logical_volume_of c.args.physicals.now) c.args.items.now) split w.in-Section.is gives new c.loop-item.invariant
      | in_default w ↦ value_step (logical_volume_of c.args.physicals.now) c.loop-item.done c.match-item.done c.item-item.result here rest w.in_default.field-0 w.in_default.field-1 (each_section (logical_volume_of c.args.physicals.now) c.args.items.now) split w.in_default.is w.done-is c.loop-item.invariant
    ]
