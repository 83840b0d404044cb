use Rattle.std.proofs.Common.{List, subst}
use Rattle.group_content.specs.declared.types.GroupVolume.{GroupVolume}
use Rattle.free_sectors.specs.Free.{LogicalKeeps, SomeLogical}
use Rattle.free_sectors.specs.inside.Adding.{Gathers}
use Rattle.free_sectors.proofs.Free.{group_keeps}
use Rattle.free_sectors.proofs.part.keep_content.Goals as goal

pub returns : goal.returns
returns c =
    let a = c.put_free_if.new.out in
    let b = c.keep_logicals.new.out in
    let number = c.args.part.now.number in
    group_keeps c.args.out.now a b c.args.choices.now c.args.parts.now number c.args.part.now.content _ _ c.in-Group.content _ c.in-Group.is c.is_ignored_group-is_ignored.ensures c.in_ok-put_free_if.ensures
    (subst (λ (volumes : List GroupVolume). Gathers a b (λ x. SomeLogical (λ lv volume. LogicalKeeps c.args.choices.now number lv volume x) volumes)) c.deref.ensures.value c.in_ok-keep_logicals.ensures)
