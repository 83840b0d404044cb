use Rattle.std.proofs.Common.{List, subst}
use Rattle.disk_base.specs.Run.{run_of}
use Rattle.group_content.specs.declared.types.GroupVolume.{GroupVolume}
use Rattle.free_sectors.specs.Free.{LogicalGives, SomeLogical}
use Rattle.free_sectors.specs.inside.Adding.{Gathers}
use Rattle.free_sectors.proofs.Free.{group_gives}
use Rattle.free_sectors.proofs.part.give_content.Goals as goal

pub returns-in_ok-give_logicals-in-Group : goal.returns-in_ok-give_logicals-in-Group
returns-in_ok-give_logicals-in-Group c =
    let a = c.put_free.new.out in
    let b = c.give_logicals.new.out in
    let part = c.args.part.now in
    group_gives c.args.out.now a b c.args.choices.now c.args.parts.now (run_of part.start part.count) part.number part.content _ _ c.in-Group.content c.in-Group.is c.in_ok-put_free-in-Group.ensures
    (subst (λ (volumes : List GroupVolume). Gathers a b (λ x. SomeLogical (λ lv volume. LogicalGives c.args.choices.now part.number lv volume x) volumes)) c.deref.ensures.value c.in_ok-give_logicals-in-Group.ensures)
