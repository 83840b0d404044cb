use Rattle.std.proofs.Common.{Option, None, subst, sym}
use Rattle.lvm_label.specs.declared.label.Label.{Label}
use Rattle.partition_content.specs.Found.{HasLabel}
use Rattle.partition_content.proofs.Finding.{of_same_disk}
use Rattle.partition_content.proofs.reading.find.Goals as goal

pub found_alone-requires : goal.found_alone-requires
found_alone-requires g c = λ t.
    let Has : Option Label → Type 0 = λ found. HasLabel (g.B.Blocks.size c.args.disk.now) (g.B.Blocks.image c.args.disk.now) found in
    of_same_disk (λ n image. HasLabel n image None) _ _ _ _ (sym (g.met.B.Blocks.same_size _ _ c.in-Ok.ensures.read))
    (sym (g.met.B.Blocks.same_image _ _ c.in-Ok.ensures.read t)) (subst Has c.in-None.is (c.in-Ok.ensures.label t))
