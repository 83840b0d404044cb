use Rattle.std.proofs.Common.{◌≡◌, ap, sym, ◌∙◌}
use Rattle.std.specs.List.{list_any}
use Rattle.mbr_table.specs.Slot.{stands_in}
use Rattle.mbr_table.specs.Mbr.{slots_of}
use Rattle.mbr_table.proofs.sector.is_protective.Goals as goal

pub returns-then-has_signature : goal.returns-then-has_signature
returns-then-has_signature c =
    let found : c.has_protective.result ≡ list_any stands_in (slots_of c.args.sector.now) =
    c.has_protective.ensures ∙ ap (list_any stands_in) c.slots_in.ensures in
    (λ h. (c.has_signature.ensures.0 c.if-has_signature.true, sym found ∙ h), λ p. found ∙ p.1)
