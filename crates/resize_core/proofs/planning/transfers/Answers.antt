-- What is copied is what can be copied.
use Rattle.std.proofs.Common.{◌≡◌, List, sym, subst}
use Rattle.run_copy.specs.declared.transfer.Transfer.{Transfer}
use Rattle.resize_core.specs.Contents.{transfers_of}
use Rattle.resize_core.specs.inside.Deciding.{AreTransfers}
use Rattle.resize_core.proofs.Carriable.{transfers}
use Rattle.resize_core.proofs.planning.transfers.Goals as goal

pub returns-clause-apart : goal.returns-clause-apart
returns-clause-apart c =
    let sound = c.table.ensures.sound in
    let are : c.add_boot_area.new.transfers.items ≡ transfers_of c.args.job.now c.args.guest.now c.args.planned.now =
    cc (c.in_ok-add_boot_area.ensures, c.in_ok-transfers.ensures, c.boot_end-end.ensures, c.kind-kind.ensures, c.table.ensures.table, c.parts-parts.ensures.parts) in
    let Are : List Transfer → Type 0 = λ ts. AreTransfers c.args.guest.now c.args.planned.now c.args.sectors ts in
    subst Are (sym are)
    (transfers c.args.job.now c.args.guest.now c.args.planned.now c.args.sectors c.requires sound.few sound.room c.parts-parts.ensures.source c.parts-parts.ensures.inside)
