-- The work for a plan can be carried out.
use Rattle.std.proofs.Common.{ℕ, sym, subst}
use Rattle.target_work.specs.Works.{IsCarriable, work_of}
use Rattle.resize_core.proofs.Carriable.{carriable}
use Rattle.resize_core.proofs.planning.writing_for.Goals as goal

pub new-requires : goal.new-requires
new-requires c =
    let From : ℕ → Type 0 = λ n. IsCarriable (work_of c.in_ok-table.table.first c.in_ok-transfers.transfers.items c.in_ok-table.table.writes.items n c.args.sectors) in
    subst From (sym c.sectors.ensures.sectors)
    (carriable c.args.job.now c.args.found.now.guest c.args.planned.now c.args.sectors c.requires c.in_ok-transfers.transfers.items _ _ _
    c.in_ok-table.ensures.first c.in_ok-transfers.ensures.apart c.in_ok-table.ensures.sectors)
