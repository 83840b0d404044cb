use Rattle.std.proofs.lemmas.Result.{err_from_is_err_and}
use Rattle.gpt_table.proofs.Readings.{list_fault}
use Rattle.gpt_table.proofs.reading.read_gpt.Goals as goal

pub returns-in_err-entries-clause-fault : goal.returns-in_err-entries-clause-fault
returns-in_err-entries-clause-fault g c =
    λ t.
    let p = err_from_is_err_and c.from_residual-in_err-entries.result c.from_residual-in_err-entries.ensures.1 in
    rw (p.1, p.2)
    (list_fault (g.B.Blocks.size c.args.disk.now) (g.B.Blocks.image c.args.disk.now) c.deref.result.now c.in_ok-header.field-0 c.in_err-entries.field-0.0 (c.in_ok-header.ensures.chosen t) c.deref.ensures.value c.in_err-entries.ensures.fault)
