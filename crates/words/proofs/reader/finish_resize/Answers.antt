use Rattle.std.proofs.Common.{sym, subst}
use Rattle.words.specs.declared.job.ResizeJob.{ResizeJob}
use Rattle.words.specs.Plannable.{IsPlannable}
use Rattle.words.proofs.Plannable.{plannable}
use Rattle.words.proofs.reader.finish_resize.Goals as goal

pub returns-in-Ok-resize_job-clause-plannable : goal.returns-in-Ok-resize_job-clause-plannable
returns-in-Ok-resize_job-clause-plannable c =
    let Is : ResizeJob → Type 0 = λ job. IsPlannable job in
    subst Is (sym c.in-Ok-resize_job.ensures) (plannable c.args.items.now c.in-Ok.source.now c.in-Ok.target.now c.in-Ok.ensures)
