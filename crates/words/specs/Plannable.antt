-- What a plan asks of a job, and is true of every job that words ask for.
use Rattle.std.specs.Prelude.{◌≢◌, ◌≤◌}
use Rattle.words.specs.declared.job.Job.{Job}
use Rattle.words.specs.declared.job.Job.TheVariants.{Resize, Sparsify}
use Rattle.words.specs.declared.job.ResizeJob.{ResizeJob}

-- an alignment that a layout can have, and two names
pub record IsPlannable (job : ResizeJob) : Type 0 where
  pub some_align : 1 ≤ job.layout.align
  pub small_align : job.layout.align ≤ 1048576
  pub two_names : job.source ≢ job.target

-- a job that can be planned, where there is one to plan
abbrev pub MayBePlanned : Job → Type 0
MayBePlanned (Resize job) = IsPlannable job
MayBePlanned (Sparsify job) = Unit {0}
