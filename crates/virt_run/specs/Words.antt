-- What the words mean.
use Rattle.std.specs.Prelude.{ℕ, List, [], length, slice_index_or, codes, Bool, ◌==◌, true, false, Result, Ok, Err, if◌then◌else◌}
use Rattle.std.specs.Str.{bytes_eq}
use Rattle.words.specs.declared.job.Job.{Job}
use Rattle.words.specs.declared.job.Job.TheVariants as jobs
use Rattle.words.specs.declared.job.ResizeJob.{ResizeJob}
use Rattle.words.specs.declared.usage.Usage.{Usage as WordsFault}
use Rattle.words.specs.JobOf.{job_of}
use Rattle.virt_run.specs.declared.tool.Tool.{Tool}
use Rattle.virt_run.specs.declared.tool.Tool.TheVariants.{Resize, Sparsify, Unnamed}
use Rattle.resize_core.specs.Resizing.{resize_of}
use Rattle.run_end.specs.declared.end.Refusal.TheVariants.{NotYet, Usage}
use Rattle.run_end.specs.Ending.{Meaning, refusing}

-- the word of that place, or nothing
abbrev pub word_at : List (List ℕ) → ℕ → List ℕ
word_at words place = slice_index_or words place []

-- the tool that the first word names
abbrev pub tool_named : List (List ℕ) → Tool
tool_named words =
    if bytes_eq (word_at words 0) (codes "virt-resize") then Resize
    else if bytes_eq (word_at words 0) (codes "virt-sparsify") then Sparsify
    else Unnamed

-- a job that is served: one that expands no logical volume
abbrev pub is_served : ResizeJob → Bool
is_served job = length job.lvs == 0

abbrev pub resize_if : Bool → ResizeJob → List ℕ → List ℕ → Meaning
resize_if true job source target = resize_of job source target
resize_if false job source target = refusing NotYet

-- what the answer to the words means, on disks that hold this
abbrev pub meaning_by : Result Job WordsFault → List ℕ → List ℕ → Meaning
meaning_by (Err usage) source target = refusing (Usage usage)
meaning_by (Ok (jobs.Resize job)) source target = resize_if (is_served job) job source target
meaning_by (Ok (jobs.Sparsify job)) source target = refusing NotYet

-- whether that answer is a job that calls disks
abbrev pub is_called : Result Job WordsFault → Bool
is_called (Ok (jobs.Resize job)) = is_served job
is_called answer = false

abbrev pub meaning_of : List (List ℕ) → List ℕ → List ℕ → Meaning
meaning_of words source target = meaning_by (job_of words) source target
