-- From how a job ended to what a run says.
use Rattle.std.proofs.Common.{◌≡◌, ◌⊎◌, ℕ, List, sym, subst, refl, inl, inr, arith, Bool, true, false, IsTrue, Result, Ok, Err}
use Rattle.disk_base.specs.Devices.{Stream}
use Rattle.disk_base.specs.Faults.{Rose}
use Rattle.disk_base.specs.Stops.{AreOf}
use Rattle.words.specs.declared.job.Job.{Job}
use Rattle.words.specs.declared.job.Job.TheVariants as jobs
use Rattle.words.specs.declared.job.ResizeJob.{ResizeJob}
use Rattle.words.specs.declared.usage.Usage.{Usage as WordsFault}
use Rattle.words.specs.declared.usage.Usage.TheVariants as usages
use Rattle.words.specs.JobOf.{IsToldOf, job_of}
use Rattle.run_end.specs.declared.end.End.{End}
use Rattle.run_end.specs.declared.end.End.TheVariants.{Done, Refused, Failed}
use Rattle.run_end.specs.declared.end.Failing.TheVariants.{Device, Printing}
use Rattle.disk_base.specs.declared.device.DeviceFault.TheVariants as devices
use Rattle.run_end.specs.declared.end.Refusal.TheVariants.{NotYet, Usage as Misused, Memory}
use Rattle.run_end.specs.Ended.{Ended, TellsDisks, World}
use Rattle.run_end.specs.Ending.{IsDecided, IsLawful, IsToldFor, refusing, status_of}
use Rattle.resize_core.proofs.ResizeLaw.{resize_is_lawful}
use Rattle.run_end.proofs.EndLemmas.{decided, refusing_is_lawful, told_for, uncalled}
use Rattle.virt_run.specs.declared.tool.Tool.{Tool}
use Rattle.virt_run.specs.Lines.{TellsLine}
use Rattle.virt_run.specs.Ran.{WasRun, WasUnread, meaning_on}
use Rattle.virt_run.specs.Words.{is_served, meaning_by, resize_if, tool_named}
use Rattle.virt_run.specs.inside.Acts.{refusal_of_usage}

-- words that are no job
no_job : (answer : Result Job WordsFault) (world : World) (usage : WordsFault) → (IsTrue world.target.tells_stops → AreOf world.target.image world.target.stops)
    → answer ≡ Err usage → Ended (meaning_by answer world.source.image world.target.image) world world (Refused (Misused usage))
no_job answer world usage are is =
    let Is : Result Job WordsFault → Type 0 = λ one. Ended (meaning_by one world.source.image world.target.image) world world (Refused (Misused usage)) in
    subst Is (sym is) (uncalled world (Misused usage) are)

-- what is answered to them, or that they took more memory than there was
pub ended_misused : (answer : Result Job WordsFault) (world : World) (usage : WordsFault) → (IsTrue world.target.tells_stops → AreOf world.target.image world.target.stops)
    → IsToldOf answer usage
    → WasUnread world world (Refused (refusal_of_usage usage)) ⊎ Ended (meaning_by answer world.source.image world.target.image) world world (Refused (refusal_of_usage usage))
ended_misused answer world usages.Memory are is = inl (uncalled world Memory are)
ended_misused answer world usages.Tool are is = inr (no_job answer world usages.Tool are is)
ended_misused answer world (usages.Unknown place) are is = inr (no_job answer world (usages.Unknown place) are is)
ended_misused answer world (usages.Value place) are is = inr (no_job answer world (usages.Value place) are is)
ended_misused answer world usages.Missing are is = inr (no_job answer world usages.Missing are is)
ended_misused answer world (usages.Extra place) are is = inr (no_job answer world (usages.Extra place) are is)
ended_misused answer world (usages.Excluded place) are is = inr (no_job answer world (usages.Excluded place) are is)
ended_misused answer world (usages.Twice place) are is = inr (no_job answer world (usages.Twice place) are is)
ended_misused answer world (usages.Size place) are is = inr (no_job answer world (usages.Size place) are is)
ended_misused answer world usages.Same are is = inr (no_job answer world usages.Same are is)

-- a job to resize, by whether it is served
pub resize_by : (job : ResizeJob) (served : Bool) (old new : World) (end : End) → is_served job ≡ served → Ended (resize_if served job old.source.image old.target.image) old new end
    → Ended (resize_if (is_served job) job old.source.image old.target.image) old new end
resize_by job served old new end is ended =
    let Is : Bool → Type 0 = λ b. Ended (resize_if b job old.source.image old.target.image) old new end in
    subst Is (sym is) ended

lawful_if : (b : Bool) (job : ResizeJob) (source target : List ℕ) → IsLawful (resize_if b job source target)
lawful_if true job source target = resize_is_lawful job source target
lawful_if false job source target = refusing_is_lawful NotYet

lawful_by : (answer : Result Job WordsFault) (source target : List ℕ) → IsLawful (meaning_by answer source target)
lawful_by (Err usage) source target = refusing_is_lawful (Misused usage)
lawful_by (Ok (jobs.Resize job)) source target = lawful_if (is_served job) job source target
lawful_by (Ok (jobs.Sparsify job)) source target = refusing_is_lawful NotYet

-- what was told ended so
told_by : (words : List (List ℕ)) (old new : World) (end end' : End) → WasUnread old new end ⊎ Ended (meaning_on words old) old new end → IsToldFor end end'
    → WasUnread old new end' ⊎ Ended (meaning_on words old) old new end'
told_by words old new end end' (inl unread) for = inl (told_for (refusing Memory) old new end end' unread for)
told_by words old new end end' (inr ended) for = inr (told_for (meaning_on words old) old new end end' ended for)

-- where the words took more memory than there was, that is the end
unread_status : (old new : World) (end : End) → WasUnread old new end → status_of end ≡ 7
unread_status old new Done unread = absurd (unread.due (tt, tt))
unread_status old new (Refused refusal) unread = elim (unread.due (tt, tt)) [ inl memory ↦ rw memory refl | inr memory ↦ rw memory refl ]
unread_status old new (Failed (Device devices.Source)) unread = absurd unread.cause.0
unread_status old new (Failed (Device devices.Target)) unread = absurd unread.cause.0
unread_status old new (Failed Printing) unread = absurd (unread.due (tt, tt))

-- what is due comes, unless something fails
decided_by : (words : List (List ℕ)) (old new : World) (end : End) → WasUnread old new end ⊎ Ended (meaning_on words old) old new end
    → TellsDisks (meaning_on words old) old → IsDecided (meaning_on words old) (status_of end)
decided_by words old new end (inl unread) disks =
    let is : status_of end ≡ 7 = unread_status old new end unread in
    λ due is_due. inr (inl (omega (arith, is), omega (arith, is)))
decided_by words old new end (inr ended) disks =
    decided (meaning_on words old) end (lawful_by (job_of words) old.source.image old.target.image) (ended.due disks)

-- what was told is how the run ended
pub ran_of : (words : List (List ℕ)) (old new : World) (err err' : Stream) (end end' : End) (tool : Tool) (status : ℕ)
    → WasUnread old new end ⊎ Ended (meaning_on words old) old new end → IsToldFor end end' → tool ≡ tool_named words
    → (IsTrue err.tells → TellsLine tool (Rose err.faults err'.faults) err.text err'.text end') → status ≡ status_of end' → WasRun words old new err err' status
ran_of words old new err err' end end' tool status ended for is_tool tells is =
    let last = told_by words old new end end' ended for in
    let Decided : ℕ → Type 0 = λ n. IsDecided (meaning_on words old) n in
    let Told_by : Tool → Type 0 = λ one. TellsLine one (Rose err.faults err'.faults) err.text err'.text end' in
    record {
      end = end';
      is_status = is;
      ended = last;
      decided = λ disks. subst Decided (sym is) (decided_by words old new end' last disks);
      reported = λ e. subst Told_by is_tool (tells e);
    }
