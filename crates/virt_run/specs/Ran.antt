-- What a run promises.
use Rattle.std.specs.Prelude.{◌≡◌, ℕ, ◌⊎◌, List, String, map, string_bytes, IsTrue, false, Result}
use Rattle.disk_base.specs.declared.device.Blocks.{Ghosts as BlocksGhosts}
use Rattle.disk_base.specs.declared.device.Disk.{Ghosts as DiskGhosts}
use Rattle.disk_base.specs.declared.output.Sink.{Ghosts as SinkGhosts}
use Rattle.disk_base.specs.Devices.{Stream, stream}
use Rattle.disk_base.specs.Faults.{Rose}
use Rattle.run_end.specs.declared.end.End.{End}
use Rattle.run_end.specs.declared.end.Refusal.TheVariants.{Memory}
use Rattle.run_end.specs.Ended.{Ended, TellsDisks, World, world}
use Rattle.run_end.specs.Ending.{IsDecided, Meaning, refusing, status_of}
use Rattle.words.specs.declared.job.Job.{Job}
use Rattle.words.specs.declared.usage.Usage.{Usage as WordsFault}
use Rattle.words.specs.JobOf.{job_of}
use Rattle.virt_run.specs.Lines.{TellsLine}
use Rattle.virt_run.specs.Words.{is_called, meaning_of, tool_named}

-- what the words mean, on disks that hold what they hold at the start
abbrev pub meaning_on : List (List ℕ) → World → Meaning
meaning_on words world = meaning_of words world.source.image world.target.image

-- where an answer to words is no job that is served, no disk was called and nothing was printed
abbrev pub UncalledBy : {S T O : Type 0} → Result Job WordsFault → S → S → T → T → O → O → Type 0
UncalledBy answer source source' target target' out out' =
    is_called answer ≡ false → (source' ≡ source) × (target' ≡ target) × (out' ≡ out)

abbrev pub Uncalled : {Z S T O : Type 0} → List (String Z) → S → S → T → T → O → O → Type 0
Uncalled words source source' target target' out out' =
    UncalledBy (job_of (map string_bytes words)) source source' target target' out out'

-- the words took more memory than there was: that is refused, and no disk is used
abbrev pub WasUnread : World → World → End → Type 0
WasUnread old new end = Ended (refusing Memory) old new end

-- the words were run: there is one end, and everything is said of it
pub record WasRun (words : List (List ℕ)) (old new : World) (err err' : Stream) (status : ℕ) : Type 0 where
  pub end : End
  pub is_status : status ≡ status_of end
  pub ended : WasUnread old new end ⊎ Ended (meaning_on words old) old new end
  pub decided : TellsDisks (meaning_on words old) old → IsDecided (meaning_on words old) status
  pub reported : IsTrue err.tells → TellsLine (tool_named words) (Rose err.faults err'.faults) err.text err'.text end

-- the words were run on the disks and the streams that a call was lent
abbrev pub Ran : {Z S T O E : Type 0} → List (String Z) → BlocksGhosts S → DiskGhosts S → BlocksGhosts T → DiskGhosts T → SinkGhosts O → SinkGhosts E
    → S → T → O → E → S → T → O → E → ℕ → Type 0
Ran words sb sd tb td o e source target out err source' target' out' err' status =
    WasRun (map string_bytes words) (world sb sd tb td o source target out) (world sb sd tb td o source' target' out') (stream e err) (stream e err') status
