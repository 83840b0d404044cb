-- What the steps of a run answer to each other.
use Rattle.std.specs.Prelude.{ℕ, ◌⊎◌, List, IsTrue, String, Result, map, string_bytes}
use Rattle.disk_base.specs.declared.device.Blocks.{Ghosts as BlocksGhosts}
use Rattle.disk_base.specs.declared.device.Disk.{Ghosts as DiskGhosts}
use Rattle.disk_base.specs.declared.output.Sink.{Ghosts as SinkGhosts}
use Rattle.disk_base.specs.Devices.{Tells}
use Rattle.disk_base.specs.Faults.{Rose}
use Rattle.run_end.specs.declared.end.End.{End}
use Rattle.run_end.specs.declared.end.Refusal.{Refusal}
use Rattle.run_end.specs.declared.end.Refusal.TheVariants.{Usage, Memory}
use Rattle.run_end.specs.Ended.{Ended, world}
use Rattle.words.specs.declared.job.Job.{Job}
use Rattle.words.specs.declared.usage.Usage.{Usage as WordsFault}
use Rattle.words.specs.declared.usage.Usage.TheVariants as usages
use Rattle.words.specs.JobOf.{job_of}
use Rattle.virt_run.specs.Ran.{WasUnread}
use Rattle.virt_run.specs.Words.{meaning_by}

-- a line is told on a stream that a call was lent, where it tells its text
abbrev pub SaysOn : {E : Type 0} → SinkGhosts E → E → E → List ℕ → Type 0
SaysOn e err err' line = IsTrue e.tells_text → Tells (Rose (e.sink_faults err) (e.sink_faults err')) line (e.text err) (e.text err')

-- the refusal for words that are no job
abbrev pub refusal_of_usage : WordsFault → Refusal
refusal_of_usage usages.Memory = Memory
refusal_of_usage usage = Usage usage

-- what an answer to the words asks for ended so, on the disks and the stream that a call was lent
abbrev pub ActedBy : {S T O : Type 0} → Result Job WordsFault → BlocksGhosts S → DiskGhosts S → BlocksGhosts T → DiskGhosts T → SinkGhosts O
    → S → T → O → S → T → O → End → Type 0
ActedBy answer sb sd tb td o source target out source' target' out' end =
    Ended (meaning_by answer (sb.image source) (tb.image target)) (world sb sd tb td o source target out) (world sb sd tb td o source' target' out') end

-- what the words ask for did, or they took more memory than there was
abbrev pub Acted : {Z S T O : Type 0} → List (String Z) → BlocksGhosts S → DiskGhosts S → BlocksGhosts T → DiskGhosts T → SinkGhosts O
    → S → T → O → S → T → O → End → Type 0
Acted words sb sd tb td o source target out source' target' out' end =
    WasUnread (world sb sd tb td o source target out) (world sb sd tb td o source' target' out') end
    ⊎ ActedBy (job_of (map string_bytes words)) sb sd tb td o source target out source' target' out' end
