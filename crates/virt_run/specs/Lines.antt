-- What is told on standard error, byte by byte.
use Rattle.std.specs.Prelude.{◌≡◌, ℕ, List, [], ◌∷◌, ◌++◌, codes, IsTrue}
use Rattle.disk_base.specs.declared.output.Sink.{Ghosts as SinkGhosts}
use Rattle.disk_base.specs.Devices.{Tells}
use Rattle.disk_base.specs.Faults.{Rose}
use Rattle.run_end.specs.Text.{joined}
use Rattle.run_end.specs.declared.end.End.{End}
use Rattle.run_end.specs.declared.end.End.TheVariants.{Done, Refused, Failed}
use Rattle.layout_plan.specs.Texts.{no_plan_text}
use Rattle.run_end.specs.Texts.{source_text}
use Rattle.words.specs.Texts.{usage_text}
use Rattle.disk_base.specs.declared.device.DeviceFault.TheVariants as devices
use Rattle.virt_run.specs.declared.tool.Tool.{Tool}
use Rattle.virt_run.specs.declared.tool.Tool.TheVariants.{Resize, Sparsify, Unnamed}
use Rattle.run_end.specs.declared.end.Refusal.{Refusal}
use Rattle.run_end.specs.declared.end.Refusal.TheVariants.{Usage, NotYet, Source, Plan as Unplanned, Memory as OutOfMemory}
use Rattle.run_end.specs.declared.end.Failing.TheVariants.{Device, Printing}
use Rattle.run_end.specs.declared.end.Failing.{Failing}

-- what a tool calls itself; words that name none are told by `virt`
abbrev pub tool_text : Tool → List ℕ
tool_text Resize = codes "virt-resize"
tool_text Sparsify = codes "virt-sparsify"
tool_text Unnamed = codes "virt"

-- why nothing was written
abbrev pub refusal_text : Refusal → List ℕ
refusal_text (Usage usage) = joined (codes ": usage: " ∷ usage_text usage ∷ codes "\n" ∷ [])
refusal_text NotYet = codes ": not yet\n"
refusal_text (Source fault) = joined (codes ": source: " ∷ source_text fault ∷ codes "\n" ∷ [])
refusal_text (Unplanned fault) = joined (codes ": no plan: " ∷ no_plan_text fault ∷ codes "\n" ∷ [])
refusal_text OutOfMemory = codes ": memory\n"

-- what failed
abbrev pub failing_text : Failing → List ℕ
failing_text (Device devices.Source) = codes ": source device\n"
failing_text (Device devices.Target) = codes ": target device\n"
failing_text Printing = codes ": printing\n"

-- nothing is told of what is done; of every other end its line is
abbrev pub TellsLine : Tool → Type 0 → List ℕ → List ℕ → End → Type 0
TellsLine tool rose old new Done = new ≡ old
TellsLine tool rose old new (Refused refusal) = Tells rose (tool_text tool ++ refusal_text refusal) old new
TellsLine tool rose old new (Failed failing) = Tells rose (tool_text tool ++ failing_text failing) old new

-- the same on a stream that a call was lent
abbrev pub TellsEnd : {E : Type 0} → Tool → SinkGhosts E → E → E → End → Type 0
TellsEnd tool e err err' end = IsTrue e.tells_text → TellsLine tool (Rose (e.sink_faults err) (e.sink_faults err')) (e.text err) (e.text err') end
