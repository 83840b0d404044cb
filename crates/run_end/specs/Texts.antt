-- What is printed of a disk that is no source.
use Rattle.std.specs.Prelude.{ℕ, List, ◌++◌, codes}
use Rattle.std.specs.Fmt.{decimal}
use Rattle.guest_view.specs.FaultTexts.{inspect_text}
use Rattle.volume_content.specs.Text.{unread_text}
use Rattle.run_end.specs.declared.end.SourceFault.{SourceFault}
use Rattle.run_end.specs.declared.end.SourceFault.TheVariants.{Guest, Volume}
use Rattle.run_end.specs.declared.end.VolumeFault.{VolumeFault}

-- a partition, and why its content can't grow
abbrev pub volume_text : VolumeFault → List ℕ
volume_text fault = codes "/dev/sda" ++ (decimal fault.part ++ (codes ": " ++ unread_text fault.why))

abbrev pub source_text : SourceFault → List ℕ
source_text (Guest fault) = inspect_text fault
source_text (Volume fault) = volume_text fault
