-- What is printed of a job, byte by byte.
use Rattle.std.specs.Prelude.{ℕ, Bool, true, false, List, [], ◌∷◌, ◌++◌, codes, Option, None, Some}
use Rattle.std.specs.List.{flat_map}
use Rattle.std.specs.Fmt.{decimal}
use Rattle.guest_view.specs.declared.guest.GuestPart.{GuestPart}
use Rattle.guest_view.specs.Guests.{GuestView}
use Rattle.layout_plan.specs.declared.part.Fate.{Fate}
use Rattle.layout_plan.specs.declared.part.Fate.TheVariants.{Kept, Resized, Ignored, Extended}
use Rattle.layout_plan.specs.declared.part.Placed.{Placed}
use Rattle.layout_plan.specs.Plans.{Plan}
use Rattle.run_end.specs.declared.end.VolumeFault.{VolumeFault}
use Rattle.run_end.specs.Text.{joined}
use Rattle.volume_content.specs.Text.{unread_text}
use Rattle.words.specs.declared.job.ResizeJob.{ResizeJob}
use Rattle.words.specs.declared.job.Unknown.{Unknown}
use Rattle.words.specs.declared.job.Unknown.TheVariants.{Ignore, Warn, Error}
use Rattle.resize_core.specs.Contents.{placed_from}
use Rattle.resize_core.specs.Growth.{stuck_parts}

-- what becomes of a partition
abbrev pub fate_text : Fate → List ℕ
fate_text Kept = codes "kept"
fate_text Resized = codes "resized"
fate_text Ignored = codes "ignored"
fate_text Extended = codes "extended"

-- a partition of the source, what becomes of it, and its sectors there, as first and count
abbrev pub source_part_text : GuestPart → List ℕ → List ℕ
source_part_text part fate =
    joined (codes "/dev/sda" ∷ decimal part.number ∷ codes ": " ∷ fate ∷ codes " " ∷ decimal part.start ∷ codes "+" ∷ decimal part.count ∷ [])

-- where it comes to stand on the target
abbrev pub target_text : Placed → List ℕ
target_text placed =
    joined (codes " -> /dev/sda" ∷ decimal placed.number ∷ codes " " ∷ decimal placed.start ∷ codes "+" ∷ decimal placed.count ∷ codes "\n" ∷ [])

-- the line of a partition of the source: what isn't placed is deleted
abbrev pub fate_line : GuestPart → Option Placed → List ℕ
fate_line part None = source_part_text part (codes "deleted") ++ codes "\n"
fate_line part (Some placed) = source_part_text part (fate_text placed.fate) ++ target_text placed

abbrev pub part_line : Plan → GuestPart → List ℕ
part_line plan part = fate_line part (placed_from plan part.number)

-- the line of the partition that takes what is left over
abbrev pub extra_line : Option Placed → List ℕ
extra_line None = []
extra_line (Some extra) =
    joined (codes "extra: /dev/sda" ∷ decimal extra.number ∷ codes " " ∷ decimal extra.start ∷ codes "+" ∷ decimal extra.count ∷ codes "\n" ∷ [])

-- the line of a partition whose content has to grow and can't
abbrev pub stuck_line : VolumeFault → List ℕ
stuck_line fault = joined (codes "/dev/sda" ∷ decimal fault.part ∷ codes ": not expanded: " ∷ unread_text fault.why ∷ codes "\n" ∷ [])

-- their lines, where that is asked for
abbrev pub stuck_lines : Unknown → List VolumeFault → List ℕ
stuck_lines Ignore faults = []
stuck_lines Warn faults = flat_map stuck_line faults
stuck_lines Error faults = []

-- the summary: a line for each partition of the source by number, one for what is left over, and one for each content
-- that has to grow and can't
abbrev pub lines_of : ResizeJob → GuestView → Plan → List ℕ
lines_of job guest plan =
    flat_map (part_line plan) guest.parts ++ (extra_line plan.extra ++ stuck_lines job.unknown (stuck_parts job.grow plan guest.parts))

-- the last line
abbrev pub last_line : Bool → List ℕ
last_line true = codes "dry run\n"
last_line false = codes "done\n"

-- text that is printed, or left out
abbrev pub shown : Bool → List ℕ → List ℕ
shown true text = text
shown false text = []
