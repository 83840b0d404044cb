-- What the functions give that lay out segments.
use Rattle.std.specs.Prelude.{◌≡◌, ℕ, ◌+◌, ◌<◌, true, List, [], ◌++◌, Option, Some, None}
use Rattle.lvm_group.specs.declared.types.PhysicalVolume.{PhysicalVolume}
use Rattle.lvm_group.specs.declared.types.Segment.{Segment}
use Rattle.lvm_group.specs.declared.types.LogicalVolume.{LogicalVolume}
use Rattle.lvm_group.specs.declared.span.Span.{Span}
use Rattle.lvm_group.specs.declared.spans.Volume.{Volume}
use Rattle.lvm_group.specs.declared.spans.Laid.{Laid}
use Rattle.lvm_group.specs.declared.spans.Laid.TheVariants.{Sound, Unsound}
use Rattle.std.specs.List.{list_all}
use Rattle.lvm_group.specs.Apart.{are_apart}
use Rattle.lvm_group.specs.Judged.{first_unsound, next_span, span_of, taken_by}
use Rattle.lvm_group.specs.Free.{AreFreeRuns, all_spans, spans_in}
use Rattle.lvm_group.specs.Volumes.{volume_with, volumes_with}

-- the extent behind a segment, and its extents where none is taken
pub record IsNextSpan (ps : List PhysicalVolume) (taken : List Span) (at : ℕ) (p : Segment) (behind : ℕ) (s : Span) : Type 0 where
  pub next : next_span ps taken at p ≡ Some s
  pub own : span_of ps p ≡ Some s
  pub follows : behind ≡ at + p.count
  pub some : 0 < s.count
  pub free : list_all (are_apart s) taken ≡ true

abbrev pub IsNextSegment : List PhysicalVolume → List Span → ℕ → Segment → Option (ℕ × Span) → Type 0
IsNextSegment ps taken at p None = next_span ps taken at p ≡ None
IsNextSegment ps taken at p (Some found) = IsNextSpan ps taken at p found.0 found.1

-- what is taken behind a volume, and how it lies
abbrev pub IsLaidVolume : List PhysicalVolume → ℕ → List Span → LogicalVolume → Option (List Span × Volume) → Type 0
IsLaidVolume ps extent taken l None = taken_by ps taken l ≡ None
IsLaidVolume ps extent taken l (Some laid) =
    (taken_by ps taken l ≡ Some laid.0) × (laid.0 ≡ taken ++ spans_in ps l.segments) × (laid.1 ≡ volume_with ps extent l)

-- all volumes, or the first that is not sound
abbrev pub AreVolumesLaid : List PhysicalVolume → ℕ → List LogicalVolume → Laid → Type 0
AreVolumesLaid ps extent ls (Sound volumes free) =
    (first_unsound ps [] 0 ls ≡ None) × (volumes ≡ volumes_with ps extent ls) × AreFreeRuns (all_spans ps ls) extent 0 ps free
AreVolumesLaid ps extent ls (Unsound n) = first_unsound ps [] 0 ls ≡ Some n
