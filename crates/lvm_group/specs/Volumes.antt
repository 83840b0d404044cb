-- The sectors of volumes: their segments in order, each with its physical volume and its sectors there.
use Rattle.std.specs.Prelude.{◌≡◌, ℕ, suc, ◌+◌, ◌*◌, max, List, [], ◌∷◌, map, slice_get, Option, Some, None, if◌then◌else◌, ◌==◌}
use Rattle.lvm_group.specs.declared.types.PhysicalVolume.{PhysicalVolume}
use Rattle.lvm_group.specs.declared.types.Segment.{Segment}
use Rattle.lvm_group.specs.declared.types.LogicalVolume.{LogicalVolume}
use Rattle.lvm_group.specs.declared.span.Span.{Span}
use Rattle.lvm_group.specs.declared.spans.Volume.{Volume}
use Rattle.lvm_group.specs.Judged.{span_of}

-- the sector at which the extents of physical volume m begin, where they are counted from n
abbrev pub start_from : ℕ → ℕ → List PhysicalVolume → ℕ
start_from n m [] = 0
start_from n m (p ∷ ps) = if n == m then p.start else start_from (suc n) m ps

-- how many sectors a physical volume has by the text: its `dev_size`, or what its extents reach, if that is more
abbrev pub device_sectors : ℕ → Option PhysicalVolume → ℕ
device_sectors extent None = 0
device_sectors extent (Some p) = max p.size (p.start + p.count * extent)

-- extents as sectors: the physical volume, the first sector there, and how many
abbrev pub run_of_span : List PhysicalVolume → ℕ → Span → ℕ × ℕ × ℕ
run_of_span ps extent s = (s.member, start_from 0 s.member ps + s.first * extent, s.count * extent)

-- the run of a segment that lies, in front of others
abbrev pub with_run : List PhysicalVolume → ℕ → Option Span → List (ℕ × ℕ × ℕ) → List (ℕ × ℕ × ℕ)
with_run ps extent None runs = runs
with_run ps extent (Some s) runs = run_of_span ps extent s ∷ runs

-- the runs of segments, in order
abbrev pub runs_in : List PhysicalVolume → ℕ → List Segment → List (ℕ × ℕ × ℕ)
runs_in ps extent [] = []
runs_in ps extent (p ∷ segments) = with_run ps extent (span_of ps p) (runs_in ps extent segments)

-- how many extents segments have
abbrev pub extents_in : List Segment → ℕ
extents_in [] = 0
extents_in (p ∷ segments) = p.count + extents_in segments

-- how a volume lies
abbrev pub volume_with : List PhysicalVolume → ℕ → LogicalVolume → Volume
volume_with ps extent l = record { extents = extents_in l.segments; runs = runs_in ps extent l.segments }

-- the volumes of a group, in order
abbrev pub volumes_with : List PhysicalVolume → ℕ → List LogicalVolume → List Volume
volumes_with ps extent [] = []
volumes_with ps extent (l ∷ ls) = volume_with ps extent l ∷ volumes_with ps extent ls

-- this item stands at that place
abbrev pub IsItemAt : {A : Type 0} → ℕ → List A → A → Type 0
IsItemAt n xs x = slice_get xs n ≡ Some x

-- the names of the volumes
abbrev pub names_of : List LogicalVolume → List (List ℕ)
names_of ls = map (λ l. l.name) ls
