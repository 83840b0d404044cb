-- The extents that are in no segment, as greatest runs.
use Rattle.std.specs.Prelude.{◌≡◌, ℕ, suc, ◌+◌, ◌*◌, Bool, true, ◌&&◌, nat_le, nat_lt, List, [], ◌∷◌, ◌++◌, map, Option, Some, None}
use Rattle.std.specs.List.{list_all, list_any}
use Rattle.lvm_group.specs.declared.types.PhysicalVolume.{PhysicalVolume}
use Rattle.lvm_group.specs.declared.types.Segment.{Segment}
use Rattle.lvm_group.specs.declared.types.LogicalVolume.{LogicalVolume}
use Rattle.lvm_group.specs.declared.types.Spelt.{Spelt}
use Rattle.lvm_group.specs.declared.span.Span.{Span}
use Rattle.lvm_group.specs.Apart.{are_apart}
use Rattle.lvm_group.specs.Judged.{span_of}

-- the extents of a segment that lies, in front of others
abbrev pub with_span : Option Span → List Span → List Span
with_span None spans = spans
with_span (Some s) spans = s ∷ spans

abbrev pub spans_in : List PhysicalVolume → List Segment → List Span
spans_in ps [] = []
spans_in ps (p ∷ segments) = with_span (span_of ps p) (spans_in ps segments)

abbrev pub all_spans : List PhysicalVolume → List LogicalVolume → List Span
all_spans ps [] = []
all_spans ps (l ∷ ls) = spans_in ps l.segments ++ all_spans ps ls

-- extent e of physical volume m, which has `count`, is in none of the taken ones
abbrev pub is_free_extent : List Span → ℕ → ℕ → ℕ → Bool
is_free_extent taken m count e = nat_lt e count && list_all (are_apart (record { member = m; first = e; count = 1 })) taken

-- ---- runs of extents, each by its first and how many

-- extent e is in the run
abbrev pub is_in_run : ℕ → ℕ × ℕ → Bool
is_in_run e run = nat_le run.0 e && nat_lt e (run.0 + run.1)

-- each has an extent, and between each and the next is one that is in none
abbrev pub are_rising : ℕ → List (ℕ × ℕ) → Bool
are_rising from [] = true
are_rising from (run ∷ runs) = nat_le from run.0 && (nat_lt 0 run.1 && are_rising (run.0 + run.1 + 1) runs)

-- the greatest runs of the extents that pass the test, rising
pub record AreGreatest (test : ℕ → Bool) (runs : List (ℕ × ℕ)) : Type 0 where
  pub rising : are_rising 0 runs ≡ true
  pub each : (e : ℕ) → list_any (is_in_run e) runs ≡ test e

-- such a run as sectors: the physical volume, the first sector there, and how many
abbrev pub free_run : ℕ → ℕ → ℕ → ℕ × ℕ → ℕ × ℕ × ℕ
free_run m start extent run = (m, start + run.0 * extent, run.1 * extent)

-- the free extents of the physical volumes, counted from m, as greatest runs of sectors
abbrev pub AreFreeRuns : List Span → ℕ → ℕ → List PhysicalVolume → List (ℕ × ℕ × ℕ) → Type 0
AreFreeRuns taken extent m [] list = list ≡ []
AreFreeRuns taken extent m (p ∷ ps) list =
    (runs : List (ℕ × ℕ)) × (others : List (ℕ × ℕ × ℕ)) × AreGreatest (is_free_extent taken m p.count) runs ×
    (list ≡ map (free_run m p.start extent) runs ++ others) × AreFreeRuns taken extent (suc m) ps others

-- the free extents of a group
abbrev pub AreFreeIn : Spelt → List (ℕ × ℕ × ℕ) → Type 0
AreFreeIn g list = AreFreeRuns (all_spans g.physicals g.logicals) g.extent 0 g.physicals list
