-- The extents of all physical volumes on one line of numbers: those of number m begin at m · 2^40. Extents that are
-- taken are entries of it, each with the place behind its last extent and the place of its first.
use Rattle.std.specs.Prelude.{◌≡◌, ℕ, suc, ◌+◌, ◌-◌, ◌*◌, ◌≤◌, ◌<◌, max, Bool, true, ◌&&◌, ◌||◌, nat_le, nat_lt, if◌then◌else◌, List, [], ◌∷◌, ◌++◌, map}
use Rattle.std.specs.List.{list_all, filter}
use Rattle.lvm_group.specs.declared.span.Span.{Span}
use Rattle.lvm_group.specs.declared.types.PhysicalVolume.{PhysicalVolume}
use Rattle.lvm_group.specs.Apart.{are_apart}
use Rattle.lvm_group.specs.Free.{free_run}

-- the place of the first extent, and the place behind the last
abbrev pub begin_of : Span → ℕ
begin_of s = s.member * 1099511627776 + s.first

abbrev pub behind_span : Span → ℕ
behind_span s = s.member * 1099511627776 + s.first + s.count

-- the entry shares no place with those from `begin` up to `behind`
abbrev pub is_off : ℕ → ℕ → ℕ × ℕ → Bool
is_off begin behind e = nat_le behind e.1 || nat_le e.0 begin

-- entries in their order, which share no place
abbrev pub AreInLine : List (ℕ × ℕ) → Type 0
AreInLine [] = Unit {0}
AreInLine (e ∷ es) = (e.1 < e.0) × (list_all (λ f. nat_le e.0 f.1) es ≡ true) × AreInLine es

-- the same as a test
abbrev pub is_in_line : List (ℕ × ℕ) → Bool
is_in_line [] = true
is_in_line (e ∷ es) = nat_lt e.1 e.0 && (list_all (λ f. nat_le e.0 f.1) es && is_in_line es)

-- extents are apart from the spans where they share no place with an entry
abbrev pub AreKept : List Span → List (ℕ × ℕ) → Type 0
AreKept spans es =
    (s : Span) → s.first + s.count ≤ 1099511627776
    → list_all (are_apart s) spans ≡ list_all (is_off (begin_of s) (behind_span s)) es

-- the first entry, if there is one, begins behind this place
abbrev pub begins_behind : ℕ → List (ℕ × ℕ) → Bool
begins_behind behind [] = true
begins_behind behind (e ∷ es) = nat_le behind e.1

-- ---- what no entry has

-- one more gap, up to `begin`, if there is one
abbrev pub gap_before : ℕ → ℕ → ℕ → List (ℕ × ℕ) → List (ℕ × ℕ)
gap_before lo at begin gaps = if nat_lt at begin then (at - lo, begin - at) ∷ gaps else gaps

-- what is left up to `end`, from `at` on
abbrev pub last_gap : ℕ → ℕ → ℕ → List (ℕ × ℕ)
last_gap lo at end = gap_before lo at end []

-- the gaps up to `end` between entries, from `at` on, each by its place behind `lo` and its length
abbrev pub gaps : ℕ → ℕ → ℕ → List (ℕ × ℕ) → List (ℕ × ℕ)
gaps lo at end [] = last_gap lo at end
gaps lo at end (e ∷ es) =
    if nat_le end e.1 then last_gap lo at end else gap_before lo at e.1 (gaps lo (max at e.0) end es)

-- where the extents of physical volume m begin
abbrev pub line_begin : ℕ → ℕ
line_begin m = m * 1099511627776

-- the entries that end behind a place
abbrev pub from_place : ℕ → List (ℕ × ℕ) → List (ℕ × ℕ)
from_place lo es = filter (λ e. nat_lt lo e.0) es

-- the free runs of physical volume m, and of all, counted from m
abbrev pub free_on_line : ℕ → ℕ → List (ℕ × ℕ) → PhysicalVolume → List (ℕ × ℕ × ℕ)
free_on_line m extent es p =
    map (free_run m p.start extent) (gaps (line_begin m) (line_begin m) (line_begin m + p.count) (from_place (line_begin m) es))

abbrev pub free_on_all : ℕ → ℕ → List (ℕ × ℕ) → List PhysicalVolume → List (ℕ × ℕ × ℕ)
free_on_all m extent es [] = []
free_on_all m extent es (p ∷ ps) = free_on_line m extent es p ++ free_on_all (suc m) extent es ps

-- a number of extents has 32 bits
abbrev pub is_small : PhysicalVolume → Bool
is_small p = nat_lt p.count 4294967296
