-- The gaps between entries in line are the greatest runs of what no entry has.
use Rattle.std.proofs.Common.{◌≡◌, ℕ, suc, ◌+◌, ◌-◌, ◌≤◌, ◌<◌, max, inl, inr, ◌⊎◌, Bool, true, false, ◌&&◌, nat_le, nat_lt, List, [], ◌∷◌, refl, ap, ◌∙◌, arith}
use Rattle.std.proofs.lemmas.Bool.Decides.{nat_tests}
use Rattle.std.specs.List.{list_all, list_any}
use Rattle.lvm_group.specs.declared.span.Span.{Span}
use Rattle.lvm_group.specs.declared.types.PhysicalVolume.{PhysicalVolume}
use Rattle.lvm_group.specs.Apart.{are_apart}
use Rattle.lvm_group.specs.Free.{is_free_extent, is_in_run, are_rising, AreGreatest, AreFreeRuns}
use Rattle.lvm_group.specs.inside.Line.{is_off, AreInLine, is_in_line, AreKept, gaps, line_begin, from_place, free_on_all, is_small}
use Rattle.lvm_group.proofs.Line.{all_off, in_line}

-- each entry ends behind a place
abbrev EndsBehind : ℕ → List (ℕ × ℕ) → Type 0
EndsBehind at es = list_all (λ f. nat_lt at f.0) es ≡ true

-- entries that begin behind a place and are in line end behind it
ends_behind : (at : ℕ) (es : List (ℕ × ℕ)) → AreInLine es → list_all (λ f. nat_le at f.1) es ≡ true → EndsBehind at es
ends_behind at [] line all = refl
ends_behind at (e ∷ es) line all =
    let ih : list_all (λ f. nat_le at f.1) es ≡ true → EndsBehind at es = ends_behind at es line.2 in
    grind (arith, nat_tests, ih, line.0)

max_is : (at behind : ℕ) → at ≤ behind → max at behind ≡ behind
max_is at behind le = omega arith

rising : (from lo at end : ℕ) (es : List (ℕ × ℕ)) → from + lo ≤ at → AreInLine es → EndsBehind at es → are_rising from (gaps lo at end es) ≡ true
rising from lo at end [] le line ends = grind (arith, nat_tests)
rising from lo at end (e ∷ es) le line ends =
    let first : at < e.0 = grind (arith, nat_tests, ends) in
    let later : EndsBehind e.0 es = ends_behind e.0 es line.2 line.1 in
    let same : max at e.0 ≡ e.0 = max_is at e.0 (omega arith) in
    let skipped : are_rising from (gaps lo e.0 end es) ≡ true = rising from lo e.0 end es (omega arith) line.2 later in
    let further : at < e.1 → are_rising ((at - lo) + (e.1 - at) + 1) (gaps lo e.0 end es) ≡ true = λ lt. rising ((at - lo) + (e.1 - at) + 1) lo e.0 end es (omega (arith, line.0)) line.2 later in
    rw same (grind (arith, nat_tests, skipped, further))

each : (lo at end n : ℕ) (es : List (ℕ × ℕ)) → lo ≤ at → AreInLine es → EndsBehind at es
    → list_any (is_in_run n) (gaps lo at end es) ≡ (nat_le at (lo + n) && (nat_lt (lo + n) end && list_all (is_off (lo + n) (lo + n + 1)) es))
each lo at end n [] le line ends = grind (arith, nat_tests)
each lo at end n (e ∷ es) le line ends =
    let first : at < e.0 = grind (arith, nat_tests, ends) in
    let later : EndsBehind e.0 es = ends_behind e.0 es line.2 line.1 in
    let same : max at e.0 ≡ e.0 = max_is at e.0 (omega arith) in
    let ih : list_any (is_in_run n) (gaps lo e.0 end es) ≡ (nat_le e.0 (lo + n) && (nat_lt (lo + n) end && list_all (is_off (lo + n) (lo + n + 1)) es)) = each lo e.0 end n es (omega arith) line.2 later in
    let rest : lo + n + 1 ≤ e.0 → list_all (is_off (lo + n) (lo + n + 1)) es ≡ true = λ before. all_off (lo + n) (lo + n + 1) e.0 es before line.1 in
    rw same (grind (arith, nat_tests, ih, rest, line.0))

-- ---- the entries from a place on

kept_all : (at lo : ℕ) (es : List (ℕ × ℕ)) → list_all (λ f. nat_le at f.1) es ≡ true → list_all (λ f. nat_le at f.1) (from_place lo es) ≡ true
kept_all at lo [] all = refl
kept_all at lo (e ∷ es) all =
    let ih : list_all (λ f. nat_le at f.1) es ≡ true → list_all (λ f. nat_le at f.1) (from_place lo es) ≡ true = kept_all at lo es in
    grind (arith, nat_tests, ih)

cases : (b : Bool) → (b ≡ true) ⊎ (b ≡ false)
cases true = inl refl
cases false = inr refl

line_from : (lo : ℕ) (es : List (ℕ × ℕ)) → AreInLine es → AreInLine (from_place lo es)
line_from lo [] line = tt
line_from lo (e ∷ es) line =
    let ih : AreInLine (from_place lo es) = line_from lo es line.2 in
    elim (cases (nat_lt lo e.0)) [
      | inl is ↦ rw is (line.0, kept_all e.0 lo es line.1, ih)
      | inr is ↦ rw is ih
    ]

ends_from : (lo : ℕ) (es : List (ℕ × ℕ)) → EndsBehind lo (from_place lo es)
ends_from lo [] = refl
ends_from lo (e ∷ es) =
    let ih : EndsBehind lo (from_place lo es) = ends_from lo es in
    grind (arith, nat_tests, ih)

off_from : (lo at : ℕ) (es : List (ℕ × ℕ)) → lo ≤ at → list_all (is_off at (at + 1)) (from_place lo es) ≡ list_all (is_off at (at + 1)) es
off_from lo at [] le = refl
off_from lo at (e ∷ es) le =
    let ih : list_all (is_off at (at + 1)) (from_place lo es) ≡ list_all (is_off at (at + 1)) es = off_from lo at es le in
    grind (arith, nat_tests, ih)

-- ---- free extents

free_each : (taken : List Span) (es : List (ℕ × ℕ)) (m count n : ℕ) → count < 4294967296 → AreInLine es → AreKept taken es
    → list_any (is_in_run n) (gaps (line_begin m) (line_begin m) (line_begin m + count) (from_place (line_begin m) es)) ≡ is_free_extent taken m count n
free_each taken es m count n small line kept =
    let lo : ℕ = line_begin m in
    let all = each lo lo (lo + count) n (from_place lo es) (omega arith) (line_from lo es line) (ends_from lo es) in
    let off = off_from lo (lo + n) es (omega arith) in
    let same : n < count → list_all (are_apart (record { member = m; first = n; count = 1 })) taken ≡ list_all (is_off (lo + n) (lo + n + 1)) es = λ lt. kept (record { member = m; first = n; count = 1 }) (omega arith) in
    all ∙ ap (λ (b : Bool). nat_le lo (lo + n) && (nat_lt (lo + n) (lo + count) && b)) off ∙ grind (arith, nat_tests, same)

greatest : (taken : List Span) (es : List (ℕ × ℕ)) (m count : ℕ) → count < 4294967296 → AreInLine es → AreKept taken es
    → AreGreatest (is_free_extent taken m count) (gaps (line_begin m) (line_begin m) (line_begin m + count) (from_place (line_begin m) es))
greatest taken es m count small line kept = record {
  rising = rising 0 (line_begin m) (line_begin m) (line_begin m + count) (from_place (line_begin m) es) (omega arith) (line_from (line_begin m) es line) (ends_from (line_begin m) es);
  each = λ n. free_each taken es m count n small line kept;
}

are_free_by : (taken : List Span) (es : List (ℕ × ℕ)) (extent m : ℕ) (ps : List PhysicalVolume) → AreInLine es → AreKept taken es → list_all is_small ps ≡ true
    → AreFreeRuns taken extent m ps (free_on_all m extent es ps)
are_free_by taken es extent m [] line kept small = refl
are_free_by taken es extent m (p ∷ ps) line kept small =
    let first : p.count < 4294967296 = grind (arith, nat_tests, small) in
    let rest : list_all is_small ps ≡ true = grind (arith, nat_tests, small) in
    (_, free_on_all (suc m) extent es ps, greatest taken es m p.count first line kept, refl, are_free_by taken es extent (suc m) ps line kept rest)

pub are_free : (taken : List Span) (es : List (ℕ × ℕ)) (extent : ℕ) (ps : List PhysicalVolume) (list : List (ℕ × ℕ × ℕ)) → is_in_line es ≡ true → AreKept taken es → list_all is_small ps ≡ true
    → list ≡ free_on_all 0 extent es ps → AreFreeRuns taken extent 0 ps list
are_free taken es extent ps list line kept small list-is = rw list-is (are_free_by taken es extent 0 ps (in_line es line) kept small)
