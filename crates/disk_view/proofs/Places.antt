-- Where on the disk the sectors of a join stand.
use Rattle.std.proofs.Common.{arith, ◌≡◌, ℕ, zero, suc, ◌+◌, ◌-◌, ◌*◌, ◌<◌, ◌≤◌, true, false, List, [], ◌∷◌, ap, sym, subst, ◌∙◌, refl, length, take, append-nil, slice_index_or, inl, inr, All, AllPairs}
use Rattle.std.specs.Prelude.{nat_lt}
use Rattle.std.proofs.lemmas.Bool.{cases_lt}
use Rattle.std.proofs.lemmas.Bool.Decides.{nat_tests}
use Rattle.std.proofs.lemmas.List.Elements.{All-head, All-tail}
use Rattle.disk_base.specs.Image.{bytes_at, sector}
use Rattle.disk_base.specs.Run.{IsWithin, AreApart, end_of}
use Rattle.disk_base.specs.declared.run.Run.{Run}
use Rattle.disk_view.specs.Join.{joined_runs, total, place, IsInOne}
use Rattle.disk_view.specs.inside.Lengths.{total-cons}
use Rattle.disk_view.proofs.Joins.{in_run, skip_run}
use Rattle.disk_view.proofs.Counts.{first_apart, later_apart}

place_here : (run : Run) (later : List Run) (k : ℕ) → k < run.count → place (run ∷ later) k ≡ run.start + k
place_here run later k h = let t : nat_lt k run.count ≡ true = grind (arith, nat_tests) in rw t refl

place_later : (run : Run) (later : List Run) (k : ℕ) → run.count ≤ k → place (run ∷ later) k ≡ place later (k - run.count)
place_later run later k h = let t : nat_lt k run.count ≡ false = grind (arith, nat_tests) in rw t refl

pub lone_join : (image : List ℕ) (run : Run) → joined_runs image (run ∷ []) ≡ bytes_at image (512 * run.start) (512 * run.count)
lone_join image run = append-nil _

pub sector_of_join : (image : List ℕ) (size : ℕ) (runs : List Run) (k : ℕ) → length image ≡ 512 * size → All (IsWithin size) runs → k < total runs
    → sector (joined_runs image runs) k ≡ sector image (place runs k)
sector_of_join image size [] k long on h = let no_run : ⊥ = omega (arith, h) in absurd no_run
sector_of_join image size (run ∷ later) k long on h =
    let fits : end_of run ≤ size = All-head (IsWithin size) run later on in
    elim (cases_lt k run.count) [
      | inl small ↦ in_run image size run later k 512 (run.start + k) long fits (omega (arith, small)) refl ∙ sym (ap (sector image) (place_here run later k small))
      | inr large ↦
          skip_run image size run later k (k - run.count) 512 long fits (omega (arith, large))
          ∙ sector_of_join image size later (k - run.count) long (All-tail (IsWithin size) run later on) (omega (arith, h, large, total-cons run later))
          ∙ sym (ap (sector image) (place_later run later k large))
    ]

pub place_within : (size : ℕ) (runs : List Run) (k : ℕ) → All (IsWithin size) runs → k < total runs → place runs k < size
place_within size [] k on h = let no_run : ⊥ = omega (arith, h) in absurd no_run
place_within size (run ∷ later) k on h =
    let fits : end_of run ≤ size = All-head (IsWithin size) run later on in
    elim (cases_lt k run.count) [
      | inl small ↦ let e = place_here run later k small in omega (arith, fits, small, e)
      | inr large ↦
          let e = place_later run later k large in
          let rest = place_within size later (k - run.count) (All-tail (IsWithin size) run later on) (omega (arith, h, large, total-cons run later)) in
          omega (arith, rest, e)
    ]

pub places_follow : (runs : List Run) (i j : ℕ) (d : Run) → i < length runs → j < (slice_index_or runs i d).count → place runs (total (take i runs) + j) ≡ (slice_index_or runs i d).start + j
places_follow [] i j d h small = absurd (omega (arith, h))
places_follow (run ∷ later) zero j d h small = let front : 0 + j ≡ j = omega arith in ap (place (run ∷ later)) front ∙ place_here run later j small
places_follow (run ∷ later) (suc i) j d h small =
    let sum : total (run ∷ take i later) ≡ run.count + total (take i later) = total-cons run (take i later) in
    let behind : total (run ∷ take i later) + j - run.count ≡ total (take i later) + j = omega (arith, sum) in
    place_later run later (total (run ∷ take i later) + j) (omega (arith, sum)) ∙ ap (place later) behind ∙ places_follow later i j d (omega (arith, h)) small

in_later : (run : Run) (later : List Run) (k : ℕ) → IsInOne later k → IsInOne (run ∷ later) k
in_later run later k one = record { run = one.run; among = (suc one.among.0, omega (arith, one.among.1), one.among.2); is_in = one.is_in }

pub place_in_one : (runs : List Run) (k : ℕ) → k < total runs → IsInOne runs (place runs k)
place_in_one [] k h = let no_run : ⊥ = omega (arith, h) in absurd no_run
place_in_one (run ∷ later) k h =
    elim (cases_lt k run.count) [
      | inl small ↦
          let e = place_here run later k small in
          record { run = run; among = (0, omega arith, refl); is_in = record { from = omega (arith, e); before = omega (arith, e, small) } }
      | inr large ↦
          subst (IsInOne (run ∷ later)) (sym (place_later run later k large))
          (in_later run later (place later (k - run.count)) (place_in_one later (k - run.count) (omega (arith, h, large, total-cons run later))))
    ]

-- a sector of the first run is in no later one
not_later : (run : Run) (later : List Run) (k : ℕ) → All (AreApart run) later → run.start ≤ k → k < end_of run → IsInOne later k → ⊥
not_later run later k apart low high one =
    let both : AreApart run one.run = subst (AreApart run) one.among.2 (apart one.among.0 one.run one.among.1) in
    elim both [ inl h ↦ omega (arith, h, low, high, one.is_in.from, one.is_in.before) | inr h ↦ omega (arith, h, low, high, one.is_in.from, one.is_in.before) ]

-- the place of a sector of the first run isn't that of a later one
places_apart : (run : Run) (later : List Run) (k other : ℕ) → All (AreApart run) later → k < run.count → run.count ≤ other → other < total (run ∷ later)
    → place (run ∷ later) k ≡ place (run ∷ later) other → ⊥
places_apart run later k other apart small large h same =
    let here = place_here run later k small in
    let there : place later (other - run.count) ≡ run.start + k = sym (place_later run later other large) ∙ sym same ∙ here in
    let one : IsInOne later (run.start + k) = subst (IsInOne later) there (place_in_one later (other - run.count) (omega (arith, h, large, total-cons run later))) in
    not_later run later (run.start + k) apart (omega arith) (omega (arith, small)) one

pub places_differ : (runs : List Run) (k other : ℕ) → AllPairs AreApart runs → k < total runs → other < total runs → place runs k ≡ place runs other → k ≡ other
places_differ [] k other apart h g same = let no_run : ⊥ = omega (arith, h) in absurd no_run
places_differ (run ∷ later) k other apart h g same =
    let firsts = first_apart run later apart in
    elim (cases_lt k run.count) [
      | inl small ↦ elim (cases_lt other run.count) [
        | inl too ↦ let p = place_here run later k small in let q = place_here run later other too in omega (arith, p, q, same)
        | inr large ↦ absurd (places_apart run later k other firsts small large g same)
      ]
      | inr large ↦ elim (cases_lt other run.count) [
        | inl small ↦ absurd (places_apart run later other k firsts small large h (sym same))
        | inr too ↦
            let later_same : place later (k - run.count) ≡ place later (other - run.count) = sym (place_later run later k large) ∙ same ∙ place_later run later other too in
            let rest = places_differ later (k - run.count) (other - run.count) (later_apart run later apart) (omega (arith, h, large, total-cons run later)) (omega (arith, g, too, total-cons run later)) later_same in
            omega (arith, rest, large, too)
      ]
    ]
