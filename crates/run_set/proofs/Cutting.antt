-- What is left of a run between holes.
use Rattle.std.proofs.Common.{◌≡◌, ℕ, ◌+◌, ◌-◌, ◌^◌, ◌<◌, ◌≤◌, ◌⊎◌, ◌↔◌, List, [], ◌∷◌, ◌++◌, All, length, take, drop, max, min, get_or, inl, inr, arith}
use Rattle.std.specs.List.{AllWithin}
use Rattle.std.proofs.lemmas.Bool.{cases_order}
use Rattle.std.proofs.lemmas.List.{append-nil, take-append-drop, drop_more, take_more, take_all, get_or_default}
use Rattle.std.proofs.lemmas.List.Elements.{All-nil, All-push, All-weaker}
use Rattle.run_set.specs.declared.run.Run.{Run}
use Rattle.run_set.specs.Runs.{IsInRange, Holds, RisesFrom, AreRuns, past_of}
use Rattle.run_set.specs.inside.Joins.{LiesBelow}
use Rattle.run_set.proofs.Rising.{RisesFrom-replaced, RisesFrom-back, Holds-from, Holds-below, Holds-append, Holds-append_left, Holds-append_right, RisesFrom-pairs, in_run}

-- the numbers from one up to below another, appended to runs that lie below them

pub pushed_holds : (out : List Run) (from to x : ℕ) → from < to → Holds (out ++ record { start = from; count = to - from } ∷ []) x ↔ (Holds out x ⊎ ((from ≤ x) × (x < to)))
pushed_holds out from to x lt =
    let run : Run = record { start = from; count = to - from } in (
      λ h. elim (Holds-append out (run ∷ []) x h) [
        | inl old ↦ inl old
        | inr new ↦ elim new [ inl here ↦ inr (omega arith, omega arith) | inr none ↦ absurd none ]
      ],
      λ h. elim h [
        | inl old ↦ Holds-append_left out (run ∷ []) x old
        | inr new ↦ Holds-append_right out (run ∷ []) x (inl (omega arith, omega arith))
      ],
    )

pub pushed_below : (out : List Run) (from to bound : ℕ) → from < to → to ≤ 2 ^ 63 → to < bound → LiesBelow from out → LiesBelow bound (out ++ record { start = from; count = to - from } ∷ [])
pushed_below out from to bound lt fits le lies =
    let run : Run = record { start = from; count = to - from } in
    record {
      rises = RisesFrom-replaced from 0 out [] (run ∷ []) (λ low low_le rises. (low_le, (omega arith, omega arith), tt)) (omega arith) lies.below (rw append-nil lies.rises);
      below = All-push (λ other. past_of other < bound) out run (All-weaker (λ other. past_of other < from) (λ other. past_of other < bound) (λ other h. omega arith) out lies.below) (omega arith);
    }

pub LiesBelow-higher : (low high : ℕ) (out : List Run) → low ≤ high → LiesBelow low out → LiesBelow high out
LiesBelow-higher low high out le lies = record {
  rises = lies.rises;
  below = All-weaker (λ other. past_of other < low) (λ other. past_of other < high) (λ other h. omega arith) out lies.below;
}

pub none_between : (out : List Run) (from to x : ℕ) → to ≤ from → Holds out x ↔ (Holds out x ⊎ ((from ≤ x) × (x < to)))
none_between out from to x le = (λ h. inl h, λ h. elim h [ inl old ↦ old | inr new ↦ absurd (omega arith) ])

-- holes

hole_gap : (xs : List Run) (hole : Run) (ys : List Run) (from x : ℕ) → AreRuns (xs ++ hole ∷ ys) → All (λ other. past_of other ≤ from) xs → from ≤ x → x < hole.start → Holds (xs ++ hole ∷ ys) x → ⊥
hole_gap xs hole ys from x set past le lt holds =
    elim (Holds-append xs (hole ∷ ys) x holds) [
      | inl front ↦ let h : x < from = Holds-below from xs x past front in omega arith
      | inr back ↦
          let rises : RisesFrom 0 (hole ∷ ys) = RisesFrom-back 0 xs (hole ∷ ys) set in
          let h : hole.start ≤ x = Holds-from hole.start (hole ∷ ys) x (omega arith, rises.1, rises.2) back in
          omega arith
    ]

-- a run that is cut as far as `from`, by as many holes as `at` says: the holes' numbers are left out, and the others are in `out`
pub record IsCut (before : List Run) (out : List Run) (holes : List Run) (run : Run) (from : ℕ) (at : ℕ) : Type 0 where
  pub within : at ≤ length holes
  pub low : run.start ≤ from
  pub high : from ≤ past_of run
  pub past : All (λ hole. past_of hole ≤ from) (take at holes)
  pub below : LiesBelow from out
  pub kept : (x : ℕ) → Holds out x ↔ (Holds before x ⊎ ((run.start ≤ x) × (x < from) × (Holds holes x → ⊥)))

pub not_yet_cut : (out holes : List Run) (run : Run) (at : ℕ) → at ≤ length holes → All (λ hole. past_of hole ≤ run.start) (take at holes) → LiesBelow run.start out → IsCut out out holes run run.start at
not_yet_cut out holes run at within past below = record {
  within = within;
  low = omega arith;
  high = omega arith;
  past = past;
  below = below;
  kept = λ x. (λ h. inl h, λ h. elim h [ inl old ↦ old | inr new ↦ absurd (omega arith) ]);
}

gap_at : (holes : List Run) (d : Run) (from at x : ℕ) → AreRuns holes → at < length holes → All (λ other. past_of other ≤ from) (take at holes) → from ≤ x → x < (get_or holes at d).start → Holds holes x → ⊥
gap_at holes d from at x set within past le lt holds =
    let split : take at holes ++ (get_or holes at d ∷ drop (at + 1) holes) ≡ holes = rw (← drop_more holes at d within) (take-append-drop at holes) in
    hole_gap (take at holes) (get_or holes at d) (drop (at + 1) holes) from x (rw split set) past le lt (rw split holds)

in_hole : (holes : List Run) (d : Run) (at x : ℕ) → at < length holes → (get_or holes at d).start ≤ x → x < past_of (get_or holes at d) → Holds holes x
in_hole holes d at x within le lt = in_run holes d at x within (le, lt)

before_hole : (holes : List Run) (d : Run) (from at x : ℕ) → from ≤ x → at < length holes → x < max from (past_of (get_or holes at d)) → (Holds holes x → ⊥) → x < (get_or holes at d).start
before_hole holes d from at x le within lt none =
    elim (cases_order x (get_or holes at d).start) [
      | inl same ↦ absurd (none (in_hole holes d at x within (omega arith) (omega arith)))
      | inr (inl less) ↦ less
      | inr (inr more) ↦ absurd (none (in_hole holes d at x within (omega arith) (omega arith)))
    ]

kept_step : (before out next holes : List Run) (run d : Run) (from at x : ℕ) → IsCut before out holes run from at → AreRuns holes → at < length holes → (Holds next x ↔ (Holds out x ⊎ ((from ≤ x) × (x < (get_or holes at d).start)))) → Holds next x ↔ (Holds before x ⊎ ((run.start ≤ x) × (x < max from (past_of (get_or holes at d))) × (Holds holes x → ⊥)))
kept_step before out next holes run d from at x cut set within added =
    let low : run.start ≤ from = cut.low in (
      λ h. elim (added.0 h) [
        | inl old ↦ elim ((cut.kept x).0 old) [ inl first ↦ inl first | inr new ↦ inr (new.0, omega arith, new.2) ]
        | inr new ↦ inr (omega arith, omega arith, λ held. gap_at holes d from at x set within cut.past new.0 new.1 held)
      ],
      λ h. elim h [
        | inl first ↦ added.1 (inl ((cut.kept x).1 (inl first)))
        | inr new ↦ elim (cases_order x from) [
          | inl same ↦ added.1 (inr (omega arith, before_hole holes d from at x (omega arith) within new.1 new.2))
          | inr (inl less) ↦ added.1 (inl ((cut.kept x).1 (inr (new.0, less, new.2))))
          | inr (inr more) ↦ added.1 (inr (omega arith, before_hole holes d from at x (omega arith) within new.1 new.2))
        ]
      ],
    )

-- one more hole, which ends by the run's end
pub cut_step : (before out next holes : List Run) (run d : Run) (from at : ℕ) → IsCut before out holes run from at → AreRuns holes → at < length holes → past_of (get_or holes at d) ≤ past_of run → ((x : ℕ) → Holds next x ↔ (Holds out x ⊎ ((from ≤ x) × (x < (get_or holes at d).start)))) → LiesBelow (max from (past_of (get_or holes at d))) next → IsCut before next holes run (max from (past_of (get_or holes at d))) (at + 1)
cut_step before out next holes run d from at cut set within ends added below =
    let low : run.start ≤ from = cut.low in
    let high : from ≤ past_of run = cut.high in
    record {
      within = omega arith;
      low = omega arith;
      high = omega arith;
      past = rw (take_more holes at d within) (All-push (λ hole. past_of hole ≤ max from (past_of (get_or holes at d))) (take at holes) (get_or holes at d) (All-weaker (λ hole. past_of hole ≤ from) (λ hole. past_of hole ≤ max from (past_of (get_or holes at d))) (λ hole h. omega arith) (take at holes) cut.past) (omega arith));
      below = below;
      kept = λ x. kept_step before out next holes run d from at x cut set within (added x);
    }

all_past : (holes : List Run) (from at : ℕ) → length holes ≤ at → All (λ hole. past_of hole ≤ from) (take at holes) → All (λ hole. past_of hole ≤ from) holes
all_past holes from at le past = rw (take_all at holes le) at past

before_stop : (holes : List Run) (run d : Run) (at to x : ℕ) → IsInRange run.start run.count x → (Holds holes x → ⊥) → ((at < length holes) × (past_of run < past_of (get_or holes at d)) × (to ≡ min (past_of run) (get_or holes at d).start)) ⊎ ((length holes ≤ at) × (to ≡ past_of run)) → x < to
before_stop holes run d at to x in' none stop =
    elim stop [
      | inl hole ↦ elim (cases_order x (get_or holes at d).start) [
        | inl same ↦ absurd (none (in_hole holes d at x hole.0 (omega arith) (omega arith)))
        | inr (inl less) ↦ omega arith
        | inr (inr more) ↦ absurd (none (in_hole holes d at x hole.0 (omega arith) (omega arith)))
      ]
      | inr end ↦ omega arith
    ]

-- the rest of the run, up to a hole that reaches past its end, or up to its end
pub cut_end : (before out next holes : List Run) (run d : Run) (from at to x : ℕ) → IsCut before out holes run from at → AreRuns holes → ((at < length holes) × (past_of run < past_of (get_or holes at d)) × (to ≡ min (past_of run) (get_or holes at d).start)) ⊎ ((length holes ≤ at) × (to ≡ past_of run)) → (Holds next x ↔ (Holds out x ⊎ ((from ≤ x) × (x < to)))) → Holds next x ↔ (Holds before x ⊎ (IsInRange run.start run.count x × (Holds holes x → ⊥)))
cut_end before out next holes run d from at to x cut set stop added =
    let low : run.start ≤ from = cut.low in
    let high : from ≤ past_of run = cut.high in (
      λ h. elim (added.0 h) [
        | inl old ↦ elim ((cut.kept x).0 old) [ inl first ↦ inl first | inr new ↦ inr ((new.0, omega arith), new.2) ]
        | inr new ↦ inr (
          (omega arith, elim stop [ inl hole ↦ omega arith | inr none ↦ omega arith ]),
          λ held. elim stop [
            | inl hole ↦ gap_at holes d from at x set hole.0 cut.past new.0 (omega arith) held
            | inr none ↦ let h : x < from = Holds-below from holes x (all_past holes from at none.0 cut.past) held in omega arith
          ],
        )
      ],
      λ h. elim h [
        | inl first ↦ added.1 (inl ((cut.kept x).1 (inl first)))
        | inr new ↦ elim (cases_order x from) [
          | inl same ↦ added.1 (inr (omega arith, before_stop holes run d at to x new.0 new.1 stop))
          | inr (inl less) ↦ added.1 (inl ((cut.kept x).1 (inr (new.0.0, less, new.1))))
          | inr (inr more) ↦ added.1 (inr (omega arith, before_stop holes run d at to x new.0 new.1 stop))
        ]
      ],
    )

-- the first i runs, less the holes, of which the first few end before any later run
pub record IsMinus (out : List Run) (runs : List Run) (holes : List Run) (i : ℕ) (past : ℕ) : Type 0 where
  pub within : past ≤ length holes
  pub apart : AllWithin (λ run. All (λ hole. past_of hole ≤ run.start) (take past holes)) runs i (length runs)
  pub below : AllWithin (λ run. LiesBelow run.start out) runs i (length runs)
  pub rises : AreRuns out
  pub kept : (x : ℕ) → Holds out x ↔ (Holds (take i runs) x × (Holds holes x → ⊥))

pub minus_none : (runs holes : List Run) → IsMinus [] runs holes 0 0
minus_none runs holes = record {
  within = omega arith;
  apart = λ k d le lt. All-nil (λ hole. past_of hole ≤ (get_or runs k d).start);
  below = λ k d le lt. record { rises = tt; below = All-nil (λ run. past_of run < (get_or runs k d).start) };
  rises = tt;
  kept = λ x. (λ h. absurd h, λ h. absurd h.0);
}

kept_more : (out next runs holes : List Run) (d : Run) (i x : ℕ) → i < length runs → (Holds out x ↔ (Holds (take i runs) x × (Holds holes x → ⊥))) → (Holds next x ↔ (Holds out x ⊎ (IsInRange (get_or runs i d).start (get_or runs i d).count x × (Holds holes x → ⊥)))) → Holds next x ↔ (Holds (take (i + 1) runs) x × (Holds holes x → ⊥))
kept_more out next runs holes d i x within before added =
    rw (take_more runs i d within) (
      λ h. elim (added.0 h) [
        | inl old ↦ (Holds-append_left (take i runs) (get_or runs i d ∷ []) x (before.0 old).0, (before.0 old).1)
        | inr new ↦ (Holds-append_right (take i runs) (get_or runs i d ∷ []) x (inl new.0), new.1)
      ],
      λ h. elim (Holds-append (take i runs) (get_or runs i d ∷ []) x h.0) [
        | inl old ↦ added.1 (inl (before.1 (old, h.1)))
        | inr (inl here) ↦ added.1 (inr (here, h.1))
        | inr (inr none) ↦ absurd none
      ],
    )

pub minus_step : (out next runs holes : List Run) (d : Run) (i past further : ℕ) → AreRuns runs → i < length runs → IsMinus out runs holes i past → further ≤ length holes → All (λ hole. past_of hole ≤ past_of (get_or runs i d)) (take further holes) → LiesBelow (past_of (get_or runs i d) + 1) next → ((x : ℕ) → Holds next x ↔ (Holds out x ⊎ (IsInRange (get_or runs i d).start (get_or runs i d).count x × (Holds holes x → ⊥)))) → IsMinus next runs holes (i + 1) further
minus_step out next runs holes d i past further set within before fits ends below added = record {
  within = fits;
  apart = λ k e le lt.
      let apart : past_of (get_or runs i d) < (get_or runs k d).start = RisesFrom-pairs 0 runs set i k d (omega arith) lt in
      let same : get_or runs k e ≡ get_or runs k d = get_or_default runs k e d lt in
      All-weaker (λ hole. past_of hole ≤ past_of (get_or runs i d)) (λ hole. past_of hole ≤ (get_or runs k e).start) (λ hole h. rw same (omega arith)) (take further holes) ends;
  below = λ k e le lt.
      let apart : past_of (get_or runs i d) < (get_or runs k d).start = RisesFrom-pairs 0 runs set i k d (omega arith) lt in
      let same : get_or runs k e ≡ get_or runs k d = get_or_default runs k e d lt in
      rw same (LiesBelow-higher (past_of (get_or runs i d) + 1) (get_or runs k d).start next (omega arith) below);
  rises = below.rises;
  kept = λ x. kept_more out next runs holes d i x within (before.kept x) (added x);
}
