-- Sets of numbers, run by run.
use Rattle.std.proofs.Common.{◌≡◌, ℕ, zero, suc, ◌+◌, ◌<◌, ◌⊎◌, ◌↔◌, inl, inr, List, [], ◌∷◌, length, take, get_or, sym, subst, arith, AllPairs}
use Rattle.std.proofs.lemmas.Bool.{cases_lt}
use Rattle.std.specs.List.{HoldsAt}
use Rattle.run_set.proofs.Rising.{in_run}
use Rattle.run_set.specs.declared.run.Run.{Run}
use Rattle.run_set.specs.Runs.{EndsBelow, Holds, IsFree, IsInRange, past_of}

-- the first runs, and one more
more_to : (runs : List Run) (n : ℕ) (d : Run) (x : ℕ) → n < length runs → Holds (take (suc n) runs) x
    → Holds (take n runs) x ⊎ IsInRange (get_or runs n d).start (get_or runs n d).count x
more_to [] n d x inside h = absurd (omega (arith, inside))
more_to (run ∷ runs) zero d x inside h = elim h [ inl here ↦ inr here | inr there ↦ absurd there ]
more_to (run ∷ runs) (suc n) d x inside h = elim h [
  | inl here ↦ inl (inl here)
  | inr there ↦ elim (more_to runs n d x (omega (arith, inside)) there) [ inl e ↦ inl (inr e) | inr e ↦ inr e ]
]

more_back : (runs : List Run) (n : ℕ) (d : Run) (x : ℕ) → n < length runs
    → (Holds (take n runs) x ⊎ IsInRange (get_or runs n d).start (get_or runs n d).count x) → Holds (take (suc n) runs) x
more_back [] n d x inside h = absurd (omega (arith, inside))
more_back (run ∷ runs) zero d x inside h = elim h [ inl no_run ↦ absurd no_run | inr here ↦ inl here ]
more_back (run ∷ runs) (suc n) d x inside h = elim h [
  | inl e ↦ elim e [ inl here ↦ inl here | inr there ↦ inr (more_back runs n d x (omega (arith, inside)) (inl there)) ]
  | inr e ↦ inr (more_back runs n d x (omega (arith, inside)) (inr e))
]

abbrev pub HasMore : List Run → ℕ → ℕ → ℕ → Type 0
HasMore runs n start count = (x : ℕ) → Holds (take (n + 1) runs) x ↔ (Holds (take n runs) x ⊎ IsInRange start count x)

pub has_more : (runs : List Run) (n : ℕ) (one : Run) → n < length runs → HoldsAt (λ run. run ≡ one) runs n → HasMore runs n one.start one.count
has_more runs n one inside is =
    let next : n + 1 ≡ suc n = omega arith in
    subst (λ (run : Run). HasMore runs n run.start run.count) (is one)
    (subst (λ (m : ℕ). (x : ℕ) → Holds (take m runs) x ↔ (Holds (take n runs) x ⊎ IsInRange (get_or runs n one).start (get_or runs n one).count x))
    (sym next) (λ x. (more_to runs n one x inside, more_back runs n one x inside)))

-- adding one run more
pub add_more : (old set new runs : List Run) (n start count : ℕ) → HasMore runs n start count
    → ((x : ℕ) → Holds set x ↔ (Holds old x ⊎ Holds (take n runs) x)) → ((x : ℕ) → Holds new x ↔ (Holds set x ⊎ IsInRange start count x))
    → (x : ℕ) → Holds new x ↔ (Holds old x ⊎ Holds (take (n + 1) runs) x)
add_more old set new runs n start count more so_far adds x = (
  λ h. elim ((adds x).0 h) [
    | inl s ↦ elim ((so_far x).0 s) [ inl o ↦ inl o | inr t ↦ inr ((more x).1 (inl t)) ]
    | inr r ↦ inr ((more x).1 (inr r))
  ],
  λ e. (adds x).1 (elim e [
    | inl o ↦ inl ((so_far x).1 (inl o))
    | inr t ↦ elim ((more x).0 t) [ inl before ↦ inl ((so_far x).1 (inr before)) | inr r ↦ inr r ]
  ]),
)

-- the numbers of a set, of which those go in that aren't there
pub put_whole : (old new all rest : List Run) (from n : ℕ) → ((x : ℕ) → Holds all x ↔ IsInRange from n x) → ((x : ℕ) → Holds rest x ↔ (Holds all x × (Holds old x → ⊥)))
    → ((x : ℕ) → Holds new x ↔ (Holds old x ⊎ Holds rest x)) → ((x : ℕ) → Holds old x ⊎ (Holds old x → ⊥)) → (x : ℕ) → Holds new x ↔ (Holds old x ⊎ IsInRange from n x)
put_whole old new all rest from n all_is rest_is adds known x = (
  λ h. elim ((adds x).0 h) [ inl o ↦ inl o | inr r ↦ inr ((all_is x).0 ((rest_is x).0 r).0) ],
  λ e. (adds x).1 (elim e [
    | inl o ↦ inl o
    | inr range ↦ elim (known x) [ inl o ↦ inl o | inr not_there ↦ inr ((rest_is x).1 ((all_is x).1 range, not_there)) ]
  ]),
)

pub known : (runs : List Run) (x : ℕ) → Holds runs x ⊎ (Holds runs x → ⊥)
known [] x = inr (λ h. h)
known (run ∷ runs) x = elim (known runs x) [
  | inl there ↦ inl (inr there)
  | inr not_there ↦ elim (cases_lt x run.start) [
    | inl low ↦ inr (λ h. elim h [ inl here ↦ omega (arith, here.0, low) | inr there ↦ not_there there ])
    | inr from ↦ elim (cases_lt x (run.start + run.count)) [
      | inl before ↦ inl (inl (from, before))
      | inr past ↦ inr (λ h. elim h [ inl here ↦ omega (arith, here.1, past) | inr there ↦ not_there there ])
    ]
  ]
]

-- of runs that rise, none has a number of an earlier one
not_before : (runs : List Run) (n : ℕ) (d : Run) (x : ℕ) → AllPairs EndsBelow runs → n < length runs → Holds (take n runs) x
    → IsInRange (get_or runs n d).start (get_or runs n d).count x → ⊥
not_before [] n d x pairs inside h here = omega (arith, inside)
not_before (run ∷ runs) zero d x pairs inside h here = h
not_before (run ∷ runs) (suc n) d x pairs inside h here =
    elim h [
      | inl first ↦ let apart : past_of run < (get_or runs n d).start = pairs 0 (suc n) d (omega arith) inside in omega (arith, apart, first.1, here.0)
      | inr later ↦ not_before runs n d x (λ i j e lt within. pairs (suc i) (suc j) e (omega (arith, lt)) (omega (arith, within))) (omega (arith, inside)) later here
    ]

-- the next run of a set that has nothing in common with another is free there, once the earlier ones are added
pub next_free : (old set runs : List Run) (n : ℕ) (one : Run) → AllPairs EndsBelow runs → n < length runs → HoldsAt (λ run. run ≡ one) runs n
    → ((x : ℕ) → Holds set x ↔ (Holds old x ⊎ Holds (take n runs) x)) → ((x : ℕ) → Holds old x → Holds runs x → ⊥) → IsFree set one.start one.count
next_free old set runs n one pairs inside is so_far apart x held range =
    let here : IsInRange (get_or runs n one).start (get_or runs n one).count x = subst (λ (run : Run). IsInRange run.start run.count x) (sym (is one)) range in
    elim ((so_far x).0 held) [
      | inl o ↦ apart x o (in_run runs one n x inside here)
      | inr t ↦ not_before runs n one x pairs inside t here
    ]
