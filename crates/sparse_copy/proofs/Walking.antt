-- The walk over the runs: which of them lie ahead, and what is copied and written before them.
use Rattle.std.proofs.lemmas.List.Sums.{sum_by-cons}
use Rattle.std.proofs.Math.Seq.{drop-cons}
use Rattle.std.proofs.Math.ListN.{drop_of_length-le}
use Rattle.std.specs.List.{HoldsAt}
use Rattle.std.proofs.Common.{◌≡◌, ℕ, suc, add-one, ◌+◌, ◌<◌, ◌≤◌, List, [], ◌∷◌, length, drop, arith, ◌∙◌, sym, ap, subst, inl, inr}
use Rattle.disk_base.specs.Log.{Log}
use Rattle.run_set.specs.declared.run.Run.{Run}
use Rattle.run_set.specs.Runs.{AreRuns, Holds, RisesFrom, past_of}
use Rattle.run_copy.specs.declared.transfer.Transfer.{Transfer}
use Rattle.run_copy.specs.Copies.{WritesAtMost, pieces_of, pieces_written}
use Rattle.sparse_copy.specs.Sparse.{EndWithin, between, kept_from, kept_pieces, pieces_kept}

-- runs that lie one behind the other, from `low` on and below `sectors`
abbrev pub LieFrom : ℕ → List Run → ℕ → Type 0
LieFrom low [] sectors = low ≤ sectors
LieFrom low (run ∷ runs) sectors = (low ≤ run.start) × LieFrom (past_of run) runs sectors

lie_rising : (low floor : ℕ) (runs : List Run) (sectors : ℕ) → low ≤ floor → low ≤ sectors → RisesFrom floor runs → EndWithin sectors runs → LieFrom low runs sectors
lie_rising low floor [] sectors under within rises ends = within
lie_rising low floor (run ∷ runs) sectors under within rises ends =
    (omega (arith, rises.0), lie_rising (past_of run) (past_of run + 1) runs sectors (omega arith) (ends 0 run (omega arith)) rises.2 (λ k d h. ends (suc k) d (omega arith)))

pub lie_within : (low : ℕ) (runs : List Run) (sectors : ℕ) → LieFrom low runs sectors → low ≤ sectors
lie_within low [] sectors lie = lie
lie_within low (run ∷ runs) sectors lie = let past : past_of run ≤ sectors = lie_within (past_of run) runs sectors lie.1 in omega (arith, lie.0, past)

lie_above : (low : ℕ) (runs : List Run) (sectors k : ℕ) → LieFrom low runs sectors → Holds runs k → low ≤ k
lie_above low [] sectors k lie held = absurd held
lie_above low (run ∷ runs) sectors k lie (inl here) = omega (arith, lie.0, here.0)
lie_above low (run ∷ runs) sectors k lie (inr later) =
    let past : past_of run ≤ k = lie_above (past_of run) runs sectors k lie.1 later in omega (arith, lie.0, past)

-- the first `index` of the runs lie below `low`, and the rest behind it
pub record IsAhead (low index sectors : ℕ) (runs : List Run) : Type 0 where
  pub bound : index ≤ length runs
  pub lie : LieFrom low (drop index runs) sectors
  pub later : (k : ℕ) → low ≤ k → Holds runs k → Holds (drop index runs) k
  pub whole : (k : ℕ) → Holds (drop index runs) k → Holds runs k

pub all_ahead : (sectors : ℕ) (runs : List Run) → AreRuns runs → EndWithin sectors runs → IsAhead 0 0 sectors runs
all_ahead sectors runs rise ends = record {
  bound = omega arith;
  lie = lie_rising 0 0 runs sectors (omega arith) (omega arith) rise ends;
  later = λ k from held. held;
  whole = λ k held. held;
}

-- one run more lies behind
module _ (low index sectors : ℕ) (runs : List Run) (run : Run)
    (ahead : IsAhead low index sectors runs)
    (within : index < length runs)
    (is : HoldsAt (λ (r : Run). r ≡ run) runs index) where
  rest : List Run
  rest = drop (index + 1) runs

  pub splits : drop index runs ≡ run ∷ drop (index + 1) runs
  splits = drop-cons runs index run within ∙ ap (λ (r : Run). r ∷ drop (suc index) runs) (is run) ∙ ap (λ n. run ∷ drop n runs) (sym (add-one index))

  lies : LieFrom low (run ∷ drop (index + 1) runs) sectors
  lies = let Lie : List Run → Type 0 = λ r. LieFrom low r sectors in subst Lie splits ahead.lie

  pub starts : low ≤ run.start
  starts = lies.0

  pub ends : past_of run ≤ sectors
  ends = lie_within (past_of run) (drop (index + 1) runs) sectors lies.1

  held_ahead : (k : ℕ) → low ≤ k → Holds runs k → Holds (run ∷ drop (index + 1) runs) k
  held_ahead k from held = let Held : List Run → Type 0 = λ r. Holds r k in subst Held splits (ahead.later k from held)

  held_whole : (k : ℕ) → Holds (run ∷ drop (index + 1) runs) k → Holds runs k
  held_whole k held = let Held : List Run → Type 0 = λ r. Holds r k in ahead.whole k (subst Held (sym splits) held)

  pub gap_free : (k : ℕ) → low ≤ k → k < run.start → Holds runs k → ⊥
  gap_free k from below held = elim (held_ahead k from held) [
    | inl here ↦ omega (arith, here.0)
    | inr later ↦ let past = lie_above (past_of run) (drop (index + 1) runs) sectors k lies.1 later in omega (arith, past)
  ]

  pub run_held : (k : ℕ) → run.start ≤ k → k < past_of run → Holds runs k
  run_held k from below = held_whole k (inl (from, below))

  pub one_ahead : IsAhead (past_of run) (index + 1) sectors runs
  one_ahead = record {
    bound = omega arith;
    lie = lies.1;
    later = λ k from held. elim (held_ahead k (omega (arith, starts)) held) [ inl here ↦ absurd (omega (arith, here.1)) | inr later ↦ later ];
    whole = λ k held. held_whole k (inr held);
  }

-- no run lies ahead
pub none_free : (low sectors : ℕ) (runs : List Run) → IsAhead low (length runs) sectors runs → (k : ℕ) → low ≤ k → Holds runs k → ⊥
none_free low sectors runs ahead k from held =
    let Held : List Run → Type 0 = λ r. Holds r k in
    subst Held (drop_of_length-le runs (omega arith)) (ahead.later k from held)

-- what was written so far, and what is still to be written at most
abbrev pub Writing : List ℕ → ℕ → ℕ → List Run → ℕ → Log → Log → Type 0
Writing source low index runs sectors old new =
    new.writes + pieces_kept source low (drop index runs) sectors ≤ old.writes + kept_pieces source runs sectors

abbrev pieces : List ℕ → Transfer → ℕ
pieces source t = pieces_written source t (pieces_of t)

pub writing_none : (source : List ℕ) (sectors : ℕ) (runs : List Run) (log : Log) → Writing source 0 0 runs sectors log log
writing_none source sectors runs log = omega arith

pub writing_more : (source : List ℕ) (low index sectors : ℕ) (runs : List Run) (run : Run) (old mid new : Log)
    → drop index runs ≡ run ∷ drop (index + 1) runs → Writing source low index runs sectors old mid
    → WritesAtMost (pieces source (between low run.start)) mid new
    → Writing source (past_of run) (index + 1) runs sectors old new
writing_more source low index sectors runs run old mid new splits so_far now =
    let one = ap (λ (r : List Run). pieces_kept source low r sectors) splits in
    let two = sum_by-cons (λ (t : Transfer). pieces source t) (between low run.start) (kept_from (past_of run) (drop (index + 1) runs) sectors) in
    omega (arith, one, two, so_far, now)

pub writing_last : (source : List ℕ) (low sectors : ℕ) (runs : List Run) (old mid new : Log)
    → Writing source low (length runs) runs sectors old mid
    → WritesAtMost (pieces source (between low sectors)) mid new
    → WritesAtMost (kept_pieces source runs sectors) old new
writing_last source low sectors runs old mid new so_far now =
    let one = ap (λ (r : List Run). pieces_kept source low r sectors) (drop_of_length-le runs {i = length runs} (omega arith)) in
    let two = sum_by-cons (λ (t : Transfer). pieces source t) (between low sectors) [] in
    omega (arith, one, two, so_far, now)
