-- A law by steps: what is due is where the judging stops, so n refusals cost n cases.
use Rattle.std.proofs.Common.{◌≡◌, ℕ, ◌<◌, ◌+◌, ◌-◌, suc, zero, arith, sym, subst, refl, ap, ◌∙◌, inl, inr, Option}
use Rattle.std.proofs.lemmas.Bool.{cases_order}
use Rattle.run_end.specs.declared.end.Refusal.{Refusal}
use Rattle.run_end.specs.Ending.{Due, IsLawful, Meaning, due_status}

-- the judging came to a stage and no further, and that stage has that status
pub record StopsAt (Passed : ℕ → Type 0) (status_at : ℕ → ℕ) (status : ℕ) : Type 0 where
  pub stage : ℕ
  pub passed : Passed stage
  pub ends : Passed (suc stage) → ⊥
  pub is_status : status ≡ status_at stage

-- what passed a stage passed each one before
down_to : (Passed : ℕ → Type 0) (back : (k : ℕ) → Passed (suc k) → Passed k) (d k n : ℕ) → n ≡ d + k → Passed n → Passed k
down_to Passed back zero k n is passed = subst Passed (omega (arith, is)) passed
down_to Passed back (suc d) k n is passed = let next : n ≡ suc (d + k) = omega (arith, is) in down_to Passed back d k (d + k) refl (back (d + k) (subst Passed next passed))

no_further : (Passed : ℕ → Type 0) (status_at : ℕ → ℕ) (back : (k : ℕ) → Passed (suc k) → Passed k) (a b : ℕ) (one : StopsAt Passed status_at a) (other : StopsAt Passed status_at b)
    → one.stage < other.stage → ⊥
no_further Passed status_at back a b one other before =
    let far : other.stage ≡ (other.stage - suc one.stage) + suc one.stage = omega (arith, before) in
    one.ends (down_to Passed back (other.stage - suc one.stage) (suc one.stage) other.stage far other.passed)

same_status : (Passed : ℕ → Type 0) (status_at : ℕ → ℕ) (back : (k : ℕ) → Passed (suc k) → Passed k) (a b : ℕ) → StopsAt Passed status_at a → StopsAt Passed status_at b → a ≡ b
same_status Passed status_at back a b one other = elim (cases_order one.stage other.stage) [
  | inl same ↦ one.is_status ∙ ap status_at same ∙ sym other.is_status
  | inr apart ↦ elim apart [ inl before ↦ absurd (no_further Passed status_at back a b one other before) | inr after ↦ absurd (no_further Passed status_at back b a other one after) ]
]

pub by_steps : (m : Meaning) (Passed : ℕ → Type 0) (status_at : ℕ → ℕ) → ((k : ℕ) → Passed (suc k) → Passed k)
    → ((due : Option Refusal) → Due m due → StopsAt Passed status_at (due_status due)) → IsLawful m
by_steps m Passed status_at back stops one other a b = same_status Passed status_at back (due_status one) (due_status other) (stops one a) (stops other b)
