-- What a stop at any moment leaves of the target: what it held, no table, or the finished work.
use Rattle.std.proofs.Common.{◌≡◌, ℕ, ◌*◌, ◌≤◌, ◌∙◌, List, length, arith, inl, inr, replicate}
use Rattle.disk_base.specs.Image.{with_bytes, HalfWritten}
use Rattle.disk_base.specs.Stops.{Stops, IsSettled, Adds, Follows}
use Rattle.disk_base.proofs.Moments.{adds_weaker, follows_settled}
use Rattle.target_work.specs.Works.{HasNoTable, IsAtGate, IsCarriable, IsDone, Work}
use Rattle.target_work.specs.inside.Phases.{KeepsFirst}
use Rattle.target_work.proofs.Finishing.{zeros_long, old_or_with, no_table_cleared, at_gate}

module _ (work : Work) (source old : List ℕ)
    (carriable : IsCarriable work)
    (long : length old ≡ 512 * work.target_sectors) where
  abbrev Gate : List ℕ → Type 0
  Gate image = IsAtGate work source old image

  some : 512 ≤ length old
  some = let one = carriable.some in omega (arith, long)

  -- while sector 0 is made zeros
  pub gate_cleared : (a b : Stops) → IsSettled old a → Follows (HalfWritten 0 (replicate 512 0)) a b → Adds Gate a b
  gate_cleared a b settled follows =
      adds_weaker a b (HalfWritten 0 (replicate 512 0) old) Gate
      (λ image half. elim (old_or_with old image (replicate 512 0) zeros_long some half) [
        | inl same ↦ inl same
        | inr wrote ↦ inr (inl (no_table_cleared old image work.target_sectors long carriable.some wrote))
      ])
      (follows_settled old a b (HalfWritten 0 (replicate 512 0)) settled follows)

  -- while all behind sector 0 is written
  pub gate_filled : (cleared : List ℕ) (b c : Stops) → HasNoTable cleared → IsSettled cleared b → Follows KeepsFirst b c → Adds Gate b c
  gate_filled cleared b c none settled follows =
      adds_weaker b c (KeepsFirst cleared) Gate (λ image keeps. inr (inl (keeps.first ∙ none))) (follows_settled cleared b c KeepsFirst settled follows)

  -- while the new sector 0 is put
  pub gate_put : (booted : List ℕ) (d e : Stops) → HasNoTable booted → length work.first ≡ 512 → 512 ≤ length booted
      → ((image : List ℕ) → image ≡ with_bytes booted 0 work.first → IsDone work source old image) → Adds (HalfWritten 0 work.first booted) d e → Adds Gate d e
  gate_put booted d e none first_long booted_some finish adds =
      adds_weaker d e (HalfWritten 0 work.first booted) Gate
      (λ image half. at_gate work source old booted image none (finish image) (old_or_with booted image work.first first_long booted_some half))
      adds
