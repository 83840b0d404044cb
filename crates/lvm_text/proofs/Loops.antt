-- Steps of the loops over bytes.
use Rattle.std.proofs.Common.{◌≡◌, ℕ, List, [], ◌∷◌, ◌++◌, Option, Some, None, refl, sym, ap, append_assoc}
use Rattle.lvm_text.specs.inside.Scan.{in_front}

abbrev pub with_front : List ℕ → Option (List ℕ × List ℕ) → Option (List ℕ × List ℕ)
with_front xs None = None
with_front xs (Some p) = Some (xs ++ p.0, p.1)

pub with_front_nil : (r : Option (List ℕ × List ℕ)) → with_front [] r ≡ r
with_front_nil None = refl
with_front_nil (Some p) = refl

pub with_front_more : (xs : List ℕ) (b : ℕ) (r : Option (List ℕ × List ℕ)) → with_front xs (in_front b r) ≡ with_front (xs ++ b ∷ []) r
with_front_more xs b None = refl
with_front_more xs b (Some p) = ap (λ (ys : List ℕ). Some (ys, p.1)) (sym (append_assoc xs (b ∷ []) p.0))
