-- Pieces that are written one behind the other.
use Rattle.std.proofs.Common.{◌≡◌, ℕ, ◌+◌, ◌≤◌, List, ◌++◌, length, ap, ◌∙◌, append-nil, arith}
use Rattle.std.proofs.lemmas.List.{drop_all}
use Rattle.disk_base.specs.Image.{with_bytes}
use Rattle.disk_base.proofs.Images.{with_more}

-- one piece more
pub next : (image old new : List ℕ) (from at : ℕ) (xs ys : List ℕ) → old ≡ with_bytes image from xs → new ≡ with_bytes old at ys
    → at ≡ from + length xs → at + length ys ≤ length image → new ≡ with_bytes image from (xs ++ ys)
next image old new from at xs ys so_far written at-is fits =
    written ∙ ap (λ (l : List ℕ). with_bytes l at ys) so_far ∙ with_more image from at xs ys at-is fits

-- the pieces fill the whole
pub filled : (image new xs : List ℕ) → new ≡ with_bytes image 0 xs → length xs ≡ length image → new ≡ xs
filled image new xs is long =
    is ∙ ap (λ (l : List ℕ). xs ++ l) (drop_all (0 + length xs) image (omega arith)) ∙ append-nil xs
