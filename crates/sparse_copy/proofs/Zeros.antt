-- Sectors of zeros.
use Rattle.std.proofs.lemmas.Bool.{false≢true}
use Rattle.std.proofs.lemmas.Bool.Decides.{Decides-eqb}
use Rattle.std.proofs.lemmas.List.{drop-replicate, take-replicate}
use Rattle.std.proofs.Math.ListN.{drop_of_length-le}
use Rattle.std.proofs.Common.{◌≡◌, ℕ, ◌+◌, ◌-◌, ◌*◌, ◌/◌, ◌<◌, ◌≤◌, min, List, [], ◌∷◌, length, take, replicate, Bool, true, false, ◌&&◌, ◌==◌, arith, refl, ◌∙◌, sym, ap}
use Rattle.disk_base.specs.Image.{bytes_at, sector}
use Rattle.disk_base.proofs.Images.{length-bytes_at, sector_of_range}
use Rattle.run_copy.specs.declared.transfer.Transfer.{Transfer}
use Rattle.run_copy.specs.Copies.{all_zero, piece_of}

both_of : (a b : Bool) → (a && b) ≡ true → (a ≡ true) × (b ≡ true)
both_of true b is = (refl, is)
both_of false b is = absurd (false≢true is)

-- bytes that are all zero
pub zeros_of : (xs : List ℕ) → all_zero xs ≡ true → xs ≡ replicate (length xs) 0
zeros_of [] is = refl
zeros_of (x ∷ xs) is =
    let both = both_of (x == 0) (all_zero xs) is in
    ap (λ (b : ℕ). b ∷ xs) ((Decides-eqb x 0).0 both.0) ∙ ap (λ (bytes : List ℕ). 0 ∷ bytes) (zeros_of xs both.1)

-- a range of zeros is zeros
pub zero_bytes : (n from m : ℕ) → from + m ≤ n → bytes_at (replicate n 0) from m ≡ replicate m 0
zero_bytes n from m fits = ap (λ (bytes : List ℕ). take m bytes) (drop-replicate from n 0) ∙ take-replicate m (n - from) 0 (omega arith)

-- a sector of a piece that is all zero
pub zero_in_piece : (source : List ℕ) (t : Transfer) (k : ℕ) → k < t.count → 512 * (t.from + t.count) ≤ length source
    → all_zero (piece_of source t (k / 2048)) ≡ true → sector source (t.from + k) ≡ replicate 512 0
zero_in_piece source t k small fits is =
    let j : ℕ = k / 2048 in
    let n : ℕ = min 2048 (t.count - 2048 * j) in
    let low : 2048 * j ≤ k = omega arith in
    let high : k < 2048 * j + n = omega arith in
    let piece : List ℕ = piece_of source t j in
    let long : length piece ≡ 512 * n = length-bytes_at source (512 * (t.from + 2048 * j)) (512 * n) (omega arith) in
    sym (sector_of_range source (t.from + 2048 * j) (512 * n) (t.from + k) (k - 2048 * j) (omega arith) (omega arith) (omega arith))
    ∙ ap (λ (bytes : List ℕ). sector bytes (k - 2048 * j)) (zeros_of piece is)
    ∙ zero_bytes (length piece) (512 * (k - 2048 * j)) 512 (omega (arith, long))

-- a sector behind the end of a disk
pub behind_end : (image : List ℕ) (k : ℕ) → length image ≤ 512 * k → sector image k ≡ []
behind_end image k far = ap (λ (bytes : List ℕ). take 512 bytes) (drop_of_length-le image far)
