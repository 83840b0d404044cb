-- Masks of vectors that test each lane, and bytes that are all zero.
use Rattle.std.proofs.Common.{◌≡◌, ℕ, zero, suc, ◌+◌, ◌*◌, ◌<◌, Bool, true, false, not, eqb, cond, List, [], ◌∷◌, map, length, get_or, take, drop, All, sym, ap, ◌∙◌, refl, subst, arith}
use lib.Lanes.{mask_l, chunk}
use Rattle.std.proofs.lemmas.Bool.{eqb-true, eq-eqb, not-false}
use Rattle.std.proofs.lemmas.List.{take-append-drop}
use Rattle.std.proofs.Math.Seq.{take-add}
use Rattle.std.proofs.lemmas.List.Elements.{All-append, All-take, All-drop}

low_bit : (b : Bool) (n : ℕ) → cond b 1 0 + 2 * n ≡ 0 → (b ≡ false) × (n ≡ 0)
low_bit true n e = absurd (omega arith)
low_bit false n e = (refl, omega arith)

-- where no bit is set, no lane passes
none_passes : (p : ℕ → Bool) (xs : List ℕ) → mask_l (map p xs) ≡ 0 → (k d : ℕ) → k < length xs → p (get_or xs k d) ≡ false
none_passes p [] e k d below = absurd (omega arith)
none_passes p (x ∷ xs) e zero d below = (low_bit (p x) (mask_l (map p xs)) e).0
none_passes p (x ∷ xs) e (suc k) d below = none_passes p xs (low_bit (p x) (mask_l (map p xs)) e).1 k d (omega arith)

-- where no lane passes, no bit is set
mask_empty : (p : ℕ → Bool) (xs : List ℕ) → ((k d : ℕ) → k < length xs → p (get_or xs k d) ≡ false) → mask_l (map p xs) ≡ 0
mask_empty p [] none = refl
mask_empty p (x ∷ xs) none =
    let first : p x ≡ false = none 0 0 (omega arith) in
    let rest : mask_l (map p xs) ≡ 0 = mask_empty p xs (λ k d below. none (suc k) d (omega arith)) in
    ap (λ b. cond b 1 0 + 2 * mask_l (map p xs)) first ∙ omega arith

abbrev pub differs : ℕ → Bool
differs x = not (eqb x 0)

abbrev pub AreZero : List ℕ → Type 0
AreZero xs = All (λ x. x ≡ 0) xs

zero_passes : (x : ℕ) → differs x ≡ false → x ≡ 0
zero_passes x e = eqb-true x 0 (not-false (eqb x 0) e)

-- the mask of the lanes that differ from zero is empty exactly where all are zero
pub zero_from_mask : (xs : List ℕ) → eqb (mask_l (map differs xs)) 0 ≡ true → AreZero xs
zero_from_mask xs e k d below = zero_passes (get_or xs k d) (none_passes differs xs (eqb-true (mask_l (map differs xs)) 0 e) k d below)

pub mask_from_zero : (xs : List ℕ) → AreZero xs → eqb (mask_l (map differs xs)) 0 ≡ true
mask_from_zero xs all = eq-eqb (mask_l (map differs xs)) 0 (mask_empty differs xs (λ k d below. ap differs (all k d below)))

-- the bytes before a vector, and its own
pub zero_on : (at n : ℕ) (xs : List ℕ) → AreZero (take at xs) → AreZero (chunk at n xs) → AreZero (take (at + n) xs)
zero_on at n xs before here = subst AreZero (sym (take-add at n xs)) (All-append (λ x. x ≡ 0) (take at xs) (chunk at n xs) before here)

pub zero_in : (at n : ℕ) (xs : List ℕ) → AreZero xs → AreZero (chunk at n xs)
zero_in at n xs all = All-take (λ x. x ≡ 0) n (drop at xs) (All-drop (λ x. x ≡ 0) at xs all)

pub zero_whole : (at : ℕ) (xs : List ℕ) → AreZero (take at xs) → AreZero (drop at xs) → AreZero xs
zero_whole at xs before rest = subst AreZero (take-append-drop at xs) (All-append (λ x. x ≡ 0) (take at xs) (drop at xs) before rest)
