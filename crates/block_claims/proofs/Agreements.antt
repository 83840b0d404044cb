-- How often blocks stand in lists that are joined, and what volumes agree on.
use Rattle.std.proofs.Common.{◌≡◌, ℕ, ◌+◌, ◌-◌, ◌*◌, ◌/◌, ◌<◌, min, List, [], ◌∷◌, ◌++◌, map, refl, sym, ap, ◌∙◌, arith}
use Rattle.std.specs.List.{flat_map}
use Rattle.std.proofs.lemmas.Bool.Decides.{nat_tests}
use Rattle.std.proofs.lemmas.Grind.{same_number_lists}
use Rattle.std.proofs.lemmas.List.Sums.{sum_by-append}
use Rattle.std.proofs.lemmas.List.Concat.{flat_map-append}
use Rattle.disk_base.proofs.Images.{length-range, byte_of_range}
use Rattle.block_claims.specs.Agreement.{block, times_in, StandApart, AgreeOn, AgreeElsewhere, DiffersIn, Claimed, IsTwice}

pub times_in-append : (n : ℕ) (xs ys : List ℕ) → times_in n (xs ++ ys) ≡ times_in n xs + times_in n ys
times_in-append n xs ys = sum_by-append _ xs ys

pub times_itself : (n : ℕ) → times_in n (n ∷ []) ≡ 1
times_itself n = grind (arith, nat_tests)

-- what agrees on two lists joined agrees on each
pub agree_left : (xs ys : List ℕ) (old new : ℕ → List ℕ) → AgreeOn (xs ++ ys) old new → AgreeOn xs old new
agree_left xs ys old new h = λ n some. h n (omega (arith, times_in-append n xs ys))

pub agree_right : (xs ys : List ℕ) (old new : ℕ → List ℕ) → AgreeOn (xs ++ ys) old new → AgreeOn ys old new
agree_right xs ys old new h = λ n some. h n (omega (arith, times_in-append n xs ys))

pub agree_head : (x : ℕ) (xs : List ℕ) (old new : ℕ → List ℕ) → AgreeOn (x ∷ xs) old new → new x ≡ old x
agree_head x xs old new h = h x (omega (arith, times_in-append x (x ∷ []) xs, times_itself x))

pub agree_tail : (x : ℕ) (xs : List ℕ) (old new : ℕ → List ℕ) → AgreeOn (x ∷ xs) old new → AgreeOn xs old new
agree_tail x xs old new h = λ n some. h n (omega (arith, times_in-append n (x ∷ []) xs))

pub agree_on_claimed : (claimed free : List ℕ) (old new : ℕ → List ℕ) → StandApart (claimed ++ free) → AgreeElsewhere free old new → AgreeOn claimed old new
agree_on_claimed claimed free old new apart elsewhere =
    λ n some. let one = apart n in elsewhere n (omega (arith, one, times_in-append n claimed free))

-- where each part depends on its own blocks alone, the list of the parts depends on all their blocks alone
pub same_map : {X A : Type 0} (blocks : A → List ℕ) (old new : ℕ → List ℕ) (f g : X → A) → ((x : X) → AgreeOn (blocks (f x)) old new → g x ≡ f x)
    → (xs : List X) → AgreeOn (flat_map blocks (map f xs)) old new → map g xs ≡ map f xs
same_map blocks old new f g same [] h = refl
same_map blocks old new f g same (x ∷ xs) h =
    let here = same x (agree_left (blocks (f x)) (flat_map blocks (map f xs)) old new h) in
    let rest = same_map blocks old new f g same xs (agree_right (blocks (f x)) (flat_map blocks (map f xs)) old new h) in
    cc

pub same_flat_map : {X A : Type 0} (blocks : A → List ℕ) (old new : ℕ → List ℕ) (f g : X → List A) → ((x : X) → AgreeOn (flat_map blocks (f x)) old new → g x ≡ f x)
    → (xs : List X) → AgreeOn (flat_map blocks (flat_map f xs)) old new → flat_map g xs ≡ flat_map f xs
same_flat_map blocks old new f g same [] h = refl
same_flat_map blocks old new f g same (x ∷ xs) h =
    let all : AgreeOn (flat_map blocks (f x) ++ flat_map blocks (flat_map f xs)) old new = rw flat_map-append at h in
    let here = same x (agree_left (flat_map blocks (f x)) (flat_map blocks (flat_map f xs)) old new all) in
    let rest = same_flat_map blocks old new f g same xs (agree_right (flat_map blocks (f x)) (flat_map blocks (flat_map f xs)) old new all) in
    cc

pub outside_of : (blocks old new : List ℕ) → DiffersIn blocks old new → AgreeElsewhere blocks (block old) (block new)
outside_of blocks old new h n none =
    same_number_lists _ _ (length-range new (4096 * n) 4096 ∙ ap (λ l. min 4096 (l - 4096 * n)) h.same_length ∙ sym (length-range old (4096 * n) 4096))
    (λ i k.
    let small : i < 4096 = omega (arith, length-range new (4096 * n) 4096) in
    let here : (4096 * n + i) / 4096 ≡ n = omega arith in
    byte_of_range new (4096 * n) 4096 i (4096 * n + i) refl small ∙ h.same (4096 * n + i) (rw here none) ∙ sym (byte_of_range old (4096 * n) 4096 i (4096 * n + i) refl small))

-- claims one after the other
pub claimed_on : (old mid new : ℕ → ℕ) (xs ys : List ℕ) → Claimed old xs mid → Claimed mid ys new → Claimed old (xs ++ ys) new
claimed_on old mid new xs ys p q = λ n. omega (arith, p n, q n, times_in-append n xs ys)

pub twice_on : (old mid : ℕ → ℕ) (xs ys : List ℕ) (n : ℕ) → Claimed old xs mid → IsTwice mid ys n → IsTwice old (xs ++ ys) n
twice_on old mid xs ys n p twice = omega (arith, p n, twice, times_in-append n xs ys)

pub twice_more : (old : ℕ → ℕ) (xs ys : List ℕ) (n : ℕ) → IsTwice old xs n → IsTwice old (xs ++ ys) n
twice_more old xs ys n twice = omega (arith, twice, times_in-append n xs ys)
