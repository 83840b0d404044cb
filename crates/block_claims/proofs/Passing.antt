-- The steps of every loop that takes things one after the other.
use Rattle.std.proofs.Common.{◌≡◌, ℕ, suc, ◌+◌, ◌<◌, Bool, true, false, List, [], ◌∷◌, ◌++◌, length, take, drop, get_or, map, refl, sym, ap, ◌∙◌, subst, arith}
use Rattle.std.specs.Prelude.{◌==◌, ◌&&◌, ◌||◌, not}
use Rattle.std.specs.List.{flat_map, list_all, list_any}
use Rattle.std.proofs.lemmas.Bool.{and_from}
use Rattle.std.proofs.lemmas.List.{map-append, take_more, take-append-drop}
use Rattle.std.proofs.Math.Seq.{drop-cons}
use Rattle.std.proofs.lemmas.List.Concat.{flat_map-append}
use Rattle.std.proofs.lemmas.List.Folds.{list_all-append, list_any-append}
use Rattle.block_claims.specs.Agreement.{Claimed, IsTwice, Passed, SomeFails}
use Rattle.block_claims.proofs.Agreements.{times_in-append, claimed_on}

or_middle : (a b c : Bool) → b ≡ true → (a || (b || c)) ≡ true
or_middle true b c h = refl
or_middle false b c h = ap (λ x. x || c) h

-- a list, parted at a place
pub parts_at : {X : Type 0} (xs : List X) (i : ℕ) (d : X) → i < length xs → xs ≡ take i xs ++ (get_or xs i d ∷ drop (suc i) xs)
parts_at xs i d h = sym (take-append-drop i xs) ∙ ap (λ ys. take i xs ++ ys) (drop-cons xs i d h)

pub passed_none : {X : Type 0} (test : X → Bool) (blocks : X → List ℕ) (old : ℕ → ℕ) → Passed test blocks [] old old
passed_none test blocks old = record { sound = refl; claimed = λ n. omega arith }

pub passed_on : {X : Type 0} (test : X → Bool) (blocks : X → List ℕ) (xs ys : List X) (old mid new : ℕ → ℕ)
    → Passed test blocks xs old mid → Passed test blocks ys mid new → Passed test blocks (xs ++ ys) old new
passed_on test blocks xs ys old mid new p q =
    record {
      sound = list_all-append test xs ys ∙ and_from (list_all test xs) (list_all test ys) p.sound q.sound;
      claimed = rw flat_map-append (claimed_on old mid new (flat_map blocks xs) (flat_map blocks ys) p.claimed q.claimed);
    }

-- what speaks against a part speaks against the whole
pub fails_in : {X : Type 0} (test : X → Bool) (name : X → ℕ) (xs ys zs : List X) (k : ℕ) → SomeFails test name ys k → SomeFails test name (xs ++ (ys ++ zs)) k
fails_in {X = X} test name xs ys zs k h =
    let p = λ (x : X). name x == k && not (test x) in
    rw (list_any-append p xs (ys ++ zs), list_any-append p ys zs) (or_middle (list_any p xs) (list_any p ys) (list_any p zs) h)

pub twice_in : {X : Type 0} (blocks : X → List ℕ) (xs ys zs : List X) (old mid : ℕ → ℕ) (n : ℕ)
    → Claimed old (flat_map blocks xs) mid → IsTwice mid (flat_map blocks ys) n → IsTwice old (flat_map blocks (xs ++ (ys ++ zs))) n
twice_in blocks xs ys zs old mid n c h =
    rw (flat_map-append blocks xs (ys ++ zs), flat_map-append blocks ys zs)
    (omega (arith, h, c n, times_in-append n (flat_map blocks xs) (flat_map blocks ys ++ flat_map blocks zs), times_in-append n (flat_map blocks ys) (flat_map blocks zs)))

-- a loop over entries, each of which gives one thing: its step, and the whole at one of its places
pub passed_more : {R X : Type 0} (test : X → Bool) (blocks : X → List ℕ) (f : R → X) (rs : List R) (i : ℕ) (e : R) (old mid new : ℕ → ℕ) → i < length rs
    → Passed test blocks (map f (take i rs)) old mid → Passed test blocks (f (get_or rs i e) ∷ []) mid new → Passed test blocks (map f (take (i + 1) rs)) old new
passed_more {X = X} test blocks f rs i e old mid new h p q =
    let one : List X = f (get_or rs i e) ∷ [] in
    let is : map f (take (i + 1) rs) ≡ map f (take i rs) ++ one = ap (map f) (take_more rs i e h) ∙ map-append f (take i rs) (get_or rs i e ∷ []) in
    subst (λ (xs : List X). Passed test blocks xs old new) (sym is) (passed_on test blocks (map f (take i rs)) one old mid new p q)

pub whole_at : {R X : Type 0} (f : R → X) (rs : List R) (i : ℕ) (e : R) → i < length rs → map f rs ≡ map f (take i rs) ++ ((f (get_or rs i e) ∷ []) ++ map f (drop (suc i) rs))
whole_at f rs i e h = ap (map f) (parts_at rs i e h) ∙ map-append f (take i rs) (get_or rs i e ∷ drop (suc i) rs)
