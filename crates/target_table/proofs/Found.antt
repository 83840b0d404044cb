-- The first element that passes a test.
use Rattle.std.proofs.lemmas.Bool.{false≢true}
use Rattle.std.proofs.lemmas.List.{take_more, drop_more, take-append-drop}
use Rattle.std.proofs.lemmas.List.Elements.{All-contains}
use Rattle.std.proofs.lemmas.List.Folds.{find-append}
use Rattle.std.proofs.Common.{◌≡◌, ℕ, zero, suc, ◌+◌, ◌<◌, ◌||◌, List, [], ◌∷◌, length, take, drop, refl, ◌∙◌, sym, ap, arith, Bool, true, false, cond, slice_index_or, All, Some, None, find}
use Rattle.std.specs.List.{list_any}
use Rattle.std.specs.Option.{option_or}
use Rattle.layout_plan.proofs.Named.{found_there}

-- in a loop over the list: none of the first ones passes, and this one does
pub find_here : {X : Type 0} (p : X → Bool) (xs : List X) (i : ℕ) (d : X) → i < length xs → find p (take i xs) ≡ None → p (slice_index_or xs i d) ≡ true
    → find p xs ≡ Some (slice_index_or xs i d)
find_here p xs i d h none passes =
    ap (λ ys. find p ys) (sym (take-append-drop i xs)) ∙ find-append p (take i xs) (drop i xs)
    ∙ ap (λ o. option_or o (find p (drop i xs))) none ∙ ap (λ ys. find p ys) (drop_more xs i d h)
    ∙ ap (λ b. cond b (Some (slice_index_or xs i d)) (find p (drop (i + 1) xs))) passes

-- none of the first ones passes, nor does this one
pub find_more : {X : Type 0} (p : X → Bool) (xs : List X) (i : ℕ) (d : X) → i < length xs → find p (take i xs) ≡ None → p (slice_index_or xs i d) ≡ false
    → find p (take (i + 1) xs) ≡ None
find_more p xs i d h none fails =
    ap (λ ys. find p ys) (take_more xs i d h) ∙ find-append p (take i xs) (slice_index_or xs i d ∷ [])
    ∙ ap (λ o. option_or o (find p (slice_index_or xs i d ∷ []))) none
    ∙ ap (λ b. cond b (Some (slice_index_or xs i d)) None) fails

-- what holds of each holds of the one that is found
pub found_has : {X : Type 0} (P : X → Type 0) (p : X → Bool) (xs : List X) (x : X) → find p xs ≡ Some x → All P xs → P x
found_has P p xs x is all = All-contains P xs x all (found_there p xs x is)

-- where none passes, none is found
pub find_none : {X : Type 0} (p : X → Bool) (xs : List X) → All (λ (x : X). p x ≡ false) xs → find p xs ≡ None
find_none p [] all = refl
find_none p (x ∷ xs) all = ap (λ b. cond b (Some x) (find p xs)) (all 0 x (omega arith)) ∙ find_none p xs (λ k d h. all (suc k) d (omega arith))

-- the first that passes is the one that is found
pub find_at : {X : Type 0} (p : X → Bool) (xs : List X) (i : ℕ) (d : X) → i < length xs → p (slice_index_or xs i d) ≡ true
    → ((j : ℕ) → j < i → p (slice_index_or xs j d) ≡ false) → find p xs ≡ Some (slice_index_or xs i d)
find_at p [] i d within passes before = absurd (omega arith)
find_at p (x ∷ xs) zero d within passes before = ap (λ b. cond b (Some x) (find p xs)) passes
find_at p (x ∷ xs) (suc i) d within passes before =
    ap (λ b. cond b (Some x) (find p xs)) (before 0 (omega arith)) ∙ find_at p xs i d (omega arith) passes (λ j h. before (suc j) (omega arith))

pub none_found : {X : Type 0} (p : X → Bool) (xs : List X) → list_any p xs ≡ false → find p xs ≡ None
none_found p [] none = refl
none_found p (x ∷ xs) none =
    elim (p x) as (λ b. (b || list_any p xs) ≡ false → cond b (Some x) (find p xs) ≡ None) [
      | true ↦ λ e. absurd (false≢true (sym e))
      | false ↦ λ e. none_found p xs e
    ] none
