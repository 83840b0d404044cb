-- The first element that passes a test, in a loop over the list.
use Rattle.std.proofs.lemmas.List.{take_more, drop_more, take-append-drop}
use Rattle.std.proofs.lemmas.List.Folds.{find-append}
use Rattle.std.proofs.Common.{◌≡◌, ℕ, ◌+◌, ◌<◌, List, [], ◌∷◌, length, take, drop, ◌∙◌, sym, ap, Bool, true, false, cond, slice_index_or, Some, None, find}
use Rattle.std.specs.Option.{option_or}

-- none of the first ones passes, and this one does
pub find_here : {X : Type 0} (p : X → Bool) (xs : List X) (i : ℕ) (d : X) → i < length xs → find p (take i xs) ≡ None → p (slice_index_or xs i d) ≡ true
    → find p xs ≡ Some (slice_index_or xs i d)
find_here p xs i d h none passes =
    ap (λ ys. find p ys) (sym (take-append-drop i xs)) ∙ find-append p (take i xs) (drop i xs)
    ∙ ap (λ o. option_or o (find p (drop i xs))) none ∙ ap (λ ys. find p ys) (drop_more xs i d h)
    ∙ ap (λ b. cond b (Some (slice_index_or xs i d)) (find p (drop (i + 1) xs))) passes

-- none of the first ones passes, nor does this one
pub find_more : {X : Type 0} (p : X → Bool) (xs : List X) (i : ℕ) (d : X) → i < length xs → find p (take i xs) ≡ None → p (slice_index_or xs i d) ≡ false
    → find p (take (i + 1) xs) ≡ None
find_more p xs i d h none fails =
    ap (λ ys. find p ys) (take_more xs i d h) ∙ find-append p (take i xs) (slice_index_or xs i d ∷ [])
    ∙ ap (λ o. option_or o (find p (slice_index_or xs i d ∷ []))) none
    ∙ ap (λ b. cond b (Some (slice_index_or xs i d)) None) fails
