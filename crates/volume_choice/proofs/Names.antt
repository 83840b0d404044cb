-- The search for a name among names.
use Rattle.std.proofs.Common.{◌≡◌, ℕ, suc, ◌+◌, ◌≤◌, Bool, true, false, cond, List, length, drop, ap, sym, ◌∙◌, add-one}
use Rattle.std.specs.Prelude.{Some, None, slice_get}
use Rattle.std.specs.Str.{bytes_eq}
use Rattle.std.proofs.lemmas.List.{at_drop_more, at_drop_all}
use Rattle.std.proofs.lemmas.Option.{slice_get_within, get_or_from_slice_get}
use Rattle.volume_choice.specs.Chosen.{index_from}

-- the name at a place is the one that is sought, or the search goes on behind it
index_step : (name : List ℕ) (names : List (List ℕ)) (n : ℕ) (other : List ℕ) (b : Bool) → slice_get names n ≡ Some other
    → bytes_eq other name ≡ b
    → index_from n name (drop n names) ≡ cond b (Some n) (index_from (n + 1) name (drop (n + 1) names))
index_step name names n other b is e =
    at_drop_more (index_from n name) names n other (slice_get_within names n other is)
    ∙ ap (λ (x : List ℕ). cond (bytes_eq x name) (Some n) (index_from (suc n) name (drop (n + 1) names))) (get_or_from_slice_get names n other other is)
    ∙ ap (λ (x : Bool). cond x (Some n) (index_from (suc n) name (drop (n + 1) names))) e
    ∙ ap (λ (k : ℕ). cond b (Some n) (index_from k name (drop (n + 1) names))) (sym (add-one n))

pub index_found : (name : List ℕ) (names : List (List ℕ)) (n : ℕ) (other : List ℕ) → slice_get names n ≡ Some other
    → bytes_eq other name ≡ true → index_from n name (drop n names) ≡ Some n
index_found name names n other is e = index_step name names n other true is e

pub index_passed : (name : List ℕ) (names : List (List ℕ)) (n : ℕ) (other : List ℕ) → slice_get names n ≡ Some other
    → bytes_eq other name ≡ false → index_from n name (drop n names) ≡ index_from (n + 1) name (drop (n + 1) names)
index_passed name names n other is e = index_step name names n other false is e

pub index_end : (name : List ℕ) (names : List (List ℕ)) (n : ℕ) → length names ≤ n → index_from n name (drop n names) ≡ None
index_end name names n le = at_drop_all (index_from n name) names n le
