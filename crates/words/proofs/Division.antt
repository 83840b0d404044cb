-- One step of the division into items.
use Rattle.std.proofs.Common.{◌≡◌, ℕ, ◌+◌, ◌||◌, Bool, true, false, cond, List, [], ◌∷◌, Option, Some, None, drop, refl, ap, sym, ◌∙◌, slice_get, arith, suc, zero}
use Rattle.std.proofs.lemmas.Option.{none-some, same_Some}
use Rattle.std.proofs.Math.Seq.{drop-drop}
use Rattle.words.specs.declared.options.Tool.{Tool}
use Rattle.words.specs.Items.{item_at, items_of, holds_next, is_end, words_in}

-- the items behind an item that begins with the last word
none_left : (tool : Tool) (over : Bool) (place : ℕ) (word : List ℕ) (two : Bool) → [] ≡ items_of tool over (place + cond two 2 1) (drop (cond two 2 1) (word ∷ []))
unfolding items_of
none_left tool over place word true = refl
none_left tool over place word false = refl

left : (tool : Tool) (over : Bool) (place : ℕ) (word next : List ℕ) (rest : List (List ℕ)) (two : Bool)
    → elim two [ true ↦ items_of tool over (place + 2) rest | false ↦ items_of tool over (place + 1) (next ∷ rest) ] ≡ items_of tool over (place + cond two 2 1) (drop (cond two 2 1) (word ∷ next ∷ rest))
left tool over place word next rest true = refl
left tool over place word next rest false = refl

items_first : (tool : Tool) (ended : Bool) (place : ℕ) (word : List ℕ) (rest : List (List ℕ))
    → let item = item_at tool ended place word (slice_get rest 0) in
    items_of tool ended place (word ∷ rest) ≡ item ∷ items_of tool (ended || is_end item) (place + words_in item) (drop (words_in item) (word ∷ rest))
unfolding items_of
items_first tool ended place word [] = let item = item_at tool ended place word None in ap (λ items. item ∷ items) (none_left tool (ended || is_end item) place word (holds_next item))
items_first tool ended place word (next ∷ rest) = let item = item_at tool ended place word (Some next) in ap (λ items. item ∷ items) (left tool (ended || is_end item) place word next rest (holds_next item))

first_at : (words : List (List ℕ)) (at : ℕ) (word : List ℕ) → slice_get words at ≡ Some word → drop at words ≡ word ∷ drop (suc at) words
first_at [] at word h = absurd (none-some word h)
first_at (w ∷ words) zero word h = ap (λ v. v ∷ words) (same_Some w word h)
first_at (w ∷ words) (suc at) word h = first_at words at word h

next_at : (words : List (List ℕ)) (at : ℕ) → slice_get (drop at words) 0 ≡ slice_get words at
next_at [] zero = refl
next_at [] (suc at) = refl
next_at (w ∷ words) zero = refl
next_at (w ∷ words) (suc at) = next_at words at

pub items_step : (tool : Tool) (ended : Bool) (place : ℕ) (words : List (List ℕ)) (at : ℕ) (word : List ℕ) → slice_get words at ≡ Some word
    → let item = item_at tool ended place word (slice_get words (at + 1)) in
    items_of tool ended place (drop at words) ≡ item ∷ items_of tool (ended || is_end item) (place + words_in item) (drop (at + words_in item) words)
items_step tool ended place words at word h =
    let f : drop at words ≡ word ∷ drop (suc at) words = first_at words at word h in
    let n : slice_get (drop (suc at) words) 0 ≡ slice_get words (at + 1) = next_at words (suc at) ∙ ap (slice_get words) (omega arith) in
    ap (items_of tool ended place) f
    ∙ items_first tool ended place word (drop (suc at) words)
    ∙ ap (λ (v : List (List ℕ)). let item = item_at tool ended place word (slice_get (drop (suc at) words) 0) in item ∷ items_of tool (ended || is_end item) (place + words_in item) (drop (words_in item) v)) (sym f)
    ∙ ap (λ (next : Option (List ℕ)). let item = item_at tool ended place word next in item ∷ items_of tool (ended || is_end item) (place + words_in item) (drop (words_in item) (drop at words))) n
    ∙ (let item = item_at tool ended place word (slice_get words (at + 1)) in ap (λ (v : List (List ℕ)). item ∷ items_of tool (ended || is_end item) (place + words_in item) v) (drop-drop (words_in item) at words))

pub none_behind : (tool : Tool) (ended : Bool) (place : ℕ) (words : List (List ℕ)) (at : ℕ) → None ≡ slice_get words at → items_of tool ended place (drop at words) ≡ []
unfolding items_of
none_behind tool ended place [] zero h = refl
none_behind tool ended place [] (suc at) h = refl
none_behind tool ended place (w ∷ words) zero h = absurd (none-some w h)
none_behind tool ended place (w ∷ words) (suc at) h = none_behind tool ended place words at h
