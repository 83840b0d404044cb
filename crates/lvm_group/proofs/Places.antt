-- Places of names.
use Rattle.std.proofs.Common.{◌≡◌, ℕ, suc, ◌-◌, ◌≤◌, ◌<◌, length, List, [], ◌∷◌, refl, sym, ap, ◌∙◌, arith, slice_get}
use Rattle.std.specs.Prelude.{Bool, true, false, cond, Option, Some, None, if◌then◌else◌}
use Rattle.std.specs.Option.{option_and_then, option_copied, MatchOption}
use Rattle.std.specs.List.{HoldsAt}
use Rattle.std.proofs.lemmas.Option.{slice_get_past, slice_get_read}
use Rattle.std.specs.Borrow.{Bor}
use Rattle.std.specs.Str.{bytes_eq}
use Rattle.std.specs.Option.{is_some, unwrap_or}
use Rattle.std.specs.BTreeMap.{BTreeMap, UpdatesBy}
use Rattle.std.specs.Ordering.{nat_cmp}
use Rattle.std.specs.Cmp.Lexicographic.{slice_cmp}
use Rattle.std.proofs.lemmas.Bool.{false≢true}
use Rattle.std.proofs.lemmas.Slice.Eq.{bytes_eq-Decides}
use Rattle.std.proofs.lemmas.Map.Text.{btree_map_updates_str}
use Rattle.lvm_text.specs.declared.tree.Item.{Item}
use Rattle.lvm_group.specs.Lookup.{name_of, first_named}
use Rattle.lvm_group.specs.inside.Names.{AddsName, AreItemPlaces, item_place, or_first, place_in_names, place_if}

-- one more place, in front of others
pub or_more : (b : Bool) (n : ℕ) (known others : Option ℕ) → or_first (or_first known (if b then Some n else None)) others ≡ or_first known (if b then Some n else others)
or_more true n None others = refl
or_more false n None others = refl
or_more b n (Some m) others = refl

same_name : (xs ys : List ℕ) → bytes_eq xs ys ≡ true → ys ≡ xs
same_name xs ys e = sym ((bytes_eq-Decides xs ys).0 e)

-- a name that has a place keeps it
pub known_name : (places : BTreeMap (Bor (List ℕ)) ℕ) (own : List ℕ) (n : ℕ) → is_some (place_in_names places own) ≡ true → AddsName places own n places
known_name places own n known name = by (bytes_eq own name) refl (place_in_names places name) refl
  where
    by : (b : Bool) → bytes_eq own name ≡ b → (p : Option ℕ) → place_in_names places name ≡ p → place_in_names places name ≡ or_first (place_in_names places name) (place_if own n name)
    by true e None is = absurd (false≢true (sym (ap is_some (sym (ap (place_in_names places) (same_name own name e)) ∙ is)) ∙ known))
    by true e (Some m) is = is ∙ sym (ap (λ (p : Option ℕ). or_first p (place_if own n name)) is)
    by false e None is = is ∙ sym (ap (λ (p : Option ℕ). or_first p (place_if own n name)) is ∙ ap (λ (b : Bool). if b then Some n else None) e)
    by false e (Some m) is = is ∙ sym (ap (λ (p : Option ℕ). or_first p (place_if own n name)) is)

or_none : (p : Option ℕ) → or_first p None ≡ p
or_none None = refl
or_none (Some n) = refl

-- a name that had no place has this one
pub added_name : (places more : BTreeMap (Bor (List ℕ)) ℕ) (own : List ℕ) (n : ℕ) → is_some (place_in_names places own) ≡ false
    → UpdatesBy (λ x y. slice_cmp nat_cmp x.now y.now) (λ k. slice_cmp nat_cmp own k.now) places more (Some n) → AddsName places own n more
added_name places more own n unknown updates name =
    btree_map_updates_str own places more (Some n) updates name ∙ by (bytes_eq own name) refl
  where
    none_of : (p : Option ℕ) → is_some p ≡ false → p ≡ None
    none_of None e = refl
    none_of (Some m) e = absurd (false≢true (sym e))

    by : (b : Bool) → bytes_eq own name ≡ b → cond b (Some n) (place_in_names places name) ≡ or_first (place_in_names places name) (if b then Some n else None)
    by true e = sym (ap (λ (p : Option ℕ). or_first p (Some n)) (ap (place_in_names places) (same_name own name e) ∙ none_of (place_in_names places own) unknown))
    by false e = sym (or_none (place_in_names places name))

-- ---- the item at a place

at_least : (n : ℕ) (name : List ℕ) (items : List Item) (p : ℕ) → item_place n name items ≡ Some p → n ≤ p
at_least n name [] p is = absurd (none_is_no_some is)
  where
    none_is_no_some : None ≡ Some p → ⊥
    none_is_no_some e = false≢true (ap is_some e)
at_least n name (item ∷ items) p is = by (bytes_eq (name_of item) name) (at_least (suc n) name items p) is
  where
    by : (b : Bool) → (item_place (suc n) name items ≡ Some p → suc n ≤ p) → (if b then Some n else item_place (suc n) name items) ≡ Some p → n ≤ p
    by true ih e = let same : n ≡ p = ap (λ (o : Option ℕ). unwrap_or o 0) e in omega arith
    by false ih e = let more : suc n ≤ p = ih e in omega arith

by_place : (n : ℕ) (name : List ℕ) (items : List Item) → first_named name items ≡ option_and_then (λ p. slice_get items (p - n)) (item_place n name items)
by_place n name [] = refl
by_place n name (item ∷ items) = by (bytes_eq (name_of item) name) (by_place (suc n) name items)
  where
    later : (o : Option ℕ) → ((p : ℕ) → o ≡ Some p → suc n ≤ p) → option_and_then (λ p. slice_get items (p - suc n)) o ≡ option_and_then (λ p. slice_get (item ∷ items) (p - n)) o
    later None h = refl
    later (Some p) h =
        let le : suc n ≤ p = h p refl in
        let step : p - n ≡ suc (p - suc n) = omega arith in
        ap (λ (k : ℕ). slice_get (item ∷ items) k) (sym step)

    by : (b : Bool) → first_named name items ≡ option_and_then (λ p. slice_get items (p - suc n)) (item_place (suc n) name items)
        → (if b then Some item else first_named name items) ≡ option_and_then (λ p. slice_get (item ∷ items) (p - n)) (if b then Some n else item_place (suc n) name items)
    by true ih = let zero_is : n - n ≡ 0 = omega arith in ap (λ (k : ℕ). slice_get (item ∷ items) k) (sym zero_is)
    by false ih = ih ∙ later (item_place (suc n) name items) (λ p e. at_least (suc n) name items p e)

pub item_at_place : (items : List Item) (places : BTreeMap (Bor (List ℕ)) ℕ) (name : List ℕ) → AreItemPlaces items places
    → first_named name items ≡ option_and_then (λ p. slice_get items p) (place_in_names places name)
item_at_place items places name are =
    by_place 0 name items ∙ same (item_place 0 name items) ∙ ap (option_and_then (λ p. slice_get items p)) (sym (are name))
  where
    same : (o : Option ℕ) → option_and_then (λ p. slice_get items (p - 0)) o ≡ option_and_then (λ p. slice_get items p) o
    same None = refl
    same (Some p) = let e : p - 0 ≡ p = omega arith in ap (λ (k : ℕ). slice_get items k) e

pub none_at : (items : List Item) (places : BTreeMap (Bor (List ℕ)) ℕ) (name : List ℕ) → AreItemPlaces items places → None ≡ place_in_names places name → None ≡ first_named name items
none_at items places name are is = sym (item_at_place items places name are ∙ ap (option_and_then (λ p. slice_get items p)) (sym is))

pub some_at : (items : List Item) (places : BTreeMap (Bor (List ℕ)) ℕ) (name : List ℕ) (p : ℕ) → AreItemPlaces items places → Some p ≡ place_in_names places name → slice_get items p ≡ first_named name items
some_at items places name p are is = sym (item_at_place items places name are ∙ ap (option_and_then (λ p. slice_get items p)) (sym is))

-- what a slice gives at a place
pub get_is : (xs : List Item) (i : ℕ) (r : Option (Bor Item)) → MatchOption r (length xs ≤ i) (λ x. (i < length xs) × HoldsAt (λ y. x.now ≡ y) xs i) → option_copied r ≡ slice_get xs i
get_is xs i None h = sym (slice_get_past xs i h)
get_is xs i (Some x) h = sym (slice_get_read xs (length xs) i x.now refl h.0 (h.1 x.now))
