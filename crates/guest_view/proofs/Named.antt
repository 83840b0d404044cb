-- The partitions that the items of a list name, one by one.
use Rattle.std.proofs.Math.ListN.{drop_of_length-le}
use Rattle.std.proofs.lemmas.List.{append_assoc, append-nil, drop_more}
use Rattle.std.proofs.lemmas.List.Elements.{All-append, All-cons, All-nil, All-map, All-weaker}
use Rattle.std.proofs.lemmas.List.Kept.{AllPairs-cons}
use Rattle.std.proofs.Common.{◌≡◌, ℕ, suc, ◌+◌, ◌<◌, List, [], ◌∷◌, ◌++◌, length, arith, refl, sym, ◌∙◌, ap, ◌≤◌, slice_index_or, Option, None, Some, All, AllPairs, drop, map}
use Rattle.std.specs.Option.{option_to_list}
use Rattle.guest_view.specs.declared.partition.Partition.{Partition}
use Rattle.guest_view.specs.Partitions.{named_from, or_none}

-- the items from place i on: what the item there names, and what the later ones name
pub named_more : {A : Type 0} (name : ℕ → A → Option Partition) (first : ℕ) (items : List A) (i : ℕ) (d : A) → i < length items
    → named_from name (first + i) (drop i items) ≡ or_none (name (first + i) (slice_index_or items i d)) (named_from name (first + i + 1) (drop (i + 1) items))
named_more name first items i d lt = ap (named_from name (first + i)) (drop_more items i d lt)

or_none_is : (o : Option Partition) (rest : List Partition) → or_none o rest ≡ option_to_list o ++ rest
or_none_is None rest = refl
or_none_is (Some p) rest = refl

-- one more item, as at a step of a loop
pub named_step : {A : Type 0} (name : ℕ → A → Option Partition) (first n : ℕ) (items : List A) (i : ℕ) (d : A) (found found' total : List Partition) (o : Option Partition)
    → i < length items → n ≡ first + i → o ≡ name n (slice_index_or items i d) → found' ≡ found ++ option_to_list o
    → found ++ named_from name (first + i) (drop i items) ≡ total → found' ++ named_from name (first + (i + 1)) (drop (i + 1) items) ≡ total
named_step name first n items i d found found' total o lt number is more before =
    let rest : List Partition = named_from name (first + i + 1) (drop (i + 1) items) in
    let here : o ≡ name (first + i) (slice_index_or items i d) = is ∙ ap (λ k. name k (slice_index_or items i d)) number in
    let split : named_from name (first + i) (drop i items) ≡ option_to_list o ++ rest =
    named_more name first items i d lt ∙ or_none_is (name (first + i) (slice_index_or items i d)) rest ∙ ap (λ q. option_to_list q ++ rest) (sym here) in
    let next : first + (i + 1) ≡ first + i + 1 = omega arith in
    ap (λ k. found' ++ named_from name k (drop (i + 1) items)) next ∙ ap (λ f. f ++ rest) more ∙ append_assoc found (option_to_list o) rest ∙ ap (λ l. found ++ l) (sym split) ∙ before

-- no item more
pub named_end : {A : Type 0} (name : ℕ → A → Option Partition) (number : ℕ) (items : List A) (i : ℕ) (found total : List Partition) → length items ≤ i
    → found ++ named_from name number (drop i items) ≡ total → found ≡ total
named_end name number items i found total past before =
    sym (append-nil found) ∙ ap (λ l. found ++ named_from name number l) (sym (drop_of_length-le items past)) ∙ before

-- a partition is what an item names under its number
pub record IsNamedBy {A : Type 0} (name : ℕ → A → Option Partition) (first : ℕ) (items : List A) (p : Partition) : Type 0 where
  pub place : ℕ
  pub within : place < length items
  pub names : (d : A) → name (first + place) (slice_index_or items place d) ≡ Some p

module _ {A : Type 0} (name : ℕ → A → Option Partition) where
  named_later : (first : ℕ) (item : A) (items : List A) (p : Partition) → IsNamedBy name (first + 1) items p → IsNamedBy name first (item ∷ items) p
  named_later first item items p is = record {
    place = suc is.place;
    within = omega (arith, is.within);
    names = λ d. let same : first + suc is.place ≡ first + 1 + is.place = omega arith in ap (λ n. name n (slice_index_or items is.place d)) same ∙ is.names d;
  }

  named_here : (first : ℕ) (item : A) (items : List A) (p : Partition) → name first item ≡ Some p → IsNamedBy name first (item ∷ items) p
  named_here first item items p is = record {
    place = 0;
    within = omega arith;
    names = λ d. let same : first + 0 ≡ first = omega arith in ap (λ n. name n item) same ∙ is;
  }

  each_with : (first : ℕ) (item : A) (items : List A) (o : Option Partition) (rest : List Partition) → name first item ≡ o
      → All (IsNamedBy name first (item ∷ items)) rest → All (IsNamedBy name first (item ∷ items)) (or_none o rest)
  each_with first item items None rest is later = later
  each_with first item items (Some p) rest is later =
      All-cons (IsNamedBy name first (item ∷ items)) p rest (named_here first item items p is) later

  -- each partition is what one of the items names
  pub named_each : (first : ℕ) (items : List A) → All (IsNamedBy name first items) (named_from name first items)
  named_each first [] = All-nil (IsNamedBy name first [])
  named_each first (item ∷ items) =
      each_with first item items (name first item) (named_from name (first + 1) items) refl
      (All-weaker (IsNamedBy name (first + 1) items) (IsNamedBy name first (item ∷ items)) (named_later first item items) (named_from name (first + 1) items)
      (named_each (first + 1) items))

  -- what holds of what any two items name holds of any two partitions
  abbrev pub HoldsOfItems : (Partition → Partition → Type 0) → ℕ → List A → Type 0
  HoldsOfItems R first items =
      (k l : ℕ) → k < l → l < length items → (d : A) (p q : Partition) → name (first + k) (slice_index_or items k d) ≡ Some p
      → name (first + l) (slice_index_or items l d) ≡ Some q → R p q

  holds_of_later : (R : Partition → Partition → Type 0) (first : ℕ) (item : A) (items : List A) → HoldsOfItems R first (item ∷ items) → HoldsOfItems R (first + 1) items
  holds_of_later R first item items h k l lt within d p q a b =
      let k_is : first + suc k ≡ first + 1 + k = omega arith in
      let l_is : first + suc l ≡ first + 1 + l = omega arith in
      h (suc k) (suc l) (omega arith) (omega arith) d p q (ap (λ n. name n (slice_index_or items k d)) k_is ∙ a) (ap (λ n. name n (slice_index_or items l d)) l_is ∙ b)

  pairs_with : (R : Partition → Partition → Type 0) (first : ℕ) (item : A) (items : List A) (o : Option Partition) → HoldsOfItems R first (item ∷ items)
      → name first item ≡ o → AllPairs R (named_from name (first + 1) items) → AllPairs R (or_none o (named_from name (first + 1) items))
  pairs_with R first item items None h is later = later
  pairs_with R first item items (Some p) h is later =
      let here : name (first + 0) item ≡ Some p = let same : first + 0 ≡ first = omega arith in ap (λ n. name n item) same ∙ is in
      AllPairs-cons R p (named_from name (first + 1) items)
      (All-weaker (IsNamedBy name (first + 1) items) (R p)
      (λ q by.
      let same : first + suc by.place ≡ first + 1 + by.place = omega arith in
      h 0 (suc by.place) (omega arith) (omega (arith, by.within)) item p q here (ap (λ n. name n (slice_index_or items by.place item)) same ∙ by.names item))
      (named_from name (first + 1) items) (named_each (first + 1) items)) later

  pub named_pairs : (R : Partition → Partition → Type 0) (first : ℕ) (items : List A) → HoldsOfItems R first items → AllPairs R (named_from name first items)
  named_pairs R first [] h = λ i j d low high. absurd (omega arith)
  named_pairs R first (item ∷ items) h =
      pairs_with R first item items (name first item) h refl (named_pairs R (first + 1) items (holds_of_later R first item items h))

-- what holds of any two of a list, any two of another, and any of the first with any of the other
pub pairs_append : {X : Type 0} (R : X → X → Type 0) (xs ys : List X) → AllPairs R xs → AllPairs R ys → All (λ x. All (R x) ys) xs → AllPairs R (xs ++ ys)
pairs_append R [] ys own other cross = other
pairs_append R (x ∷ xs) ys own other cross =
    AllPairs-cons R x (xs ++ ys) (All-append (R x) xs ys (λ k d lt. own 0 (suc k) d (omega arith) (omega arith)) (cross 0 x (omega arith)))
    (pairs_append R xs ys (λ i j d low high. own (suc i) (suc j) d (omega arith) (omega arith)) other (λ k d lt. cross (suc k) d (omega arith)))

-- the same of what a function makes of a list
pub pairs_map : {X Y : Type 0} (R : X → X → Type 0) (f : Y → X) (ys : List Y) → AllPairs (λ a b. R (f a) (f b)) ys → AllPairs R (map f ys)
pairs_map R f [] h = λ i j d low high. absurd (omega arith)
pairs_map R f (y ∷ ys) h =
    AllPairs-cons R (f y) (map f ys) (All-map (R (f y)) f ys (λ k d lt. h 0 (suc k) d (omega arith) (omega arith)))
    (pairs_map R f ys (λ i j d low high. h (suc i) (suc j) d (omega arith) (omega arith)))
