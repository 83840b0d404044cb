-- What holds of the items that a list gives, where some give none, and where an item is found.
use Rattle.std.proofs.lemmas.List.Elements.{All-cons, All-head, All-tail}
use Rattle.std.proofs.lemmas.List.Kept.{AllPairs-cons}
use Rattle.std.proofs.lemmas.List.{get_or_append_left, length-append}
use Rattle.std.proofs.Common.{◌≡◌, ℕ, ◌<◌, List, [], ◌∷◌, ◌++◌, ◌∙◌, length, arith, refl, sym, suc, zero, Bool, true, false, cond, slice_index_or, All, AllPairs, Option, Some, None, find}
use Rattle.std.specs.List.{filter_map, cons_option}

all_of_some : {Y : Type 0} (P : Y → Type 0) (o : Option Y) (ys : List Y) → ((y : Y) → o ≡ Some y → P y) → All P ys → All P (cons_option o ys)
all_of_some P None ys here rest = rest
all_of_some P (Some y) ys here rest = All-cons P y ys (here y refl) rest

pub all_gathered : {X Y : Type 0} (P : Y → Type 0) (h : X → Option Y) (xs : List X) → All (λ (x : X). (y : Y) → h x ≡ Some y → P y) xs → All P (filter_map h xs)
all_gathered P h [] all = λ k d within. absurd (omega arith)
all_gathered {X = X} {Y = Y} P h (x ∷ xs) all =
    let Gives : X → Type 0 = λ x. (y : Y) → h x ≡ Some y → P y in
    all_of_some P (h x) (filter_map h xs) (All-head Gives x xs all) (all_gathered P h xs (All-tail Gives x xs all))

pairs_of_some : {Y : Type 0} (R : Y → Y → Type 0) (o : Option Y) (ys : List Y) → ((y : Y) → o ≡ Some y → All (R y) ys) → AllPairs R ys → AllPairs R (cons_option o ys)
pairs_of_some R None ys here rest = rest
pairs_of_some R (Some y) ys here rest = AllPairs-cons R y ys (here y refl) rest

pub pairs_gathered : {X Y : Type 0} (R : Y → Y → Type 0) (h : X → Option Y) (xs : List X)
    → AllPairs (λ (x x' : X). (y y' : Y) → h x ≡ Some y → h x' ≡ Some y' → R y y') xs → AllPairs R (filter_map h xs)
pairs_gathered R h [] pairs = λ i j d low high. absurd (omega arith)
pairs_gathered R h (x ∷ xs) pairs =
    pairs_of_some R (h x) (filter_map h xs) (λ y is. all_gathered (R y) h xs (λ k d within y' is'. pairs 0 (suc k) d (omega arith) (omega arith) y y' is is'))
    (pairs_gathered R h xs (λ i j d low high. pairs (suc i) (suc j) d (omega arith) (omega arith)))

-- an item that is found stands at a place, and passes
pub record IsFoundAt {X : Type 0} (p : X → Bool) (xs : List X) (x : X) : Type 0 where
  pub place : ℕ
  pub within : place < length xs
  pub is : (d : X) → slice_index_or xs place d ≡ x
  pub passes : p x ≡ true

found_here_or : {X : Type 0} (p : X → Bool) (y : X) (ys : List X) (x : X) (b : Bool) → p y ≡ b → cond b (Some y) (find p ys) ≡ Some x
    → (find p ys ≡ Some x → IsFoundAt p ys x) → IsFoundAt p (y ∷ ys) x
found_here_or p y ys x true passes is later =
    let same : y ≡ x = cc is in
    rw (sym same) (record { place = 0; within = omega arith; is = λ d. refl; passes = passes })
found_here_or p y ys x false fails is later =
    let found = later is in
    record { place = suc found.place; within = omega (arith, found.within); is = found.is; passes = found.passes }

pub found_at : {X : Type 0} (p : X → Bool) (xs : List X) (x : X) → find p xs ≡ Some x → IsFoundAt p xs x
found_at p [] x is = absurd (cc is)
found_at p (y ∷ ys) x is = found_here_or p y ys x (p y) refl is (found_at p ys x)

-- an item stands at a place
pub record IsAmong {Y : Type 0} (ys : List Y) (y : Y) : Type 0 where
  pub place : ℕ
  pub within : place < length ys
  pub is : (d : Y) → slice_index_or ys place d ≡ y

among_some : {Y : Type 0} (o : Option Y) (ys : List Y) (y : Y) → o ≡ Some y → IsAmong (cons_option o ys) y
among_some None ys y is = absurd (cc is)
among_some (Some x) ys y is =
    let same : x ≡ y = cc is in
    record { place = 0; within = omega arith; is = λ d. same }

among_rest : {Y : Type 0} (o : Option Y) (ys : List Y) (y : Y) → IsAmong ys y → IsAmong (cons_option o ys) y
among_rest None ys y among = among
among_rest (Some x) ys y among = record { place = suc among.place; within = omega (arith, among.within); is = among.is }

-- what an item gives is among what all give
pub among_gathered : {X Y : Type 0} (h : X → Option Y) (xs : List X) (k : ℕ) (d : X) (y : Y) → k < length xs → h (slice_index_or xs k d) ≡ Some y → IsAmong (filter_map h xs) y
among_gathered h [] k d y within is = absurd (omega arith)
among_gathered h (x ∷ xs) zero d y within is = among_some (h x) (filter_map h xs) y is
among_gathered h (x ∷ xs) (suc k) d y within is = among_rest (h x) (filter_map h xs) y (among_gathered h xs k d y (omega arith) is)

pub among_append : {Y : Type 0} (ys zs : List Y) (y : Y) → IsAmong ys y → IsAmong (ys ++ zs) y
among_append ys zs y among = record {
  place = among.place;
  within = omega (arith, among.within, length-append ys zs);
  is = λ d. get_or_append_left ys zs d among.place among.within ∙ among.is d;
}
