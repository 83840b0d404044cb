-- Where the elements that pass a test stand among themselves, and how many parts of lower numbers are made.
use Rattle.std.proofs.Common.{◌≡◌, ℕ, zero, suc, ◌+◌, ◌<◌, ◌≤◌, ◌&&◌, nat_lt, not, Bool, true, false, cond, Some, List, [], ◌∷◌, length, take, filter, count_by, slice_index_or, slice_get, refl, sym, ◌∙◌, ap, inl, inr, arith, All, AllPairs}
use Rattle.std.proofs.lemmas.Bool.{cases_Bool, le-ltb, lt-ltb}
use Rattle.std.proofs.lemmas.List.Elements.{All-filter}
use Rattle.std.proofs.lemmas.List.Sums.{sum_by-cons}
use Rattle.layout_plan.specs.declared.part.Part.{Part}

pub count_yes : {X : Type 0} (p : X → Bool) (x : X) (xs : List X) → p x ≡ true → count_by p (x ∷ xs) ≡ suc (count_by p xs)
count_yes p x xs passes = sum_by-cons (λ y. cond (p y) 1 0) x xs ∙ rw passes (omega arith)

pub count_no : {X : Type 0} (p : X → Bool) (x : X) (xs : List X) → p x ≡ false → count_by p (x ∷ xs) ≡ count_by p xs
count_no p x xs fails = sum_by-cons (λ y. cond (p y) 1 0) x xs ∙ rw fails (omega arith)

pub count_none : {X : Type 0} (p : X → Bool) (xs : List X) → All (λ x. p x ≡ false) xs → count_by p xs ≡ 0
count_none p [] none = refl
count_none p (x ∷ xs) none = count_no p x xs (none 0 x (omega arith)) ∙ count_none p xs (λ k d h. none (suc k) d (omega arith))

-- two lists of one length pass two tests alike
pub count_alike : {X Y : Type 0} (p : X → Bool) (q : Y → Bool) (xs : List X) (ys : List Y) → length xs ≡ length ys
    → ((k : ℕ) (a : X) (b : Y) → k < length xs → p (slice_index_or xs k a) ≡ q (slice_index_or ys k b)) → (n : ℕ) → count_by p (take n xs) ≡ count_by q (take n ys)
count_alike p q [] [] same alike zero = refl
count_alike p q [] [] same alike (suc n) = refl
count_alike p q [] (y ∷ ys) same alike n = absurd (omega arith)
count_alike p q (x ∷ xs) [] same alike n = absurd (omega arith)
count_alike p q (x ∷ xs) (y ∷ ys) same alike zero = refl
count_alike p q (x ∷ xs) (y ∷ ys) same alike (suc n) =
    let here : p x ≡ q y = alike 0 x y (omega arith) in
    let rest : count_by p (take n xs) ≡ count_by q (take n ys) = count_alike p q xs ys (omega arith) (λ k a b h. alike (suc k) a b (omega arith)) n in
    elim (cases_Bool (q y)) [
      | inl passes ↦ count_yes p x (take n xs) (here ∙ passes) ∙ ap suc rest ∙ sym (count_yes q y (take n ys) passes)
      | inr fails ↦ count_no p x (take n xs) (here ∙ fails) ∙ rest ∙ sym (count_no q y (take n ys) fails)
    ]

-- an element that passes is kept, behind those before it that pass
pub kept_at : {X : Type 0} (p : X → Bool) (xs : List X) (k : ℕ) (d : X) → k < length xs → p (slice_index_or xs k d) ≡ true
    → slice_get (filter p xs) (count_by p (take k xs)) ≡ Some (slice_index_or xs k d)
kept_at p [] k d h passes = absurd (omega arith)
kept_at p (x ∷ xs) zero d h passes = ap (λ b. slice_get (cond b (x ∷ filter p xs) (filter p xs)) 0) passes
kept_at p (x ∷ xs) (suc k) d h passes =
    let rest = kept_at p xs k d (omega arith) passes in
    elim (cases_Bool (p x)) [
      | inl on ↦
          ap (λ n. slice_get (filter p (x ∷ xs)) n) (count_yes p x (take k xs) on)
          ∙ ap (λ b. slice_get (cond b (x ∷ filter p xs) (filter p xs)) (suc (count_by p (take k xs)))) on ∙ rest
      | inr off ↦
          ap (λ n. slice_get (filter p (x ∷ xs)) n) (count_no p x (take k xs) off)
          ∙ ap (λ b. slice_get (cond b (x ∷ filter p xs) (filter p xs)) (count_by p (take k xs))) off ∙ rest
    ]

-- what is kept at a place stood at another
pub record WasAt {X : Type 0} (p : X → Bool) (xs : List X) (i : ℕ) : Type 0 where
  pub place : ℕ
  pub within : place < length xs
  pub passes : (d : X) → p (slice_index_or xs place d) ≡ true
  pub count : count_by p (take place xs) ≡ i
  pub same : (d : X) → slice_index_or (filter p xs) i d ≡ slice_index_or xs place d

was_later : {X : Type 0} (p : X → Bool) (x : X) (xs : List X) (i j : ℕ) → WasAt p xs i → count_by p (x ∷ take 0 xs) + i ≡ j
    → ((d : X) → slice_index_or (filter p (x ∷ xs)) j d ≡ slice_index_or (filter p xs) i d) → WasAt p (x ∷ xs) j
was_later p x xs i j was more same = record {
  place = suc was.place;
  within = omega (arith, was.within);
  passes = was.passes;
  count = elim (cases_Bool (p x)) [
    | inl on ↦ omega (arith, count_yes p x (take was.place xs) on, count_yes p x (take 0 xs) on, was.count, count_none p (take 0 xs) (λ k d h. absurd (omega arith)))
    | inr off ↦ omega (arith, count_no p x (take was.place xs) off, count_no p x (take 0 xs) off, was.count, count_none p (take 0 xs) (λ k d h. absurd (omega arith)))
  ];
  same = λ d. same d ∙ was.same d;
}

pub was_at : {X : Type 0} (p : X → Bool) (xs : List X) (i : ℕ) → i < length (filter p xs) → WasAt p xs i
was_at p [] i h = absurd (omega arith)
was_at {X} p (x ∷ xs) i h =
    elim (p x) as (λ b. p x ≡ b → (j : ℕ) → j < length (cond b (x ∷ filter p xs) (filter p xs)) → WasAt p (x ∷ xs) j) [
      | true ↦ λ on j. elim j as (λ n. n < length (x ∷ filter p xs) → WasAt p (x ∷ xs) n) [
        | zero ↦ λ _. record {
          place = 0;
          within = omega arith;
          passes = λ d. on;
          count = refl;
          same = λ d. ap (λ b. slice_index_or (cond b (x ∷ filter p xs) (filter p xs)) 0 d) on;
        }
        | suc n ↦ λ lt.
            was_later p x xs n (suc n) (was_at p xs n (omega arith)) (omega (arith, count_yes p x (take 0 xs) on, count_none p (take 0 xs) (λ k d h. absurd (omega arith))))
            (λ d. ap (λ b. slice_index_or (cond b (x ∷ filter p xs) (filter p xs)) (suc n) d) on)
      ]
      | false ↦ λ off j lt.
          was_later p x xs j j (was_at p xs j lt) (omega (arith, count_no p x (take 0 xs) off, count_none p (take 0 xs) (λ k d h. absurd (omega arith))))
          (λ d. ap (λ b. slice_index_or (cond b (x ∷ filter p xs) (filter p xs)) j d) off)
    ] refl i h

pub filter_none : {X : Type 0} (p : X → Bool) (xs : List X) → All (λ x. p x ≡ false) xs → filter p xs ≡ []
filter_none p [] none = refl
filter_none p (x ∷ xs) none =
    ap (λ b. cond b (x ∷ filter p xs) (filter p xs)) (none 0 x (omega arith)) ∙ filter_none p xs (λ k d h. none (suc k) d (omega arith))

-- of the parts of a class that have a number below m, those that aren't made
abbrev pub is_low : (Part → Bool) → ℕ → Part → Bool
is_low in_class m part = in_class part && nat_lt part.number m

abbrev pub is_low_gone : (Part → Bool) → (Part → Bool) → ℕ → Part → Bool
is_low_gone in_class made m part = in_class part && (nat_lt part.number m && not (made part))

module _ (in_class made : Part → Bool) where
  -- the parts of the class below a part that is made are those below it that aren't made and those that are made before it
  abbrev pub Splits : List Part → List Part → ℕ → Part → Type 0
  Splits parts rest k d =
      let m = (slice_index_or rest k d).number in
      count_by (is_low in_class m) parts ≡ count_by (is_low_gone in_class made m) parts + count_by in_class (take k rest)

  fails_low : (m : ℕ) (part : Part) → m ≤ part.number → is_low in_class m part ≡ false
  fails_low m part high = let off : nat_lt part.number m ≡ false = le-ltb part.number m high in rw off (elim (in_class part) as (λ b. (b && false) ≡ false) [ true ↦ refl | false ↦ refl ])

  fails_gone : (m : ℕ) (part : Part) → m ≤ part.number → is_low_gone in_class made m part ≡ false
  fails_gone m part high = let off : nat_lt part.number m ≡ false = le-ltb part.number m high in rw off (elim (in_class part) as (λ b. (b && false) ≡ false) [ true ↦ refl | false ↦ refl ])

  first_splits : (p d : Part) (ps rest : List Part) → All (λ (q : Part). p.number < q.number) ps → Splits (p ∷ ps) (p ∷ rest) 0 d
  first_splits p d ps rest later =
      let low = count_no (is_low in_class p.number) p ps (fails_low p.number p (omega arith)) in
      let gone = count_no (is_low_gone in_class made p.number) p ps (fails_gone p.number p (omega arith)) in
      let none_low = count_none (is_low in_class p.number) ps (λ k e h. let less = later k e h in fails_low p.number (slice_index_or ps k e) (omega arith)) in
      let none_gone = count_none (is_low_gone in_class made p.number) ps (λ k e h. let less = later k e h in fails_gone p.number (slice_index_or ps k e) (omega arith)) in
      omega (arith, low, gone, none_low, none_gone)

  more_splits : (p d : Part) (ps rest : List Part) (k : ℕ) → made p ≡ true → p.number < (slice_index_or rest k d).number → Splits ps rest k d → Splits (p ∷ ps) (p ∷ rest) (suc k) d
  more_splits p d ps rest k is less splits =
      let m = (slice_index_or rest k d).number in
      let below : nat_lt p.number m ≡ true = lt-ltb p.number m less in
      elim (cases_Bool (in_class p)) [
        | inl on ↦
            let low : is_low in_class m p ≡ true = rw (on, below) refl in
            let gone : is_low_gone in_class made m p ≡ false = rw (on, below, is) refl in
            omega (arith, splits, count_yes (is_low in_class m) p ps low, count_no (is_low_gone in_class made m) p ps gone, count_yes in_class p (take k rest) on)
        | inr off ↦
            let low : is_low in_class m p ≡ false = rw off refl in
            let gone : is_low_gone in_class made m p ≡ false = rw off refl in
            omega (arith, splits, count_no (is_low in_class m) p ps low, count_no (is_low_gone in_class made m) p ps gone, count_no in_class p (take k rest) off)
      ]

  gone_splits : (p d : Part) (ps rest : List Part) (k : ℕ) → made p ≡ false → p.number < (slice_index_or rest k d).number → Splits ps rest k d → Splits (p ∷ ps) rest k d
  gone_splits p d ps rest k isnt less splits =
      let m = (slice_index_or rest k d).number in
      let below : nat_lt p.number m ≡ true = lt-ltb p.number m less in
      elim (cases_Bool (in_class p)) [
        | inl on ↦
            let low : is_low in_class m p ≡ true = rw (on, below) refl in
            let gone : is_low_gone in_class made m p ≡ true = rw (on, below, isnt) refl in
            omega (arith, splits, count_yes (is_low in_class m) p ps low, count_yes (is_low_gone in_class made m) p ps gone)
        | inr off ↦
            let low : is_low in_class m p ≡ false = rw off refl in
            let gone : is_low_gone in_class made m p ≡ false = rw off refl in
            omega (arith, splits, count_no (is_low in_class m) p ps low, count_no (is_low_gone in_class made m) p ps gone)
      ]

  pub made_splits : (parts : List Part) → AllPairs (λ (before after : Part). before.number < after.number) parts → (k : ℕ) (d : Part) → k < length (filter made parts)
      → Splits parts (filter made parts) k d
  made_splits [] rising k d h = absurd (omega arith)
  made_splits (p ∷ ps) rising k d h =
      let later : All (λ (q : Part). p.number < q.number) ps = λ i e lt. rising zero (suc i) e (omega arith) (omega arith) in
      let rest_rising : AllPairs (λ (before after : Part). before.number < after.number) ps = λ i j e low high. rising (suc i) (suc j) e (omega arith) (omega arith) in
      let rest_later = All-filter made (λ (q : Part). p.number < q.number) ps later in
      elim (made p) as (λ b. made p ≡ b → (j : ℕ) → j < length (cond b (p ∷ filter made ps) (filter made ps)) → Splits (p ∷ ps) (cond b (p ∷ filter made ps) (filter made ps)) j d) [
        | true ↦ λ is j. elim j as (λ n. n < length (p ∷ filter made ps) → Splits (p ∷ ps) (p ∷ filter made ps) n d) [
          | zero ↦ λ _. first_splits p d ps (filter made ps) later
          | suc n ↦ λ lt. more_splits p d ps (filter made ps) n is (rest_later n d (omega arith)) (made_splits ps rest_rising n d (omega arith))
        ]
        | false ↦ λ isnt j lt. gone_splits p d ps (filter made ps) j isnt (rest_later j d lt) (made_splits ps rest_rising j d lt)
      ] refl k h

-- two tests that agree count alike
pub count_same : {X : Type 0} (p q : X → Bool) (xs : List X) → ((x : X) → p x ≡ q x) → count_by p xs ≡ count_by q xs
count_same p q [] same = refl
count_same p q (x ∷ xs) same =
    elim (cases_Bool (q x)) [
      | inl passes ↦ count_yes p x xs (same x ∙ passes) ∙ ap suc (count_same p q xs same) ∙ sym (count_yes q x xs passes)
      | inr fails ↦ count_no p x xs (same x ∙ fails) ∙ count_same p q xs same ∙ sym (count_no q x xs fails)
    ]
