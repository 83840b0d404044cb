-- The least of some numbers.
use Rattle.std.proofs.Common.{◌≡◌, ℕ, ◌≤◌, ◌⊎◌, inl, inr, min, List, [], ◌∷◌, ◌++◌, refl, ap, sym, ◌∙◌, subst, arith}
use Rattle.std.specs.Prelude.{Option, Some, None, All, Contains, MatchOption}
use Rattle.std.specs.List.{cons_option}
use Rattle.std.proofs.lemmas.List.Elements.{All-nil, All-cons, All-same, All-weaker, All-contains, Contains-append_left, Contains-append_right, Contains-push}
use Rattle.volume_choice.specs.Unread.{IsLeast}
use Rattle.volume_choice.specs.inside.Least.{least_of, lesser}

min_assoc : (a b c : ℕ) → min (min a b) c ≡ min a (min b c)
min_assoc a b c = omega arith

lesser_assoc : (a b c : Option ℕ) → lesser (lesser a b) c ≡ lesser a (lesser b c)
lesser_assoc None b c = refl
lesser_assoc (Some a) None c = refl
lesser_assoc (Some a) (Some b) None = refl
lesser_assoc (Some a) (Some b) (Some c) = ap Some (min_assoc a b c)

pub least_step : (least one : Option ℕ) (rest : List ℕ) → lesser (lesser least one) (least_of rest) ≡ lesser least (least_of (cons_option one rest))
least_step least None rest = lesser_assoc least None (least_of rest)
least_step least (Some n) rest = lesser_assoc least (Some n) (least_of rest)

least_append : (xs ys : List ℕ) → least_of (xs ++ ys) ≡ lesser (least_of xs) (least_of ys)
least_append [] ys = refl
least_append (x ∷ xs) ys = ap (λ (o : Option ℕ). lesser (Some x) o) (least_append xs ys) ∙ sym (lesser_assoc (Some x) (least_of xs) (least_of ys))

-- where there is no least, there is none at all
none_with : (n : ℕ) (o : Option ℕ) (xs : List ℕ) → lesser (Some n) o ≡ None → (n ∷ xs) ≡ []
none_with n None xs e = cc
none_with n (Some m) xs e = cc

none_at_all : (xs : List ℕ) → least_of xs ≡ None → xs ≡ []
none_at_all [] e = refl
none_at_all (n ∷ ns) e = none_with n (least_of ns) ns e

min_cases : (a b : ℕ) → (min a b ≡ a) ⊎ (min a b ≡ b)
min_cases a b = grind arith

head_is : (n m : ℕ) (ns : List ℕ) → n ≡ m → Contains (n ∷ ns) m
head_is n m ns e =
    let P : ℕ → Type 0 = λ x. Contains (n ∷ ns) x in
    subst P e (Contains-append_left (n ∷ []) ns n (Contains-push [] n))

among_with : (n m : ℕ) (ns : List ℕ) (o : Option ℕ) → ((k : ℕ) → o ≡ Some k → Contains ns k) → lesser (Some n) o ≡ Some m → Contains (n ∷ ns) m
among_with n m ns None ih e = head_is n m ns (cc)
among_with n m ns (Some k) ih e = elim (min_cases n k) [
  | inl p ↦ head_is n m ns (cc)
  | inr p ↦ let q : k ≡ m = cc in
      let P : ℕ → Type 0 = λ x. Contains (n ∷ ns) x in
      subst P q (Contains-append_right (n ∷ []) ns k (ih k refl))
]

least_among : (ns : List ℕ) (m : ℕ) → least_of ns ≡ Some m → Contains ns m
least_among [] m e = absurd (cc)
least_among (n ∷ ns) m e = among_with n m ns (least_of ns) (least_among ns) e

below_with : (n m : ℕ) (ns : List ℕ) (o : Option ℕ) → (o ≡ None → ns ≡ []) → ((k : ℕ) → o ≡ Some k → All (λ x. k ≤ x) ns)
    → lesser (Some n) o ≡ Some m → All (λ x. m ≤ x) (n ∷ ns)
below_with n m ns None none ih e =
    let q : n ≡ m = cc in
    All-cons (λ (x : ℕ). m ≤ x) n ns (omega arith) (All-same (λ (x : ℕ). m ≤ x) ns [] (none refl) (All-nil (λ (x : ℕ). m ≤ x)))
below_with n m ns (Some k) none ih e =
    let q : min n k ≡ m = cc in
    All-cons (λ (x : ℕ). m ≤ x) n ns (omega arith) (All-weaker (λ (x : ℕ). k ≤ x) (λ (x : ℕ). m ≤ x) (λ x h. omega arith) ns (ih k refl))

least_below : (ns : List ℕ) (m : ℕ) → least_of ns ≡ Some m → All (λ x. m ≤ x) ns
least_below [] m e = absurd (cc)
least_below (n ∷ ns) m e = below_with n m ns (least_of ns) (none_at_all ns) (least_below ns) e

least_is : (ns : List ℕ) (m : ℕ) → least_of ns ≡ Some m → IsLeast ns m
least_is ns m e = record {
  among = least_among ns m e;
  none_below = λ n h. All-contains (λ (x : ℕ). m ≤ x) ns n (least_below ns m e) h;
}

least_answers : (ns : List ℕ) (o : Option ℕ) → least_of ns ≡ o → MatchOption o (ns ≡ []) (IsLeast ns)
least_answers ns None e = none_at_all ns e
least_answers ns (Some m) e = least_is ns m e

pub least_of_both : (xs ys : List ℕ) (o : Option ℕ) → o ≡ lesser (least_of xs) (least_of ys) → MatchOption o (xs ++ ys ≡ []) (IsLeast (xs ++ ys))
least_of_both xs ys o e = least_answers (xs ++ ys) o (least_append xs ys ∙ sym e)
