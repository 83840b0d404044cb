-- How calls that add sectors follow one another.
use Rattle.std.proofs.Common.{◌≡◌, ℕ, ◌+◌, ◌<◌, ◌≤◌, ◌⊎◌, inl, inr, List, length, refl, sym, ap, subst, ◌∙◌, arith, get_or}
use Rattle.std.specs.Prelude.{Some, Contains, slice_get}
use Rattle.std.proofs.lemmas.Option.{get_or_from_slice_get, slice_get-get_or, slice_get_within}
use Rattle.std.proofs.lemmas.Bool.{cases_lt}
use Rattle.run_set.specs.Runs.{Holds}
use Rattle.free_sectors.specs.declared.putting.Gathered.{Gathered}
use Rattle.free_sectors.specs.inside.Adding.{Gathers, DoesItem, SomeBelow}

-- nothing is added
pub Gathers-none : (a : Gathered) (P : ℕ → Type 0) → ((x : ℕ) → P x → ⊥) → Gathers a a P
Gathers-none a P none = record {
  same_disk = refl;
  holds = λ x. (λ h. inl h, λ e. elim e [ inl h ↦ h | inr p ↦ absurd (none x p.1) ]);
}

-- the same sectors, said otherwise
pub Gathers-as : (a b : Gathered) (P Q : ℕ → Type 0) → Gathers a b P → ((x : ℕ) → x < a.sectors → P x → Q x) → ((x : ℕ) → x < a.sectors → Q x → P x) → Gathers a b Q
Gathers-as a b P Q adds to back = record {
  same_disk = adds.same_disk;
  holds = λ x. (
    λ h. elim ((adds.holds x).0 h) [ inl o ↦ inl o | inr p ↦ inr (p.0, to x p.0 p.1) ],
    λ e. (adds.holds x).1 (elim e [ inl o ↦ inl o | inr p ↦ inr (p.0, back x p.0 p.1) ]),
  );
}

-- one call behind the other
pub Gathers-then : (a b c : Gathered) (P Q : ℕ → Type 0) → Gathers a b P → Gathers b c Q → Gathers a c (λ x. P x ⊎ Q x)
Gathers-then a b c P Q first second = record {
  same_disk = second.same_disk ∙ first.same_disk;
  holds = λ x. (
    λ h. elim ((second.holds x).0 h) [
      | inl o ↦ elim ((first.holds x).0 o) [ inl old ↦ inl old | inr p ↦ inr (p.0, inl p.1) ]
      | inr q ↦ inr (subst (λ (n : ℕ). x < n) first.same_disk q.0, inr q.1)
    ],
    λ e. (second.holds x).1 (elim e [
      | inl o ↦ inl ((first.holds x).1 (inl o))
      | inr p ↦ elim p.1 [
        | inl here ↦ inl ((first.holds x).1 (inr (p.0, here)))
        | inr there ↦ inr (subst (λ (n : ℕ). x < n) (sym first.same_disk) p.0, there)
      ]
    ]),
  );
}

-- a loop over numbers

pub Gathers-start : (a : Gathered) (does : ℕ → ℕ → Type 0) → Gathers a a (SomeBelow 0 does)
Gathers-start a does = Gathers-none a (SomeBelow 0 does) (λ x some. omega (arith, some.1))

pub Gathers-step : (a b c : Gathered) (n : ℕ) (does : ℕ → ℕ → Type 0) → Gathers a b (SomeBelow n does) → Gathers b c (does n) → Gathers a c (SomeBelow (n + 1) does)
Gathers-step a b c n does so_far more =
    Gathers-as a c (λ x. SomeBelow n does x ⊎ does n x) (SomeBelow (n + 1) does) (Gathers-then a b c (SomeBelow n does) (does n) so_far more)
    (λ x on e. elim e [ inl some ↦ (some.0, omega (arith, some.1), some.2) | inr here ↦ (n, omega arith, here) ])
    (λ x on some. one x some.0 some.1 some.2)
  where
    one : (x k : ℕ) → k < n + 1 → does k x → SomeBelow n does x ⊎ does n x
    one x k small it = elim (cases_lt k n) [
      | inl earlier ↦ inl (k, earlier, it)
      | inr last ↦ let same : k ≡ n = omega (arith, small, last) in inr (subst (λ (i : ℕ). does i x) same it)
    ]

-- a loop over items
pub Gathers-item : {A : Type 0} (a b c : Gathered) (items : List A) (does : A → ℕ → Type 0) (n : ℕ) (item : A)
    → Gathers a b (SomeBelow n (DoesItem items does)) → slice_get items n ≡ Some item → Gathers b c (does item)
    → Gathers a c (SomeBelow (n + 1) (DoesItem items does))
Gathers-item {A} a b c items does n item so_far is more =
    Gathers-step a b c n (DoesItem items does) so_far
    (Gathers-as b c (does item) (DoesItem items does n) more (λ x on it. (item, is, it)) (λ x on some. subst (λ (i : A). does i x) (same_item some.0 some.1) some.2))
  where
    same_item : (other : A) → slice_get items n ≡ Some other → other ≡ item
    same_item other other_is = let both : Some other ≡ Some item = sym other_is ∙ is in cc

-- what a loop has added, and what it has still to add, is what it is to add
pub record Remains (start now : Gathered) (all left : ℕ → Type 0) : Type 0 where
  pub same_disk : now.sectors ≡ start.sectors
  pub to : (x : ℕ) → (Holds now.set x ⊎ ((x < start.sectors) × left x)) → (Holds start.set x ⊎ ((x < start.sectors) × all x))
  pub back : (x : ℕ) → (Holds start.set x ⊎ ((x < start.sectors) × all x)) → (Holds now.set x ⊎ ((x < start.sectors) × left x))

pub Remains-start : (a : Gathered) (P : ℕ → Type 0) → Remains a a P P
Remains-start a P = record { same_disk = refl; to = λ x h. h; back = λ x h. h }

pub Remains-step : (a b c : Gathered) (P R Q S : ℕ → Type 0) → Remains a b P R → Gathers b c Q
    → ((x : ℕ) → x < b.sectors → R x → Q x ⊎ S x) → ((x : ℕ) → x < b.sectors → (Q x ⊎ S x) → R x) → Remains a c P S
Remains-step a b c P R Q S so_far adds to back = record {
  same_disk = adds.same_disk ∙ so_far.same_disk;
  to = λ x e. so_far.to x (elim e [
    | inl h ↦ elim ((adds.holds x).0 h) [ inl o ↦ inl o | inr q ↦ inr (down x q.0, back x q.0 (inl q.1)) ]
    | inr s ↦ inr (s.0, back x (up x s.0) (inr s.1))
  ]);
  back = λ x e. elim (so_far.back x e) [
    | inl h ↦ inl ((adds.holds x).1 (inl h))
    | inr r ↦ elim (to x (up x r.0) r.1) [
      | inl q ↦ inl ((adds.holds x).1 (inr (up x r.0, q)))
      | inr s ↦ inr (r.0, s)
    ]
  ];
}
  where
    down : (x : ℕ) → x < b.sectors → x < a.sectors
    down x h = subst (λ (n : ℕ). x < n) so_far.same_disk h

    up : (x : ℕ) → x < a.sectors → x < b.sectors
    up x h = subst (λ (n : ℕ). x < n) (sym so_far.same_disk) h

pub Remains-end : (a b : Gathered) (P R : ℕ → Type 0) → Remains a b P R → ((x : ℕ) → R x → ⊥) → Gathers a b P
Remains-end a b P R so_far none = record {
  same_disk = so_far.same_disk;
  holds = λ x. (
    λ h. so_far.to x (inl h),
    λ e. elim (so_far.back x e) [ inl h ↦ h | inr r ↦ absurd (none x r.1) ],
  );
}

-- the same where the item is copied
pub Gathers-at : {A : Type 0} (a b c : Gathered) (items : List A) (does : A → ℕ → Type 0) (n : ℕ) (d : A)
    → Gathers a b (SomeBelow n (DoesItem items does)) → n < length items → Gathers b c (does (get_or items n d))
    → Gathers a c (SomeBelow (n + 1) (DoesItem items does))
Gathers-at {A} a b c items does n d so_far inside more = Gathers-item a b c items does n (get_or items n d) so_far (slice_get-get_or items n d inside) more

-- the indices of a list, and its items

pub contained : {A : Type 0} (items : List A) (k : ℕ) (item : A) → slice_get items k ≡ Some item → Contains items item
contained {A} items k item is = (k, slice_get_within items k item is, get_or_from_slice_get items k item item is)

pub at_index : {A : Type 0} (items : List A) (item : A) (among : Contains items item) → slice_get items among.0 ≡ Some item
at_index {A} items item among = slice_get-get_or items among.0 item among.1 ∙ ap (λ (i : A). Some i) among.2

pub some_item : {A : Type 0} (items : List A) (does : A → ℕ → Type 0) (n x : ℕ) (item : A) → length items ≤ n → Contains items item → does item x → SomeBelow n (DoesItem items does) x
some_item {A} items does n x item all among it = (among.0, omega (arith, among.1, all), (item, at_index items item among, it))
