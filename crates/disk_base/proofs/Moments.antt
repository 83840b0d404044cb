-- What a stop may have left over several calls, one after the other.
use Rattle.std.proofs.Common.{ℕ, List, arith, sym, subst, ◌⊎◌, inl, inr}
use Rattle.disk_base.specs.Stops.{Stops, AreOf, IsSettled, After, Adds, Follows, LeavesOnly, adds_on}

-- no time passed
pub adds_here : (a : Stops) (P : List ℕ → Type 0) → Adds P a a
adds_here a P = record { later = omega arith; only = λ t c early left. inl left }

-- what is added has a weaker property too, and nothing has any
pub adds_weaker : (a b : Stops) (P Q : List ℕ → Type 0) → ((c : List ℕ) → P c → Q c) → Adds P a b → Adds Q a b
adds_weaker a b P Q weaker r = record {
  later = r.later;
  only = λ t c early left. elim (r.only t c early left) [ inl before ↦ inl before | inr now ↦ inr (weaker c now) ];
}

pub adds_nothing : (a b : Stops) (P : List ℕ → Type 0) → Adds (λ c. ⊥) a b → Adds P a b
adds_nothing a b P r = adds_weaker a b (λ c. ⊥) P (λ c no_such. absurd no_such) r

-- what a stop may leave now it might leave before, or it was added
pub may_now : (old new : List ℕ) (a b : Stops) (P : List ℕ → Type 0) → AreOf old a → AreOf new b → Adds P a b → (c : List ℕ) → b.may_leave c → a.may_leave c ⊎ P c
may_now old new a b P before after r c left =
    elim (r.only a.moment c (omega arith) (after.counts_now a.moment c r.later left)) [
      | inl then ↦ inl (before.only_now c then)
      | inr now ↦ inr now
    ]

-- steps that go on are one step
pub follows_on : (old mid : List ℕ) (a b c : Stops) (R : List ℕ → List ℕ → Type 0) → ((x y z : List ℕ) → R x y → R y z → R x z) → AreOf old a → AreOf mid b
    → Follows R a b → Follows R b c → Follows R a c
follows_on old mid a b c R goes_on before after r s =
    adds_on a b c (After R a.may_leave) r (adds_weaker b c (After R b.may_leave) (After R a.may_leave)
    (λ z left. elim (may_now old mid a b (After R a.may_leave) before after r left.0 left.1) [
      | inl was ↦ (left.0, was, left.2)
      | inr now ↦ (now.0, now.1, goes_on now.0 left.0 z now.2 left.2)
    ])
    s)

pub follows_weaker : (a b : Stops) (R Q : List ℕ → List ℕ → Type 0) → ((x y : List ℕ) → R x y → Q x y) → Follows R a b → Follows Q a b
follows_weaker a b R Q weaker r = adds_weaker a b (After R a.may_leave) (After Q a.may_leave) (λ y left. (left.0, left.1, weaker left.0 y left.2)) r

-- a step from a disk that was settled
pub follows_settled : (image : List ℕ) (a b : Stops) (R : List ℕ → List ℕ → Type 0) → IsSettled image a → Follows R a b → Adds (R image) a b
follows_settled image a b R settled r =
    adds_weaker a b (After R a.may_leave) (R image) (λ y left. subst (λ x. R x y) (settled left.0 left.1) left.2) r

-- what a stop may leave after a step from a disk that was settled
pub now_follows : (old new : List ℕ) (a b : Stops) (R : List ℕ → List ℕ → Type 0) → R old old → AreOf old a → AreOf new b → IsSettled old a → Follows R a b
    → (c : List ℕ) → b.may_leave c → R old c
now_follows old new a b R same before after settled r c left =
    elim (may_now old new a b (R old) before after (follows_settled old a b R settled r) c left) [
      | inl was ↦ subst (R old) (sym (settled c was)) same
      | inr now ↦ now
    ]

-- a disk that was settled, and since then added only what has P
pub leaves_only : (image : List ℕ) (a b : Stops) (P : List ℕ → Type 0) → AreOf image a → IsSettled image a → P image → Adds P a b → LeavesOnly P a b
leaves_only image a b P before settled holds r = record {
  each = λ c left. elim (r.only a.moment c (omega arith) left) [
    | inl then ↦ subst P (sym (settled c (before.only_now c then))) holds
    | inr now ↦ now
  ];
  adds = r;
}
