-- Claims, list by list.
use Rattle.std.proofs.Common.{◌≡◌, ℕ, ◌+◌, ◌*◌, ◌/◌, ◌%◌, ◌≤◌, Bool, true, false, not, ◌||◌, ◌&&◌, ◌==◌, List, [], ◌∷◌, refl, sym, ap, ◌∙◌, arith, subst}
use Rattle.std.specs.Prelude.{if◌then◌else◌}
use Rattle.std.proofs.lemmas.Bool.{false≢true}
use Rattle.std.proofs.lemmas.Bool.Decides.{nat_tests}
use Rattle.block_claims.proofs.Agreements.{times_itself}
use Rattle.std.proofs.lemmas.Nat.{div-add-mod'}
use Rattle.xfs_tree.specs.Marks.{Claims, marked, AreFree}
use Rattle.block_claims.specs.Agreement.{times_in, Claimed, IsTwice}

times_is : (n b : ℕ) → times_in n (b ∷ []) ≡ (if n == b then 1 else 0)
times_is n b = grind (arith, nat_tests)

-- a mark is 0 or 1, so what is claimed was free
one_at_most : (b : Bool) → (if b then 1 else 0) ≤ 1
one_at_most true = omega arith
one_at_most false = omega arith

pub claimed_free : (old : ℕ → ℕ) (agblocks : ℕ) (new : Claims) (blocks : List ℕ) → Claimed old blocks (marked agblocks new) → AreFree old blocks
claimed_free old agblocks new blocks p = λ n. omega (arith, p n, one_at_most (new (n / agblocks) (n % agblocks)))

-- a group and a block in it name a block of the volume
pub place_number : (agblocks g b at : ℕ) → g ≡ at / agblocks → b ≡ at % agblocks → g * agblocks + b ≡ at
place_number agblocks g b at p q = ap (λ (x : ℕ). x * agblocks + b) p ∙ ap (λ (x : ℕ). at / agblocks * agblocks + x) q ∙ div-add-mod' at agblocks

same_bools : (a b : Bool) → (a ≡ true → b ≡ true) → (b ≡ true → a ≡ true) → a ≡ b
same_bools true b f h = sym (f refl)
same_bools false true f h = absurd (false≢true (h refl))
same_bools false false f h = refl

and_parts : (a b : Bool) → (a && b) ≡ true → (a ≡ true) × (b ≡ true)
and_parts true b h = (refl, h)
and_parts false b h = absurd (false≢true h)

pub both : (a b : Bool) → a ≡ true → b ≡ true → (a && b) ≡ true
both a b p q = cc

is : (m n : ℕ) → (m == n) ≡ true → m ≡ n
is m n h = grind (arith, nat_tests)

pub says : (m n : ℕ) → m ≡ n → (m == n) ≡ true
says m n h = grind (arith, nat_tests)

same_place : (a n at g b : ℕ) → g ≡ at / a → b ≡ at % a → (n / a == g && n % a == b) ≡ (n == at)
same_place a n at g b p q = same_bools _ _
    (λ h.
    let parts = and_parts (n / a == g) (n % a == b) h in
    says n at (sym (div-add-mod' n a) ∙ place_number a (n / a) (n % a) at (is (n / a) g parts.0 ∙ p) (is (n % a) b parts.1 ∙ q)))
    (λ h.
    let e : n ≡ at = is n at h in
    both _ _ (says (n / a) g (ap (λ (x : ℕ). x / a) e ∙ sym p)) (says (n % a) b (ap (λ (x : ℕ). x % a) e ∙ sym q)))

counted : (o x : Bool) → (x ≡ true → o ≡ false) → (if (o || x) then 1 else 0) ≡ (if o then 1 else 0) + (if x then 1 else 0)
counted true true f = absurd (false≢true (sym (f refl)))
counted true false f = refl
counted false true f = refl
counted false false f = refl

not_true : (fresh c : Bool) → fresh ≡ not c → fresh ≡ true → c ≡ false
not_true fresh true p q = absurd (false≢true (sym p ∙ q))
not_true fresh false p q = refl

not_false : (fresh c : Bool) → fresh ≡ not c → fresh ≡ false → c ≡ true
not_false fresh true p q = refl
not_false fresh false p q = absurd (false≢true (sym q ∙ p))

-- the claim of one block that was free
pub claimed_one : (a at g b : ℕ) (old new : Claims) (fresh : Bool) → g ≡ at / a → b ≡ at % a → fresh ≡ not (old g b) → fresh ≡ true
    → ((h c : ℕ) → new h c ≡ (old h c || (h == g && c == b))) → Claimed (marked a old) (at ∷ []) (marked a new)
claimed_one a at g b old new fresh p q answer free claims = λ n.
    let was : old g b ≡ false = not_true fresh (old g b) answer free in
    let here : n ≡ at → old (n / a) (n % a) ≡ false =
    λ e. ap (λ (x : ℕ). old (x / a) (x % a)) e ∙ ap (λ (x : ℕ). old x (at % a)) (sym p) ∙ ap (λ (x : ℕ). old g x) (sym q) ∙ was in
    ap (λ (x : Bool). if x then 1 else 0) (claims (n / a) (n % a) ∙ ap (λ (x : Bool). old (n / a) (n % a) || x) (same_place a n at g b p q))
    ∙ counted (old (n / a) (n % a)) (n == at) (λ h. here (is n at h))
    ∙ ap (λ (x : ℕ). marked a old n + x) (sym (times_is n at))

-- one that wasn't
pub twice_one : (a at g b : ℕ) (old : Claims) (fresh : Bool) → g ≡ at / a → b ≡ at % a → fresh ≡ not (old g b) → fresh ≡ false → IsTwice (marked a old) (at ∷ []) (g * a + b)
twice_one a at g b old fresh p q answer taken =
    let was : old (at / a) (at % a) ≡ true = ap (λ (x : ℕ). old x (at % a)) (sym p) ∙ ap (λ (x : ℕ). old g x) (sym q) ∙ not_false fresh (old g b) answer taken in
    let one : marked a old at ≡ 1 = ap (λ (x : Bool). if x then 1 else 0) was in
    subst (λ (n : ℕ). IsTwice (marked a old) (at ∷ []) n) (sym (place_number a g b at p q)) (omega (arith, one, times_itself at))

-- a free list has no block twice
pub free_excludes : (old : ℕ → ℕ) (blocks : List ℕ) (n : ℕ) → AreFree old blocks → IsTwice old blocks n → ⊥
free_excludes old blocks n free twice = omega (arith, free n, twice)
