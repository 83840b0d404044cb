-- The next multiple of an alignment: there is one, and only one.
use Rattle.std.proofs.Common.{◌≡◌, ℕ, ◌+◌, ◌*◌, ◌/◌, ◌%◌, ◌<◌, ◌≤◌, min, refl, inl, inr, arith}
use Rattle.std.proofs.Math.Nat.{mul-le-mul_right}
use Rattle.std.proofs.lemmas.Bool.{cases_lt}
use Rattle.std.proofs.lemmas.Grind.{div_ceil_times}
use Rattle.layout_plan.specs.Alignment.{IsNext}

-- of two multiples the greater is at least align further on
further : (align k m : ℕ) → k * align < m * align → k * align + align ≤ m * align
further align k m low =
    elim (cases_lt k m) [
      | inl less ↦ let next : k + 1 ≤ m = omega arith in omega (arith, mul-le-mul_right align next)
      | inr more ↦ absurd (omega (arith, mul-le-mul_right align more))
    ]

not_below : (align n a b : ℕ) → IsNext align n a → IsNext align n b → a < b → ⊥
not_below align n a b x y low =
    let k = x.multiple.0 in
    let m = y.multiple.0 in
    let is_a : a ≡ k * align = x.multiple.1 in
    let is_b : b ≡ m * align = y.multiple.1 in
    let less : k * align < m * align = omega arith in
    let far : k * align + align ≤ m * align = further align k m less in
    let from : n ≤ a = x.above in
    let to : b < n + align = y.least in
    omega arith

pub next_unique : (align n a b : ℕ) → IsNext align n a → IsNext align n b → a ≡ b
next_unique align n a b x y =
    let low : a < b → ⊥ = not_below align n a b x y in
    let high : b < a → ⊥ = not_below align n b a y x in
    omega arith

pub some_next : (align n : ℕ) → 0 < align → (found : ℕ) × IsNext align n found
some_next align n some =
    let bounds = div_ceil_times n align some in
    ((n / align + min 1 (n % align)) * align, record { multiple = (n / align + min 1 (n % align), refl); above = bounds.0; least = bounds.1 })

-- the next multiple behind a later place is no earlier one
pub next_rises : (align n m a b : ℕ) → n ≤ m → IsNext align n a → IsNext align m b → a ≤ b
next_rises align n m a b less x y =
    elim (cases_lt b a) [
      | inl low ↦
          let k = y.multiple.0 in
          let j = x.multiple.0 in
          let is_b : b ≡ k * align = y.multiple.1 in
          let is_a : a ≡ j * align = x.multiple.1 in
          let before : k * align < j * align = omega arith in
          let far : k * align + align ≤ j * align = further align k j before in
          let from : m ≤ b = y.above in
          let to : a < n + align = x.least in
          absurd (omega arith)
      | inr high ↦ high
    ]
