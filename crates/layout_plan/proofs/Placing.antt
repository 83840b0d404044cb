-- What is made of the parts that remain.
use Rattle.std.proofs.Common.{◌≡◌, ◌≢◌, ℕ, ◌+◌, ◌<◌, true, false, List, [], ◌∷◌, ◌++◌, length, length-append, slice_index_or, refl, sym, ◌∙◌, ap, subst, inl, inr, arith, Contains}
use Rattle.std.proofs.lemmas.Bool.{cases_lt, cases_order}
use Rattle.std.proofs.lemmas.Grind.{common_steps}
use Rattle.std.proofs.lemmas.List.{get_or_default}
use Rattle.layout_plan.specs.declared.line.Spot.{Spot}
use Rattle.layout_plan.specs.declared.part.Part.{Part}
use Rattle.layout_plan.specs.declared.part.Placed.{Placed}
use Rattle.layout_plan.specs.declared.wish.Wish.{Wish}
use Rattle.layout_plan.specs.Layouts.{spot_at}
use Rattle.layout_plan.specs.Plans.{ArePlaced, IsPlaced, StandsAt}
use Rattle.layout_plan.specs.Roles.{is_logical}
use Rattle.layout_plan.specs.Wishes.{remaining}
use Rattle.layout_plan.proofs.Turns.{OtherNumbers}

-- the part that has the number of a part that is there is that part
pub is_the_part : (laid : List Part) (spots : List Spot) (part : Part) (place : ℕ) (e : Part) → OtherNumbers laid → Contains laid part
    → place < length laid → (slice_index_or laid place e).number ≡ part.number → StandsAt laid spots part (spot_at spots place)
is_the_part laid spots part place e others there within same =
    let other : ℕ = there.0 in
    let inside : other < length laid = there.1 in
    let is : slice_index_or laid other part ≡ part = there.2 in
    let number : (slice_index_or laid other part).number ≡ part.number = ap (λ (p : Part). p.number) is in
    let here : (slice_index_or laid place part).number ≡ part.number = ap (λ (p : Part). p.number) (get_or_default laid place part e within) ∙ same in
    elim (cases_order place other) [
      | inl one ↦ record { place = place; within = within; is_part = rw one is; there = refl }
      | inr apart ↦ absurd (elim apart [
        | inl before ↦ others place other part before inside (here ∙ sym number)
        | inr after ↦ others other place part after within (number ∙ sym here)
      ])
    ]

pub is_there : (laid : List Part) (part : Part) → Contains laid part → ((k : ℕ) (d : Part) → k < length laid → (slice_index_or laid k d).number ≢ part.number) → ⊥
is_there laid part there none = none there.0 part there.1 (ap (λ (p : Part). p.number) there.2)

-- of the first n parts, the last logical one ends there, if there is one
pub record IsLogicalSoFar (laid : List Part) (spots : List Spot) (n last : ℕ) : Type 0 where
  pub place : ℕ
  pub within : place < n
  pub logical : (d : Part) → is_logical (slice_index_or laid place d).role ≡ true
  pub no_later : (k : ℕ) (d : Part) → place < k → k < n → is_logical (slice_index_or laid k d).role ≡ false
  pub there : last ≡ (spot_at spots place).end

-- what is made of the first n of the parts that remain
pub record ArePlacedSoFar (wishes : List Wish) (parts rest laid : List Part) (spots : List Spot) (n : ℕ) (placed : List Placed) : Type 0 where
  pub as_many : length placed ≡ n
  pub each : (k : ℕ) (p : Part) (q : Placed) → k < n → IsPlaced wishes parts laid spots (slice_index_or rest k p) (slice_index_or placed k q)

at_end : (placed : List Placed) (one q : Placed) (n : ℕ) → length placed ≡ n → slice_index_or (placed ++ one ∷ []) n q ≡ one
at_end placed one q n long = grind (arith, common_steps)

below_end : (placed : List Placed) (one q : Placed) (n k : ℕ) → length placed ≡ n → k < n → slice_index_or (placed ++ one ∷ []) k q ≡ slice_index_or placed k q
below_end placed one q n k long within = grind (arith, common_steps)

pub placed_more : (wishes : List Wish) (parts rest laid : List Part) (spots : List Spot) (n : ℕ) (placed : List Placed) (one : Placed) (e : Part)
    → ArePlacedSoFar wishes parts rest laid spots n placed → n < length rest → IsPlaced wishes parts laid spots (slice_index_or rest n e) one
    → ArePlacedSoFar wishes parts rest laid spots (n + 1) (placed ++ one ∷ [])
placed_more wishes parts rest laid spots n placed one e done inside is_one = record {
  as_many = omega (arith, length-append placed (one ∷ []), done.as_many);
  each = λ k p q within. elim (cases_lt k n) [
    | inl before ↦
        let same : slice_index_or (placed ++ one ∷ []) k q ≡ slice_index_or placed k q = below_end placed one q n k done.as_many before in
        rw same (done.each k p q before)
    | inr here ↦
        let place : k ≡ n = omega arith in
        let last : slice_index_or (placed ++ one ∷ []) n q ≡ one = at_end placed one q n done.as_many in
        let part : slice_index_or rest n p ≡ slice_index_or rest n e = get_or_default rest n p e inside in
        rw (place, last, part) is_one
  ];
}

pub placed_all : (wishes : List Wish) (parts rest laid : List Part) (spots : List Spot) (n : ℕ) (placed : List Placed) → rest ≡ remaining wishes parts → n ≡ length rest
    → ArePlacedSoFar wishes parts rest laid spots n placed → ArePlaced wishes parts laid spots placed
placed_all wishes parts rest laid spots n placed is all done =
    let long : length placed ≡ length (remaining wishes parts) = done.as_many ∙ all ∙ ap length is in
    record {
      as_many = long;
      each = λ k p q within.
          let At : List Part → Type 0 = λ parts_left. IsPlaced wishes parts laid spots (slice_index_or parts_left k p) (slice_index_or placed k q) in
          subst At is (done.each k p q (omega (arith, done.as_many)));
    }
