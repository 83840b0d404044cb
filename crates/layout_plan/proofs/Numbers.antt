-- The numbers of the parts on the target: of their roles, and no two the same.
use Rattle.std.proofs.Common.{◌≡◌, ℕ, zero, suc, ◌+◌, ◌<◌, ◌≤◌, ◌&&◌, nat_lt, not, if◌then◌else◌, Bool, true, false, cond, List, [], ◌∷◌, count_by, slice_index_or, refl, sym, ◌∙◌, ap, inl, inr, arith, All, Contains}
use Rattle.std.proofs.lemmas.Bool.{and_parts, both_ways, cases_Bool, cases_order, lt-ltb, ltb-true, not-true}
use Rattle.std.proofs.lemmas.List.{get_or_default}
use Rattle.std.proofs.lemmas.List.Elements.{All-contains}
use Rattle.std.proofs.lemmas.List.Sums.{sum_by-cons}
use Rattle.layout_plan.specs.declared.part.Kind.{Kind}
use Rattle.layout_plan.specs.declared.part.Part.{Part}
use Rattle.layout_plan.specs.declared.part.Role.{Role}
use Rattle.layout_plan.specs.declared.part.Role.TheVariants.{Slot, Extended, Logical}
use Rattle.layout_plan.specs.declared.wish.Wish.{Wish}
use Rattle.layout_plan.specs.Roles.{is_logical, same_class}
use Rattle.layout_plan.specs.Source.{IsPart, IsSource}
use Rattle.layout_plan.specs.Tables.{HasNumber, first_number}
use Rattle.layout_plan.specs.Wishes.{is_gone, makes_room, number_of}
use Rattle.layout_plan.proofs.Turns.{ByNumber}

count_yes : (pass : Part → Bool) (part : Part) (parts : List Part) → pass part ≡ true → count_by pass (part ∷ parts) ≡ count_by pass parts + 1
count_yes pass part parts passes = sum_by-cons (λ (one : Part). cond (pass one) 1 0) part parts ∙ rw passes (omega arith)

pub count_no : (pass : Part → Bool) (part : Part) (parts : List Part) → pass part ≡ false → count_by pass (part ∷ parts) ≡ count_by pass parts
count_no pass part parts fails = sum_by-cons (λ (one : Part). cond (pass one) 1 0) part parts ∙ rw fails (omega arith)

-- parts by rising number of which those that pass have numbers from low on, below high, are few
few_pass : (pass : Part → Bool) (low high : ℕ) (parts : List Part) → low ≤ high → ByNumber parts → All (λ (part : Part). pass part ≡ true → low ≤ part.number) parts
    → All (λ (part : Part). pass part ≡ true → part.number < high) parts → count_by pass parts + low ≤ high
few_pass pass low high [] order rising from to = omega arith
few_pass pass low high (part ∷ parts) order rising from to =
    let all = part ∷ parts in
    let rest_rising : ByNumber parts = λ i j d before within. rising (suc i) (suc j) d (omega arith) (omega arith) in
    let rest_to : All (λ (one : Part). pass one ≡ true → one.number < high) parts = λ k d within. to (suc k) d (omega arith) in
    elim (cases_Bool (pass part)) [
      | inl passes ↦
          let least : low ≤ part.number = from zero part (omega arith) passes in
          let below : part.number < high = to zero part (omega arith) passes in
          let rest_from : All (λ (one : Part). pass one ≡ true → part.number + 1 ≤ one.number) parts =
          λ k d within _. let less : part.number < (slice_index_or parts k d).number = rising zero (suc k) d (omega arith) (omega arith) in omega arith in
          let rest = few_pass pass (part.number + 1) high parts (omega arith) rest_rising rest_from rest_to in
          omega (arith, count_yes pass part parts passes)
      | inr fails ↦
          let rest_from : All (λ (one : Part). pass one ≡ true → low ≤ one.number) parts = λ k d within. from (suc k) d (omega arith) in
          let rest = few_pass pass low high parts order rest_rising rest_from rest_to in
          omega (arith, count_no pass part parts fails)
    ]

-- those that pass one test pass another, or they don't
count_split : (p q : Part → Bool) (parts : List Part) → count_by p parts ≤ count_by q parts + count_by (λ (part : Part). p part && not (q part)) parts
count_split p q [] = omega arith
count_split p q (part ∷ parts) =
    let rest = count_split p q parts in
    let both = λ (one : Part). p one && not (q one) in
    elim (cases_Bool (p part)) [
      | inl passes ↦ elim (cases_Bool (q part)) [
        | inl other ↦
            let no : both part ≡ false = rw (passes, other) refl in
            omega (arith, count_yes p part parts passes, count_yes q part parts other, count_no both part parts no)
        | inr other ↦
            let yes : both part ≡ true = rw (passes, other) refl in
            omega (arith, count_yes p part parts passes, count_no q part parts other, count_yes both part parts yes)
      ]
      | inr fails ↦
          let no : both part ≡ false = rw fails refl in
          elim (cases_Bool (q part)) [
            | inl other ↦ omega (arith, count_no p part parts fails, count_yes q part parts other, count_no both part parts no)
            | inr other ↦ omega (arith, count_no p part parts fails, count_no q part parts other, count_no both part parts no)
          ]
    ]

first_of_class : (kind : Kind) (role : Role) (number : ℕ) → HasNumber kind role number → (is_logical role ≡ true → 5 ≤ number) × (1 ≤ number)
first_of_class kind Slot number has = (λ logical. absurd (cc logical), has.from_first)
first_of_class kind Extended number has = (λ logical. absurd (cc logical), has.from_first)
first_of_class kind Logical number has = (λ logical. has.from_first, omega (arith, has.from_first))

-- a number of the class of a role is no less than the role's first
class_from : (kind : Kind) (one other : Role) (number : ℕ) → (if is_logical one then is_logical other else not (is_logical other)) ≡ true → HasNumber kind other number → first_number one ≤ number
class_from kind Slot other number same has = (first_of_class kind other number has).1
class_from kind Extended other number same has = (first_of_class kind other number has).1
class_from kind Logical other number same has = (first_of_class kind other number has).0 same

module _ (kind : Kind) (parts : List Part) (source : IsSource kind parts) (wishes : List Wish) where
  -- at most as many parts make room for a part as there are lower numbers of its role
  room : (part : Part) → Contains parts part → count_by (makes_room wishes parts part) parts + first_number part.role ≤ part.number
  room part there =
      let is = All-contains (IsPart kind) parts part source.each there in
      few_pass (makes_room wishes parts part) (first_number part.role) part.number parts is.numbered.from_first source.by_number
      (λ k d within makes.
      let other = slice_index_or parts k d in
      let both = and_parts (same_class part other) (nat_lt other.number part.number && is_gone wishes parts other) makes in
      class_from kind part.role other.role other.number both.0 (source.each k d within).numbered)
      (λ k d within makes.
      let other = slice_index_or parts k d in
      let both = and_parts (same_class part other) (nat_lt other.number part.number && is_gone wishes parts other) makes in
      let less = and_parts (nat_lt other.number part.number) (is_gone wishes parts other) both.1 in
      ltb-true other.number part.number less.0)

  pub new_number : (part : Part) → Contains parts part → HasNumber kind part.role (number_of wishes parts part)
  new_number part there =
      let is = All-contains (IsPart kind) parts part source.each there in
      let low = room part there in
      record { from_first = omega arith; to_last = omega (arith, is.numbered.to_last) }

  -- parts of one number are one part
  one_number : (one other : Part) → Contains parts one → Contains parts other → one.number ≡ other.number → one ≡ other
  one_number one other x y same =
      let first : (slice_index_or parts x.0 one).number ≡ one.number = ap (λ (part : Part). part.number) x.2 in
      let is_other : slice_index_or parts y.0 one ≡ other = get_or_default parts y.0 one other y.1 ∙ y.2 in
      let second : (slice_index_or parts y.0 one).number ≡ other.number = ap (λ (part : Part). part.number) is_other in
      elim (cases_order x.0 y.0) [
        | inl place ↦ sym x.2 ∙ ap (λ (k : ℕ). slice_index_or parts k one) place ∙ is_other
        | inr apart ↦ elim apart [
          | inl before ↦ let less = source.by_number x.0 y.0 one before y.1 in absurd (omega (arith, less, first, second, same))
          | inr after ↦ let less = source.by_number y.0 x.0 one after x.1 in absurd (omega (arith, less, first, second, same))
        ]
      ]

  joined_class : (a b c : Bool) → (if a then b else not b) ≡ true → (if b then c else not c) ≡ true → (if a then c else not c) ≡ true
  joined_class true true c x y = y
  joined_class true false c x y = absurd (cc x)
  joined_class false true c x y = absurd (cc x)
  joined_class false false c x y = y

  -- of two parts of one class that are made, the one of the lower number has the lower number on the target
  pub still_lower : (one other : Part) → Contains parts one → Contains parts other → is_gone wishes parts one ≡ false → same_class one other ≡ true → one.number < other.number
      → number_of wishes parts one < number_of wishes parts other
  still_lower one other x y made class less =
      let between = λ (part : Part). makes_room wishes parts other part && not (makes_room wishes parts one part) in
      let split = count_split (makes_room wishes parts other) (makes_room wishes parts one) parts in
      let few = few_pass between (one.number + 1) other.number parts (omega arith) source.by_number
      (λ k d within makes.
      let part = slice_index_or parts k d in
      let there : Contains parts part = (k, within, get_or_default parts k part d within) in
      let two = and_parts (makes_room wishes parts other part) (not (makes_room wishes parts one part)) makes in
      let both = and_parts (same_class other part) (nat_lt part.number other.number && is_gone wishes parts part) two.0 in
      let gone = (and_parts (nat_lt part.number other.number) (is_gone wishes parts part) both.1).1 in
      let no_room = not-true (makes_room wishes parts one part) two.1 in
      let of_class : same_class one part ≡ true = joined_class (is_logical one.role) (is_logical other.role) (is_logical part.role) class both.0 in
      elim (cases_order part.number one.number) [
        | inl same ↦
            let is = one_number part one there x same in
            absurd (both_ways _ made (sym (ap (is_gone wishes parts) is) ∙ gone))
        | inr apart ↦ elim apart [
          | inl before ↦
              let lower : nat_lt part.number one.number ≡ true = lt-ltb part.number one.number before in
              let makes_it : makes_room wishes parts one part ≡ true = rw (of_class, lower, gone) refl in
              absurd (both_ways _ no_room makes_it)
          | inr after ↦ omega arith
        ]
      ])
      (λ k d within makes.
      let part = slice_index_or parts k d in
      let two = and_parts (makes_room wishes parts other part) (not (makes_room wishes parts one part)) makes in
      let both = and_parts (same_class other part) (nat_lt part.number other.number && is_gone wishes parts part) two.0 in
      ltb-true part.number other.number (and_parts (nat_lt part.number other.number) (is_gone wishes parts part) both.1).0) in
      let low = room one x in
      let high = room other y in
      omega arith
