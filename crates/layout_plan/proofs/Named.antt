-- What wishes name, what is found in lists, and which parts remain.
use Rattle.std.proofs.Common.{◌≡◌, ℕ, zero, suc, ◌<◌, ◌==◌, ◌&&◌, Bool, true, false, not, List, [], ◌∷◌, length, filter, find, take, slice_index_or, refl, sym, ◌∙◌, ap, subst, inl, inr, arith, Contains, Option, Some, None}
use Rattle.std.specs.List.{list_any}
use Rattle.std.proofs.lemmas.Bool.{and_from, both_ways, cases_Bool, eq-eqb, eqb-true, not-true, or_parts}
use Rattle.std.proofs.lemmas.List.Elements.{All-contains, All-contains_itself, All-filter, filter_passes}
use Rattle.std.proofs.lemmas.List.Folds.{list_any_at}
use Rattle.layout_plan.specs.declared.fault.NoPlan.TheVariants.{NoSuchPart, NamedTwice, Extended as NamesExtended}
use Rattle.layout_plan.specs.declared.part.Part.{Part}
use Rattle.layout_plan.specs.declared.part.Role.{Role}
use Rattle.layout_plan.specs.declared.part.Role.TheVariants.{Slot, Extended, Logical}
use Rattle.layout_plan.specs.declared.wish.What.{What}
use Rattle.layout_plan.specs.declared.wish.What.TheVariants.{Expand, Shrink, Resize, Force, Delete, Ignore}
use Rattle.layout_plan.specs.declared.wish.Wish.{Wish}
use Rattle.layout_plan.specs.Faults.{AreAllowed, wish_fault}
use Rattle.layout_plan.specs.Roles.{is_extended_role, is_logical}
use Rattle.layout_plan.specs.Wishes.{is_delete, is_deleted, is_flexible_wish, is_gone, keeps_logical, remaining, what_of, wish_of}

-- what is found passes the test
pub found_passes : {X : Type 0} (test : X → Bool) (xs : List X) (x : X) → find test xs ≡ Some x → test x ≡ true
found_passes test [] x is = absurd (cc is)
found_passes test (one ∷ xs) x is =
    elim (cases_Bool (test one)) [
      | inl passes ↦
          let told : Some one ≡ Some x = rw passes at is in
          let same : one ≡ x = cc told in
          ap test (sym same) ∙ passes
      | inr fails ↦
          let told : find test xs ≡ Some x = rw fails at is in
          found_passes test xs x told
    ]

-- what is found in a list stands in it
pub found_there : {X : Type 0} (test : X → Bool) (xs : List X) (x : X) → find test xs ≡ Some x → Contains xs x
found_there test [] x is = absurd (cc is)
found_there test (one ∷ xs) x is =
    elim (cases_Bool (test one)) [
      | inl passes ↦
          let told : Some one ≡ Some x = rw passes at is in
          let same : one ≡ x = cc told in
          (zero, omega arith, same)
      | inr fails ↦
          let told : find test xs ≡ Some x = rw fails at is in
          let rest = found_there test xs x told in
          (suc rest.0, omega (arith, rest.1), rest.2)
    ]

-- where something passes, something is found
finds_at : {X : Type 0} (test : X → Bool) (xs : List X) (x : X) (k : ℕ) → k < length xs → slice_index_or xs k x ≡ x → test x ≡ true → (y : X) × (find test xs ≡ Some y)
finds_at test [] x k within is passes = absurd (omega arith)
finds_at test (one ∷ xs) x zero within is passes =
    let here : test one ≡ true = ap test is ∙ passes in
    (one, rw here refl)
finds_at test (one ∷ xs) x (suc k) within is passes =
    elim (cases_Bool (test one)) [
      | inl here ↦ (one, rw here refl)
      | inr fails ↦
          let rest = finds_at test xs x k (omega arith) is passes in
          (rest.0, rw fails rest.1)
    ]

pub finds : {X : Type 0} (test : X → Bool) (xs : List X) (x : X) → Contains xs x → test x ≡ true → (y : X) × (find test xs ≡ Some y)
finds test xs x there passes = finds_at test xs x there.0 there.1 there.2 passes

-- what passes a filter stays
kept_at : {X : Type 0} (keep : X → Bool) (xs : List X) (x : X) (k : ℕ) → k < length xs → slice_index_or xs k x ≡ x → keep x ≡ true → Contains (filter keep xs) x
kept_at keep [] x k within is kept = absurd (omega arith)
kept_at keep (one ∷ xs) x zero within is kept =
    let here : keep one ≡ true = ap keep is ∙ kept in
    rw here (zero, omega arith, is)
kept_at keep (one ∷ xs) x (suc k) within is kept =
    let rest = kept_at keep xs x k (omega arith) is kept in
    elim (cases_Bool (keep one)) [
      | inl here ↦ rw here (suc rest.0, omega (arith, rest.1), rest.2)
      | inr gone ↦ rw gone rest
    ]

-- the parts that remain are those that are parts and aren't gone
pub stays : (wishes : List Wish) (parts : List Part) (part : Part) → Contains parts part → is_gone wishes parts part ≡ false → Contains (remaining wishes parts) part
stays wishes parts part there made =
    kept_at (λ (one : Part). not (is_gone wishes parts one)) parts part there.0 there.1 there.2 (rw made refl)

pub was_there : (wishes : List Wish) (parts : List Part) (part : Part) → Contains (remaining wishes parts) part → Contains parts part
was_there wishes parts part there =
    All-contains (Contains parts) (remaining wishes parts) part
    (All-filter (λ (one : Part). not (is_gone wishes parts one)) (Contains parts) parts (All-contains_itself parts)) there

pub isnt_gone : (wishes : List Wish) (parts : List Part) (part : Part) → Contains (remaining wishes parts) part → is_gone wishes parts part ≡ false
isnt_gone wishes parts part there =
    not-true (is_gone wishes parts part)
    (All-contains (λ (one : Part). not (is_gone wishes parts one) ≡ true) (remaining wishes parts) part (filter_passes (λ (one : Part). not (is_gone wishes parts one)) parts) there)

pub isnt_deleted : (wishes : List Wish) (parts : List Part) (part : Part) → Contains (remaining wishes parts) part → is_deleted wishes part ≡ false
isnt_deleted wishes parts part there =
    let parts_of = or_parts (is_deleted wishes part) (is_extended_role part.role && not (keeps_logical wishes parts)) (isnt_gone wishes parts part there) in
    parts_of.0

-- a wish that is fine names no extended partition
names_plain : (parts : List Part) (earlier : List Wish) (wish : Wish) → wish_fault parts earlier wish ≡ None
    → list_any (λ (part : Part). part.number == wish.part && is_extended_role part.role) parts ≡ false
names_plain parts earlier wish fine =
    elim (cases_Bool (list_any (λ (part : Part). part.number == wish.part) parts)) [
      | inl there ↦ elim (cases_Bool (list_any (λ (other : Wish). other.part == wish.part) earlier)) [
        | inl again ↦ let told : Some (NamedTwice wish.place) ≡ None = rw (there, again) at fine in absurd (cc told)
        | inr first ↦ elim (cases_Bool (list_any (λ (part : Part). part.number == wish.part && is_extended_role part.role) parts)) [
          | inl outer ↦ let told : Some (NamesExtended wish.place) ≡ None = rw (there, first, outer) at fine in absurd (cc told)
          | inr plain ↦ plain
        ]
      ]
      | inr none ↦ let told : Some (NoSuchPart wish.place) ≡ None = rw none at fine in absurd (cc told)
    ]

module _ (parts : List Part) (wishes : List Wish) (fine : AreAllowed parts wishes) where
  found_plain : (part : Part) (found : Option Wish) → find (λ (wish : Wish). wish.part == part.number) wishes ≡ found → Contains parts part → is_extended_role part.role ≡ true → what_of found ≡ None
  found_plain part None is there outer = refl
  found_plain part (Some wish) is there outer =
      let place = found_there (λ (wish : Wish). wish.part == part.number) wishes wish is in
      let number : wish.part ≡ part.number = eqb-true wish.part part.number (found_passes (λ (wish : Wish). wish.part == part.number) wishes wish is) in
      let Fine : Wish → Type 0 = λ one. list_any (λ (part : Part). part.number == one.part && is_extended_role part.role) parts ≡ false in
      let none : Fine wish = subst Fine place.2 (names_plain parts (take place.0 wishes) (slice_index_or wishes place.0 wish) (fine place.0 wish place.1)) in
      let names : (part.number == wish.part && is_extended_role part.role) ≡ true = and_from (part.number == wish.part) (is_extended_role part.role) (eq-eqb part.number wish.part (sym number)) outer in
      let At : Part → Type 0 = λ one. (one.number == wish.part && is_extended_role one.role) ≡ true in
      let some = list_any_at (λ (one : Part). one.number == wish.part && is_extended_role one.role) parts there.0 part there.1 (subst At (sym there.2) names) in
      absurd (both_ways _ none some)

  -- so nothing is wished of the extended partition
  pub outer_unnamed : (part : Part) → Contains parts part → is_extended_role part.role ≡ true → wish_of wishes part.number ≡ None
  outer_unnamed part there outer = found_plain part (find (λ (wish : Wish). wish.part == part.number) wishes) refl there outer

  pub outer_undeleted : (part : Part) → Contains parts part → is_extended_role part.role ≡ true → is_deleted wishes part ≡ false
  outer_undeleted part there outer = rw (outer_unnamed part there outer) refl

  -- and one that takes or gives up isn't the extended one
  pub flexible_is_plain : (part : Part) → Contains parts part → is_flexible_wish (wish_of wishes part.number) ≡ true → is_extended_role part.role ≡ false
  flexible_is_plain part there flexible =
      elim (cases_Bool (is_extended_role part.role)) [
        | inl outer ↦
            let none = outer_unnamed part there outer in
            let told : false ≡ true = rw none at flexible in
            absurd (cc told)
        | inr plain ↦ plain
      ]

flexible_is_made : (what : Option What) → is_flexible_wish what ≡ true → is_delete what ≡ false
flexible_is_made None flexible = absurd (cc flexible)
flexible_is_made (Some Expand) flexible = refl
flexible_is_made (Some Shrink) flexible = refl
flexible_is_made (Some (Resize size)) flexible = refl
flexible_is_made (Some (Force size)) flexible = refl
flexible_is_made (Some Delete) flexible = absurd (cc flexible)
flexible_is_made (Some Ignore) flexible = refl

pub flexible_stays : (parts : List Part) (wishes : List Wish) (part : Part) → AreAllowed parts wishes → Contains parts part → is_flexible_wish (wish_of wishes part.number) ≡ true
    → Contains (remaining wishes parts) part
flexible_stays parts wishes part fine there flexible =
    let made : is_deleted wishes part ≡ false = flexible_is_made (wish_of wishes part.number) flexible in
    let plain = flexible_is_plain parts wishes fine part there flexible in
    let gone : is_gone wishes parts part ≡ false = rw (made, plain) refl in
    stays wishes parts part there gone

pub plain_logical : (role : Role) → is_logical role ≡ true → is_extended_role role ≡ false
plain_logical Slot logical = absurd (cc logical)
plain_logical Extended logical = absurd (cc logical)
plain_logical Logical logical = refl

-- where a logical partition remains, one is left
pub some_left : (wishes : List Wish) (parts : List Part) (part : Part) → Contains (remaining wishes parts) part → is_logical part.role ≡ true → keeps_logical wishes parts ≡ true
unfolding keeps_logical
some_left wishes parts part there logical =
    let was = was_there wishes parts part there in
    let made = isnt_deleted wishes parts part there in
    let passes : (is_logical part.role && not (is_deleted wishes part)) ≡ true = rw (logical, made) refl in
    let At : Part → Type 0 = λ one. (is_logical one.role && not (is_deleted wishes one)) ≡ true in
    list_any_at (λ (one : Part). is_logical one.role && not (is_deleted wishes one)) parts was.0 part was.1 (subst At (sym was.2) passes)

-- and the extended partition remains
pub outer_stays : (parts : List Part) (wishes : List Wish) (outer : Part) → AreAllowed parts wishes → Contains parts outer → is_extended_role outer.role ≡ true → keeps_logical wishes parts ≡ true
    → Contains (remaining wishes parts) outer
outer_stays parts wishes outer fine there extended left =
    let made = outer_undeleted parts wishes fine outer there extended in
    let gone : is_gone wishes parts outer ≡ false = rw (made, extended, left) refl in
    stays wishes parts outer there gone
