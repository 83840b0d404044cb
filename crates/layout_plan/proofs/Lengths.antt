-- Each part that is made has a sector at least.
use Rattle.std.proofs.Common.{◌≡◌, ◌≢◌, ℕ, ◌≤◌, ◌==◌, true, false, List, refl, subst, inl, inr, arith, Contains, Option, Some, None}
use Rattle.std.proofs.lemmas.Bool.{cases_Bool, eqb-false}
use Rattle.std.proofs.lemmas.List.Elements.{All-contains}
use Rattle.layout_plan.specs.declared.fault.NoPlan.TheVariants.{Empty}
use Rattle.layout_plan.specs.declared.part.Kind.{Kind}
use Rattle.layout_plan.specs.declared.part.Part.{Part}
use Rattle.layout_plan.specs.declared.wish.Layout.{Layout}
use Rattle.layout_plan.specs.declared.wish.What.{What}
use Rattle.layout_plan.specs.declared.wish.What.TheVariants.{Expand, Shrink, Resize, Force, Delete, Ignore}
use Rattle.layout_plan.specs.declared.wish.Wish.{Wish}
use Rattle.layout_plan.specs.Faults.{PassesRules, length_fault}
use Rattle.layout_plan.specs.Plans.{IsRight, IsRightFor}
use Rattle.layout_plan.specs.Wishes.{asked_length, flexible_part, is_deleted, is_flexible_wish, remaining, settled, wanted, wish_of}
use Rattle.layout_plan.proofs.Named.{finds, found_passes, isnt_deleted, was_there}
use Rattle.layout_plan.proofs.Settled.{settled_wish, wanted_is, wish_settled}

length_some : (wishes : List Wish) (part : Part) → is_deleted wishes part ≡ false → length_fault wishes part ≡ None → 1 ≤ wanted wishes part
length_some wishes part made fine =
    elim (cases_Bool (wanted wishes part == 0)) [
      | inl none ↦ let told : Some (Empty part.number) ≡ None = rw (made, none) at fine in absurd (cc told)
      | inr some ↦ let other : wanted wishes part ≢ 0 = eqb-false (wanted wishes part) 0 some in omega arith
    ]

asked_stays : (sectors : ℕ) (what : Option What) (old : ℕ) → is_flexible_wish what ≡ false → asked_length (settled_wish sectors what) old ≡ asked_length what old
asked_stays sectors None old stiff = refl
asked_stays sectors (Some Expand) old stiff = absurd (cc stiff)
asked_stays sectors (Some Shrink) old stiff = absurd (cc stiff)
asked_stays sectors (Some (Resize size)) old stiff = refl
asked_stays sectors (Some (Force size)) old stiff = refl
asked_stays sectors (Some Delete) old stiff = refl
asked_stays sectors (Some Ignore) old stiff = refl

wanted_stays : (sectors : ℕ) (wishes : List Wish) (part : Part) → is_flexible_wish (wish_of wishes part.number) ≡ false → wanted (settled sectors wishes) part ≡ wanted wishes part
wanted_stays sectors wishes part stiff = rw (wish_settled sectors part.number wishes) (asked_stays sectors (wish_of wishes part.number) part.count stiff)

right_some : (kind : Kind) (parts : List Part) (wishes : List Wish) (layout : Layout) (limit sectors : ℕ) (part : Part) (what : Option What) → is_flexible_wish what ≡ true
    → IsRightFor kind parts wishes layout limit sectors part what → 1 ≤ sectors
right_some kind parts wishes layout limit sectors part None flexible x = absurd (cc flexible)
right_some kind parts wishes layout limit sectors part (Some Expand) flexible x = omega (arith, x.more)
right_some kind parts wishes layout limit sectors part (Some Shrink) flexible x = x.some
right_some kind parts wishes layout limit sectors part (Some (Resize size)) flexible x = absurd (cc flexible)
right_some kind parts wishes layout limit sectors part (Some (Force size)) flexible x = absurd (cc flexible)
right_some kind parts wishes layout limit sectors part (Some Delete) flexible x = absurd (cc flexible)
right_some kind parts wishes layout limit sectors part (Some Ignore) flexible x = absurd (cc flexible)

pub some_wanted : (kind : Kind) (parts : List Part) (wishes : List Wish) (layout : Layout) (target limit sectors : ℕ) → PassesRules kind parts wishes target
    → IsRight kind parts wishes layout limit sectors (flexible_part wishes parts) → (part : Part) → Contains (remaining wishes parts) part → 1 ≤ wanted (settled sectors wishes) part
some_wanted kind parts wishes layout target limit sectors due right part there =
    let was = was_there wishes parts part there in
    elim (cases_Bool (is_flexible_wish (wish_of wishes part.number))) [
      | inl flexible ↦
          let test = λ (one : Part). is_flexible_wish (wish_of wishes one.number) in
          let found = finds test parts part was flexible in
          let For : Option Part → Type 0 = λ one. IsRight kind parts wishes layout limit sectors one in
          let some = right_some kind parts wishes layout limit sectors found.0 (wish_of wishes found.0.number) (found_passes test parts found.0 found.1) (subst For found.1 right) in
          omega (arith, wanted_is sectors wishes part flexible, some)
      | inr stiff ↦
          let fine = All-contains (λ (one : Part). length_fault wishes one ≡ None) parts part due.lengths was in
          omega (arith, wanted_stays sectors wishes part stiff, length_some wishes part (isnt_deleted wishes parts part there) fine)
    ]
