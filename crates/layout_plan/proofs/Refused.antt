-- What is wrong with a wish or a length is a reason against a plan.
use Rattle.std.proofs.Common.{◌≡◌, ℕ, ◌==◌, ◌&&◌, List, take, slice_index_or, inl, inr, subst, Some, None}
use Rattle.std.specs.List.{list_any}
use Rattle.std.proofs.lemmas.Bool.{cases_Bool}
use Rattle.layout_plan.specs.declared.fault.NoPlan.{NoPlan}
use Rattle.layout_plan.specs.declared.fault.NoPlan.TheVariants.{NoSuchPart, NamedTwice, Extended, Empty, WouldCut}
use Rattle.layout_plan.specs.declared.part.Kind.{Kind}
use Rattle.layout_plan.specs.declared.part.Part.{Part}
use Rattle.layout_plan.specs.declared.part.Role.TheVariants.{Slot}
use Rattle.layout_plan.specs.declared.wish.Layout.{Layout}
use Rattle.layout_plan.specs.declared.wish.What.TheVariants.{Delete}
use Rattle.layout_plan.specs.declared.wish.Wish.{Wish}
use Rattle.layout_plan.specs.Faults.{AreAllowed, IsFirstBadLength, IsFirstBadWish, length_fault, wish_fault, would_cut}
use Rattle.layout_plan.specs.Refusals.{HasNoPlan}
use Rattle.layout_plan.specs.Roles.{is_extended_role}
use Rattle.layout_plan.specs.Tables.{HasRoom}
use Rattle.layout_plan.specs.Wishes.{is_deleted, wanted, wish_of}

any_wish : Wish
any_wish = record { place = 0; part = 0; what = Delete }

any_part : Part
any_part = record { number = 0; role = Slot; start = 0; count = 0; content = 0 }

-- where a property holds of each fault that a wish may have, it holds of the one that it has
wish_fault_of : (P : NoPlan → Type 0) (parts : List Part) (earlier : List Wish) (wish : Wish) (fault : NoPlan) → wish_fault parts earlier wish ≡ Some fault
    → P (NoSuchPart wish.place) → P (NamedTwice wish.place) → P (Extended wish.place) → P fault
wish_fault_of P parts earlier wish fault is missing twice extended =
    elim (cases_Bool (list_any (λ (part : Part). part.number == wish.part) parts)) [
      | inl there ↦ elim (cases_Bool (list_any (λ (other : Wish). other.part == wish.part) earlier)) [
        | inl again ↦
            let told : Some (NamedTwice wish.place) ≡ Some fault = rw (there, again) at is in
            let same : NamedTwice wish.place ≡ fault = cc told in
            subst P same twice
        | inr first ↦ elim (cases_Bool (list_any (λ (part : Part). part.number == wish.part && is_extended_role part.role) parts)) [
          | inl outer ↦
              let told : Some (Extended wish.place) ≡ Some fault = rw (there, first, outer) at is in
              let same : Extended wish.place ≡ fault = cc told in
              subst P same extended
          | inr plain ↦
              let told : None ≡ Some fault = rw (there, first, plain) at is in
              absurd (cc told)
        ]
      ]
      | inr none ↦
          let told : Some (NoSuchPart wish.place) ≡ Some fault = rw none at is in
          let same : NoSuchPart wish.place ≡ fault = cc told in
          subst P same missing
    ]

-- where a property holds of each fault that a length may have, it holds of the one that it has
length_fault_of : (P : NoPlan → Type 0) (wishes : List Wish) (part : Part) (fault : NoPlan) → length_fault wishes part ≡ Some fault
    → P (Empty part.number) → P (WouldCut part.number part.content (wanted wishes part)) → P fault
length_fault_of P wishes part fault is empty cut =
    elim (cases_Bool (is_deleted wishes part)) [
      | inl gone ↦ let told : None ≡ Some fault = rw gone at is in absurd (cc told)
      | inr made ↦ elim (cases_Bool (wanted wishes part == 0)) [
        | inl none ↦
            let told : Some (Empty part.number) ≡ Some fault = rw (made, none) at is in
            let same : Empty part.number ≡ fault = cc told in
            subst P same empty
        | inr some ↦ elim (cases_Bool (would_cut (wish_of wishes part.number) part.content (wanted wishes part))) [
          | inl short ↦
              let told : Some (WouldCut part.number part.content (wanted wishes part)) ≡ Some fault = rw (made, some, short) at is in
              let same : WouldCut part.number part.content (wanted wishes part) ≡ fault = cc told in
              subst P same cut
          | inr long ↦ let told : None ≡ Some fault = rw (made, some, long) at is in absurd (cc told)
        ]
      ]
    ]

module _ (kind : Kind) (parts : List Part) (wishes : List Wish) (layout : Layout) (sectors : ℕ) (room : HasRoom kind sectors) where
  pub refused_wish : (fault : NoPlan) → IsFirstBadWish parts wishes fault → HasNoPlan kind parts wishes layout sectors fault
  refused_wish fault first =
      let Refuses : NoPlan → Type 0 = λ one. IsFirstBadWish parts wishes one → HasNoPlan kind parts wishes layout sectors one in
      wish_fault_of Refuses parts (take first.place wishes) (slice_index_or wishes first.place any_wish) fault (first.here any_wish)
      (λ one. record { room = room; first = one }) (λ one. record { room = room; first = one }) (λ one. record { room = room; first = one }) first

  pub refused_length : AreAllowed parts wishes → (fault : NoPlan) → IsFirstBadLength wishes parts fault → HasNoPlan kind parts wishes layout sectors fault
  refused_length fine fault first =
      let Refuses : NoPlan → Type 0 = λ one. IsFirstBadLength wishes parts one → HasNoPlan kind parts wishes layout sectors one in
      length_fault_of Refuses wishes (slice_index_or parts first.place any_part) fault (first.here any_part)
      (λ one. record { room = room; asked = fine; first = one }) (λ one. inl (record { room = room; asked = fine; first = one })) first
