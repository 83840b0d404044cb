-- That a job has at most one plan, and none where there is a reason against it.
use Rattle.std.proofs.Common.{◌≡◌, ℕ, ◌≤◌, List, refl, sym, ◌∙◌, subst, inl, inr, arith, Option, Some, None}
use Rattle.std.proofs.lemmas.Bool.{cases_order}
use Rattle.layout_plan.specs.declared.fault.NoPlan.{NoPlan}
use Rattle.layout_plan.specs.declared.fault.NoPlan.TheVariants.{TooSmall, TooLarge, NoSuchPart, NamedTwice, Extended, Empty, WouldCut, DoesNotFit, NoSurplus, NoDeficit, Memory}
use Rattle.layout_plan.specs.declared.line.Spot.{Spot}
use Rattle.layout_plan.specs.declared.part.Kind.{Kind}
use Rattle.layout_plan.specs.declared.part.Part.{Part}
use Rattle.layout_plan.specs.declared.part.Placed.{Placed}
use Rattle.layout_plan.specs.declared.wish.Layout.{Layout}
use Rattle.layout_plan.specs.declared.wish.Wish.{Wish}
use Rattle.layout_plan.specs.declared.wish.What.{What}
use Rattle.layout_plan.specs.declared.wish.What.TheVariants.{Expand, Shrink, Resize, Force, Delete, Ignore}
use Rattle.layout_plan.specs.Layouts.{last_end}
use Rattle.layout_plan.specs.Faults.{IsWishFault, IsLengthFault}
use Rattle.layout_plan.specs.Plans.{Plan, HasEnd, IsLaid, ArePlaced, IsExtra, IsGivenUp, IsGreatest, IsPlan, IsRight, IsRightFor, IsTaken}
use Rattle.layout_plan.specs.Refusals.{HasNoDeficit, HasNoPlan, HasNoSurplus, HasToCut, IsFlexible, IsTooLong, least_for, least_sectors}
use Rattle.layout_plan.specs.Tables.{floor_of, limit_of}
use Rattle.layout_plan.specs.Wishes.{flexible_part, remaining, settled, wish_of}
use Rattle.layout_plan.proofs.Orders.{any_part, one_extra, one_line, one_made, one_order}
use Rattle.layout_plan.proofs.Ends.{end_rises, one_end}

any_wish : Wish
any_wish = record { place = 0; part = 0; what = Expand }

abbrev plan_of : List Placed → Option Placed → ℕ → Plan
plan_of parts extra limit = record { parts = parts; extra = extra; limit = limit }

same_plan : (p q : Plan) → p.parts ≡ q.parts → p.extra ≡ q.extra → p.limit ≡ q.limit → p ≡ q
same_plan p q a b c =
    let made : plan_of p.parts p.extra p.limit ≡ plan_of q.parts q.extra q.limit = rw (a, b, c) in made

-- the parts are laid out in one way
one_last : (kind : Kind) (parts : List Part) (wishes : List Wish) (layout : Layout) (laid other : List Part) (xs ys : List Spot)
    → IsLaid kind parts wishes layout laid xs → IsLaid kind parts wishes layout other ys → (laid ≡ other) × (xs ≡ ys)
one_last kind parts wishes layout laid other xs ys x y =
    let same : laid ≡ other = one_order parts (remaining wishes parts) laid other x.the_remaining y.the_remaining x.in_turn y.in_turn in
    let P : List Part → Type 0 = λ l. IsLaid kind parts wishes layout l xs in
    (same, one_line kind parts wishes layout other xs ys (subst P same x) y)

module _ (kind : Kind) (parts : List Part) (wishes : List Wish) (layout : Layout) where
  -- there are one most sectors that fit
  one_greatest : (limit a b : ℕ) → IsGreatest kind parts wishes layout limit a → IsGreatest kind parts wishes layout limit b → a ≡ b
  one_greatest limit a b x y =
      elim (cases_order a b) [
        | inl same ↦ same
        | inr apart ↦ elim apart [
          | inl less ↦ let long = x.no_more b y.fitting.last less y.fitting.is_last in let short = y.fitting.fits in absurd (omega arith)
          | inr more ↦ let long = y.no_more a x.fitting.last more x.fitting.is_last in let short = x.fitting.fits in absurd (omega arith)
        ]
      ]

  one_right_for : (limit a b : ℕ) (part : Part) (what : Option What) → IsRightFor kind parts wishes layout limit a part what → IsRightFor kind parts wishes layout limit b part what → a ≡ b
  one_right_for limit a b part (Some Expand) x y = one_greatest limit a b x.greatest y.greatest
  one_right_for limit a b part (Some Shrink) x y = one_greatest limit a b x.greatest y.greatest
  one_right_for limit a b part (Some (Resize size)) x y = x ∙ sym y
  one_right_for limit a b part (Some (Force size)) x y = x ∙ sym y
  one_right_for limit a b part (Some Delete) x y = x ∙ sym y
  one_right_for limit a b part (Some Ignore) x y = x ∙ sym y
  one_right_for limit a b part None x y = x ∙ sym y

  one_right : (limit a b : ℕ) (part : Option Part) → IsRight kind parts wishes layout limit a part → IsRight kind parts wishes layout limit b part → a ≡ b
  one_right limit a b None x y = x ∙ sym y
  one_right limit a b (Some part) x y = one_right_for limit a b part (wish_of wishes part.number) x y

  -- they are no fewer than those with which the layout has to fit at least
  least_for_right : (limit a : ℕ) (part : Part) (what : Option What) → IsRightFor kind parts wishes layout limit a part what → least_for part what ≤ a
  least_for_right limit a part (Some Expand) x = let more = x.more in omega arith
  least_for_right limit a part (Some Shrink) x = x.some
  least_for_right limit a part (Some (Resize size)) x = omega arith
  least_for_right limit a part (Some (Force size)) x = omega arith
  least_for_right limit a part (Some Delete) x = omega arith
  least_for_right limit a part (Some Ignore) x = omega arith
  least_for_right limit a part None x = omega arith

  least_right : (limit a : ℕ) (part : Option Part) → IsRight kind parts wishes layout limit a part → least_sectors wishes part ≤ a
  least_right limit a None x = omega arith
  least_right limit a (Some part) x = least_for_right limit a part (wish_of wishes part.number) x

  -- what is right of a part that takes or gives up
  right_of : (limit a : ℕ) (what : What) (part : Part) → IsFlexible parts wishes what part → IsRight kind parts wishes layout limit a (flexible_part wishes parts)
      → IsRightFor kind parts wishes layout limit a part (Some what)
  right_of limit a what part flexible right =
      let Of : Option Part → Type 0 = λ one. IsRight kind parts wishes layout limit a one in
      let For : Option What → Type 0 = λ one. IsRightFor kind parts wishes layout limit a part one in
      subst For flexible.the_wish (subst Of flexible.the_part right)

module _ (kind : Kind) (parts : List Part) (wishes : List Wish) (layout : Layout) (target : ℕ) where
  pub one_planned : (one other : Plan) → IsPlan kind parts wishes layout target one → IsPlan kind parts wishes layout target other → other ≡ one
  one_planned one other x y =
      let sectors : x.sectors ≡ y.sectors = one_right kind parts wishes layout (limit_of kind target) x.sectors y.sectors (flexible_part wishes parts) x.right y.right in
      let ws = settled y.sectors wishes in
      let Laid : ℕ → Type 0 = λ n. IsLaid kind parts (settled n wishes) layout x.laid x.spots in
      let Made : ℕ → Type 0 = λ n. ArePlaced (settled n wishes) parts x.laid x.spots one.parts in
      let both = one_last kind parts ws layout x.laid y.laid x.spots y.spots (subst Laid sectors x.order) y.order in
      let laid : x.laid ≡ y.laid = both.0 in
      let spots : x.spots ≡ y.spots = both.1 in
      let P : List Part → Type 0 = λ l. ArePlaced ws parts l x.spots one.parts in
      let Q : List Spot → Type 0 = λ s. ArePlaced ws parts y.laid s one.parts in
      let made : one.parts ≡ other.parts = one_made ws parts y.laid y.spots one.parts other.parts y.order.in_turn (subst Q spots (subst P laid (subst Made sectors x.placed))) y.placed in
      let limit : one.limit ≡ other.limit = x.is_limit ∙ sym y.is_limit in
      let extra_of_one : IsExtra kind layout (last_end (floor_of kind) y.spots) other.parts other.limit one.extra = rw (← spots, ← made, ← limit) x.is_extra in
      let extra : one.extra ≡ other.extra = one_extra kind layout _ other.parts other.limit one.extra other.extra extra_of_one y.is_extra in
      sym (same_plan one other made extra limit)

  not_a_wish : (one : Plan) (fault : NoPlan) → IsPlan kind parts wishes layout target one → IsWishFault kind parts wishes target fault → ⊥
  not_a_wish one fault x y =
      let fine = x.due.asked y.first.place any_wish y.first.within in
      let wrong = y.first.here any_wish in
      cc (fine, wrong)

  not_a_length : (one : Plan) (fault : NoPlan) → IsPlan kind parts wishes layout target one → IsLengthFault kind parts wishes target fault → ⊥
  not_a_length one fault x y =
      let fine = x.due.lengths y.first.place any_part y.first.within in
      let wrong = y.first.here any_part in
      cc (fine, wrong)

  -- where a plan ends
  planned_end : (one : Plan) → (x : IsPlan kind parts wishes layout target one) → HasEnd kind parts wishes layout x.sectors (last_end (floor_of kind) x.spots)
  planned_end one x = record { laid = x.laid; spots = x.spots; order = x.order; is_last = refl }

  not_too_long : (one : Plan) (last limit : ℕ) → IsPlan kind parts wishes layout target one → IsTooLong kind parts wishes layout target last limit → ⊥
  not_too_long one last limit x y =
      let least = least_right kind parts wishes layout (limit_of kind target) x.sectors (flexible_part wishes parts) x.right in
      let rise = end_rises kind parts wishes layout (least_sectors wishes (flexible_part wishes parts)) x.sectors last _ y.is_last (planned_end one x) least in
      omega (arith, x.fits, y.is_limit, y.too_long, rise)

  not_without_surplus : (one : Plan) (limit : ℕ) → IsPlan kind parts wishes layout target one → HasNoSurplus kind parts wishes layout target limit → ⊥
  not_without_surplus one limit x y =
      let taken : IsTaken kind parts wishes layout (limit_of kind target) x.sectors y.part = right_of kind parts wishes layout (limit_of kind target) x.sectors Expand y.part y.takes x.right in
      let long = y.greatest.no_more x.sectors _ taken.more (planned_end one x) in
      omega (arith, x.fits, y.is_limit, long)

  not_without_deficit : (one : Plan) (last : ℕ) → IsPlan kind parts wishes layout target one → HasNoDeficit kind parts wishes layout target last → ⊥
  not_without_deficit one last x y =
      let given : IsGivenUp kind parts wishes layout (limit_of kind target) x.sectors y.part = right_of kind parts wishes layout (limit_of kind target) x.sectors Shrink y.part y.gives_up x.right in
      let same = one_end kind parts wishes layout y.part.count last given.too_many.last y.is_last given.too_many.is_last in
      omega (arith, same, y.fits, given.too_many.too_long)

  not_cut : (one : Plan) (number content sectors : ℕ) → IsPlan kind parts wishes layout target one → HasToCut kind parts wishes layout target number content sectors → ⊥
  not_cut one number content sectors x y =
      let given : IsGivenUp kind parts wishes layout (limit_of kind target) x.sectors y.part = right_of kind parts wishes layout (limit_of kind target) x.sectors Shrink y.part y.gives_up x.right in
      let same = one_greatest kind parts wishes layout (limit_of kind target) x.sectors sectors given.greatest y.greatest in
      omega (arith, same, y.is_content, y.cuts, given.content)

  pub only_memory : (one : Plan) (fault : NoPlan) → IsPlan kind parts wishes layout target one → HasNoPlan kind parts wishes layout target fault → fault ≡ Memory
  only_memory one (TooSmall n) x y = absurd (omega (arith, x.due.room.enough, y.1))
  only_memory one (TooLarge n) x y = absurd (omega (arith, x.due.room.not_too_many, y.1))
  only_memory one (NoSuchPart place) x y = absurd (not_a_wish one (NoSuchPart place) x y)
  only_memory one (NamedTwice place) x y = absurd (not_a_wish one (NamedTwice place) x y)
  only_memory one (Extended place) x y = absurd (not_a_wish one (Extended place) x y)
  only_memory one (Empty part) x y = absurd (not_a_length one (Empty part) x y)
  only_memory one (WouldCut part content new) x y = elim y [
    | inl fault ↦ absurd (not_a_length one (WouldCut part content new) x fault)
    | inr cut ↦ absurd (not_cut one part content new x cut)
  ]
  only_memory one (DoesNotFit last limit) x y = absurd (not_too_long one last limit x y)
  only_memory one (NoSurplus limit) x y = absurd (not_without_surplus one limit x y)
  only_memory one (NoDeficit last) x y = absurd (not_without_deficit one last x y)
  only_memory one Memory x y = refl
