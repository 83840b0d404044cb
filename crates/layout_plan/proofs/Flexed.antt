-- A layout that ends behind the limit has no part that takes or gives up.
use Rattle.std.proofs.Common.{◌≡◌, ℕ, ◌<◌, List, subst, arith, Option, Some, None}
use Rattle.layout_plan.specs.declared.part.Kind.{Kind}
use Rattle.layout_plan.specs.declared.part.Part.{Part}
use Rattle.layout_plan.specs.declared.wish.Layout.{Layout}
use Rattle.layout_plan.specs.declared.wish.What.{What}
use Rattle.layout_plan.specs.declared.wish.What.TheVariants.{Expand, Shrink, Resize, Force, Delete, Ignore}
use Rattle.layout_plan.specs.declared.wish.Wish.{Wish}
use Rattle.layout_plan.specs.Plans.{HasEnd, IsGreatest, IsRight, IsRightFor}
use Rattle.layout_plan.specs.Refusals.{least_for, least_sectors}
use Rattle.layout_plan.specs.Wishes.{wish_of}
use Rattle.layout_plan.proofs.Ends.{one_end}

module _ (kind : Kind) (parts : List Part) (wishes : List Wish) (layout : Layout) (limit sectors last : ℕ) (ends : HasEnd kind parts wishes layout sectors last) (long : limit < last) where
  with_none : sectors ≡ 0 → HasEnd kind parts wishes layout 0 last
  with_none none = let At : ℕ → Type 0 = λ n. HasEnd kind parts wishes layout n last in subst At none ends

  none_greatest : IsGreatest kind parts wishes layout limit sectors → ⊥
  none_greatest x = omega (arith, long, x.fitting.fits, one_end kind parts wishes layout sectors last x.fitting.last ends x.fitting.is_last)

  least_for_long : (part : Part) (what : Option What) → IsRightFor kind parts wishes layout limit sectors part what → HasEnd kind parts wishes layout (least_for part what) last
  least_for_long part None x = with_none x
  least_for_long part (Some Expand) x = absurd (none_greatest x.greatest)
  least_for_long part (Some Shrink) x = absurd (none_greatest x.greatest)
  least_for_long part (Some (Resize size)) x = with_none x
  least_for_long part (Some (Force size)) x = with_none x
  least_for_long part (Some Delete) x = with_none x
  least_for_long part (Some Ignore) x = with_none x

  pub least_long : (part : Option Part) → IsRight kind parts wishes layout limit sectors part → HasEnd kind parts wishes layout (least_sectors wishes part) last
  least_long None x = with_none x
  least_long (Some part) x = least_for_long part (wish_of wishes part.number) x
