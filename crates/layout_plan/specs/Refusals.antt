-- Why there is no plan.
use Rattle.std.specs.Prelude.{◌≡◌, ℕ, ◌^◌, ◌<◌, ◌≤◌, ◌⊎◌, List, Option, Some, None}
use Rattle.layout_plan.specs.declared.fault.NoPlan.{NoPlan}
use Rattle.layout_plan.specs.declared.fault.NoPlan.TheVariants.{TooSmall, TooLarge, NoSuchPart, NamedTwice, Extended, Empty, WouldCut, DoesNotFit, NoSurplus, NoDeficit, Memory}
use Rattle.layout_plan.specs.declared.part.Kind.{Kind}
use Rattle.layout_plan.specs.declared.part.Part.{Part}
use Rattle.layout_plan.specs.declared.wish.Layout.{Layout}
use Rattle.layout_plan.specs.declared.wish.What.{What}
use Rattle.layout_plan.specs.declared.wish.What.TheVariants.{Expand, Shrink}
use Rattle.layout_plan.specs.declared.wish.Wish.{Wish}
use Rattle.layout_plan.specs.Faults.{PassesRules, IsWishFault, IsLengthFault}
use Rattle.layout_plan.specs.Plans.{Plan, HasEnd, IsGreatest, IsPlan, IsTooMany}
use Rattle.layout_plan.specs.Tables.{limit_of, least_disk}
use Rattle.layout_plan.specs.Wishes.{flexible_part, wish_of}

-- the sectors of the part that takes or gives up with which the layout has to fit at least: what a part had that takes,
-- and one of a part that gives up
abbrev pub least_for : Part → Option What → ℕ
least_for part (Some Expand) = part.count
least_for part (Some Shrink) = 1
least_for part _ = 0

abbrev pub least_sectors : List Wish → Option Part → ℕ
least_sectors wishes None = 0
least_sectors wishes (Some part) = least_for part (wish_of wishes part.number)

-- the layout of the parts that remain ends at last, behind the limit
pub record IsTooLong (kind : Kind) (parts : List Part) (wishes : List Wish) (layout : Layout) (target last limit : ℕ) : Type 0 where
  pub due : PassesRules kind parts wishes target
  pub is_last : HasEnd kind parts wishes layout (least_sectors wishes (flexible_part wishes parts)) last
  pub is_limit : limit ≡ limit_of kind target
  pub too_long : limit < last

-- the part of that number takes or gives up, as its wish says
pub record IsFlexible (parts : List Part) (wishes : List Wish) (what : What) (part : Part) : Type 0 where
  pub the_part : flexible_part wishes parts ≡ Some part
  pub the_wish : wish_of wishes part.number ≡ Some what

-- a part would take what is left over, and nothing is
pub record HasNoSurplus (kind : Kind) (parts : List Part) (wishes : List Wish) (layout : Layout) (target limit : ℕ) : Type 0 where
  pub due : PassesRules kind parts wishes target
  pub part : Part
  pub takes : IsFlexible parts wishes Expand part
  pub is_limit : limit ≡ limit_of kind target
  pub greatest : IsGreatest kind parts wishes layout limit part.count

-- a part would give up what is lacking, and nothing is
pub record HasNoDeficit (kind : Kind) (parts : List Part) (wishes : List Wish) (layout : Layout) (target last : ℕ) : Type 0 where
  pub due : PassesRules kind parts wishes target
  pub part : Part
  pub gives_up : IsFlexible parts wishes Shrink part
  pub is_last : HasEnd kind parts wishes layout part.count last
  pub fits : last ≤ limit_of kind target

-- the part of that number would have to give up some of its content
pub record HasToCut (kind : Kind) (parts : List Part) (wishes : List Wish) (layout : Layout) (target number content sectors : ℕ) : Type 0 where
  pub due : PassesRules kind parts wishes target
  pub part : Part
  pub gives_up : IsFlexible parts wishes Shrink part
  pub is_number : number ≡ part.number
  pub is_content : content ≡ part.content
  pub too_many : IsTooMany kind parts wishes layout (limit_of kind target) part.count
  pub some : 1 ≤ sectors
  pub greatest : IsGreatest kind parts wishes layout (limit_of kind target) sectors
  pub cuts : sectors < content

-- why there is no plan; memory may be refused at any time
abbrev pub HasNoPlan : Kind → List Part → List Wish → Layout → ℕ → NoPlan → Type 0
HasNoPlan kind parts wishes layout target (TooSmall n) = (n ≡ target) × (target < least_disk kind)
HasNoPlan kind parts wishes layout target (TooLarge n) = (n ≡ target) × (2 ^ 31 < target)
HasNoPlan kind parts wishes layout target (NoSuchPart place) = IsWishFault kind parts wishes target (NoSuchPart place)
HasNoPlan kind parts wishes layout target (NamedTwice place) = IsWishFault kind parts wishes target (NamedTwice place)
HasNoPlan kind parts wishes layout target (Extended place) = IsWishFault kind parts wishes target (Extended place)
HasNoPlan kind parts wishes layout target (Empty part) = IsLengthFault kind parts wishes target (Empty part)
HasNoPlan kind parts wishes layout target (WouldCut part content new) =
    IsLengthFault kind parts wishes target (WouldCut part content new) ⊎ HasToCut kind parts wishes layout target part content new
HasNoPlan kind parts wishes layout target (DoesNotFit last limit) = IsTooLong kind parts wishes layout target last limit
HasNoPlan kind parts wishes layout target (NoSurplus limit) = HasNoSurplus kind parts wishes layout target limit
HasNoPlan kind parts wishes layout target (NoDeficit last) = HasNoDeficit kind parts wishes layout target last
HasNoPlan kind parts wishes layout target Memory = Unit {0}

-- a job has at most one plan, and where it has one, nothing but memory can be lacking
abbrev pub OnePlan : Type 0
OnePlan =
    (kind : Kind) (parts : List Part) (wishes : List Wish) (layout : Layout) (sectors : ℕ) (one : Plan)
    → IsPlan kind parts wishes layout sectors one
    → ((other : Plan) → IsPlan kind parts wishes layout sectors other → other ≡ one)
    × ((fault : NoPlan) → HasNoPlan kind parts wishes layout sectors fault → fault ≡ Memory)
