-- What is wrong with wishes and lengths, before anything is laid out.
use Rattle.std.specs.Prelude.{◌≡◌, ℕ, ◌<◌, ◌==◌, nat_lt, ◌&&◌, Bool, false, if◌then◌else◌, List, length, take, slice_index_or, All, Option, Some, None}
use Rattle.std.specs.List.{list_any}
use Rattle.layout_plan.specs.declared.fault.NoPlan.{NoPlan}
use Rattle.layout_plan.specs.declared.fault.NoPlan.TheVariants.{NoSuchPart, NamedTwice, Extended, Empty, WouldCut}
use Rattle.layout_plan.specs.declared.part.Kind.{Kind}
use Rattle.layout_plan.specs.declared.part.Part.{Part}
use Rattle.layout_plan.specs.declared.wish.Wish.{Wish}
use Rattle.layout_plan.specs.declared.wish.What.{What}
use Rattle.layout_plan.specs.declared.wish.What.TheVariants.{Resize}
use Rattle.layout_plan.specs.Roles.{is_extended_role}
use Rattle.layout_plan.specs.Tables.{HasRoom}
use Rattle.layout_plan.specs.Wishes.{wish_of, wanted, is_deleted}

-- what is wrong with a wish that stands behind the earlier ones
abbrev pub wish_fault : List Part → List Wish → Wish → Option NoPlan
wish_fault parts earlier wish =
    if list_any (λ (part : Part). part.number == wish.part) parts then
    (if list_any (λ (other : Wish). other.part == wish.part) earlier then Some (NamedTwice wish.place)
    else (if list_any (λ (part : Part). part.number == wish.part && is_extended_role part.role) parts then Some (Extended wish.place) else None))
    else Some (NoSuchPart wish.place)

-- whether a wish may not cut a part's content, and would
abbrev pub would_cut : Option What → ℕ → ℕ → Bool
would_cut (Some (Resize size)) content new = nat_lt new content
would_cut _ content new = false

-- what is wrong with the wanted length of a part
abbrev pub length_fault : List Wish → Part → Option NoPlan
length_fault wishes part =
    if is_deleted wishes part then None
    else (if wanted wishes part == 0 then Some (Empty part.number)
    else (if would_cut (wish_of wishes part.number) part.content (wanted wishes part)
    then Some (WouldCut part.number part.content (wanted wishes part)) else None))

-- every wish can be, each judged behind those before it
abbrev pub AreAllowed : List Part → List Wish → Type 0
AreAllowed parts wishes = (k : ℕ) (d : Wish) → k < length wishes → wish_fault parts (take k wishes) (slice_index_or wishes k d) ≡ None

-- no rule that comes before the layout refuses
pub record PassesRules (kind : Kind) (parts : List Part) (wishes : List Wish) (sectors : ℕ) : Type 0 where
  pub room : HasRoom kind sectors
  pub asked : AreAllowed parts wishes
  pub lengths : All (λ (part : Part). length_fault wishes part ≡ None) parts

-- the first wish that can't be, in the order of the words
pub record IsFirstBadWish (parts : List Part) (wishes : List Wish) (fault : NoPlan) : Type 0 where
  pub place : ℕ
  pub within : place < length wishes
  pub here : (d : Wish) → wish_fault parts (take place wishes) (slice_index_or wishes place d) ≡ Some fault
  pub earlier : (k : ℕ) (d : Wish) → k < place → wish_fault parts (take k wishes) (slice_index_or wishes k d) ≡ None

-- the first length that can't be, by rising number
pub record IsFirstBadLength (wishes : List Wish) (parts : List Part) (fault : NoPlan) : Type 0 where
  pub place : ℕ
  pub within : place < length parts
  pub here : (d : Part) → length_fault wishes (slice_index_or parts place d) ≡ Some fault
  pub earlier : (k : ℕ) (d : Part) → k < place → length_fault wishes (slice_index_or parts k d) ≡ None

-- a wish refuses the plan: none that comes before it, and no size of the target, does
pub record IsWishFault (kind : Kind) (parts : List Part) (wishes : List Wish) (sectors : ℕ) (fault : NoPlan) : Type 0 where
  pub room : HasRoom kind sectors
  pub first : IsFirstBadWish parts wishes fault

-- a length refuses the plan: no wish, no size of the target and no length before it does
pub record IsLengthFault (kind : Kind) (parts : List Part) (wishes : List Wish) (sectors : ℕ) (fault : NoPlan) : Type 0 where
  pub room : HasRoom kind sectors
  pub asked : AreAllowed parts wishes
  pub first : IsFirstBadLength wishes parts fault
