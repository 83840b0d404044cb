-- What the wishes make of each part of the source.
use Rattle.std.specs.Prelude.{ℕ, ◌-◌, ◌*◌, Bool, true, false, not, ◌&&◌, ◌||◌, nat_lt, ◌==◌, if◌then◌else◌, List, map, filter, count_by, find, Option, Some, None}
use Rattle.std.specs.List.{list_any}
use Rattle.layout_plan.specs.declared.part.Part.{Part}
use Rattle.layout_plan.specs.declared.part.Fate.{Fate}
use Rattle.layout_plan.specs.declared.part.Fate.TheVariants.{Kept, Resized, Ignored, Extended as Outer}
use Rattle.layout_plan.specs.declared.part.Role.{Role}
use Rattle.layout_plan.specs.declared.part.Role.TheVariants.{Extended}
use Rattle.layout_plan.specs.declared.wish.Wish.{Wish}
use Rattle.layout_plan.specs.declared.wish.What.{What}
use Rattle.layout_plan.specs.declared.wish.What.TheVariants.{Expand, Shrink, Resize, Force, Delete, Ignore}
use Rattle.layout_plan.specs.declared.wish.Size.TheVariants.{Bytes}
use Rattle.layout_plan.specs.Roles.{is_extended_role, is_logical, same_class}
use Rattle.layout_plan.specs.Size.{wanted_sectors}

-- whether a wish is that a part takes what the others leave over, or gives up what they lack
abbrev pub is_flexible : What → Bool
is_flexible Expand = true
is_flexible Shrink = true
is_flexible _ = false

-- a wish, where the part that takes or gives up gets so many sectors
abbrev pub settle_what : ℕ → What → What
settle_what sectors Expand = Force (Bytes (512 * sectors))
settle_what sectors Shrink = Force (Bytes (512 * sectors))
settle_what sectors what = what

abbrev pub settle : ℕ → Wish → Wish
settle sectors wish = record { place = wish.place; part = wish.part; what = settle_what sectors wish.what }

-- the wishes, where the part that takes or gives up gets so many sectors
abbrev pub settled : ℕ → List Wish → List Wish
settled sectors wishes = map (settle sectors) wishes

-- what a wish is
abbrev pub what_of : Option Wish → Option What
what_of None = None
what_of (Some wish) = Some wish.what

-- what the first wish that names the part of that number is
abbrev pub wish_of : List Wish → ℕ → Option What
wish_of wishes number = what_of (find (λ (wish : Wish). wish.part == number) wishes)

-- whether a part takes or gives up
abbrev pub is_flexible_wish : Option What → Bool
is_flexible_wish None = false
is_flexible_wish (Some what) = is_flexible what

-- the part that takes or gives up, if one does
abbrev pub flexible_part : List Wish → List Part → Option Part
flexible_part wishes parts = find (λ (part : Part). is_flexible_wish (wish_of wishes part.number)) parts

-- the length that a wish asks for, where there were old sectors
abbrev pub asked_length : Option What → ℕ → ℕ
asked_length (Some (Resize size)) old = wanted_sectors old size
asked_length (Some (Force size)) old = wanted_sectors old size
asked_length _ old = old

-- the wanted length of a part, before any part takes what is left over or gives up what is lacking
abbrev pub wanted : List Wish → Part → ℕ
wanted wishes part = asked_length (wish_of wishes part.number) part.count

-- whether a wish is that the part isn't made
abbrev pub is_delete : Option What → Bool
is_delete (Some Delete) = true
is_delete _ = false

abbrev pub is_deleted : List Wish → Part → Bool
is_deleted wishes part = is_delete (wish_of wishes part.number)

-- whether a logical partition is left
unfoldable pub keeps_logical : List Wish → List Part → Bool
keeps_logical wishes parts = list_any (λ (part : Part). is_logical part.role && not (is_deleted wishes part)) parts

-- whether a part isn't made: it is deleted, or it is the extended one and no logical one is left
abbrev pub is_gone : List Wish → List Part → Part → Bool
is_gone wishes parts part = is_deleted wishes part || (is_extended_role part.role && not (keeps_logical wishes parts))

-- the parts that are made, in their order
abbrev pub remaining : List Wish → List Part → List Part
remaining wishes parts = filter (λ part. not (is_gone wishes parts part)) parts

-- whether a part that isn't made has a lower number of the same class
abbrev pub makes_room : List Wish → List Part → Part → Part → Bool
makes_room wishes parts part other =
    same_class part other && (nat_lt other.number part.number && is_gone wishes parts other)

-- the number of a part on the target: less by those of lower numbers of its class that aren't made
abbrev pub number_of : List Wish → List Part → Part → ℕ
number_of wishes parts part = part.number - count_by (makes_room wishes parts part) parts

-- what becomes of a part whose length was old and is new
abbrev pub fate_under : Role → Option What → ℕ → ℕ → Fate
fate_under Extended what old new = Outer
fate_under _ (Some Ignore) old new = Ignored
fate_under _ _ old new = if new == old then Kept else Resized

abbrev pub fate_of : List Wish → Part → Fate
fate_of wishes part = fate_under part.role (wish_of wishes part.number) part.count (wanted wishes part)
