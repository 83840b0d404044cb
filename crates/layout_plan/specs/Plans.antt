-- Plans: what is made on the target, and where.
use Rattle.std.specs.Prelude.{◌≡◌, ◌≢◌, ℕ, ◌+◌, ◌<◌, ◌≤◌, ◌==◌, ◌⊎◌, if◌then◌else◌, Bool, true, false, List, length, map, find, slice_index_or, All, AllPairs, Contains, IsPermutation, Option, Some, None}
use Rattle.std.specs.List.{list_any}
use Rattle.layout_plan.specs.declared.line.Piece.{Piece}
use Rattle.layout_plan.specs.declared.line.Spot.{Spot}
use Rattle.layout_plan.specs.declared.part.Fate.{Fate}
use Rattle.layout_plan.specs.declared.part.Fate.TheVariants.{Kept, Resized, Ignored, Extended as Outer}
use Rattle.layout_plan.specs.declared.part.Kind.{Kind}
use Rattle.layout_plan.specs.declared.part.Part.{Part}
use Rattle.layout_plan.specs.declared.part.Placed.{Placed}
use Rattle.layout_plan.specs.declared.part.Role.{Role}
use Rattle.layout_plan.specs.declared.part.Role.TheVariants.{Slot, Extended, Logical}
use Rattle.layout_plan.specs.declared.wish.Layout.{Layout}
use Rattle.layout_plan.specs.declared.wish.What.{What}
use Rattle.layout_plan.specs.declared.wish.What.TheVariants.{Expand, Shrink}
use Rattle.layout_plan.specs.declared.wish.Wish.{Wish}
use Rattle.layout_plan.specs.Alignment.{IsNext}
use Rattle.layout_plan.specs.Faults.{PassesRules}
use Rattle.layout_plan.specs.Layouts.{IsLayout, Fits, last_end, spot_at}
use Rattle.layout_plan.specs.Roles.{has_logical, is_extended_role, is_logical}
use Rattle.layout_plan.specs.Tables.{HasNumber, floor_of, limit_of, most_numbers}
use Rattle.layout_plan.specs.Wishes.{wanted, remaining, number_of, fate_of, flexible_part, settled, wish_of}

-- a plan: the parts of the source by rising number, what is made beside them, and the end of what they may take
pub record Plan : Type 0 where
  pub parts : List Placed
  pub extra : Option Placed
  pub limit : ℕ

-- the least start of the parts, those that are deleted among them
pub record IsLeastStart (parts : List Part) (begin : ℕ) : Type 0 where
  pub below : All (λ (part : Part). begin ≤ part.start) parts
  pub attained : 0 < length parts → Contains (map (λ (part : Part). part.start) parts) begin

-- where the first partition starts
pub record Begins (kind : Kind) (layout : Layout) (parts : List Part) (begin : ℕ) : Type 0 where
  pub aligned : layout.always ≡ true → IsNext layout.align (floor_of kind) begin
  pub stays : layout.always ≡ false → IsLeastStart parts begin

-- the start of a part, where there is one
abbrev pub start_of : Option Part → ℕ
start_of None = 0
start_of (Some part) = part.start

-- where the extended partition starts
unfoldable pub extended_start : List Part → ℕ
extended_start parts = start_of (find (λ (part : Part). is_extended_role part.role) parts)

-- where the turn of a part is: a logical partition has that of the extended one, any other part that of its start
abbrev pub turn : List Part → Part → ℕ
turn parts part = if is_logical part.role then extended_start parts else part.start

-- a part is laid out before another: its turn is before the other's, or its number where they have one turn
abbrev pub ComesBefore : List Part → Part → Part → Type 0
ComesBefore parts one other =
    (turn parts one < turn parts other) ⊎ ((turn parts one ≡ turn parts other) × (one.number < other.number))

-- a part as it is laid out
abbrev pub laid_piece : List Wish → Part → Piece
laid_piece wishes part = record { role = part.role; count = wanted wishes part }

-- laid is what remains of the parts, each at its turn, and spots is where each one comes to stand
pub record IsLaid (kind : Kind) (parts : List Part) (wishes : List Wish) (layout : Layout) (laid : List Part) (spots : List Spot) : Type 0 where
  pub begin : ℕ
  pub the_remaining : IsPermutation (remaining wishes parts) laid
  pub in_turn : AllPairs (ComesBefore parts) laid
  pub begins : Begins kind layout parts begin
  pub stand : IsLayout layout.align begin (map (laid_piece wishes) laid) spots

-- the part stands at that place among those that are laid out, and spot is where it comes to stand
pub record StandsAt (laid : List Part) (spots : List Spot) (part : Part) (spot : Spot) : Type 0 where
  pub place : ℕ
  pub within : place < length laid
  pub is_part : slice_index_or laid place part ≡ part
  pub there : spot ≡ spot_at spots place

-- the last of the logical partitions ends there
pub record IsLogicalEnd (laid : List Part) (spots : List Spot) (last : ℕ) : Type 0 where
  pub place : ℕ
  pub within : place < length laid
  pub logical : (d : Part) → is_logical (slice_index_or laid place d).role ≡ true
  pub no_later : (k : ℕ) (d : Part) → place < k → k < length laid → is_logical (slice_index_or laid k d).role ≡ false
  pub there : last ≡ (spot_at spots place).end

-- the length on the target: the extended partition ends with the last logical one, any other has the wanted length
abbrev pub HasLength : Role → List Wish → List Part → List Spot → Part → ℕ → ℕ → Type 0
HasLength Extended wishes laid spots part start count = IsLogicalEnd laid spots (start + count)
HasLength Slot wishes laid spots part start count = count ≡ wanted wishes part
HasLength Logical wishes laid spots part start count = count ≡ wanted wishes part

-- what a plan makes of a part
pub record IsPlaced (wishes : List Wish) (parts laid : List Part) (spots : List Spot) (part : Part) (placed : Placed) : Type 0 where
  pub from : placed.from ≡ part.number
  pub number : placed.number ≡ number_of wishes parts part
  pub spot : Spot
  pub stands : StandsAt laid spots part spot
  pub same_record : placed.ebr ≡ spot.ebr
  pub same_start : placed.start ≡ spot.start
  pub count : HasLength part.role wishes laid spots part placed.start placed.count
  pub fate : placed.fate ≡ fate_of wishes part

-- what a plan makes of each part that remains, in the order of the parts
pub record ArePlaced (wishes : List Wish) (parts laid : List Part) (spots : List Spot) (placed : List Placed) : Type 0 where
  pub as_many : length placed ≡ length (remaining wishes parts)
  pub each : (k : ℕ) (p : Part) (q : Placed) → k < length placed
      → IsPlaced wishes parts laid spots (slice_index_or (remaining wishes parts) k p) (slice_index_or placed k q)

-- whether a partition has the number
abbrev pub is_taken : List Placed → ℕ → Bool
is_taken placed number = list_any (λ (one : Placed). one.number == number) placed

-- the least number from 1 to most that no partition has
pub record IsLeastFree (most : ℕ) (placed : List Placed) (number : ℕ) : Type 0 where
  pub from_one : 1 ≤ number
  pub up_to_most : number ≤ most
  pub free : is_taken placed number ≡ false
  pub least : (lower : ℕ) → 1 ≤ lower → lower < number → is_taken placed lower ≡ true

-- each number from 1 to most is that of a partition
abbrev pub AllTaken : ℕ → List Placed → Type 0
AllTaken most placed = (number : ℕ) → 1 ≤ number → number ≤ most → is_taken placed number ≡ true

-- the sectors of the least partition that is made of what is left over
abbrev pub least_extra : ℕ
least_extra = 20480

-- the partition that takes what is left over behind last
pub record IsExtraPart (kind : Kind) (layout : Layout) (last : ℕ) (placed : List Placed) (limit : ℕ) (one : Placed) : Type 0 where
  pub asked : layout.extra ≡ true
  pub behind : IsNext layout.align last one.start
  pub to_limit : one.start + one.count ≡ limit
  pub enough : least_extra ≤ one.count
  pub number : IsLeastFree (most_numbers kind) placed one.number
  pub from_none : one.from ≡ 0
  pub no_boot_record : one.ebr ≡ 0
  pub kept : one.fate ≡ Kept

-- too little is left over
pub record IsCramped (align last limit : ℕ) : Type 0 where
  pub start : ℕ
  pub behind : IsNext align last start
  pub too_little : limit < start + least_extra

-- what is made of the sectors that are left over: a partition, or none, since none is asked for, since too little
-- is left, or since each number is taken
abbrev pub IsExtra : Kind → Layout → ℕ → List Placed → ℕ → Option Placed → Type 0
IsExtra kind layout last placed limit None =
    (layout.extra ≡ false) ⊎ (IsCramped layout.align last limit
    ⊎ AllTaken (most_numbers kind) placed)
IsExtra kind layout last placed limit (Some one) = IsExtraPart kind layout last placed limit one

-- the layout of the parts that remain ends at last, where the part that takes or gives up gets so many sectors
pub record HasEnd (kind : Kind) (parts : List Part) (wishes : List Wish) (layout : Layout) (sectors last : ℕ) : Type 0 where
  pub laid : List Part
  pub spots : List Spot
  pub order : IsLaid kind parts (settled sectors wishes) layout laid spots
  pub is_last : last ≡ last_end (floor_of kind) spots

-- with so many sectors the layout ends at the limit or before it
pub record IsFitting (kind : Kind) (parts : List Part) (wishes : List Wish) (layout : Layout) (limit sectors : ℕ) : Type 0 where
  pub last : ℕ
  pub is_last : HasEnd kind parts wishes layout sectors last
  pub fits : last ≤ limit

-- so many sectors are the most with which the layout ends at the limit or before it
pub record IsGreatest (kind : Kind) (parts : List Part) (wishes : List Wish) (layout : Layout) (limit sectors : ℕ) : Type 0 where
  pub fitting : IsFitting kind parts wishes layout limit sectors
  pub no_more : (more later : ℕ) → sectors < more → HasEnd kind parts wishes layout more later → limit < later

-- with so many sectors the layout ends behind the limit
pub record IsTooMany (kind : Kind) (parts : List Part) (wishes : List Wish) (layout : Layout) (limit sectors : ℕ) : Type 0 where
  pub last : ℕ
  pub is_last : HasEnd kind parts wishes layout sectors last
  pub too_long : limit < last

-- the sectors of a part that takes: more than it had, and the most that fit
pub record IsTaken (kind : Kind) (parts : List Part) (wishes : List Wish) (layout : Layout) (limit sectors : ℕ) (part : Part) : Type 0 where
  pub more : part.count < sectors
  pub greatest : IsGreatest kind parts wishes layout limit sectors

-- the sectors of a part that gives up: it had too many, its content fits in what it keeps, and no more would fit
pub record IsGivenUp (kind : Kind) (parts : List Part) (wishes : List Wish) (layout : Layout) (limit sectors : ℕ) (part : Part) : Type 0 where
  pub too_many : IsTooMany kind parts wishes layout limit part.count
  pub some : 1 ≤ sectors
  pub content : part.content ≤ sectors
  pub greatest : IsGreatest kind parts wishes layout limit sectors

-- the sectors of the part that takes or gives up, by its wish; where no part does, none
abbrev pub IsRightFor : Kind → List Part → List Wish → Layout → ℕ → ℕ → Part → Option What → Type 0
IsRightFor kind parts wishes layout limit sectors part (Some Expand) = IsTaken kind parts wishes layout limit sectors part
IsRightFor kind parts wishes layout limit sectors part (Some Shrink) = IsGivenUp kind parts wishes layout limit sectors part
IsRightFor kind parts wishes layout limit sectors part _ = sectors ≡ 0

abbrev pub IsRight : Kind → List Part → List Wish → Layout → ℕ → ℕ → Option Part → Type 0
IsRight kind parts wishes layout limit sectors None = sectors ≡ 0
IsRight kind parts wishes layout limit sectors (Some part) = IsRightFor kind parts wishes layout limit sectors part (wish_of wishes part.number)

-- what is planned is the layout of the parts that remain, and the layout fits; sectors are those of the part that takes
-- or gives up
pub record IsPlan (kind : Kind) (parts : List Part) (wishes : List Wish) (layout : Layout) (target : ℕ) (planned : Plan) : Type 0 where
  pub due : PassesRules kind parts wishes target
  pub sectors : ℕ
  pub right : IsRight kind parts wishes layout (limit_of kind target) sectors (flexible_part wishes parts)
  pub laid : List Part
  pub spots : List Spot
  pub order : IsLaid kind parts (settled sectors wishes) layout laid spots
  pub fits : Fits (floor_of kind) (limit_of kind target) spots
  pub placed : ArePlaced (settled sectors wishes) parts laid spots planned.parts
  pub is_limit : planned.limit ≡ limit_of kind target
  pub is_extra : IsExtra kind layout (last_end (floor_of kind) spots) planned.parts planned.limit planned.extra

-- what a placed partition is: the extended one by its fate, a logical one by its boot record
abbrev pub role_by : Fate → Bool → Role
role_by Outer no_record = Extended
role_by Kept no_record = if no_record then Slot else Logical
role_by Resized no_record = if no_record then Slot else Logical
role_by Ignored no_record = if no_record then Slot else Logical

abbrev pub role_of : Placed → Role
role_of placed = role_by placed.fate (placed.ebr == 0)

-- the first sector that a placed partition takes: that of its boot record, where it has one
abbrev pub first_of : Placed → ℕ
first_of placed = if placed.ebr == 0 then placed.start else placed.ebr

-- p ends before the sectors of q begin, or the other way round
abbrev pub Apart : Placed → Placed → Type 0
Apart p q = (p.start + p.count ≤ first_of q) ⊎ (q.start + q.count ≤ first_of p)

-- a logical partition lies inside the extended one, its boot record too
pub record IsAround (outer inner : Placed) : Type 0 where
  pub from : outer.start ≤ first_of inner
  pub to : inner.start + inner.count ≤ outer.start + outer.count

-- how two partitions of a plan keep apart, by what they are
abbrev pub KeepApartAs : Role → Role → Placed → Placed → Type 0
KeepApartAs Extended Logical one other = IsAround one other
KeepApartAs Logical Extended one other = IsAround other one
KeepApartAs Slot Slot one other = Apart one other
KeepApartAs Slot Extended one other = Apart one other
KeepApartAs Slot Logical one other = Apart one other
KeepApartAs Extended Slot one other = Apart one other
KeepApartAs Extended Extended one other = Apart one other
KeepApartAs Logical Slot one other = Apart one other
KeepApartAs Logical Logical one other = Apart one other

-- two partitions of a plan share no sector, but for a logical one, which lies inside the extended one
abbrev pub KeepApart : Placed → Placed → Type 0
KeepApart one other = KeepApartAs (role_of one) (role_of other) one other

-- behind the table and before the limit, with at least one sector, and with its boot record before it
pub record IsPlacedInside (kind : Kind) (limit : ℕ) (placed : Placed) : Type 0 where
  pub behind_table : floor_of kind ≤ first_of placed
  pub record_before : placed.ebr < placed.start
  pub some : 1 ≤ placed.count
  pub before_limit : placed.start + placed.count ≤ limit

-- the placed parts have numbers of their roles, and no two have one number
pub record AreNumbered (kind : Kind) (placed : List Placed) : Type 0 where
  pub each : All (λ (one : Placed). HasNumber kind (role_of one) one.number) placed
  pub other_numbers : AllPairs (λ (one other : Placed). one.number ≢ other.number) placed

-- each placed part is one of the parts, by rising number
pub record AreFrom (parts : List Part) (placed : List Placed) : Type 0 where
  pub each : All (λ (one : Placed). Contains (map (λ (part : Part). part.number) parts) one.from) placed
  pub by_number : AllPairs (λ (before after : Placed). before.from < after.from) placed

-- no extended partition is without a logical one
abbrev pub NoneHollow : List Part → Type 0
NoneHollow parts = All (λ (part : Part). is_extended_role part.role ≡ true → has_logical parts ≡ true) parts

-- each part of the source in its order, with its number and, but for the extended one, its length
pub record IsSameOrder (parts : List Part) (placed : List Placed) : Type 0 where
  pub as_many : length placed ≡ length parts
  pub each : (k : ℕ) (p : Part) (q : Placed) → k < length parts
      → let part = slice_index_or parts k p in
      let one = slice_index_or placed k q in
      (one.from ≡ part.number) × (one.number ≡ part.number) × (is_extended_role part.role ≡ false → one.count ≡ part.count)

-- where no extended partition is without a logical one, each part is kept
abbrev pub KeepsOrder : List Part → List Placed → Type 0
KeepsOrder parts placed = NoneHollow parts → IsSameOrder parts placed

-- the partition beside the parts stands behind each of them, and has a number of its own
pub record IsBehind (kind : Kind) (placed : List Placed) (limit : ℕ) (one : Placed) : Type 0 where
  pub inside : IsPlacedInside kind limit one
  pub last : All (λ (part : Placed). part.start + part.count ≤ one.start) placed
  pub numbered : HasNumber kind Slot one.number
  pub other_numbers : All (λ (part : Placed). part.number ≢ one.number) placed
