-- What is said of a task inside the crate, in the words of plans.
use Rattle.std.specs.Prelude.{◌≡◌, ℕ, ◌≤◌, List}
use Rattle.layout_plan.specs.declared.fault.NoPlan.{NoPlan}
use Rattle.layout_plan.specs.declared.laying.Laid.{Laid}
use Rattle.layout_plan.specs.declared.part.Part.{Part}
use Rattle.layout_plan.specs.declared.part.Placed.{Placed}
use Rattle.layout_plan.specs.declared.task.Task.{Task}
use Rattle.layout_plan.specs.declared.wish.What.{What}
use Rattle.layout_plan.specs.Layouts.{last_end}
use Rattle.layout_plan.specs.Plans.{ArePlaced, HasEnd, HasLength, IsFitting, IsGivenUp, IsGreatest, IsLaid, IsLogicalEnd, IsPlaced, IsRight, IsTaken, IsTooMany}
use Rattle.layout_plan.specs.Refusals.{HasNoPlan, IsFlexible}
use Rattle.layout_plan.specs.Tables.{floor_of}
use Rattle.layout_plan.specs.Wishes.{flexible_part, remaining, settled}

-- the parts that are made
abbrev pub rest : Task → List Part
rest task = remaining task.wishes.now task.parts.now

-- with so many sectors of the part that takes or gives up: the layout ends there; it fits; it doesn't; no more fit
abbrev pub EndsAt : Task → ℕ → ℕ → Type 0
EndsAt task sectors last = HasEnd task.kind task.parts.now task.wishes.now task.layout.now sectors last

abbrev pub FitsWith : Task → ℕ → Type 0
FitsWith task sectors = IsFitting task.kind task.parts.now task.wishes.now task.layout.now task.limit sectors

abbrev pub IsTooLongWith : Task → ℕ → Type 0
IsTooLongWith task sectors = IsTooMany task.kind task.parts.now task.wishes.now task.layout.now task.limit sectors

abbrev pub IsMostOf : Task → ℕ → Type 0
IsMostOf task sectors = IsGreatest task.kind task.parts.now task.wishes.now task.layout.now task.limit sectors

-- the part takes or gives up, as its wish says
abbrev pub HasFlexible : Task → What → Part → Type 0
HasFlexible task what part = IsFlexible task.parts.now task.wishes.now what part

-- the sectors of a part that takes; of one that gives up; of the one that does either
abbrev pub Takes : Task → Part → ℕ → Type 0
Takes task part sectors = IsTaken task.kind task.parts.now task.wishes.now task.layout.now task.limit sectors part

abbrev pub GivesUp : Task → Part → ℕ → Type 0
GivesUp task part sectors = IsGivenUp task.kind task.parts.now task.wishes.now task.layout.now task.limit sectors part

abbrev pub IsRightOf : Task → ℕ → Type 0
IsRightOf task sectors =
    IsRight task.kind task.parts.now task.wishes.now task.layout.now task.limit sectors (flexible_part task.wishes.now task.parts.now)

-- why the task has no plan
abbrev pub HasNone : Task → NoPlan → Type 0
HasNone task fault = HasNoPlan task.kind task.parts.now task.wishes.now task.layout.now task.target fault

-- the parts that remain are laid out, where the part that takes or gives up gets so many sectors
pub record IsLaidOut (task : Task) (sectors : ℕ) (laid : Laid) : Type 0 where
  pub same_sectors : laid.sectors ≡ sectors
  pub same_wishes : laid.wishes.items ≡ settled sectors task.wishes.now
  pub order : IsLaid task.kind task.parts.now (settled sectors task.wishes.now) task.layout.now laid.parts.items laid.spots.items
  pub is_last : laid.last ≡ last_end (floor_of task.kind) laid.spots.items

-- the layout of a plan: it fits, where the part that takes or gives up gets what is right
pub record IsFlexed (task : Task) (laid : Laid) : Type 0 where
  pub right : IsRightOf task laid.sectors
  pub laid_out : IsLaidOut task laid.sectors laid
  pub fits : laid.last ≤ task.limit

-- the last logical partition doesn't end before that start
abbrev pub EndsBehind : Laid → ℕ → Type 0
EndsBehind laid start = (last : ℕ) → IsLogicalEnd laid.parts.items laid.spots.items last → start ≤ last

-- the length of a part that starts there
abbrev pub HasLengthIn : Laid → Part → ℕ → ℕ → Type 0
HasLengthIn laid part start count = HasLength part.role laid.wishes.items laid.parts.items laid.spots.items part start count

-- what is made of a part, and of each of them
abbrev pub Makes : Task → Laid → Part → Placed → Type 0
Makes task laid part placed = IsPlaced laid.wishes.items task.parts.now laid.parts.items laid.spots.items part placed

abbrev pub MakesAll : Task → Laid → List Placed → Type 0
MakesAll task laid placed = ArePlaced laid.wishes.items task.parts.now laid.parts.items laid.spots.items placed
