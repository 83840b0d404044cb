-- What the code takes of a plan for an MBR.
use Rattle.std.specs.Prelude.{◌≡◌, ℕ, ◌+◌, ◌-◌, ◌^◌, ◌<◌, ◌≤◌, true, false, List, length, All, IfSome, IfOk, Result}
use Rattle.guest_view.specs.Guests.{GuestView}
use Rattle.layout_plan.specs.declared.part.Placed.{Placed}
use Rattle.layout_plan.specs.Plans.{Plan}
use Rattle.mbr_table.specs.declared.slot.Logical.{Logical}
use Rattle.mbr_table.specs.Mbr.{Table}
use Rattle.mbr_table.specs.Slot.{slot_end}
use Rattle.target_table.specs.declared.table_sectors.TableSectors.{TableSectors}
use Rattle.target_table.specs.Planned.{AreTableSectors, IsSomePlan}
use Rattle.target_table.specs.Slots.{has_record}

-- a plan for a guest, on a target of some length
pub record IsPlanSomewhere (guest : GuestView) (plan : Plan) : Type 0 where
  pub sectors : ℕ
  pub is : IsSomePlan guest sectors plan

-- what is made are the sectors of the planned table, on whatever target the plan is for
abbrev pub MakesTable : {E : Type 0} → GuestView → Plan → List ℕ → Result TableSectors E → Type 0
MakesTable guest plan head result =
    (sectors : ℕ) → IsSomePlan guest sectors plan
    → IfOk result (λ made. AreTableSectors guest.table plan head sectors made.first made.writes.items)

-- a placed partition with a record is one of the chain, and one without is a slot; its number says which
pub record IsFromMbr (table : Table) (placed : Placed) : Type 0 where
  pub few : placed.start + placed.count ≤ 2 ^ 31
  pub record_before : placed.ebr < placed.start
  pub slot : has_record placed ≡ false → (1 ≤ placed.from) × (placed.from ≤ 4)
  pub logical : has_record placed ≡ true → (5 ≤ placed.from) × (placed.from - 5 < length table.logicals)
  pub low : placed.number ≤ 4 → has_record placed ≡ false

-- what is placed comes from the table, and ends where a table can name it
pub record IsOfMbr (table : Table) (plan : Plan) : Type 0 where
  pub parts : All (IsFromMbr table) plan.parts
  pub extra : IfSome plan.extra (λ (one : Placed). one.start + one.count ≤ 2 ^ 31)

-- a logical partition whose record, counted from the extended partition's start, stands before it
pub record IsBehindBase (base : ℕ) (logical : Logical) : Type 0 where
  pub record_behind : base ≤ logical.ebr
  pub record_before : logical.ebr < logical.slot.start
  pub few : slot_end logical.slot ≤ 2 ^ 31
