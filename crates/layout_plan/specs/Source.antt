-- The partitions of a valid table.
use Rattle.std.specs.Prelude.{◌≡◌, ◌≢◌, ℕ, ◌+◌, ◌^◌, ◌<◌, ◌≤◌, ◌&&◌, ◌||◌, nat_lt, Bool, true, false, List, All, AllPairs}
use Rattle.std.specs.List.{list_any}
use Rattle.layout_plan.specs.declared.part.Kind.{Kind}
use Rattle.layout_plan.specs.declared.part.Part.{Part}
use Rattle.layout_plan.specs.Roles.{is_extended_role, is_logical}
use Rattle.layout_plan.specs.Tables.{HasNumber, floor_of}

-- a partition with a number of its role, behind the table, on sectors that a table can name
pub record IsPart (kind : Kind) (part : Part) : Type 0 where
  pub numbered : HasNumber kind part.role part.number
  pub behind_table : floor_of kind ≤ part.start
  pub some : 1 ≤ part.count
  pub named : part.start + part.count ≤ 2 ^ 31

-- whether an extended partition starts before that sector
abbrev pub opens_before : List Part → ℕ → Bool
opens_before parts sector = list_any (λ (part : Part). is_extended_role part.role && nat_lt part.start sector) parts

-- the two start at different sectors, if one of them is extended
abbrev pub StartApart : Part → Part → Type 0
StartApart one other = (is_extended_role one.role || is_extended_role other.role) ≡ true → one.start ≢ other.start

-- parts by rising number, at most one of them extended: no other one starts with it, and each logical one behind it
pub record IsSource (kind : Kind) (parts : List Part) : Type 0 where
  pub each : All (IsPart kind) parts
  pub by_number : AllPairs (λ (before after : Part). before.number < after.number) parts
  pub other_starts : AllPairs StartApart parts
  pub one_extended : AllPairs (λ (one other : Part). is_extended_role one.role ≡ true → is_extended_role other.role ≡ false) parts
  pub inside : All (λ (part : Part). is_logical part.role ≡ true → opens_before parts part.start ≡ true) parts
