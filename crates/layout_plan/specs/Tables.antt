-- What a table of each kind leaves to partitions.
use Rattle.std.specs.Prelude.{ℕ, ◌-◌, ◌^◌, ◌≤◌}
use Rattle.layout_plan.specs.declared.part.Kind.{Kind}
use Rattle.layout_plan.specs.declared.part.Kind.TheVariants.{Mbr, Gpt}
use Rattle.layout_plan.specs.declared.part.Role.{Role}
use Rattle.layout_plan.specs.declared.part.Role.TheVariants.{Slot, Extended, Logical}

-- the first sector that a partition may take
abbrev pub floor_of : Kind → ℕ
floor_of Mbr = 1
floor_of Gpt = 34

-- the end of the last sector that a partition may take
abbrev pub limit_of : Kind → ℕ → ℕ
limit_of Mbr sectors = sectors
limit_of Gpt sectors = sectors - 33

-- the sectors of the least disk that has a table
abbrev pub least_disk : Kind → ℕ
least_disk Mbr = 2
least_disk Gpt = 68

-- how many numbers there are for slots or entries, from 1 on
abbrev pub most_numbers : Kind → ℕ
most_numbers Mbr = 4
most_numbers Gpt = 128

-- the least number of a partition of that role: logical ones are numbered from 5 on
abbrev pub first_number : Role → ℕ
first_number Slot = 1
first_number Extended = 1
first_number Logical = 5

-- the greatest number of a partition of that role; 0 where a table of that kind has none
abbrev pub last_number : Kind → Role → ℕ
last_number Mbr Slot = 4
last_number Mbr Extended = 4
last_number Mbr Logical = 64
last_number Gpt Slot = 128
last_number Gpt Extended = 0
last_number Gpt Logical = 0

-- a partition of that role may have the number
pub record HasNumber (kind : Kind) (role : Role) (number : ℕ) : Type 0 where
  pub from_first : first_number role ≤ number
  pub to_last : number ≤ last_number kind role

-- a disk that has a table, whose sectors the table can name
pub record HasRoom (kind : Kind) (sectors : ℕ) : Type 0 where
  pub enough : least_disk kind ≤ sectors
  pub not_too_many : sectors ≤ 2 ^ 31
