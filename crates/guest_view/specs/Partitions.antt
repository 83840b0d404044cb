-- The partitions that a table names, by number, and partitions that clash.
use Rattle.std.specs.Prelude.{◌≡◌, ℕ, ◌+◌, ◌-◌, ◌^◌, ◌<◌, ◌≤◌, ◌⊎◌, Bool, false, ◌&&◌, ◌||◌, nat_lt, nat_le, IsTrue, if◌then◌else◌, Option, None, Some, List, [], ◌∷◌, ◌++◌, length, slice_index_or}
use Rattle.gpt_table.specs.declared.entry.Entry.{Entry}
use Rattle.layout_plan.specs.declared.part.Role.{Role}
use Rattle.layout_plan.specs.declared.part.Role.TheVariants.{Slot as InSlot, Extended, Logical as InChain}
use Rattle.mbr_table.specs.declared.slot.Logical.{Logical}
use Rattle.mbr_table.specs.declared.slot.Slot.{Slot}
use Rattle.mbr_table.specs.Slot.{is_extended, is_used}
use Rattle.guest_view.specs.declared.partition.Partition.{Partition}
use Rattle.guest_view.specs.declared.table.Table.{Table}
use Rattle.guest_view.specs.declared.table.Table.TheVariants.{Mbr, Gpt}

-- the partition of a used slot of that number
abbrev pub used_partition : ℕ → Slot → Partition
used_partition number slot =
    record { number = number; role = if is_extended slot then Extended else InSlot; start = slot.start; count = slot.count; ebr = 0 }

-- what a slot names, under its number: a used one a partition
abbrev pub slot_partition : ℕ → Slot → Option Partition
slot_partition number slot = if is_used slot then Some (used_partition number slot) else None

-- what a record of the chain names
abbrev pub logical_partition : ℕ → Logical → Option Partition
logical_partition number logical =
    Some (record { number = number; role = InChain; start = logical.slot.start; count = logical.slot.count; ebr = logical.ebr })

-- what an entry of a GPT names, from its first to its last sector
abbrev pub entry_partition : ℕ → Option Entry → Option Partition
entry_partition number None = None
entry_partition number (Some entry) =
    Some (record { number = number; role = InSlot; start = entry.first; count = entry.last + 1 - entry.first; ebr = 0 })

-- an item before others, if there is one
abbrev pub or_none : {A : Type 0} → Option A → List A → List A
or_none None items = items
or_none (Some item) items = item ∷ items

-- what the items of a list name under their numbers, where the first has that number
abbrev pub named_from : {A : Type 0} → (ℕ → A → Option Partition) → ℕ → List A → List Partition
named_from name number [] = []
named_from name number (item ∷ items) = or_none (name number item) (named_from name (number + 1) items)

-- the partitions of a table, by number: slots and entries from 1 on, logical partitions from 5 on
abbrev pub partitions_of : Table → List Partition
partitions_of (Mbr table) = named_from slot_partition 1 table.slots ++ named_from logical_partition 5 table.logicals
partitions_of (Gpt table) = named_from entry_partition 1 table.entries

-- its sectors have numbers that a table of either kind can name
abbrev pub IsReachable : Partition → Type 0
IsReachable partition = partition.start + partition.count ≤ 2 ^ 31

-- whether a sector is one of the partition's
abbrev pub holds_sector : Partition → ℕ → Bool
holds_sector partition sector = nat_le partition.start sector && nat_lt sector (partition.start + partition.count)

-- whether two partitions share a sector
abbrev pub meets : Partition → Partition → Bool
meets one other = nat_lt one.start (other.start + other.count) && nat_lt other.start (one.start + one.count)

-- whether two logical partitions share a sector, or one has the sector of the other's record
abbrev pub meets_in_chain : Partition → Partition → Bool
meets_in_chain one other = meets one other || holds_sector one other.ebr || holds_sector other one.ebr

-- whether two partitions may not stand in one table; a logical one lies inside the extended one
abbrev pub clashes_by : Role → Role → Partition → Partition → Bool
clashes_by InChain InChain one other = meets_in_chain one other
clashes_by InChain role one other = false
clashes_by role InChain one other = false
clashes_by role role' one other = meets one other

abbrev pub clashes : Partition → Partition → Bool
clashes one other = clashes_by one.role other.role one other

-- the partition of a list at a place, counted from 0; behind its end there is nothing
abbrev pub no_partition : Partition
no_partition = record { number = 0; role = InSlot; start = 0; count = 0; ebr = 0 }

abbrev pub partition_at : List Partition → ℕ → Partition
partition_at partitions k = slice_index_or partitions k no_partition

-- the partitions at two places clash
abbrev pub Clash : List Partition → ℕ → ℕ → Type 0
Clash partitions i j = IsTrue (clashes (partition_at partitions i) (partition_at partitions j))

-- no partition clashes with a later one
abbrev pub HasNoClash : List Partition → Type 0
HasNoClash partitions = (i j : ℕ) → i < j → j < length partitions → Clash partitions i j → ⊥

-- the pair (i, j) comes before the pair (k, l)
abbrev pub IsPairBefore : ℕ → ℕ → ℕ → ℕ → Type 0
IsPairBefore i j k l = (i < k) ⊎ ((i ≡ k) × (j < l))

-- the partitions at the places k and l are the first that clash
pub record IsFirstClash (partitions : List Partition) (k l : ℕ) : Type 0 where
  pub order : k < l
  pub within : l < length partitions
  pub clash : Clash partitions k l
  pub none_before : (i j : ℕ) → i < j → j < length partitions → IsPairBefore i j k l → Clash partitions i j → ⊥

-- the partitions of these numbers are the first that clash
pub record AreFirstClash (partitions : List Partition) (a b : ℕ) : Type 0 where
  pub k : ℕ
  pub l : ℕ
  pub first : IsFirstClash partitions k l
  pub numbers : ((partition_at partitions k).number ≡ a) × ((partition_at partitions l).number ≡ b)
