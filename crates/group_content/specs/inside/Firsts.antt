-- The first partition with a text, and what hinders a group.
use Rattle.std.specs.Prelude.{◌≡◌, ◌≢◌, ℕ, ◌<◌, ◌≤◌, true, List, length, slice_index_or, All, AllPairs}
use Rattle.disk_base.specs.Run.{IsWithin}
use Rattle.lvm_group.specs.declared.group.Group.{Group}
use Rattle.group_content.specs.Grouped.{HaveTwoNumbers, LieApart, first_part, has_text, members_with}
use Rattle.group_content.specs.Standing.{IsGroupOf, IsStanding, IsStandingBy, MakeNoGroup}
use Rattle.group_content.specs.declared.types.FoundPartition.{FoundPartition}
use Rattle.group_content.specs.declared.types.Standing.{Standing}
use Rattle.group_content.specs.declared.types.Ungrouped.{Ungrouped}
use Rattle.group_content.specs.declared.types.Ungrouped.TheVariants.{Unread, Memory}

-- the partition at a place has the text
abbrev pub HasTextAt : List ℕ → List FoundPartition → ℕ → Type 0
HasTextAt text partitions k =
    (default : FoundPartition) → has_text text (slice_index_or partitions k default).found ≡ true

-- the one at place `k`, which isn't behind place `end`, is the first with the text
pub record IsFirstWith (text : List ℕ) (partitions : List FoundPartition) (end k : ℕ) : Type 0 where
  pub before : k ≤ end
  pub there : HasTextAt text partitions k
  pub first : (default : FoundPartition)
      → (slice_index_or partitions k default).number ≡ first_part (members_with text partitions)

-- why a text makes no group
abbrev pub IsUngrouped : List FoundPartition → List ℕ → Ungrouped → Type 0
IsUngrouped partitions text (Unread cause) = MakeNoGroup partitions text cause
IsUngrouped partitions text Memory = Unit {0}

-- partitions lie on the disk, physical volumes lie apart, and no two have one number
pub record AreOnDisk (size : ℕ) (partitions : List FoundPartition) : Type 0 where
  pub inside : All (λ (partition : FoundPartition). IsWithin size partition.run) partitions
  pub apart : AllPairs LieApart partitions
  pub numbers : AllPairs HaveTwoNumbers partitions

-- a group that some text spells over partitions
pub record IsSomeGroup (partitions : List FoundPartition) (group : Group) : Type 0 where
  pub text : List ℕ
  pub is_group : IsGroupOf partitions text group

-- what the first with a text is, seen from a later one
abbrev pub IsSeenFrom : ℕ → Standing → Standing → Type 0
IsSeenFrom number standing later =
    (partitions : List FoundPartition) (text : List ℕ)
    → IsStandingBy partitions text (first_part (members_with text partitions)) standing
    → first_part (members_with text partitions) ≢ number → IsStandingBy partitions text number later

-- the first with a text holds the group
abbrev pub IsHeldBy : List FoundPartition → ℕ → Group → Standing → Type 0
IsHeldBy partitions number group standing =
    (text : List ℕ) → IsGroupOf partitions text group → first_part (members_with text partitions) ≡ number
    → IsStandingBy partitions text number standing

-- what the first of the partitions are, as many as there are standings
pub record AreStandingsOf (partitions : List FoundPartition) (standings : List Standing) : Type 0 where
  pub each : (k : ℕ) (partition : FoundPartition) (standing : Standing) → k < length standings
      → IsStanding partitions (slice_index_or partitions k partition) (slice_index_or standings k standing)
