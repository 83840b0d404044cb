-- What a partition is among the others of its disk.
use Rattle.std.specs.Prelude.{◌≡◌, ◌≢◌, ℕ, ◌<◌, List, length, slice_index_or, All}
use Rattle.lvm_group.specs.Answer.{IsGroup, IsGroupFault}
use Rattle.lvm_group.specs.declared.fault.GroupFault.{GroupFault}
use Rattle.lvm_group.specs.declared.fault.GroupFault.TheVariants as groups
use Rattle.lvm_group.specs.declared.group.Group.{Group}
use Rattle.lvm_text.specs.Faults.{IsTextFault, Spells}
use Rattle.lvm_text.specs.Tree.{items_in}
use Rattle.lvm_text.specs.declared.fault.TextFault.{TextFault}
use Rattle.lvm_text.specs.declared.fault.TextFault.TheVariants as texts
use Rattle.lvm_text.specs.declared.tree.Tree.{Tree}
use Rattle.partition_content.specs.declared.found.Found.{Found}
use Rattle.partition_content.specs.declared.found.Found.TheVariants.{Physical as IsPhysical, Inner as IsAlone}
use Rattle.volume_content.specs.declared.content.Why.{Why}
use Rattle.volume_content.specs.declared.content.Why.TheVariants as why
use Rattle.group_content.specs.Grouped.{AreInPlace, HoldsInner, VolumeFits, device_of, first_part, members_with}
use Rattle.group_content.specs.declared.types.FoundPartition.{FoundPartition}
use Rattle.group_content.specs.declared.types.GroupContent.{GroupContent}
use Rattle.group_content.specs.declared.types.Membership.{Membership}
use Rattle.group_content.specs.declared.types.Standing.{Standing}
use Rattle.group_content.specs.declared.types.Standing.TheVariants.{Alone, Holder, Member, Unread}

-- the group that a text spells over the partitions that have it
pub record IsGroupOf (partitions : List FoundPartition) (text : List ℕ) (group : Group) : Type 0 where
  pub tree : Tree
  pub spelled : Spells text tree
  pub is_group : IsGroup (items_in tree) (members_with text partitions) group

-- a fault of that group
pub record HasGroupFault (partitions : List FoundPartition) (text : List ℕ) (fault : GroupFault) : Type 0 where
  pub tree : Tree
  pub spelled : Spells text tree
  pub known : fault ≢ groups.Memory
  pub has : IsGroupFault (items_in tree) (members_with text partitions) fault

-- why the partitions with a text make no group
abbrev pub MakeNoGroup : List FoundPartition → List ℕ → Why → Type 0
MakeNoGroup partitions text why.Other = ⊥
MakeNoGroup partitions text why.NoGroup = ⊥
MakeNoGroup partitions text (why.Xfs reason) = ⊥
MakeNoGroup partitions text why.Swap = ⊥
MakeNoGroup partitions text (why.Ring fault) = ⊥
MakeNoGroup partitions text (why.Text fault) = (fault ≢ texts.Memory) × IsTextFault text fault
MakeNoGroup partitions text (why.Group fault) = HasGroupFault partitions text fault

-- what a member is in its group
pub record IsMembership
    (partitions : List FoundPartition) (text : List ℕ) (number : ℕ) (group : Group) (membership : Membership) : Type 0
  where
    pub is_group : IsGroupOf partitions text group
    pub holder : membership.holder ≡ first_part (members_with text partitions)
    pub device : membership.device ≡ device_of group number

-- it is the first member, and the logical volumes stand where the group has them
pub record IsHolder
    (partitions : List FoundPartition) (text : List ℕ) (number : ℕ) (membership : Membership)
    (content : GroupContent) : Type 0
  where
    pub is : IsMembership partitions text number content.group membership
    pub first : membership.holder ≡ number
    pub in_place : AreInPlace partitions content

-- it is a later one
pub record IsLaterMember
    (partitions : List FoundPartition) (text : List ℕ) (number : ℕ) (membership : Membership) : Type 0
  where
    pub group : Group
    pub is : IsMembership partitions text number group membership
    pub later : membership.holder ≢ number

-- what the partition of that number with that text is
abbrev pub IsStandingBy : List FoundPartition → List ℕ → ℕ → Standing → Type 0
IsStandingBy partitions text number Alone = ⊥
IsStandingBy partitions text number (Holder membership content) = IsHolder partitions text number membership content
IsStandingBy partitions text number (Member membership) = IsLaterMember partitions text number membership
IsStandingBy partitions text number (Unread cause) = MakeNoGroup partitions text cause

abbrev pub IsStandingOf : List FoundPartition → ℕ → Found → Standing → Type 0
IsStandingOf partitions number (IsPhysical physical) standing =
    IsStandingBy partitions physical.first.text number standing
IsStandingOf partitions number (IsAlone inner) standing = standing ≡ Alone

-- what a partition is among these
abbrev pub IsStanding : List FoundPartition → FoundPartition → Standing → Type 0
IsStanding partitions partition standing = IsStandingOf partitions partition.number partition.found standing

-- what each of them is, in their order
pub record AreStandings (partitions : List FoundPartition) (standings : List Standing) : Type 0 where
  pub long : length standings ≡ length partitions
  pub each : (k : ℕ) (partition : FoundPartition) (standing : Standing) → k < length partitions
      → IsStanding partitions (slice_index_or partitions k partition) (slice_index_or standings k standing)

-- what the logical volumes of a group hold
abbrev pub HoldInners : List ℕ → Standing → Type 0
HoldInners image Alone = Unit {0}
HoldInners image (Holder membership content) = All (HoldsInner image) content.volumes.items
HoldInners image (Member membership) = Unit {0}
HoldInners image (Unread cause) = Unit {0}

-- each says that it has no more sectors than its runs
abbrev pub StandingFits : Standing → Type 0
StandingFits Alone = Unit {0}
StandingFits (Holder membership content) = All VolumeFits content.volumes.items
StandingFits (Member membership) = Unit {0}
StandingFits (Unread cause) = Unit {0}
