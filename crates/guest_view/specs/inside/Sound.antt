-- What the parts of a guest are.
use Rattle.std.specs.Prelude.{◌≡◌, ℕ, ◌+◌, ◌<◌, ◌≤◌, false, List, All, map}
use Rattle.std.specs.List.{AllZip}
use Rattle.disk_base.specs.Run.{AreApart}
use Rattle.layout_plan.specs.Source.{IsSource}
use Rattle.layout_plan.specs.Roles.{is_extended_role}
use Rattle.layout_plan.specs.declared.part.Role.TheVariants.{Extended}
use Rattle.group_content.specs.declared.types.FoundPartition.{FoundPartition}
use Rattle.partition_content.specs.Found.{FoundFits}
use Rattle.partition_content.specs.declared.found.Found.TheVariants.{Inner as IsAlone}
use Rattle.volume_content.specs.declared.content.Inner.TheVariants.{Unread as IsUnread}
use Rattle.volume_content.specs.declared.content.Why.TheVariants.{Other}
use Rattle.guest_view.specs.declared.fault.InspectFault.{InspectFault}
use Rattle.guest_view.specs.declared.fault.InspectFault.TheVariants.{Overlap, Memory}
use Rattle.guest_view.specs.declared.guest.GuestPart.{GuestPart}
use Rattle.guest_view.specs.declared.partition.Partition.{Partition}
use Rattle.guest_view.specs.declared.table.Table.{Table}
use Rattle.guest_view.specs.Contents.{HaveContents, PartFits, partition_of, planned_part, run_of_partition}
use Rattle.guest_view.specs.Guests.{EndOnDisk, GuestView, IsSoundTable, kind_of}
use Rattle.guest_view.specs.Partitions.{AreFirstClash, HasNoClash, partitions_of}

-- the parts of a guest: they lie apart, and a plan can take them
pub record IsWhole (sectors : ℕ) (table : Table) (parts : List GuestPart) : Type 0 where
  pub sound : IsSoundTable sectors table
  pub apart : HasNoClash (partitions_of table)
  pub named : map partition_of parts ≡ partitions_of table
  pub fits : All PartFits parts
  pub source : IsSource (kind_of table) (map planned_part parts)
  pub inside : EndOnDisk sectors parts

-- the guest of that table, on a disk of that many sectors that holds this
pub record IsGuestBy (sectors : ℕ) (image : List ℕ) (table : Table) (guest : GuestView) : Type 0 where
  pub table_is : guest.table ≡ table
  pub apart : HasNoClash (partitions_of table)
  pub contents : HaveContents image (partitions_of table) guest.parts

-- why a table has no guest
abbrev pub IsNoGuestBy : Table → InspectFault → Type 0
IsNoGuestBy table (Overlap a b) = AreFirstClash (partitions_of table) a b
IsNoGuestBy table Memory = Unit {0}
IsNoGuestBy table fault = ⊥

-- ---- partitions that contents can be read of

abbrev pub RunsApart : Partition → Partition → Type 0
RunsApart p q = AreApart (run_of_partition p) (run_of_partition q)

-- two partitions lie apart where neither is extended
abbrev pub LieBeside : Partition → Partition → Type 0
LieBeside p q = is_extended_role p.role ≡ false → is_extended_role q.role ≡ false → RunsApart p q

abbrev pub Rises : Partition → Partition → Type 0
Rises before after = before.number < after.number

abbrev pub EndsOn : ℕ → Partition → Type 0
EndsOn sectors p = p.start + p.count ≤ sectors

-- the partitions of a sound table that lie apart
pub record ArePartitionsOf (table : Table) (partitions : List Partition) : Type 0 where
  pub are : partitions ≡ partitions_of table
  pub apart : HasNoClash partitions

-- what was found of a partition is of that one, and no more than it; the extended one stands alone
pub record StandsFor (partition : Partition) (one : FoundPartition) : Type 0 where
  pub number : one.number ≡ partition.number
  pub run : one.run ≡ run_of_partition partition
  pub alone : partition.role ≡ Extended → one.found ≡ IsAlone (IsUnread Other)
  pub fits : FoundFits partition.count one.found

abbrev pub StandFor : List Partition → List FoundPartition → Type 0
StandFor partitions found = AllZip StandsFor partitions found
