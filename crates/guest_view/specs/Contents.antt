-- What the partitions of a guest hold: what is found in each by itself, and what it is among the others.
use Rattle.std.specs.Prelude.{◌≡◌, ℕ, ◌+◌, ◌*◌, ◌/◌, ◌^◌, ◌≤◌, max, List, [], ◌∷◌, Option, None, Some, All}
use Rattle.std.specs.List.{AllZip}
use Rattle.disk_base.specs.Image.{bytes_at}
use Rattle.disk_base.specs.Run.{run_of}
use Rattle.disk_base.specs.declared.run.Run.{Run}
use Rattle.group_content.specs.Grouped.{VolumeFits}
use Rattle.group_content.specs.Standing.{AreStandings, HoldInners}
use Rattle.group_content.specs.declared.types.FoundPartition.{FoundPartition}
use Rattle.group_content.specs.declared.types.Membership.{Membership}
use Rattle.group_content.specs.declared.types.Standing.{Standing}
use Rattle.group_content.specs.declared.types.Standing.TheVariants as standings
use Rattle.layout_plan.specs.declared.part.Part.{Part}
use Rattle.layout_plan.specs.declared.part.Role.{Role}
use Rattle.layout_plan.specs.declared.part.Role.TheVariants as roles
use Rattle.lvm_label.specs.Ring.{RingArea, place_of_area}
use Rattle.lvm_label.specs.declared.label.Label.{Label}
use Rattle.partition_content.specs.Found.{AreasFit, IsFoundIn}
use Rattle.partition_content.specs.declared.found.Found.{Found}
use Rattle.partition_content.specs.declared.found.Found.TheVariants as found
use Rattle.partition_content.specs.declared.found.Physical.{Physical}
use Rattle.volume_content.specs.declared.content.Inner.{Inner}
use Rattle.volume_content.specs.declared.content.Inner.TheVariants as inner
use Rattle.volume_content.specs.declared.content.Why.TheVariants.{Other}
use Rattle.guest_view.specs.declared.content.Content.{Content}
use Rattle.guest_view.specs.declared.content.Content.TheVariants.{Extended, Xfs, Swap, Group, Member, Unread}
use Rattle.guest_view.specs.declared.guest.GuestPart.{GuestPart}
use Rattle.guest_view.specs.declared.partition.Partition.{Partition}

-- ---- what a partition holds

-- what stands alone
abbrev pub content_of_inner : Inner → Content
content_of_inner (inner.Xfs volume) = Xfs volume
content_of_inner (inner.Swap swap) = Swap swap
content_of_inner (inner.Unread why) = Unread why

-- a physical volume, by what it is among the others; it never stands alone
abbrev pub content_of_physical : Physical → Standing → Content
content_of_physical physical (standings.Holder membership group) = Group physical membership group
content_of_physical physical (standings.Member membership) = Member physical membership
content_of_physical physical (standings.Unread why) = Unread why
content_of_physical physical standings.Alone = Unread Other

abbrev pub content_of_found : Found → Standing → Content
content_of_found (found.Physical physical) standing = content_of_physical physical standing
content_of_found (found.Inner inner) standing = content_of_inner inner

-- the extended partition holds the logical ones
abbrev pub content_by : Role → Found → Standing → Content
content_by roles.Extended found standing = Extended
content_by roles.Slot found standing = content_of_found found standing
content_by roles.Logical found standing = content_of_found found standing

-- a partition with what it holds
abbrev pub part_with : Partition → Content → GuestPart
part_with partition content = record {
  number = partition.number;
  role = partition.role;
  start = partition.start;
  count = partition.count;
  ebr = partition.ebr;
  content = content;
}

-- the same of all of them, one by one
abbrev pub parts_with : List Partition → List FoundPartition → List Standing → List GuestPart
parts_with (partition ∷ partitions) (one ∷ others) (standing ∷ standings) =
    part_with partition (content_by partition.role one.found standing) ∷ parts_with partitions others standings
parts_with [] others standings = []
parts_with (partition ∷ partitions) [] standings = []
parts_with (partition ∷ partitions) (one ∷ others) [] = []

-- the partition that it is
abbrev pub partition_of : GuestPart → Partition
partition_of part = record { number = part.number; role = part.role; start = part.start; count = part.count; ebr = part.ebr }

-- ---- how they are found

-- the sectors of a partition
abbrev pub run_of_partition : Partition → Run
run_of_partition partition = run_of partition.start partition.count

-- a partition is read as a disk of its own; what the extended one holds by itself isn't read
abbrev pub IsFoundAs : Role → List ℕ → Run → Found → Type 0
IsFoundAs roles.Extended image run one = one ≡ found.Inner (inner.Unread Other)
IsFoundAs roles.Slot image run one = IsFoundIn run.count (bytes_at image (512 * run.start) (512 * run.count)) one
IsFoundAs roles.Logical image run one = IsFoundIn run.count (bytes_at image (512 * run.start) (512 * run.count)) one

-- a partition of a disk, and what it holds by itself
pub record IsFoundPartition (image : List ℕ) (partition : Partition) (one : FoundPartition) : Type 0 where
  pub number : one.number ≡ partition.number
  pub run : one.run ≡ run_of_partition partition
  pub found : IsFoundAs partition.role image (run_of_partition partition) one.found

-- the partitions of a disk with what they hold: each by itself, what it is among the others, and what the logical
-- volumes of each group hold
pub record HaveContents (image : List ℕ) (partitions : List Partition) (parts : List GuestPart) : Type 0 where
  pub found : List FoundPartition
  pub standings : List Standing
  pub are_found : AllZip (IsFoundPartition image) partitions found
  pub are_standings : AreStandings found standings
  pub inners : All (HoldInners image) standings
  pub parts_are : parts ≡ parts_with partitions found standings

-- ---- how many sectors a content needs

-- the end of a metadata area of a physical volume
abbrev pub area_end : Label → ℕ → ℕ
area_end label area = ((place_of_area label area).0 + (place_of_area label area).1) / 512

abbrev pub second_end : Label → Option RingArea → ℕ
second_end label None = 0
second_end label (Some ring) = area_end label 1

-- a physical volume: what the group's text says that it has, its metadata areas, and the four sectors one of which holds
-- its label
abbrev pub needed_by_member : Physical → Membership → ℕ
needed_by_member physical membership =
    max (max membership.device 4) (max (area_end physical.label 0) (second_end physical.label physical.second))

-- of how many sectors a content needs: eight for each block or page; all where nothing is known of it
abbrev pub needed_sectors : Content → ℕ → ℕ
needed_sectors Extended count = count
needed_sectors (Xfs volume) count = 8 * volume.geometry.dblocks
needed_sectors (Swap swap) count = (swap.last_page + 1) * 8
needed_sectors (Group physical membership group) count = needed_by_member physical membership
needed_sectors (Member physical membership) count = needed_by_member physical membership
needed_sectors (Unread why) count = count

-- a partition as a plan takes it
abbrev pub planned_part : GuestPart → Part
planned_part part = record {
  number = part.number;
  role = part.role;
  start = part.start;
  count = part.count;
  content = needed_sectors part.content part.count;
}

-- a content says of itself that it has no more than so many sectors
abbrev pub ContentFits : ℕ → Content → Type 0
ContentFits sectors Extended = Unit {0}
ContentFits sectors (Xfs volume) = 8 * volume.geometry.dblocks ≤ sectors
ContentFits sectors (Swap swap) = (1 ≤ swap.last_page) × ((swap.last_page + 1) * 8 ≤ sectors)
ContentFits sectors (Group physical membership group) = AreasFit sectors physical × All VolumeFits group.volumes.items
ContentFits sectors (Member physical membership) = AreasFit sectors physical
ContentFits sectors (Unread why) = Unit {0}

abbrev pub PartFits : GuestPart → Type 0
PartFits part = (part.count ≤ 2 ^ 31) × ContentFits part.count part.content
