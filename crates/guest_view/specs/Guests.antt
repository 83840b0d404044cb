-- The guest of a disk: its table, and its partitions by number with what they hold; and why a disk is none.
use Rattle.std.specs.Prelude.{◌≡◌, ℕ, ◌+◌, ◌^◌, ◌<◌, ◌≤◌, ◌⊎◌, List, All}
use Rattle.disk_base.specs.Image.{sector}
use Rattle.gpt_table.specs.declared.fault.GptFault.{GptFault}
use Rattle.gpt_table.specs.declared.fault.GptFault.TheVariants as gpt
use Rattle.gpt_table.specs.Gpt.{AreInside, HasGptFault, IsGptTable}
use Rattle.layout_plan.specs.declared.part.Kind.{Kind}
use Rattle.layout_plan.specs.declared.part.Kind.TheVariants as kinds
use Rattle.volume_content.specs.declared.fault.ContentFault.{ContentFault}
use Rattle.volume_content.specs.declared.fault.ContentFault.TheVariants as content
use Rattle.mbr_table.specs.declared.fault.MbrFault.{MbrFault}
use Rattle.mbr_table.specs.declared.fault.MbrFault.TheVariants as mbr
use Rattle.mbr_table.specs.Mbr.{AreSound, AreWithin, HasMbrFault, IsMbrTable, IsProtective}
use Rattle.layout_plan.specs.Tables.{floor_of}
use Rattle.guest_view.specs.declared.fault.InspectFault.{InspectFault}
use Rattle.guest_view.specs.declared.fault.InspectFault.TheVariants.{TooLarge, NoSignature, Entry, Chain, TooMany, NoHeader, Shape, Overlap, Device, Memory}
use Rattle.guest_view.specs.declared.guest.GuestPart.{GuestPart}
use Rattle.guest_view.specs.declared.table.Table.{Table}
use Rattle.guest_view.specs.declared.table.Table.TheVariants.{Mbr, Gpt}
use Rattle.guest_view.specs.Contents.{HaveContents}
use Rattle.guest_view.specs.Partitions.{AreFirstClash, HasNoClash, partitions_of}

-- a guest as contracts see it
pub record GuestView : Type 0 where
  pub sectors : ℕ  -- the sectors of its disk
  pub table : Table
  pub parts : List GuestPart  -- the partitions, by number

-- the kind of a table
abbrev pub kind_of : Table → Kind
kind_of (Mbr table) = kinds.Mbr
kind_of (Gpt table) = kinds.Gpt

-- sector 0 leaves the disk to a GPT: it is signed, and one of its slots stands in for another table
abbrev pub IsLeftToGpt : ℕ → List ℕ → Type 0
IsLeftToGpt sectors image = (0 < sectors) × IsProtective (sector image 0)

-- the table of a disk of that many sectors
abbrev pub IsTableOf : ℕ → List ℕ → Table → Type 0
IsTableOf sectors image (Mbr table) = (IsLeftToGpt sectors image → ⊥) × IsMbrTable sectors image table
IsTableOf sectors image (Gpt table) = IsLeftToGpt sectors image × IsGptTable sectors image table

-- slots that aren't bad with logical partitions in the extended one, or entries between the tables
abbrev pub HasSoundEntries : ℕ → Table → Type 0
HasSoundEntries sectors (Mbr table) = AreSound sectors table.slots × AreWithin table.slots table.logicals
HasSoundEntries sectors (Gpt table) = AreInside sectors table.entries

-- a table of a disk that isn't too large, and has room for it
pub record IsSoundTable (sectors : ℕ) (table : Table) : Type 0 where
  pub few : sectors ≤ 2 ^ 31
  pub room : floor_of (kind_of table) ≤ sectors
  pub entries : HasSoundEntries sectors table

-- each of the partitions ends on a disk of that many sectors
abbrev pub EndOnDisk : ℕ → List GuestPart → Type 0
EndOnDisk sectors parts = All (λ (part : GuestPart). part.start + part.count ≤ sectors) parts

-- the guest of a disk of that many sectors
pub record IsGuest (sectors : ℕ) (image : List ℕ) (guest : GuestView) : Type 0 where
  pub sectors_are : guest.sectors ≡ sectors
  pub small : sectors ≤ 2 ^ 31
  pub table : IsTableOf sectors image guest.table
  pub apart : HasNoClash (partitions_of guest.table)
  pub contents : HaveContents image (partitions_of guest.table) guest.parts

-- a fault of the table that sector 0 holds, on a disk that isn't left to a GPT
pub record HasOwnFault (sectors : ℕ) (image : List ℕ) (fault : MbrFault) : Type 0 where
  pub small : sectors ≤ 2 ^ 31
  pub own : IsLeftToGpt sectors image → ⊥
  pub has : HasMbrFault sectors image fault

-- a fault of the GPT, on a disk that is left to one
pub record HasFaultOfGpt (sectors : ℕ) (image : List ℕ) (fault : GptFault) : Type 0 where
  pub small : sectors ≤ 2 ^ 31
  pub left : IsLeftToGpt sectors image
  pub has : HasGptFault sectors image fault

-- the first two partitions of its table that clash have these numbers
pub record HasOverlap (sectors : ℕ) (image : List ℕ) (a b : ℕ) : Type 0 where
  pub small : sectors ≤ 2 ^ 31
  pub table : Table
  pub is_table : IsTableOf sectors image table
  pub clash : AreFirstClash (partitions_of table) a b

-- why a disk of that many sectors is no guest, the first in this order: its size, its table, two partitions that
-- clash; a device's fault and want of memory say nothing of it
abbrev pub IsNoGuest : ℕ → List ℕ → InspectFault → Type 0
IsNoGuest sectors image (TooLarge n) = (n ≡ sectors) × (2 ^ 31 < sectors)
IsNoGuest sectors image NoSignature = HasOwnFault sectors image mbr.NoSignature
IsNoGuest sectors image (Entry number) = HasOwnFault sectors image (mbr.Entry number) ⊎ HasFaultOfGpt sectors image (gpt.Entry number)
IsNoGuest sectors image (Chain at) = HasOwnFault sectors image (mbr.Chain at)
IsNoGuest sectors image (TooMany at) = HasOwnFault sectors image (mbr.TooMany at)
IsNoGuest sectors image NoHeader = HasFaultOfGpt sectors image gpt.NoHeader
IsNoGuest sectors image (Shape count size) = HasFaultOfGpt sectors image (gpt.Shape count size)
IsNoGuest sectors image (Overlap a b) = HasOverlap sectors image a b
IsNoGuest sectors image Device = Unit {0}
IsNoGuest sectors image Memory = Unit {0}

-- what a fault of an MBR says of the disk
abbrev pub fault_of_mbr : MbrFault → InspectFault
fault_of_mbr mbr.NoSignature = NoSignature
fault_of_mbr (mbr.Entry number) = Entry number
fault_of_mbr (mbr.Chain at) = Chain at
fault_of_mbr (mbr.TooMany at) = TooMany at
fault_of_mbr mbr.Device = Device
fault_of_mbr mbr.Memory = Memory

-- what a fault of a GPT says of the disk
abbrev pub fault_of_gpt : GptFault → InspectFault
fault_of_gpt gpt.NoHeader = NoHeader
fault_of_gpt (gpt.Shape count size) = Shape count size
fault_of_gpt (gpt.Entry number) = Entry number
fault_of_gpt gpt.Device = Device
fault_of_gpt gpt.Memory = Memory

-- what a fault of contents says of the disk
abbrev pub fault_of_content : ContentFault → InspectFault
fault_of_content content.Device = Device
fault_of_content content.Memory = Memory
