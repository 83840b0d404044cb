-- What holds of every guest.
use Rattle.std.specs.Prelude.{◌≡◌, ℕ, ◌*◌, ◌≤◌, ◌⊎◌, min, List, All}
use Rattle.std.specs.List.{AllZip}
use Rattle.disk_base.specs.Image.{bytes_at}
use Rattle.group_content.specs.Laws.{AreAlikeGroups}
use Rattle.group_content.specs.declared.types.GroupContent.{GroupContent}
use Rattle.group_content.specs.declared.types.GroupVolume.{GroupVolume}
use Rattle.partition_content.specs.Found.{IsFoundIn}
use Rattle.partition_content.specs.Laws.{ShareSectors, StaysFound}
use Rattle.partition_content.specs.declared.found.Found.TheVariants as found
use Rattle.volume_content.specs.Laws.{IsAlike}
use Rattle.volume_content.specs.declared.content.Inner.TheVariants as inner
use Rattle.volume_content.specs.declared.content.Why.TheVariants as why
use Rattle.guest_view.specs.declared.content.Content.{Content}
use Rattle.guest_view.specs.declared.content.Content.TheVariants.{Extended, Xfs, Swap, Group, Member, Unread}
use Rattle.guest_view.specs.declared.fault.InspectFault.{InspectFault}
use Rattle.guest_view.specs.declared.fault.InspectFault.TheVariants.{Device, Memory}
use Rattle.guest_view.specs.declared.guest.GuestPart.{GuestPart}
use Rattle.guest_view.specs.Contents.{needed_sectors, partition_of}
use Rattle.guest_view.specs.Guests.{GuestView, IsGuest, IsNoGuest}

-- the logical volumes hold the same
abbrev pub HoldAlike : GroupVolume → GroupVolume → Type 0
HoldAlike one other = IsAlike one.inner other.inner

-- the second content is the first one; of an XFS volume that isn't valid the reasons may differ
abbrev pub AreAlikeContents : Content → Content → Type 0
AreAlikeContents (Unread (why.Xfs reason)) (Unread (why.Xfs reason')) = Unit {0}
AreAlikeContents (Group physical membership group) (Group physical' membership' group') =
    (physical' ≡ physical) × (membership' ≡ membership) × AreAlikeGroups group group'
    × AllZip HoldAlike group.volumes.items group'.volumes.items
AreAlikeContents (Group physical membership group) other = ⊥
AreAlikeContents one other = other ≡ one

-- the same partition, which holds the same
pub record AreAlikeParts (one other : GuestPart) : Type 0 where
  pub partition : partition_of other ≡ partition_of one
  pub content : AreAlikeContents one.content other.content

-- the same table, and the same partitions, which hold the same
pub record AreAlikeGuests (one other : GuestView) : Type 0 where
  pub sectors : other.sectors ≡ one.sectors
  pub table : other.table ≡ one.table
  pub parts : AllZip AreAlikeParts one.parts other.parts

-- a disk has at most one guest, and where it has one there is no reason against it
abbrev pub OneGuest : Type 0
OneGuest =
    (sectors : ℕ) (image : List ℕ) (one : GuestView) → IsGuest sectors image one
    → ((other : GuestView) → IsGuest sectors image other → AreAlikeGuests one other)
    × ((fault : InspectFault) → IsNoGuest sectors image fault → (fault ≡ Device) ⊎ (fault ≡ Memory))

-- ---- contents on another disk

-- a content, as it is found in the bytes of its partition
abbrev pub IsContentOf : Content → ℕ → List ℕ → Type 0
IsContentOf Extended count bytes = Unit {0}
IsContentOf (Xfs volume) count bytes = IsFoundIn count bytes (found.Inner (inner.Xfs volume))
IsContentOf (Swap swap) count bytes = IsFoundIn count bytes (found.Inner (inner.Swap swap))
IsContentOf (Group physical membership group) count bytes = IsFoundIn count bytes (found.Physical physical)
IsContentOf (Member physical membership) count bytes = IsFoundIn count bytes (found.Physical physical)
IsContentOf (Unread cause) count bytes = Unit {0}

-- the bytes of a partition
abbrev pub part_bytes : List ℕ → GuestPart → List ℕ
part_bytes image part = bytes_at image (512 * part.start) (512 * part.count)

-- each content is what is found in its partition
abbrev pub ContentsAreFound : Type 0
ContentsAreFound =
    (sectors : ℕ) (image : List ℕ) (guest : GuestView) → IsGuest sectors image guest
    → All (λ (part : GuestPart). IsContentOf part.content part.count (part_bytes image part)) guest.parts

-- so many sectors of another disk hold the same content: an XFS volume with the same file at every path, the same swap
-- area, or a physical volume with the same label and the same texts
abbrev pub StaysContent : Content → ℕ → List ℕ → List ℕ → Type 0
StaysContent Extended count bytes other = Unit {0}
StaysContent (Xfs volume) count bytes other = StaysFound count bytes other (found.Inner (inner.Xfs volume))
StaysContent (Swap swap) count bytes other = StaysFound count bytes other (found.Inner (inner.Swap swap))
StaysContent (Group physical membership group) count bytes other = StaysFound count bytes other (found.Physical physical)
StaysContent (Member physical membership) count bytes other = StaysFound count bytes other (found.Physical physical)
StaysContent (Unread cause) count bytes other = Unit {0}

-- a content isn't cut by another length: it is no shorter, or has as many sectors as the content needs
abbrev pub IsUncut : Content → ℕ → ℕ → Type 0
IsUncut content count more = (count ≤ more) ⊎ (needed_sectors content count ≤ more)

-- a content that isn't cut is the same wherever its sectors are, as many as the shorter length has
abbrev pub ContentsStay : Type 0
ContentsStay =
    (content : Content) (count more : ℕ) (bytes other : List ℕ) → IsContentOf content count bytes
    → IsUncut content count more → ShareSectors (min count more) bytes other → StaysContent content more bytes other
