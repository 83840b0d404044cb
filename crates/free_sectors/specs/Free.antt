-- The free sectors of a guest for a job: what its volumes don't use, what its groups haven't given out, and what is zeroed;
-- without what is ignored.
use Rattle.std.specs.Prelude.{◌≡◌, ℕ, ◌+◌, ◌*◌, ◌/◌, ◌<◌, ◌≤◌, ◌⊎◌, IsTrue, List, [], ◌∷◌, Option, None, Some, Contains, find, ◌==◌, map, slice_get}
use Rattle.disk_base.specs.Run.{IsIn, run_of}
use Rattle.disk_base.specs.declared.run.Run.{Run}
use Rattle.disk_view.specs.Join.{IsInOne, place, total}
use Rattle.group_content.specs.declared.types.GroupContent.{GroupContent}
use Rattle.group_content.specs.declared.types.GroupVolume.{GroupVolume}
use Rattle.group_runs.specs.Places.{disk_run}
use Rattle.guest_view.specs.Guests.{GuestView}
use Rattle.guest_view.specs.declared.content.Content.{Content}
use Rattle.guest_view.specs.declared.content.Content.TheVariants.{Extended, Xfs, Swap, Group, Member, Unread}
use Rattle.guest_view.specs.declared.guest.GuestPart.{GuestPart}
use Rattle.lvm_group.specs.declared.types.Member.{Member as PhysicalVolume}
use Rattle.volume_choice.specs.Chosen.{is_ignored_group, is_ignored_logical, is_ignored_part, is_zeroed_logical, is_zeroed_part}
use Rattle.volume_choice.specs.declared.chosen.Choices.{Choices}
use Rattle.volume_content.specs.declared.content.Inner.{Inner}
use Rattle.volume_content.specs.declared.content.Inner.TheVariants as inner
use Rattle.xfs_check.specs.Volume.{GroupSpace, VolumeSpace}

-- ---- a volume by itself

-- a block of an XFS volume is in a run of free blocks of one of its allocation groups, as many as its superblock names;
-- runs count from the group's start
pub record IsFreeBlock (volume : VolumeSpace) (block : ℕ) : Type 0 where
  pub number : ℕ
  pub known : number < volume.geometry.agcount
  pub group : GroupSpace
  pub is_group : slice_get volume.groups number ≡ Some group
  pub run : ℕ × ℕ
  pub among : Contains group.free.runs run
  pub is_in : IsIn (run_of (volume.geometry.agblocks * number + run.0) run.1) block

-- a sector of a volume with that content carries nothing: one of the eight of a free block, or of a page of a swap area
-- other than the first
abbrev pub IsUnused : Inner → ℕ → Type 0
IsUnused (inner.Xfs volume) k = IsFreeBlock volume (k / 8)
IsUnused (inner.Swap swap) k = (1 ≤ k / 8) × (k / 8 ≤ swap.last_page)
IsUnused (inner.Unread cause) k = ⊥

-- such a sector of a volume that stands in these runs is sector x of the disk
pub record IsUnusedIn (runs : List Run) (content : Inner) (x : ℕ) : Type 0 where
  pub k : ℕ
  pub below : k < total runs
  pub unused : IsUnused content k
  pub stands : place runs k ≡ x

-- ---- a group

-- the run of the partition of that number
abbrev pub run_of_found : Option GuestPart → Run
run_of_found None = run_of 0 0
run_of_found (Some part) = run_of part.start part.count

abbrev pub part_run : List GuestPart → ℕ → Run
part_run parts number = run_of_found (find (λ (part : GuestPart). part.number == number) parts)

-- the runs of the group's physical volumes, in its order
abbrev pub member_places : List GuestPart → GroupContent → List Run
member_places parts content = map (λ (m : PhysicalVolume). part_run parts m.part) content.group.members

-- sector x of the disk is in an extent that no logical volume has
pub record IsInFreeExtent (parts : List GuestPart) (content : GroupContent) (x : ℕ) : Type 0 where
  pub run : ℕ × ℕ × ℕ
  pub among : Contains content.group.free run
  pub is_in : IsIn (disk_run (member_places parts content) run) x

-- what a logical volume gives up: all of it, where it is zeroed, and what it doesn't use
abbrev pub LogicalGives : Choices → ℕ → ℕ → GroupVolume → ℕ → Type 0
LogicalGives choices holder lv volume x =
    (IsTrue (is_zeroed_logical choices holder lv) × IsInOne volume.runs.items x)
    ⊎ IsUnusedIn volume.runs.items volume.inner x

-- what it keeps
abbrev pub LogicalKeeps : Choices → ℕ → ℕ → GroupVolume → ℕ → Type 0
LogicalKeeps choices holder lv volume x = IsTrue (is_ignored_logical choices holder lv) × IsInOne volume.runs.items x

-- the same of some logical volume of a group, by its place
pub record SomeLogical (does : ℕ → GroupVolume → Type 0) (volumes : List GroupVolume) : Type 0 where
  pub lv : ℕ
  pub volume : GroupVolume
  pub is_volume : slice_get volumes lv ≡ Some volume
  pub does_so : does lv volume

-- ---- a partition

abbrev pub ContentGives : Choices → List GuestPart → Run → ℕ → Content → ℕ → Type 0
ContentGives choices parts run number Extended x = ⊥
ContentGives choices parts run number (Xfs volume) x = IsUnusedIn (run ∷ []) (inner.Xfs volume) x
ContentGives choices parts run number (Swap swap) x = IsUnusedIn (run ∷ []) (inner.Swap swap) x
ContentGives choices parts run number (Group physical membership content) x =
    IsInFreeExtent parts content x
    ⊎ SomeLogical (λ lv volume. LogicalGives choices number lv volume x) content.volumes.items
ContentGives choices parts run number (Member physical membership) x = ⊥
ContentGives choices parts run number (Unread cause) x = ⊥

-- what a partition gives up: all of it, where it is zeroed, and what its content doesn't use
abbrev pub PartGives : Choices → List GuestPart → GuestPart → ℕ → Type 0
PartGives choices parts part x =
    (IsTrue (is_zeroed_part choices part) × IsIn (run_of part.start part.count) x)
    ⊎ ContentGives choices parts (run_of part.start part.count) part.number part.content x

abbrev pub ContentKeeps : Choices → List GuestPart → ℕ → Content → ℕ → Type 0
ContentKeeps choices parts number Extended x = ⊥
ContentKeeps choices parts number (Xfs volume) x = ⊥
ContentKeeps choices parts number (Swap swap) x = ⊥
ContentKeeps choices parts number (Group physical membership content) x =
    (IsTrue (is_ignored_group choices number) × IsInFreeExtent parts content x)
    ⊎ SomeLogical (λ lv volume. LogicalKeeps choices number lv volume x) content.volumes.items
ContentKeeps choices parts number (Member physical membership) x = ⊥
ContentKeeps choices parts number (Unread cause) x = ⊥

-- what it keeps: all of it, where it is ignored, the free extents of an ignored group, and ignored logical volumes
abbrev pub PartKeeps : Choices → List GuestPart → GuestPart → ℕ → Type 0
PartKeeps choices parts part x =
    (IsTrue (is_ignored_part choices part) × IsIn (run_of part.start part.count) x)
    ⊎ ContentKeeps choices parts part.number part.content x

-- ---- a guest

-- the same of some partition
pub record SomePart (does : GuestPart → Type 0) (parts : List GuestPart) : Type 0 where
  pub part : GuestPart
  pub among : Contains parts part
  pub does_so : does part

-- sector x of the guest's disk is free for a job with these choices
pub record IsFreeSector (guest : GuestView) (choices : Choices) (x : ℕ) : Type 0 where
  pub on_disk : x < guest.sectors
  pub given : SomePart (λ part. PartGives choices guest.parts part x) guest.parts
  pub not_kept : SomePart (λ part. PartKeeps choices guest.parts part x) guest.parts → ⊥
