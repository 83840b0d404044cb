-- The partitions whose metadata areas hold one text, as a group takes them, and where its volumes stand on the disk.
use Rattle.std.specs.Prelude.{◌≡◌, ◌≢◌, ℕ, suc, Bool, false, List, [], ◌∷◌, map, if◌then◌else◌, ◌==◌, slice_get}
use Rattle.std.specs.Str.{bytes_eq}
use Rattle.disk_base.specs.Run.{AreApart, run_of}
use Rattle.disk_base.specs.declared.run.Run.{Run}
use Rattle.disk_view.specs.Join.{joined_runs, total}
use Rattle.group_runs.specs.Places.{disk_runs}
use Rattle.lvm_group.specs.Volumes.{device_sectors}
use Rattle.lvm_group.specs.declared.group.Group.{Group}
use Rattle.lvm_group.specs.declared.spans.Volume.{Volume}
use Rattle.lvm_group.specs.declared.types.Member.{Member}
use Rattle.lvm_group.specs.declared.types.PhysicalVolume.{PhysicalVolume}
use Rattle.partition_content.specs.declared.found.Found.{Found}
use Rattle.partition_content.specs.declared.found.Found.TheVariants.{Physical as IsPhysical, Inner as IsAlone}
use Rattle.partition_content.specs.declared.found.Physical.{Physical}
use Rattle.volume_content.specs.Inner.{InnerFits, IsInner}
use Rattle.group_content.specs.declared.types.FoundPartition.{FoundPartition}
use Rattle.group_content.specs.declared.types.GroupContent.{GroupContent}
use Rattle.group_content.specs.declared.types.GroupVolume.{GroupVolume}

-- ---- members

-- a physical volume as a member of a group
abbrev pub member_of : FoundPartition → Physical → Member
member_of partition physical = record { part = partition.number; label = physical.label; sectors = partition.run.count }

-- what is found is a physical volume with that text
abbrev pub has_text : List ℕ → Found → Bool
has_text text (IsPhysical physical) = bytes_eq physical.first.text text
has_text text (IsAlone inner) = false

-- such a one before others
abbrev pub member_before : List ℕ → FoundPartition → Found → List Member → List Member
member_before text partition (IsPhysical physical) members =
    if bytes_eq physical.first.text text then member_of partition physical ∷ members else members
member_before text partition (IsAlone inner) members = members

-- all that have the text, by partition
abbrev pub members_with : List ℕ → List FoundPartition → List Member
members_with text [] = []
members_with text (partition ∷ partitions) = member_before text partition partition.found (members_with text partitions)

-- the number of the first of them
abbrev pub first_part : List Member → ℕ
first_part [] = 0
first_part (m ∷ ms) = m.part

-- ---- where they stand

-- the run of the partition of that number
abbrev pub run_numbered : ℕ → List FoundPartition → Run
run_numbered number [] = run_of 0 0
run_numbered number (partition ∷ partitions) =
    if partition.number == number then partition.run else run_numbered number partitions

-- the runs of members on the disk
abbrev pub member_runs : List FoundPartition → List Member → List Run
member_runs partitions = map (λ (m : Member). run_numbered m.part partitions)

-- those of each logical volume of a group whose members stand in these runs
abbrev pub volume_places : List Run → Group → List (List Run)
volume_places members group = map (λ (volume : Volume). disk_runs members volume.runs) group.volumes

-- how many sectors the physical volume with that number of a partition has by the text
abbrev pub device_from : ℕ → ℕ → ℕ → List Member → List PhysicalVolume → ℕ
device_from n extent number [] physicals = 0
device_from n extent number (m ∷ ms) physicals =
    if m.part == number then device_sectors extent (slice_get physicals n)
    else device_from (suc n) extent number ms physicals

abbrev pub device_of : Group → ℕ → ℕ
device_of group number = device_from 0 group.spelt.extent number group.members group.spelt.physicals

-- ---- what volumes hold

-- the runs of a logical volume
abbrev pub runs_held : GroupVolume → List Run
runs_held volume = volume.runs.items

-- the logical volumes stand where the group has them
abbrev pub AreInPlace : List FoundPartition → GroupContent → Type 0
AreInPlace partitions content =
    map runs_held content.volumes.items ≡ volume_places (member_runs partitions content.group.members) content.group

-- a logical volume holds that
abbrev pub HoldsInner : List ℕ → GroupVolume → Type 0
HoldsInner image volume = IsInner (total volume.runs.items) (joined_runs image volume.runs.items) volume.inner

abbrev pub VolumeFits : GroupVolume → Type 0
VolumeFits volume = InnerFits (total volume.runs.items) volume.inner

-- ---- how partitions lie

-- two physical volumes share no sector
abbrev pub AreApartIn : Run → Run → Found → Found → Type 0
AreApartIn one other (IsPhysical physical) (IsPhysical physical') = AreApart one other
AreApartIn one other found found' = Unit {0}

abbrev pub LieApart : FoundPartition → FoundPartition → Type 0
LieApart one other = AreApartIn one.run other.run one.found other.found

abbrev pub HaveTwoNumbers : FoundPartition → FoundPartition → Type 0
HaveTwoNumbers one other = one.number ≢ other.number
