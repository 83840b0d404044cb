-- What holds of every group.
use Rattle.std.specs.Prelude.{◌≢◌, ℕ, ◌+◌, ◌<◌, ◌≤◌, List, length, slice_get, slice_index_or, All, AllPairs, Contains}
use Rattle.disk_base.specs.Run.{AreApart, IsWithin}
use Rattle.disk_base.specs.declared.run.Run.{Run}
use Rattle.lvm_group.specs.Answer.{IsGroup}
use Rattle.lvm_group.specs.Volumes.{device_sectors}
use Rattle.lvm_group.specs.declared.group.Group.{Group}
use Rattle.lvm_group.specs.declared.types.Member.{Member}
use Rattle.lvm_text.specs.declared.tree.Item.{Item}
use Rattle.group_runs.specs.Places.{AreMemberRuns, LiesInMember, disk_runs, runs_of_volumes}

-- the volumes of a group lie in its physical volumes
abbrev pub VolumesLieInMembers : Type 0
VolumesLieInMembers =
    (items : List Item) (ms : List Member) (g : Group) (members : List Run) → IsGroup items ms g
    → AreMemberRuns g.members members → All (LiesInMember members) (runs_of_volumes g)

-- none of their runs ends behind what the text says that its physical volume has
abbrev pub LiesInDevice : Group → ℕ × ℕ × ℕ → Type 0
LiesInDevice g run = run.1 + run.2 ≤ device_sectors g.spelt.extent (slice_get g.spelt.physicals run.0)

abbrev pub VolumesLieInDevices : Type 0
VolumesLieInDevices = (items : List Item) (ms : List Member) (g : Group) → IsGroup items ms g → All (LiesInDevice g) (runs_of_volumes g)

-- where the physical volumes lie apart on the disk, so do the runs of all volumes
abbrev pub VolumesLieApart : Type 0
VolumesLieApart =
    (items : List Item) (ms : List Member) (g : Group) (members : List Run) → IsGroup items ms g
    → AreMemberRuns g.members members → AllPairs AreApart members
    → AllPairs AreApart (disk_runs members (runs_of_volumes g))

-- and where these lie on the disk, so does what lies in them
abbrev pub RunsLieOnDisk : Type 0
RunsLieOnDisk =
    (size : ℕ) (members : List Run) (runs : List (ℕ × ℕ × ℕ)) → All (IsWithin size) members
    → All (LiesInMember members) runs → All (IsWithin size) (disk_runs members runs)

-- the physical volumes of a group are among those that were found
abbrev pub MembersAreFound : Type 0
MembersAreFound = (items : List Item) (ms : List Member) (g : Group) → IsGroup items ms g → All (Contains ms) g.members

-- and no two of them are one
abbrev pub MembersDiffer : Type 0
MembersDiffer =
    (items : List Item) (ms : List Member) (g : Group) → IsGroup items ms g
    → AllPairs (λ (a b : Member). a ≢ b) g.members

-- what the text says that a physical volume has ends within its partition
abbrev pub DevicesFit : Type 0
DevicesFit =
    (items : List Item) (ms : List Member) (g : Group) (m : ℕ) (default : Member) → IsGroup items ms g
    → m < length g.members
    → device_sectors g.spelt.extent (slice_get g.spelt.physicals m) ≤ (slice_index_or g.members m default).sectors
