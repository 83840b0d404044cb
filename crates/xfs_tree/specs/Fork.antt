-- The tree whose root stands in an inode's fork: level, count, keys, and pointers after the greatest number of keys.
use Rattle.std.specs.Prelude.{◌≡◌, ℕ, ◌+◌, ◌-◌, ◌*◌, ◌/◌, ◌%◌, ◌^◌, ◌<◌, ◌≤◌, Bool, ◌&&◌, nat_lt, nat_le, cond, IsTrue, List, [], length, map, ◌⊎◌}
use Rattle.std.specs.List.{All, range_with_len}
use Rattle.block_claims.specs.Agreement.{block}
use Rattle.disk_base.specs.Fields.{big_at}
use Rattle.disk_base.specs.Image.{bytes_at}
use Rattle.xfs_super.specs.Geometry.{Geometry}
use Rattle.xfs_super.specs.Super.{geometry_of}
use Rattle.xfs_super.specs.declared.geometry.Super.{Super}
use Rattle.xfs_tree.specs.declared.extent.Extent.{Extent}
use Rattle.xfs_tree.specs.declared.fault.TreeFault.{TreeFault}
use Rattle.xfs_tree.specs.declared.fault.TreeFault.TheVariants.{Checksum, Header, Level, Order, Range, Marked, Device, Memory}
use Rattle.xfs_tree.specs.Block.{Sight, blocks_led_to, points_inside}
use Rattle.xfs_tree.specs.Form.{Form, Setting, setting_of}
use Rattle.xfs_tree.specs.Marks.{Claims, marked, AreClaimed}
use Rattle.xfs_tree.specs.Records.{by_file}
use Rattle.xfs_tree.specs.Tree.{levels_below, blocks_of, IsTree, HasTreeFault}

abbrev pub fork_level : List ℕ → ℕ
fork_level fork = big_at 2 fork 0

abbrev pub fork_count : List ℕ → ℕ
fork_count fork = big_at 2 fork 2

abbrev pub fork_capacity : List ℕ → ℕ
fork_capacity fork = (length fork - 4) / 16

abbrev pub fork_key : List ℕ → ℕ → List ℕ
fork_key fork i = bytes_at fork (4 + 8 * i) 8

abbrev pub fork_pointer : List ℕ → ℕ → ℕ
fork_pointer fork i = big_at 8 fork (4 + 8 * fork_capacity fork + 8 * i)

abbrev pub fork_pointers : List ℕ → List ℕ
fork_pointers fork = map (fork_pointer fork) (range_with_len 0 (fork_count fork))

abbrev pub spells_root : List ℕ → Bool
spells_root fork = nat_lt 0 (fork_level fork) && nat_le (fork_count fork) (fork_capacity fork)

-- what is seen of it
abbrev pub fork_blocks : {R : Type 0} → Setting R → List ℕ → List ℕ
fork_blocks t fork = cond (spells_root fork) (blocks_led_to t (fork_pointers fork)) []

abbrev pub levels_of_fork : {R : Type 0} → Setting R → (ℕ → List ℕ) → List ℕ → List (List Sight)
levels_of_fork t volume fork = levels_below t volume (fork_level fork - 1) 1 (fork_blocks t fork)

-- the root has room for what it has, which lies in the volume, and its keys rise
pub record IsRootInRange {R : Type 0} (t : Setting R) (geo : Geometry) (fork : List ℕ) : Type 0 where
  pub room : fork_count fork ≤ fork_capacity fork
  pub inside : All (λ p. IsTrue (points_inside t geo p)) (fork_pointers fork)

abbrev pub HaveRisingRootKeys : {R : Type 0} → Form R → List ℕ → Type 0
HaveRisingRootKeys form fork =
    (i : ℕ) → i + 1 < fork_count fork → IsTrue (form.key_before (fork_key fork i) (fork_key fork (i + 1)))

pub record IsSoundRoot {R : Type 0} (t : Setting R) (geo : Geometry) (fork : List ℕ) : Type 0 where
  pub level : 0 < fork_level fork
  pub range : IsRootInRange t geo fork
  pub order : HaveRisingRootKeys t.form fork

-- the group of an inode and the block in it, as a fault has room for them: the inode's number has the group in its upper bits
abbrev pub home_group : Geometry → ℕ → ℕ
home_group geo ino = ino / 2 ^ (geo.agblklog + geo.inopblog) % 2 ^ 32

abbrev pub home_block : Geometry → ℕ → ℕ
home_block geo ino = ino / 2 ^ geo.inopblog % 2 ^ geo.agblklog

abbrev pub NamesHome : Geometry → ℕ → ℕ → ℕ → Type 0
NamesHome geo ino g b = (g ≡ home_group geo ino) × (b ≡ home_block geo ino)

-- the root has that fault
abbrev pub IsRootFault : {R : Type 0} → Setting R → Geometry → List ℕ → TreeFault → Type 0
IsRootFault t geo fork (Checksum g b) = ⊥
IsRootFault t geo fork (Header g b) = ⊥
IsRootFault t geo fork (Level g b) = NamesHome geo t.owner g b × (0 < fork_level fork → ⊥)
IsRootFault t geo fork (Range g b) = NamesHome geo t.owner g b × (IsRootInRange t geo fork → ⊥)
IsRootFault t geo fork (Order g b) = NamesHome geo t.owner g b × (HaveRisingRootKeys t.form fork → ⊥)
IsRootFault t geo fork (Marked g b) = ⊥
IsRootFault t geo fork Device = ⊥
IsRootFault t geo fork Memory = ⊥

-- the tree of a fork, and why there is none
pub record IsTreeOfFork {R : Type 0} (t : Setting R) (geo : Geometry) (volume : ℕ → List ℕ) (fork : List ℕ) (claimed : ℕ → ℕ)
    (records : List R) : Type 0 where
  pub root : IsSoundRoot t geo fork
  pub tree : IsTree t geo (levels_of_fork t volume fork) claimed records

abbrev pub HasFaultOfFork : {R : Type 0} → Setting R → Geometry → (ℕ → List ℕ) → List ℕ → (ℕ → ℕ) → TreeFault → Type 0
HasFaultOfFork t geo volume fork claimed fault =
    IsRootFault t geo fork fault ⊎ HasTreeFault t geo (levels_of_fork t volume fork) claimed fault

-- ---- the extents of an inode's fork

abbrev pub fork_setting : Super → ℕ → Setting Extent
fork_setting geo ino = setting_of by_file (geometry_of geo) 0 ino

abbrev pub fork_levels : Super → ℕ → List ℕ → List ℕ → List (List Sight)
fork_levels geo ino fork image = levels_of_fork (fork_setting geo ino) (block image) fork

-- the fork holds a tree without a fault on an image, none of its blocks was claimed, and these are its extents
abbrev pub IsForkTree : Super → ℕ → List ℕ → List ℕ → Claims → List Extent → Type 0
IsForkTree geo ino fork image claimed =
    IsTreeOfFork (fork_setting geo ino) (geometry_of geo) (block image) fork (marked geo.agblocks claimed)

-- why it doesn't
abbrev pub HasForkFault : Super → ℕ → List ℕ → List ℕ → Claims → TreeFault → Type 0
HasForkFault geo ino fork image claimed =
    HasFaultOfFork (fork_setting geo ino) (geometry_of geo) (block image) fork (marked geo.agblocks claimed)

-- its blocks were claimed
abbrev pub ForkClaimed : Super → ℕ → List ℕ → List ℕ → Claims → Claims → Type 0
ForkClaimed geo ino fork image old new = AreClaimed geo old (blocks_of (fork_levels geo ino fork image)) new
