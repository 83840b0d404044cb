-- What the parts of a walk find.
use Rattle.std.specs.Prelude.{◌≡◌, ℕ, ◌+◌, ◌*◌, ◌<◌, ◌≤◌, true, List, ◌++◌, length}
use Rattle.std.specs.List.{All, flat_map}
use Rattle.xfs_super.specs.Geometry.{Geometry}
use Rattle.xfs_tree.specs.declared.fault.TreeFault.{TreeFault}
use Rattle.xfs_tree.specs.declared.fault.TreeFault.TheVariants.{Checksum, Header, Level, Order, Range, Marked, Device, Memory}
use Rattle.xfs_tree.specs.Form.{Form, Setting}
use Rattle.xfs_tree.specs.Block.{Sight, count_in, is_whole, level_in, capacity, children, records_in, IsHeader, IsSoundBlock, IsBlockFault, Names}
use Rattle.block_claims.specs.Agreement.{Claimed, IsTwice}
use Rattle.xfs_tree.specs.Fork.{IsRootFault}
use Rattle.xfs_tree.specs.Tree.{IsNotBeforeNext, IsOutOfOrder, HasFaultyBlock, records_at}

abbrev pub AreInVolume : Geometry → List ℕ → Type 0
AreInVolume geo blocks = All (λ n. n < geo.dblocks) blocks

-- a block is sound as far as its header and its count say
pub record HasSoundHead {R : Type 0} (t : Setting R) (s : Sight) (count : ℕ) : Type 0 where
  pub checksum : is_whole t.form.long s.bytes ≡ true
  pub header : IsHeader t s.at s.bytes
  pub level : level_in s.bytes ≡ s.height
  pub some : s.least ≤ count_in s.bytes
  pub room : count_in s.bytes ≤ capacity t.form s.height
  pub count_is : count ≡ count_in s.bytes

-- a node is sound, and its children stand behind those of the nodes before it and were claimed
pub record IsTakenNode {R : Type 0} (t : Setting R) (geo : Geometry) (s : Sight) (old new : ℕ → ℕ)
    (above below : List ℕ) : Type 0 where
  pub sound : IsSoundBlock t geo s
  pub children_are : below ≡ above ++ children t s
  pub claimed : Claimed old (children t s) new

-- a leaf is sound, and its records stand behind those of the leaves before it
pub record IsTakenLeaf {R : Type 0} (t : Setting R) (geo : Geometry) (s : Sight) (before records : List R) : Type 0 where
  pub sound : IsSoundBlock t geo s
  pub records_are : records ≡ before ++ records_in t s

-- the nodes of one level are sound, and their children were claimed
pub record IsTakenLevel {R : Type 0} (t : Setting R) (geo : Geometry) (sights : List Sight) (old new : ℕ → ℕ)
    (below : List ℕ) : Type 0 where
  pub sound : All (IsSoundBlock t geo) sights
  pub children_are : below ≡ flat_map (children t) sights
  pub claimed : Claimed old below new

-- some leaves are sound, and these are their records
pub record AreTakenLeaves {R : Type 0} (t : Setting R) (geo : Geometry) (sights : List Sight) (records : List R) : Type 0 where
  pub sound : All (IsSoundBlock t geo) sights
  pub records_are : records ≡ records_at t sights

-- why a node is refused, or a child of it
abbrev pub IsNodeFault : {R : Type 0} → Setting R → Geometry → Sight → (ℕ → ℕ) → TreeFault → Type 0
IsNodeFault t geo s claimed (Checksum g b) = IsBlockFault t geo s (Checksum g b)
IsNodeFault t geo s claimed (Header g b) = IsBlockFault t geo s (Header g b)
IsNodeFault t geo s claimed (Level g b) = IsBlockFault t geo s (Level g b)
IsNodeFault t geo s claimed (Range g b) = IsBlockFault t geo s (Range g b)
IsNodeFault t geo s claimed (Order g b) = IsBlockFault t geo s (Order g b)
IsNodeFault t geo s claimed (Marked g b) = IsTwice claimed (children t s) (g * t.agblocks + b)
IsNodeFault t geo s claimed Device = Unit {0}
IsNodeFault t geo s claimed Memory = Unit {0}

-- why a level of nodes is refused
abbrev pub IsLevelFault : {R : Type 0} → Setting R → Geometry → List Sight → (ℕ → ℕ) → TreeFault → Type 0
IsLevelFault t geo sights claimed (Checksum g b) = HasFaultyBlock t geo sights (Checksum g b)
IsLevelFault t geo sights claimed (Header g b) = HasFaultyBlock t geo sights (Header g b)
IsLevelFault t geo sights claimed (Level g b) = HasFaultyBlock t geo sights (Level g b)
IsLevelFault t geo sights claimed (Range g b) = HasFaultyBlock t geo sights (Range g b)
IsLevelFault t geo sights claimed (Order g b) = HasFaultyBlock t geo sights (Order g b)
IsLevelFault t geo sights claimed (Marked g b) = IsTwice claimed (flat_map (children t) sights) (g * t.agblocks + b)
IsLevelFault t geo sights claimed Device = Unit {0}
IsLevelFault t geo sights claimed Memory = Unit {0}

-- a record that stands behind `before` and isn't after the one before it
pub record IsOutBehind {R : Type 0} (form : Form R) (before records : List R) : Type 0 where
  pub place : ℕ
  pub behind : length before ≤ place + 1
  pub two : place + 1 < length records
  pub unordered : IsNotBeforeNext form records place

-- why a leaf is refused whose records stand behind those `before`
abbrev pub IsLeafFault : {R : Type 0} → Setting R → Geometry → Sight → List R → TreeFault → Type 0
IsLeafFault t geo s before (Checksum g b) = IsBlockFault t geo s (Checksum g b)
IsLeafFault t geo s before (Header g b) = IsBlockFault t geo s (Header g b)
IsLeafFault t geo s before (Level g b) = IsBlockFault t geo s (Level g b)
IsLeafFault t geo s before (Range g b) = IsBlockFault t geo s (Range g b)
IsLeafFault t geo s before (Order g b) = Names t g b s.at × IsOutBehind t.form before (before ++ records_in t s)
IsLeafFault t geo s before (Marked g b) = ⊥
IsLeafFault t geo s before Device = Unit {0}
IsLeafFault t geo s before Memory = Unit {0}

-- why a level of leaves is refused
abbrev pub AreLeavesFault : {R : Type 0} → Setting R → Geometry → List Sight → TreeFault → Type 0
AreLeavesFault t geo sights (Checksum g b) = HasFaultyBlock t geo sights (Checksum g b)
AreLeavesFault t geo sights (Header g b) = HasFaultyBlock t geo sights (Header g b)
AreLeavesFault t geo sights (Level g b) = HasFaultyBlock t geo sights (Level g b)
AreLeavesFault t geo sights (Range g b) = HasFaultyBlock t geo sights (Range g b)
AreLeavesFault t geo sights (Order g b) = IsOutOfOrder t sights g b
AreLeavesFault t geo sights (Marked g b) = ⊥
AreLeavesFault t geo sights Device = Unit {0}
AreLeavesFault t geo sights Memory = Unit {0}

-- why the root in a fork is refused, or memory is
abbrev pub IsRefusedRoot : {R : Type 0} → Setting R → Geometry → List ℕ → TreeFault → Type 0
IsRefusedRoot t geo fork (Checksum g b) = ⊥
IsRefusedRoot t geo fork (Header g b) = ⊥
IsRefusedRoot t geo fork (Level g b) = IsRootFault t geo fork (Level g b)
IsRefusedRoot t geo fork (Range g b) = IsRootFault t geo fork (Range g b)
IsRefusedRoot t geo fork (Order g b) = IsRootFault t geo fork (Order g b)
IsRefusedRoot t geo fork (Marked g b) = ⊥
IsRefusedRoot t geo fork Device = ⊥
IsRefusedRoot t geo fork Memory = Unit {0}
