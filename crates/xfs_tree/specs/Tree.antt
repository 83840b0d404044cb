-- Trees: what is seen of one in a volume, and what is read of what is seen. A volume is a function from a block's number to
-- its bytes.
use Rattle.std.specs.Prelude.{◌≡◌, ℕ, zero, suc, ◌+◌, ◌-◌, ◌*◌, ◌<◌, false, cond, IsTrue, List, [], ◌∷◌, map, length, replicate, slice_index, slice_index_or, ◌⊎◌}
use Rattle.std.specs.List.{All, Contains, flat_map}
use Rattle.block_claims.specs.Agreement.{block, IsTwice}
use Rattle.xfs_super.specs.Geometry.{Geometry}
use Rattle.xfs_super.specs.Super.{geometry_of}
use Rattle.xfs_super.specs.declared.geometry.Super.{Super}
use Rattle.xfs_tree.specs.declared.fault.TreeFault.{TreeFault}
use Rattle.xfs_tree.specs.declared.fault.TreeFault.TheVariants.{Checksum, Header, Level, Order, Range, Marked, Device, Memory}
use Rattle.xfs_tree.specs.Form.{Form, Setting, setting_of}
use Rattle.xfs_tree.specs.Block.{Sight, sight, count_in, spells, children, records_in, IsSoundBlock, IsBlockFault, Names}
use Rattle.xfs_tree.specs.Marks.{Claims, marked, AreFree, AreClaimed}

-- what is seen of a tree, level by level, whose uppermost blocks are these and stand at that height
unfoldable pub levels_below : {R : Type 0} → Setting R → (ℕ → List ℕ) → ℕ → ℕ → List ℕ → List (List Sight)
levels_below t volume zero least blocks = map (sight volume 0 least) blocks ∷ []
levels_below t volume (suc height) least blocks =
    map (sight volume (suc height) least) blocks
    ∷ levels_below t volume height 1 (flat_map (λ b. children t (sight volume (suc height) least b)) blocks)

-- all blocks that are seen, and their numbers
abbrev pub all_sights : List (List Sight) → List Sight
all_sights levels = flat_map (λ l. l) levels

abbrev pub blocks_of : List (List Sight) → List ℕ
blocks_of levels = map (λ s. s.at) (all_sights levels)

-- their numbers, level by level
abbrev pub numbers_of : List (List Sight) → List (List ℕ)
numbers_of levels = map (λ l. map (λ s. s.at) l) levels

-- the leaves
unfoldable pub leaves_of : List (List Sight) → List Sight
leaves_of [] = []
leaves_of (l ∷ []) = l
leaves_of (l ∷ m ∷ ls) = leaves_of (m ∷ ls)

-- the records of some leaves, and the leaf that each of them stands in
abbrev pub records_at : {R : Type 0} → Setting R → List Sight → List R
records_at t leaves = flat_map (records_in t) leaves

abbrev pub homes_at : {R : Type 0} → Setting R → List Sight → List ℕ
homes_at t leaves = flat_map (λ s. cond (spells t s) (replicate (count_in s.bytes) s.at) []) leaves

-- the records of a tree
abbrev pub records_of : {R : Type 0} → Setting R → List (List Sight) → List R
records_of t levels = records_at t (leaves_of levels)

-- record `k` is before the next one
abbrev pub IsBeforeNext : {R : Type 0} → Form R → List R → ℕ → Type 0
IsBeforeNext {R} form records k =
    (d : R) → IsTrue (form.before (slice_index_or records k d) (slice_index_or records (k + 1) d))

abbrev pub IsNotBeforeNext : {R : Type 0} → Form R → List R → ℕ → Type 0
IsNotBeforeNext {R} form records k =
    (d : R) → form.before (slice_index_or records k d) (slice_index_or records (k + 1) d) ≡ false

-- each record is before the next one
abbrev pub AreInOrder : {R : Type 0} → Form R → List R → Type 0
AreInOrder form records = (k : ℕ) → k + 1 < length records → IsBeforeNext form records k

-- what is seen is a tree without a fault
pub record IsSoundTree {R : Type 0} (t : Setting R) (geo : Geometry) (levels : List (List Sight)) : Type 0 where
  pub blocks : All (IsSoundBlock t geo) (all_sights levels)
  pub order : AreInOrder t.form (records_of t levels)

-- it is sound, none of its blocks was claimed or stands twice, and these are its records
pub record IsTree {R : Type 0} (t : Setting R) (geo : Geometry) (levels : List (List Sight)) (claimed : ℕ → ℕ)
    (records : List R) : Type 0 where
  pub sound : IsSoundTree t geo levels
  pub free : AreFree claimed (blocks_of levels)
  pub records_are : records ≡ records_of t levels

-- a block that is seen has that fault
pub record HasFaultyBlock {R : Type 0} (t : Setting R) (geo : Geometry) (sights : List Sight) (fault : TreeFault) : Type 0 where
  pub seen : Sight
  pub stands : Contains sights seen
  pub faulty : IsBlockFault t geo seen fault

-- a record that isn't before the next one, which stands in that leaf
pub record IsOutOfOrder {R : Type 0} (t : Setting R) (leaves : List Sight) (g b : ℕ) : Type 0 where
  pub place : ℕ
  pub two : place + 1 < length (records_at t leaves)
  pub unordered : IsNotBeforeNext t.form (records_at t leaves) place
  pub home : Names t g b (slice_index (homes_at t leaves) (place + 1))

-- why what is seen is no tree
abbrev pub HasTreeFault : {R : Type 0} → Setting R → Geometry → List (List Sight) → (ℕ → ℕ) → TreeFault → Type 0
HasTreeFault t geo levels claimed (Checksum g b) = HasFaultyBlock t geo (all_sights levels) (Checksum g b)
HasTreeFault t geo levels claimed (Header g b) = HasFaultyBlock t geo (all_sights levels) (Header g b)
HasTreeFault t geo levels claimed (Level g b) = HasFaultyBlock t geo (all_sights levels) (Level g b)
HasTreeFault t geo levels claimed (Range g b) = HasFaultyBlock t geo (all_sights levels) (Range g b)
HasTreeFault t geo levels claimed (Order g b) =
    HasFaultyBlock t geo (all_sights levels) (Order g b) ⊎ IsOutOfOrder t (leaves_of levels) g b
HasTreeFault t geo levels claimed (Marked g b) = IsTwice claimed (blocks_of levels) (g * t.agblocks + b)
HasTreeFault t geo levels claimed Device = Unit {0}
HasTreeFault t geo levels claimed Memory = Unit {0}

-- ---- the short tree of a root: a block of the group that owns the tree, at that height

abbrev pub short_setting : {R : Type 0} → Form R → Super → ℕ → Setting R
short_setting form geo group = setting_of form (geometry_of geo) group group

-- what is seen of it on an image
abbrev pub short_levels : {R : Type 0} → Form R → Super → ℕ → ℕ → ℕ → List ℕ → List (List Sight)
short_levels form geo group root levels image =
    levels_below (short_setting form geo group) (block image) (levels - 1) 0 ((group * geo.agblocks + root) ∷ [])

-- it is a tree without a fault, none of its blocks was claimed, and these are its records
abbrev pub IsShortTree : {R : Type 0} → Form R → Super → ℕ → ℕ → ℕ → List ℕ → Claims → List R → Type 0
IsShortTree form geo group root levels image claimed =
    IsTree (short_setting form geo group) (geometry_of geo) (short_levels form geo group root levels image)
    (marked geo.agblocks claimed)

-- why it isn't
abbrev pub HasShortFault : {R : Type 0} → Form R → Super → ℕ → ℕ → ℕ → List ℕ → Claims → TreeFault → Type 0
HasShortFault form geo group root levels image claimed =
    HasTreeFault (short_setting form geo group) (geometry_of geo) (short_levels form geo group root levels image)
    (marked geo.agblocks claimed)

-- its blocks were claimed
abbrev pub ShortClaimed : {R : Type 0} → Form R → Super → ℕ → ℕ → ℕ → List ℕ → Claims → Claims → Type 0
ShortClaimed form geo group root levels image old new =
    AreClaimed geo old (blocks_of (short_levels form geo group root levels image)) new
