-- A row of a tree: blocks of one height. What is said of it in a volume whose blocks are claimed or not.
use Rattle.std.specs.Prelude.{◌≡◌, ℕ, ◌-◌, ◌<◌, true, false, IsTrue, List, ◌++◌, length, slice_index_or, map}
use Rattle.std.specs.List.{All}
use Rattle.block_claims.specs.Agreement.{block}
use Rattle.xfs_super.specs.Super.{geometry_of}
use Rattle.xfs_tree.specs.declared.fault.TreeFault.{TreeFault}
use Rattle.xfs_tree.specs.declared.row.Row.{Row}
use Rattle.xfs_tree.specs.Block.{Sight, sight, block_seen, pointers, leads_to, points_inside, IsBlockFault}
use Rattle.xfs_tree.specs.Form.{Form, Setting, setting_of}
use Rattle.xfs_tree.specs.Marks.{Claims, marked}
use Rattle.xfs_tree.specs.Tree.{levels_below, IsTree, HasTreeFault}
use Rattle.xfs_tree.specs.inside.Reading.{AreInVolume, HasSoundHead, IsTakenNode, IsTakenLeaf, IsTakenLevel, AreTakenLeaves, IsNodeFault, IsLevelFault, IsLeafFault, AreLeavesFault}

-- the tree that the row belongs to
abbrev pub setting_of_row : {R : Type 0} → Form R → Row → Setting R
setting_of_row form row = setting_of form (geometry_of row.geo) row.group row.owner

-- a block of the row, which holds these bytes, or what an image holds there
abbrev pub held_in : Row → ℕ → List ℕ → Sight
held_in row at bytes = block_seen row.height row.least at bytes

abbrev pub seen_in : Row → List ℕ → ℕ → Sight
seen_in row image = sight (block image) row.height row.least

-- the block is sound but for what it has
abbrev pub JudgedIn : {R : Type 0} → Form R → Row → ℕ → List ℕ → ℕ → Type 0
JudgedIn form row at bytes = HasSoundHead (setting_of_row form row) (held_in row at bytes)

abbrev pub FaultIn : {R : Type 0} → Form R → Row → ℕ → List ℕ → TreeFault → Type 0
FaultIn form row at bytes = IsBlockFault (setting_of_row form row) (geometry_of row.geo) (held_in row at bytes)

-- what the pointers of a block lead to lies in the volume
abbrev pub PointersInside : {R : Type 0} → Form R → Row → List ℕ → Type 0
PointersInside form row bytes = All (λ p. IsTrue (points_inside (setting_of_row form row) (geometry_of row.geo) p)) (pointers form bytes)

-- what they lead to stands behind the blocks `above`
abbrev pub PointersTaken : {R : Type 0} → Form R → Row → List ℕ → List ℕ → List ℕ → Type 0
PointersTaken form row bytes above below = below ≡ above ++ map (leads_to (setting_of_row form row)) (pointers form bytes)

-- where the blocks `above` lie in the volume, those `below` do
abbrev pub StayInVolume : Row → List ℕ → List ℕ → Type 0
StayInVolume row above below = AreInVolume (geometry_of row.geo) above → AreInVolume (geometry_of row.geo) below

-- a node was taken, and why it wasn't
abbrev pub NodeTaken : {R : Type 0} → Form R → Row → Sight → Claims → Claims → List ℕ → List ℕ → Type 0
NodeTaken form row s old new =
    IsTakenNode (setting_of_row form row) (geometry_of row.geo) s (marked row.geo.agblocks old) (marked row.geo.agblocks new)

abbrev pub NodeRefused : {R : Type 0} → Form R → Row → Sight → Claims → TreeFault → Type 0
NodeRefused form row s claimed = IsNodeFault (setting_of_row form row) (geometry_of row.geo) s (marked row.geo.agblocks claimed)

-- a record is after the last of those before it, if there is one; there is one, and it isn't
abbrev pub IsAfterLast : {R : Type 0} → Form R → List R → R → Type 0
IsAfterLast {R} form records next =
    0 < length records → (d : R) → form.before (slice_index_or records (length records - 1) d) next ≡ true

abbrev pub IsNotAfterLast : {R : Type 0} → Form R → List R → R → Type 0
IsNotAfterLast {R} form records next =
    (0 < length records) × ((d : R) → form.before (slice_index_or records (length records - 1) d) next ≡ false)

-- a leaf was taken, and why it wasn't
abbrev pub LeafTaken : {R : Type 0} → Form R → Row → Sight → List R → List R → Type 0
LeafTaken form row s = IsTakenLeaf (setting_of_row form row) (geometry_of row.geo) s

abbrev pub LeafRefused : {R : Type 0} → Form R → Row → Sight → List R → TreeFault → Type 0
LeafRefused form row s = IsLeafFault (setting_of_row form row) (geometry_of row.geo) s

-- the nodes of the row were taken, and why they weren't
abbrev pub RowTaken : {R : Type 0} → Form R → Row → List ℕ → List ℕ → Claims → Claims → List ℕ → Type 0
RowTaken form row image nodes old new =
    IsTakenLevel (setting_of_row form row) (geometry_of row.geo) (map (seen_in row image) nodes)
    (marked row.geo.agblocks old) (marked row.geo.agblocks new)

abbrev pub RowRefused : {R : Type 0} → Form R → Row → List ℕ → List ℕ → Claims → TreeFault → Type 0
RowRefused form row image nodes claimed =
    IsLevelFault (setting_of_row form row) (geometry_of row.geo) (map (seen_in row image) nodes) (marked row.geo.agblocks claimed)

-- the leaves of the row were taken, and why they weren't
abbrev pub LeavesTaken : {R : Type 0} → Form R → Row → List ℕ → List ℕ → List R → Type 0
LeavesTaken form row image leaves = AreTakenLeaves (setting_of_row form row) (geometry_of row.geo) (map (seen_in row image) leaves)

abbrev pub LeavesRefused : {R : Type 0} → Form R → Row → List ℕ → List ℕ → TreeFault → Type 0
LeavesRefused form row image leaves = AreLeavesFault (setting_of_row form row) (geometry_of row.geo) (map (seen_in row image) leaves)

-- the records lie in the group of the tree
abbrev pub LieIn : {R : Type 0} → Form R → Row → List R → Type 0
LieIn form row records = All (λ r. IsTrue (form.inside (geometry_of row.geo) row.group r)) records

-- what is seen of the trees whose uppermost blocks are those of the row, and whether they are one tree without a fault
abbrev pub levels_under : {R : Type 0} → Form R → Row → List ℕ → List ℕ → List (List Sight)
levels_under form row image blocks = levels_below (setting_of_row form row) (block image) row.height row.least blocks

abbrev pub TreeUnder : {R : Type 0} → Form R → Row → List ℕ → List ℕ → Claims → List R → Type 0
TreeUnder form row image blocks claimed =
    IsTree (setting_of_row form row) (geometry_of row.geo) (levels_under form row image blocks) (marked row.geo.agblocks claimed)

abbrev pub FaultUnder : {R : Type 0} → Form R → Row → List ℕ → List ℕ → Claims → TreeFault → Type 0
FaultUnder form row image blocks claimed =
    HasTreeFault (setting_of_row form row) (geometry_of row.geo) (levels_under form row image blocks) (marked row.geo.agblocks claimed)
