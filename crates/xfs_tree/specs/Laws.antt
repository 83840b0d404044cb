-- What holds of every tree.
use Rattle.std.specs.Prelude.{◌≡◌, ℕ, ◌+◌, IsTrue, List, [], ◌∷◌}
use Rattle.std.specs.List.{All, AllPairs, flat_map}
use Rattle.block_claims.specs.Agreement.{AgreeOn}
use Rattle.xfs_super.specs.Geometry.{Geometry}
use Rattle.xfs_tree.specs.declared.fault.TreeFault.{TreeFault}
use Rattle.xfs_tree.specs.declared.fault.TreeFault.TheVariants.{Checksum, Header, Level, Order, Range, Marked, Device, Memory}
use Rattle.xfs_tree.specs.Block.{Sight, sight, children, records_in}
use Rattle.xfs_tree.specs.Fork.{IsTreeOfFork, HasFaultOfFork}
use Rattle.xfs_tree.specs.Form.{Form, Setting, setting_of, IsGrown}
use Rattle.xfs_tree.specs.Tree.{levels_below, blocks_of, records_of, AreInOrder, IsSoundTree, IsTree, HasTreeFault}

-- a fault that says nothing of the tree
abbrev pub SaysNothing : TreeFault → Type 0
SaysNothing (Checksum g b) = ⊥
SaysNothing (Header g b) = ⊥
SaysNothing (Level g b) = ⊥
SaysNothing (Range g b) = ⊥
SaysNothing (Order g b) = ⊥
SaysNothing (Marked g b) = ⊥
SaysNothing Device = Unit {0}
SaysNothing Memory = Unit {0}

-- a tree excludes each fault but those that say nothing of it
abbrev pub FaultsExclude : {R : Type 0} → Form R → Type 0
FaultsExclude {R} form =
    (t : Setting R) (geo : Geometry) (levels : List (List Sight)) (claimed : ℕ → ℕ) (records : List R) (fault : TreeFault)
    → IsTree t geo levels claimed records → HasTreeFault t geo levels claimed fault → SaysNothing fault

-- the same of the tree of a fork
abbrev pub ForkFaultsExclude : {R : Type 0} → Form R → Type 0
ForkFaultsExclude {R} form =
    (t : Setting R) (geo : Geometry) (volume : ℕ → List ℕ) (fork : List ℕ) (claimed : ℕ → ℕ) (records : List R) (fault : TreeFault)
    → IsTreeOfFork t geo volume fork claimed records → HasFaultOfFork t geo volume fork claimed fault → SaysNothing fault

-- what is seen has one list of records at most
abbrev pub IsOneTree : {R : Type 0} → Form R → Type 0
IsOneTree {R} form =
    (t : Setting R) (geo : Geometry) (levels : List (List Sight)) (claimed : ℕ → ℕ) (xs ys : List R)
    → IsTree t geo levels claimed xs → IsTree t geo levels claimed ys → xs ≡ ys

-- what is seen depends on the blocks that are seen alone
abbrev pub AreSameSights : {R : Type 0} → Form R → Type 0
AreSameSights {R} form =
    (t : Setting R) (volume other : ℕ → List ℕ) (height least : ℕ) (blocks : List ℕ)
    → AgreeOn (blocks_of (levels_below t volume height least blocks)) volume other
    → levels_below t other height least blocks ≡ levels_below t volume height least blocks

-- a tree of one level has the records of its root, and a higher one is the join, from left to right, of the trees below its root
pub record AreJoined {R : Type 0} (form : Form R) : Type 0 where
  pub one_level :
      (t : Setting R) (volume : ℕ → List ℕ) (least root : ℕ)
      → records_of t (levels_below t volume 0 least (root ∷ [])) ≡ records_in t (sight volume 0 least root)
  pub higher :
      (t : Setting R) (volume : ℕ → List ℕ) (height least root : ℕ)
      → records_of t (levels_below t volume (height + 1) least (root ∷ []))
      ≡ flat_map (λ p. records_of t (levels_below t volume height 1 (p ∷ []))) (children t (sight volume (height + 1) least root))

-- where each record is before the next one, it is before all that follow
abbrev pub AreAllInOrder : {R : Type 0} → Form R → Type 0
AreAllInOrder {R} form =
    (records : List R)
    → All (λ r. IsTrue (form.fits r)) records → AreInOrder form records → AllPairs (λ r s. IsTrue (form.before r s)) records

-- a volume that grew shows the same trees, and they are sound
pub record Grows {R : Type 0} (form : Form R) : Type 0 where
  pub same :
      (geo grown : Geometry) (group owner : ℕ)
      → IsGrown geo grown → setting_of form grown group owner ≡ setting_of form geo group owner
  pub sound :
      (t : Setting R) (geo grown : Geometry) (levels : List (List Sight))
      → t.form ≡ form → IsGrown geo grown → IsSoundTree t geo levels → IsSoundTree t grown levels
