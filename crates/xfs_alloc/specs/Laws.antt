-- What holds of the free space of a group.
use Rattle.std.specs.Prelude.{◌≡◌, ℕ, List}
use Rattle.block_claims.specs.Agreement.{AgreeOn}
use Rattle.xfs_super.specs.Geometry.{Geometry}
use Rattle.xfs_super.specs.declared.agf.Agf.{Agf}
use Rattle.xfs_super.specs.declared.reason.Reason.{Reason}
use Rattle.xfs_tree.specs.Form.{IsGrown}
use Rattle.xfs_alloc.specs.Free.{FreeSeen, free_seen, tree_claims, AreSoundTrees, IsFreeSpace, SpeaksAgainstFree}

-- against sound free space no reason speaks
abbrev pub NoFreeReason : Type 0
NoFreeReason =
    (geo : Geometry) (group : ℕ) (agf : Agf) (s : FreeSeen) (claimed : ℕ → ℕ) (reason : Reason)
    → IsFreeSpace geo group agf s claimed → SpeaksAgainstFree geo group agf s claimed reason → ⊥

-- what is seen depends on the blocks of the trees alone
abbrev pub IsSameFree : Type 0
IsSameFree =
    (geo : Geometry) (group : ℕ) (agf : Agf) (volume other : ℕ → List ℕ)
    → AgreeOn (tree_claims (free_seen geo group agf volume)) volume other
    → free_seen geo group agf other ≡ free_seen geo group agf volume

-- a volume that grew shows the same trees in its old groups, and they are sound
pub record FreeGrows : Type 0 where
  pub same :
      (geo grown : Geometry) (group : ℕ) (agf : Agf) (volume : ℕ → List ℕ)
      → IsGrown geo grown → free_seen grown group agf volume ≡ free_seen geo group agf volume
  pub sound :
      (geo grown : Geometry) (group : ℕ) (s : FreeSeen)
      → IsGrown geo grown → AreSoundTrees geo group s → AreSoundTrees grown group s
