-- The tree of a fork: its root, and what is seen below it.
use Rattle.std.proofs.Common.{◌≡◌, ℕ, ◌-◌, ◌<◌, ◌≤◌, false, ◌&&◌, nat_lt, nat_le, true, List, [], get_or, map, inr, sym, ap, subst, ◌∙◌, arith}
use Rattle.std.proofs.lemmas.Bool.Decides.{nat_tests}
use Rattle.std.proofs.lemmas.List.FromFn.{length-map-range_with_len, get_or-map-range_with_len}
use Rattle.disk_base.specs.Memory.{true_is_not_false}
use Rattle.xfs_super.specs.Geometry.{Geometry}
use Rattle.xfs_tree.specs.declared.fault.TreeFault.{TreeFault}
use Rattle.xfs_tree.specs.Form.{Setting}
use Rattle.xfs_tree.specs.Block.{Sight, blocks_led_to, leads_to, points_inside}
use Rattle.block_claims.specs.Agreement.{Claimed}
use Rattle.xfs_tree.specs.Tree.{levels_below, blocks_of, IsTree, HasTreeFault}
use Rattle.xfs_tree.specs.Fork.{fork_level, fork_count, fork_capacity, fork_pointer, fork_pointers, fork_blocks, levels_of_fork, spells_root, IsRootInRange, IsSoundRoot, IsTreeOfFork, HasFaultOfFork}
use Rattle.xfs_tree.proofs.Blocks.{if_true, kept_all}

-- a pointer of the root that lies outside is a fault
pub root_pointer_outside : {R : Type 0} (t : Setting R) (geo : Geometry) (fork : List ℕ) (i : ℕ) → i < fork_count fork → points_inside t geo (fork_pointer fork i) ≡ false → IsRootInRange t geo fork → ⊥
root_pointer_outside t geo fork i lt out range =
    let here : points_inside t geo (get_or (fork_pointers fork) i 0) ≡ true = range.inside i 0 (omega (arith, length-map-range_with_len (fork_pointer fork) 0 (fork_count fork))) in
    let same : get_or (fork_pointers fork) i 0 ≡ fork_pointer fork i = get_or-map-range_with_len (fork_pointer fork) 0 (fork_count fork) i i 0 lt (omega arith) in
    true_is_not_false (sym here ∙ ap (λ (p : ℕ). points_inside t geo p) same ∙ out)

spelt : (m n k : ℕ) → 0 < m → n ≤ k → (nat_lt 0 m && nat_le n k) ≡ true
spelt m n k p q = grind (arith, nat_tests)

-- what a sound root points to is seen
pub fork_seen : {R : Type 0} (t : Setting R) (geo : Geometry) (disk : ℕ → List ℕ) (fork : List ℕ) (h : ℕ) (items : List ℕ) → h ≡ fork_level fork - 1 → items ≡ map (leads_to t) (fork_pointers fork) → IsSoundRoot t geo fork
    → levels_below t disk h 1 items ≡ levels_of_fork t disk fork
fork_seen t geo disk fork h items high are root =
    let blocks : fork_blocks t fork ≡ map (leads_to t) (fork_pointers fork) =
    if_true (spells_root fork) (blocks_led_to t (fork_pointers fork)) [] (spelt (fork_level fork) (fork_count fork) (fork_capacity fork) root.level root.range.room) ∙ kept_all t geo (fork_pointers fork) root.range.inside in
    ap (λ (n : ℕ). levels_below t disk n 1 items) high ∙ ap (λ (l : List ℕ). levels_below t disk (fork_level fork - 1) 1 l) (are ∙ sym blocks)

module _ {R : Type 0} (t : Setting R) (geo : Geometry) (disk : ℕ → List ℕ) (fork : List ℕ) (h : ℕ) (items : List ℕ) (high : h ≡ fork_level fork - 1) (are : items ≡ map (leads_to t) (fork_pointers fork)) (root : IsSoundRoot t geo fork) where
  pub fork_fault : (old : ℕ → ℕ) (fault : TreeFault) → HasTreeFault t geo (levels_below t disk h 1 items) old fault → HasFaultOfFork t geo disk fork old fault
  fork_fault old fault due = inr (subst (λ (l : List (List Sight)). HasTreeFault t geo l old fault) (fork_seen t geo disk fork h items high are root) due)

  pub fork_tree : (old : ℕ → ℕ) (records : List R) → IsTree t geo (levels_below t disk h 1 items) old records → IsTreeOfFork t geo disk fork old records
  fork_tree old records tree = record { root = root; tree = subst (λ (l : List (List Sight)). IsTree t geo l old records) (fork_seen t geo disk fork h items high are root) tree }

  pub fork_claimed : (old new : ℕ → ℕ) → Claimed old (blocks_of (levels_below t disk h 1 items)) new → Claimed old (blocks_of (levels_of_fork t disk fork)) new
  fork_claimed old new claimed = subst (λ (l : List (List Sight)). Claimed old (blocks_of l) new) (fork_seen t geo disk fork h items high are root) claimed
