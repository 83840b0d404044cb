-- Claims on the blocks of runs, run by run.
use Rattle.std.proofs.Common.{◌≡◌, ℕ, ◌+◌, ◌*◌, ◌<◌, ◌≤◌, true, nat_le, List, ◌∷◌, ◌++◌, length, take, drop, get_or, sym, ap, subst, ◌∙◌, arith}
use Rattle.std.proofs.lemmas.Bool.Decides.{nat_tests}
use Rattle.std.proofs.lemmas.Grind.{flat_map-append, take_at_read}
use Rattle.block_claims.specs.Agreement.{Claimed}
use Rattle.block_claims.proofs.Agreements.{claimed_on, times_in-append}
use Rattle.xfs_super.proofs.Lying.{group_lies_inside}
use Rattle.xfs_super.specs.Geometry.{Geometry, blocks_in_group, AreGroups}
use Rattle.xfs_tree.specs.Marks.{IsClaimFault}
use Rattle.xfs_tree.specs.declared.fault.TreeFault.{TreeFault}
use Rattle.xfs_tree.specs.declared.fault.TreeFault.TheVariants as tree
use Rattle.xfs_tree.specs.declared.free_run.ByStart.{ByStart}
use Rattle.xfs_tree.proofs.Levels.{pieces_more, list_at}
use Rattle.xfs_alloc.specs.Free.{run_blocks, runs_blocks}

at_most : (m n : ℕ) → nat_le m n ≡ true → m ≤ n
at_most m n h = grind (arith, nat_tests)

pub lies_inside : (d a c k group start count : ℕ) → AreGroups d a c k → group < c → nat_le (start + count) (blocks_in_group d a group) ≡ true → (group * a + start) + count ≤ d
lies_inside d a c k group start count g inside h =
    let whole : group * a + blocks_in_group d a group ≤ d = group_lies_inside d a c k group g inside in
    let less : start + count ≤ blocks_in_group d a group = at_most (start + count) (blocks_in_group d a group) h in
    omega arith

module _ (geo : Geometry) (group : ℕ) (old mid : ℕ → ℕ) where
  pub runs_more : (new : ℕ → ℕ) (runs : List ByStart) (i : ℕ) → i < length runs → Claimed old (runs_blocks geo group (take i runs)) mid
      → Claimed mid (run_blocks geo group (get_or runs i (record { start = 0; count = 0 }))) new → Claimed old (runs_blocks geo group (take (i + 1) runs)) new
  runs_more new runs i lt p q =
      let z : ByStart = record { start = 0; count = 0 } in
      let r : ByStart = get_or runs i z in
      let more : runs_blocks geo group (take (i + 1) runs) ≡ runs_blocks geo group (take i runs) ++ run_blocks geo group r =
      ap (λ (l : List ByStart). runs_blocks geo group l) (take_at_read runs i z lt).1 ∙ pieces_more (run_blocks geo group) (take i runs) r in
      subst (λ (l : List ℕ). Claimed old l new) (sym more) (claimed_on old mid new (runs_blocks geo group (take i runs)) (run_blocks geo group r) p q)

  fault_more : (xs ys zs : List ℕ) (fault : TreeFault) → Claimed old xs mid → IsClaimFault geo.agblocks mid ys fault → IsClaimFault geo.agblocks old (xs ++ (ys ++ zs)) fault
  fault_more xs ys zs (tree.Checksum h k) claimed due = absurd due
  fault_more xs ys zs (tree.Header h k) claimed due = absurd due
  fault_more xs ys zs (tree.Level h k) claimed due = absurd due
  fault_more xs ys zs (tree.Order h k) claimed due = absurd due
  fault_more xs ys zs (tree.Range h k) claimed due = absurd due
  fault_more xs ys zs (tree.Marked h k) claimed due =
      let n : ℕ = h * geo.agblocks + k in
      omega (arith, claimed n, due, times_in-append n xs (ys ++ zs), times_in-append n ys zs)
  fault_more xs ys zs tree.Device claimed due = absurd due
  fault_more xs ys zs tree.Memory claimed due = tt

  pub run_fault_in : (runs : List ByStart) (i : ℕ) (fault : TreeFault) → i < length runs → Claimed old (runs_blocks geo group (take i runs)) mid
      → IsClaimFault geo.agblocks mid (run_blocks geo group (get_or runs i (record { start = 0; count = 0 }))) fault → IsClaimFault geo.agblocks old (runs_blocks geo group runs) fault
  run_fault_in runs i fault lt claimed due =
      let z : ByStart = record { start = 0; count = 0 } in
      let r : ByStart = get_or runs i z in
      let whole : runs_blocks geo group runs ≡ runs_blocks geo group (take i runs) ++ (run_blocks geo group r ++ runs_blocks geo group (drop (i + 1) runs)) =
      ap (λ (l : List ByStart). runs_blocks geo group l) (list_at runs i z lt) ∙ flat_map-append (run_blocks geo group) (take i runs) (r ∷ drop (i + 1) runs) in
      subst (λ (l : List ℕ). IsClaimFault geo.agblocks old l fault) (sym whole)
      (fault_more (runs_blocks geo group (take i runs)) (run_blocks geo group r) (runs_blocks geo group (drop (i + 1) runs)) fault claimed due)
