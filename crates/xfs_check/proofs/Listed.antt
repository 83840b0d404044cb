-- The blocks that the list of free blocks has, one after the other.
use Rattle.std.proofs.Common.{◌≡◌, ℕ, ◌+◌, ◌<◌, ◌≤◌, List, [], ◌∷◌, length, map, take, subst}
use Rattle.std.specs.Prelude.{slice_index}
use Rattle.std.specs.List.{flat_map}
use Rattle.std.proofs.lemmas.List.{take_all}
use Rattle.std.proofs.lemmas.List.Concat.{flat_map_single}
use Rattle.std.proofs.lemmas.List.FromFn.{length-map-range_with_len}
use Rattle.block_claims.specs.Agreement.{Claimed}
use Rattle.xfs_inode.proofs.Pieces.{claim_fault_in, claimed_more}
use Rattle.xfs_super.specs.Headers.{used_entries}
use Rattle.xfs_super.specs.declared.agf.Agf.{Agf}
use Rattle.xfs_tree.specs.Marks.{IsClaimFault}
use Rattle.xfs_tree.specs.declared.fault.TreeFault.{TreeFault}

abbrev pub one_block : ℕ → ℕ → List ℕ
one_block base b = (base + b) ∷ []

pub many_used : (agf : Agf) (bytes : List ℕ) → length (used_entries agf bytes) ≡ agf.flcount
unfolding used_entries
many_used agf bytes = length-map-range_with_len _ 0 agf.flcount

module _ (base : ℕ) (xs : List ℕ) (old mid : ℕ → ℕ) where
  pub listed_more : (new : ℕ → ℕ) (i at : ℕ) → i < length xs → at ≡ base + slice_index xs i → Claimed old (flat_map (one_block base) (take i xs)) mid → Claimed mid (at ∷ []) new
      → Claimed old (flat_map (one_block base) (take (i + 1) xs)) new
  listed_more new i at lt is p q = claimed_more (one_block base) 0 old mid new xs i lt p (subst (λ (n : ℕ). Claimed mid (n ∷ []) new) is q)

  pub listed_fault : (a i at : ℕ) (fault : TreeFault) → i < length xs → at ≡ base + slice_index xs i → Claimed old (flat_map (one_block base) (take i xs)) mid → IsClaimFault a mid (at ∷ []) fault
      → IsClaimFault a old (map (λ b. base + b) xs) fault
  listed_fault a i at fault lt is p due =
      subst (λ (l : List ℕ). IsClaimFault a old l fault) (flat_map_single (λ b. base + b) xs)
      (claim_fault_in (one_block base) 0 old mid a xs i fault lt p (subst (λ (n : ℕ). IsClaimFault a mid (n ∷ []) fault) is due))

  pub listed_all : (i : ℕ) → length xs ≤ i → Claimed old (flat_map (one_block base) (take i xs)) mid → Claimed old (map (λ b. base + b) xs) mid
  listed_all i le p =
      subst (λ (l : List ℕ). Claimed old l mid) (flat_map_single (λ b. base + b) xs) (subst (λ (l : List ℕ). Claimed old (flat_map (one_block base) l) mid) (take_all i xs le) p)
