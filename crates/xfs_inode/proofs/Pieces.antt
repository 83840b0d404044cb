-- Claims on the blocks of things, one thing after the other.
use Rattle.std.proofs.Common.{◌≡◌, ℕ, ◌+◌, ◌*◌, ◌<◌, ◌≤◌, List, ◌∷◌, ◌++◌, length, take, drop, get_or, sym, ap, subst, ◌∙◌, arith}
use Rattle.std.specs.List.{flat_map, range_with_len}
use Rattle.std.proofs.lemmas.Grind.{flat_map-append, take_at_read}
use Rattle.std.proofs.lemmas.List.{take_all}
use Rattle.std.proofs.lemmas.List.FromFn.{length-range_with_len, get_or-range_with_len}
use Rattle.block_claims.specs.Agreement.{Claimed}
use Rattle.block_claims.proofs.Agreements.{claimed_on, times_in-append}
use Rattle.xfs_tree.proofs.Levels.{pieces_more, list_at}
use Rattle.xfs_tree.specs.Marks.{IsClaimFault}
use Rattle.xfs_tree.specs.declared.fault.TreeFault.{TreeFault}
use Rattle.xfs_tree.specs.declared.fault.TreeFault.TheVariants as tree

module _ {X : Type 0} (blocks : X → List ℕ) (z : X) (old mid : ℕ → ℕ) where
  pub claimed_more : (new : ℕ → ℕ) (xs : List X) (i : ℕ) → i < length xs → Claimed old (flat_map blocks (take i xs)) mid
      → Claimed mid (blocks (get_or xs i z)) new → Claimed old (flat_map blocks (take (i + 1) xs)) new
  claimed_more new xs i lt p q =
      let x : X = get_or xs i z in
      let more : flat_map blocks (take (i + 1) xs) ≡ flat_map blocks (take i xs) ++ blocks x =
      ap (λ (l : List X). flat_map blocks l) (take_at_read xs i z lt).1 ∙ pieces_more blocks (take i xs) x in
      subst (λ (l : List ℕ). Claimed old l new) (sym more) (claimed_on old mid new (flat_map blocks (take i xs)) (blocks x) p q)

  fault_between : (a : ℕ) (xs ys zs : List ℕ) (fault : TreeFault) → Claimed old xs mid → IsClaimFault a mid ys fault → IsClaimFault a old (xs ++ (ys ++ zs)) fault
  fault_between a xs ys zs (tree.Checksum h k) claimed due = absurd due
  fault_between a xs ys zs (tree.Header h k) claimed due = absurd due
  fault_between a xs ys zs (tree.Level h k) claimed due = absurd due
  fault_between a xs ys zs (tree.Order h k) claimed due = absurd due
  fault_between a xs ys zs (tree.Range h k) claimed due = absurd due
  fault_between a xs ys zs (tree.Marked h k) claimed due =
      let n : ℕ = h * a + k in
      omega (arith, claimed n, due, times_in-append n xs (ys ++ zs), times_in-append n ys zs)
  fault_between a xs ys zs tree.Device claimed due = absurd due
  fault_between a xs ys zs tree.Memory claimed due = tt

  pub claim_fault_in : (a : ℕ) (xs : List X) (i : ℕ) (fault : TreeFault) → i < length xs → Claimed old (flat_map blocks (take i xs)) mid
      → IsClaimFault a mid (blocks (get_or xs i z)) fault → IsClaimFault a old (flat_map blocks xs) fault
  claim_fault_in a xs i fault lt claimed due =
      let x : X = get_or xs i z in
      let whole : flat_map blocks xs ≡ flat_map blocks (take i xs) ++ (blocks x ++ flat_map blocks (drop (i + 1) xs)) =
      ap (λ (l : List X). flat_map blocks l) (list_at xs i z lt) ∙ flat_map-append blocks (take i xs) (x ∷ drop (i + 1) xs) in
      subst (λ (l : List ℕ). IsClaimFault a old l fault) (sym whole)
      (fault_between a (flat_map blocks (take i xs)) (blocks x) (flat_map blocks (drop (i + 1) xs)) fault claimed due)

-- a run that begins at an equal block
pub claimed_from : (old new : ℕ → ℕ) (m n count : ℕ) → m ≡ n → Claimed old (range_with_len m count) new → Claimed old (range_with_len n count) new
claimed_from old new m n count e p = subst (λ (k : ℕ). Claimed old (range_with_len k count) new) e p

pub fault_from : (a : ℕ) (old : ℕ → ℕ) (m n count : ℕ) (fault : TreeFault) → m ≡ n → IsClaimFault a old (range_with_len m count) fault → IsClaimFault a old (range_with_len n count) fault
fault_from a old m n count fault e p = subst (λ (k : ℕ). IsClaimFault a old (range_with_len k count) fault) e p

-- the same of things that are counted
module _ (blocks : ℕ → List ℕ) (n : ℕ) where
  nth : (j : ℕ) → j < n → j ≡ get_or (range_with_len 0 n) j 0
  nth j lt = let is : get_or (range_with_len 0 n) j 0 ≡ 0 + j = get_or-range_with_len 0 n j 0 lt in omega (arith, is)

  pub counted_more : (old mid new : ℕ → ℕ) (j : ℕ) → j < n → Claimed old (flat_map blocks (take j (range_with_len 0 n))) mid
      → Claimed mid (blocks j) new → Claimed old (flat_map blocks (take (j + 1) (range_with_len 0 n))) new
  counted_more old mid new j lt p q =
      claimed_more blocks 0 old mid new (range_with_len 0 n) j (omega (arith, lt, length-range_with_len 0 n)) p (subst (λ (i : ℕ). Claimed mid (blocks i) new) (nth j lt) q)

  pub counted_fault : (old mid : ℕ → ℕ) (a j : ℕ) (fault : TreeFault) → j < n → Claimed old (flat_map blocks (take j (range_with_len 0 n))) mid
      → IsClaimFault a mid (blocks j) fault → IsClaimFault a old (flat_map blocks (range_with_len 0 n)) fault
  counted_fault old mid a j fault lt p due =
      claim_fault_in blocks 0 old mid a (range_with_len 0 n) j fault (omega (arith, lt, length-range_with_len 0 n)) p (subst (λ (i : ℕ). IsClaimFault a mid (blocks i) fault) (nth j lt) due)

  pub counted_all : (old new : ℕ → ℕ) (j : ℕ) → n ≤ j → Claimed old (flat_map blocks (take j (range_with_len 0 n))) new → Claimed old (flat_map blocks (range_with_len 0 n)) new
  counted_all old new j le p = subst (λ (l : List ℕ). Claimed old (flat_map blocks l) new) (take_all j (range_with_len 0 n) (omega (arith, le, length-range_with_len 0 n))) p
