-- A fork that was read is sound, or a reason speaks against it.
use Rattle.std.proofs.Common.{◌≡◌, ℕ, ◌+◌, ◌*◌, Bool, List, ◌++◌, ◌⊎◌, inl, inr, refl, sym, ap, subst, ◌∙◌, arith, true, false}
use Rattle.block_claims.specs.Agreement.{Claimed, IsTwice}
use Rattle.block_claims.proofs.Agreements.{twice_on, times_in-append}
use Rattle.xfs_super.specs.Geometry.{Geometry}
use Rattle.xfs_super.specs.declared.reason.CheckFault.TheVariants as check
use Rattle.xfs_super.specs.declared.reason.Reason.TheVariants as why
use Rattle.xfs_tree.specs.Block.{Sight}
use Rattle.xfs_tree.specs.Fork.{IsRootFault}
use Rattle.xfs_tree.specs.Marks.{Claims, marked, IsClaimFault}
use Rattle.xfs_tree.specs.Tree.{blocks_of, HasTreeFault}
use Rattle.xfs_tree.proofs.Claims.{claimed_free}
use Rattle.xfs_tree.specs.declared.extent.Extent.{Extent}
use Rattle.xfs_tree.specs.declared.fault.TreeFault.{TreeFault}
use Rattle.xfs_tree.specs.declared.fault.TreeFault.TheVariants as tree
use Rattle.xfs_inode.specs.Core.{InodeFork, fork_holds, fork_of}
use Rattle.xfs_inode.specs.declared.core_fields.Core.{Core}
use Rattle.xfs_inode.specs.Extents.{AreSoundExtents}
use Rattle.xfs_inode.specs.ForkReading.{IsSoundForkTree, IsSoundFork, IsBadForkTree, SpeaksAgainstFork, HasFaultInFork}
use Rattle.xfs_inode.specs.Seen.{SeenFork, fork_seen, fork_tree, fork_extents, fork_claims, extent_setting}
use Rattle.xfs_inode.specs.inside.Reading.{IsReadFork, IsReadFault}
use Rattle.xfs_inode.specs.inside.Telling.{extents_blocks}
use Rattle.xfs_inode.specs.TreeFaults.{told_of_tree}
use Rattle.xfs_inode.proofs.Seeing.{seen_levels, seen_extents, seen_claims}

module _ (geo : Geometry) (volume : ℕ → List ℕ) (f : InodeFork) (old : ℕ → ℕ) where
  abbrev pub levels : List (List Sight)
  levels = fork_tree volume geo f

  abbrev pub seen : SeenFork
  seen = fork_seen volume geo f

  bad_tree : (fault : TreeFault) (g b : ℕ) → fork_holds f ≡ true → IsBadForkTree geo f levels g b → HasFaultInFork geo f seen old (check.Bad (why.Tree g b))
  bad_tree fault g b holds bad = (holds, subst (λ (l : List (List Sight)). IsBadForkTree geo f l g b) (sym (seen_levels volume geo f)) bad)

  -- the tree is refused
  pub tree_refused : (fault : TreeFault) → fork_holds f ≡ true → f.format ≡ 3 → (IsRootFault (extent_setting geo f.ino) geo f.bytes fault) ⊎ (HasTreeFault (extent_setting geo f.ino) geo levels old fault) → HasFaultInFork geo f seen old (told_of_tree geo.agblocks fault)
  tree_refused (tree.Checksum g b) holds three (inl due) = absurd due
  tree_refused (tree.Checksum g b) holds three (inr due) = bad_tree (tree.Checksum g b) g b holds (record { rooted = three; fault = tree.Checksum g b; names = (refl, refl); due = inr due })
  tree_refused (tree.Header g b) holds three (inl due) = absurd due
  tree_refused (tree.Header g b) holds three (inr due) = bad_tree (tree.Header g b) g b holds (record { rooted = three; fault = tree.Header g b; names = (refl, refl); due = inr due })
  tree_refused (tree.Level g b) holds three (inl due) = bad_tree (tree.Level g b) g b holds (record { rooted = three; fault = tree.Level g b; names = (refl, refl); due = inl due })
  tree_refused (tree.Level g b) holds three (inr due) = bad_tree (tree.Level g b) g b holds (record { rooted = three; fault = tree.Level g b; names = (refl, refl); due = inr due })
  tree_refused (tree.Order g b) holds three (inl due) = bad_tree (tree.Order g b) g b holds (record { rooted = three; fault = tree.Order g b; names = (refl, refl); due = inl due })
  tree_refused (tree.Order g b) holds three (inr due) = bad_tree (tree.Order g b) g b holds (record { rooted = three; fault = tree.Order g b; names = (refl, refl); due = inr due })
  tree_refused (tree.Range g b) holds three (inl due) = bad_tree (tree.Range g b) g b holds (record { rooted = three; fault = tree.Range g b; names = (refl, refl); due = inl due })
  tree_refused (tree.Range g b) holds three (inr due) = bad_tree (tree.Range g b) g b holds (record { rooted = three; fault = tree.Range g b; names = (refl, refl); due = inr due })
  tree_refused (tree.Marked g b) holds three (inl due) = absurd due
  tree_refused (tree.Marked g b) holds three (inr due) =
      (holds, inl (subst (λ (l : List (List Sight)). IsTwice old (blocks_of l) (g * geo.agblocks + b)) (sym (seen_levels volume geo f)) due))
  tree_refused tree.Device holds three due = tt
  tree_refused tree.Memory holds three due = tt

  pub read_refused : (fault : TreeFault) → fork_holds f ≡ true → IsReadFault geo volume f old fault → HasFaultInFork geo f seen old (told_of_tree geo.agblocks fault)
  read_refused fault holds (inl memory) = subst (λ (x : TreeFault). HasFaultInFork geo f seen old (told_of_tree geo.agblocks x)) (sym memory) tt
  read_refused fault holds (inr due) = tree_refused fault holds due.0 due.1

  -- the extents are
  pub extents_refused : (es : List Extent) (ino : ℕ) → ino ≡ f.ino → fork_holds f ≡ true → es ≡ fork_extents geo f levels → (AreSoundExtents geo es → ⊥) → SpeaksAgainstFork geo f seen old (why.Extent ino)
  extents_refused es ino named holds is unsound =
      (named, holds, λ sound. unsound (subst (AreSoundExtents geo) (seen_extents volume geo f ∙ sym is) sound))

  -- a block of theirs was claimed before
  pub claims_refused : (mid : ℕ → ℕ) (es : List Extent) (fault : TreeFault) → fork_holds f ≡ true → es ≡ fork_extents geo f levels → AreSoundExtents geo es → Claimed old (blocks_of levels) mid
      → IsClaimFault geo.agblocks mid (extents_blocks geo es) fault → HasFaultInFork geo f seen old (told_of_tree geo.agblocks fault)
  claims_refused mid es (tree.Checksum g b) holds is sound claimed due = absurd due
  claims_refused mid es (tree.Header g b) holds is sound claimed due = absurd due
  claims_refused mid es (tree.Level g b) holds is sound claimed due = absurd due
  claims_refused mid es (tree.Order g b) holds is sound claimed due = absurd due
  claims_refused mid es (tree.Range g b) holds is sound claimed due = absurd due
  claims_refused mid es (tree.Marked g b) holds is sound claimed due =
      let n : ℕ = g * geo.agblocks + b in
      let all : blocks_of levels ++ extents_blocks geo es ≡ fork_claims seen =
      ap (λ (l : List Extent). blocks_of levels ++ extents_blocks geo l) is ∙ sym (seen_claims volume geo f) in
      (holds, inr (subst (AreSoundExtents geo) (is ∙ sym (seen_extents volume geo f)) sound, subst (λ (l : List ℕ). IsTwice old l n) all (twice_on old mid (blocks_of levels) (extents_blocks geo es) n claimed due)))
  claims_refused mid es tree.Device holds is sound claimed due = absurd due
  claims_refused mid es tree.Memory holds is sound claimed due = tt

  -- all is claimed, and the fork is sound
  pub all_claimed : (mid new : ℕ → ℕ) (es : List Extent) → es ≡ fork_extents geo f levels → Claimed old (blocks_of levels) mid → Claimed mid (extents_blocks geo es) new → Claimed old (fork_claims seen) new
  all_claimed mid new es is p q =
      let all : blocks_of levels ++ extents_blocks geo es ≡ fork_claims seen =
      ap (λ (l : List Extent). blocks_of levels ++ extents_blocks geo l) is ∙ sym (seen_claims volume geo f) in
      subst (λ (l : List ℕ). Claimed old l new) all (λ n. omega (arith, p n, q n, times_in-append n (blocks_of levels) (extents_blocks geo es)))

  pub fork_is_sound : (new : Claims) (es : List Extent) → fork_holds f ≡ true → IsReadFork geo volume f es → AreSoundExtents geo es → Claimed old (fork_claims seen) (marked geo.agblocks new) → IsSoundFork geo f seen old
  fork_is_sound new es holds read sound claimed = record {
    holds = holds;
    tree = subst (IsSoundForkTree geo f) (sym (seen_levels volume geo f)) read.tree;
    extents = subst (AreSoundExtents geo) (read.extents_are ∙ sym (seen_extents volume geo f)) sound;
    free = claimed_free old geo.agblocks new (fork_claims seen) claimed;
  }

pub ino_of_fork : (geo : Geometry) (core : Core) (bytes : List ℕ) (attribute : Bool) → (fork_of geo core bytes attribute).ino ≡ core.ino
ino_of_fork geo core bytes true = refl
ino_of_fork geo core bytes false = refl
