-- What is seen of a fork: its extents, and what it claims.
use Rattle.std.proofs.Common.{◌≡◌, ℕ, ◌==◌, List, [], ◌∷◌, ◌++◌, map, refl, ap, ◌∙◌, arith}
use Rattle.std.specs.List.{flat_map}
use Rattle.std.proofs.lemmas.Bool.{cond-true, cond-false, eq-eqb, ne_eqb}
use Rattle.std.proofs.lemmas.List.Elements.{All-nil}
use Rattle.xfs_super.specs.Geometry.{Geometry}
use Rattle.xfs_tree.specs.Block.{Sight, IsSoundBlock}
use Rattle.xfs_tree.specs.Fork.{levels_of_fork}
use Rattle.xfs_tree.specs.Form.{Setting}
use Rattle.xfs_tree.specs.Tree.{blocks_of, leaves_of, records_of, IsSoundTree}
use Rattle.xfs_tree.specs.declared.extent.Extent.{Extent}
use Rattle.xfs_inode.specs.Core.{InodeFork}
use Rattle.xfs_inode.specs.Extents.{extent_blocks, listed_extents}
use Rattle.xfs_inode.specs.Seen.{FileBlock, file_block_at, SeenExtent, extent_seen, extent_claims, fork_tree, fork_extents, fork_seen, fork_claims, extents_seen, extent_setting}
use Rattle.xfs_inode.specs.inside.Telling.{extents_blocks}

numbers_again : (volume : ℕ → List ℕ) (xs : List ℕ) → map (λ (b : FileBlock). b.at) (map (file_block_at volume) xs) ≡ xs
numbers_again volume [] = refl
numbers_again volume (x ∷ xs) = ap (λ (l : List ℕ). x ∷ l) (numbers_again volume xs)

claims_again : (volume : ℕ → List ℕ) (geo : Geometry) (e : Extent) → extent_claims (extent_seen volume geo e) ≡ extent_blocks geo e
unfolding extent_seen
claims_again volume geo e = numbers_again volume (extent_blocks geo e)

pub extents_again : (volume : ℕ → List ℕ) (geo : Geometry) (es : List Extent) → map (λ (e : SeenExtent). e.extent) (map (extent_seen volume geo) es) ≡ es
unfolding extent_seen
extents_again volume geo [] = refl
extents_again volume geo (e ∷ es) = ap (λ (l : List Extent). e ∷ l) (extents_again volume geo es)

pub all_claims_again : (volume : ℕ → List ℕ) (geo : Geometry) (es : List Extent) → flat_map extent_claims (map (extent_seen volume geo) es) ≡ extents_blocks geo es
all_claims_again volume geo [] = refl
all_claims_again volume geo (e ∷ es) =
    ap (λ (l : List ℕ). l ++ flat_map extent_claims (map (extent_seen volume geo) es)) (claims_again volume geo e)
    ∙ ap (λ (l : List ℕ). extent_blocks geo e ++ l) (all_claims_again volume geo es)

pub seen_levels : (volume : ℕ → List ℕ) (geo : Geometry) (f : InodeFork) → (fork_seen volume geo f).levels ≡ fork_tree volume geo f
unfolding fork_seen
seen_levels volume geo f = refl

pub seen_extents : (volume : ℕ → List ℕ) (geo : Geometry) (f : InodeFork) → extents_seen (fork_seen volume geo f) ≡ fork_extents geo f (fork_tree volume geo f)
unfolding fork_seen
seen_extents volume geo f = extents_again volume geo (fork_extents geo f (fork_tree volume geo f))

pub seen_claims : (volume : ℕ → List ℕ) (geo : Geometry) (f : InodeFork) → fork_claims (fork_seen volume geo f) ≡ blocks_of (fork_tree volume geo f) ++ extents_blocks geo (fork_extents geo f (fork_tree volume geo f))
unfolding fork_seen
seen_claims volume geo f =
    ap (λ (l : List ℕ). blocks_of (fork_tree volume geo f) ++ l) (all_claims_again volume geo (fork_extents geo f (fork_tree volume geo f)))

-- the three formats
pub tree_in : (volume : ℕ → List ℕ) (geo : Geometry) (f : InodeFork) → f.format ≡ 3 → fork_tree volume geo f ≡ levels_of_fork (extent_setting geo f.ino) volume f.bytes
tree_in volume geo f h = cond-true (f.format == 3) _ _ (eq-eqb f.format 3 h)

pub no_tree_in : (volume : ℕ → List ℕ) (geo : Geometry) (f : InodeFork) → (f.format ≡ 3 → ⊥) → fork_tree volume geo f ≡ []
no_tree_in volume geo f h = cond-false (f.format == 3) _ _ (ne_eqb f.format 3 h)

pub listed_in : (geo : Geometry) (f : InodeFork) (levels : List (List Sight)) → f.format ≡ 2 → fork_extents geo f levels ≡ listed_extents f.bytes f.count
listed_in geo f levels h = cond-true (f.format == 2) _ _ (eq-eqb f.format 2 h)

pub recorded_in : (geo : Geometry) (f : InodeFork) (levels : List (List Sight)) → (f.format ≡ 2 → ⊥) → f.format ≡ 3 → fork_extents geo f levels ≡ records_of (extent_setting geo f.ino) levels
recorded_in geo f levels h k = cond-false (f.format == 2) _ _ (ne_eqb f.format 2 h) ∙ cond-true (f.format == 3) _ _ (eq-eqb f.format 3 k)

pub none_in : (geo : Geometry) (f : InodeFork) (levels : List (List Sight)) → (f.format ≡ 2 → ⊥) → (f.format ≡ 3 → ⊥) → fork_extents geo f levels ≡ []
none_in geo f levels h k = cond-false (f.format == 2) _ _ (ne_eqb f.format 2 h) ∙ cond-false (f.format == 3) _ _ (ne_eqb f.format 3 k)

-- no blocks are a sound tree
pub no_blocks_sound : (t : Setting Extent) (geo : Geometry) → IsSoundTree t geo []
unfolding leaves_of
no_blocks_sound t geo = record { blocks = All-nil (IsSoundBlock t geo); order = λ k lt. absurd (omega (arith, lt)) }
