use Rattle.std.proofs.Common.{◌≡◌, ◌∙◌, ℕ, List, sym, subst, arith}
use Rattle.block_claims.specs.Agreement.{block}
use Rattle.xfs_super.specs.Super.{geometry_of}
use Rattle.xfs_tree.specs.Block.{Sight}
use Rattle.xfs_tree.specs.Tree.{IsSoundTree}
use Rattle.xfs_inode.specs.Seen.{extent_setting}
use Rattle.xfs_inode.specs.inside.Telling.{fork_as_data}
use Rattle.xfs_inode.proofs.Seeing.{no_tree_in, listed_in, none_in, no_blocks_sound}
use Rattle.xfs_inode.proofs.extents.read_extents.Goals as goal

not_three : (n : ℕ) → n ≡ 2 → n ≡ 3 → ⊥
not_three n p q = omega arith

pub returns-then-fork-eq2-clause-fork : goal.returns-then-fork-eq2-clause-fork
returns-then-fork-eq2-clause-fork g c =
    λ told.
    let geo = geometry_of c.args.geo.now in
    let volume = block (g.B.Blocks.image c.args.disk.now) in
    let f = fork_as_data c.args.fork.now in
    let other = not_three f.format c.if-fork-eq2.true in
    let none = no_tree_in volume geo f other in
    record {
      tree = record {
        root = λ three. absurd (other three);
        tree = subst (λ (l : List (List Sight)). IsSoundTree (extent_setting geo f.ino) geo l) (sym none) (no_blocks_sound (extent_setting geo f.ino) geo);
      };
      extents_are = c.in_ok-extents.ensures.listed ∙ sym (listed_in geo f _ c.if-fork-eq2.true);
    }

pub returns-clause-fork : goal.returns-clause-fork
returns-clause-fork g c =
    λ told.
    let geo = geometry_of c.args.geo.now in
    let volume = block (g.B.Blocks.image c.args.disk.now) in
    let f = fork_as_data c.args.fork.now in
    let none = no_tree_in volume geo f c.if-fork-eq3.false in
    record {
      tree = record {
        root = λ three. absurd (c.if-fork-eq3.false three);
        tree = subst (λ (l : List (List Sight)). IsSoundTree (extent_setting geo f.ino) geo l) (sym none) (no_blocks_sound (extent_setting geo f.ino) geo);
      };
      extents_are = c.new.ensures ∙ sym (none_in geo f _ c.if-fork-eq2.false c.if-fork-eq3.false);
    }
