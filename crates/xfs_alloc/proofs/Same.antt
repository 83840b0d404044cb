-- What is seen of the free space of a group depends on the blocks of its trees alone, and stays under growth.
use Rattle.std.proofs.Common.{◌≡◌, ℕ, ◌+◌, ◌-◌, ◌*◌, List, [], ◌∷◌, refl, ap, ◌∙◌}
use Rattle.block_claims.specs.Agreement.{AgreeOn}
use Rattle.block_claims.proofs.Agreements.{agree_left, agree_right}
use Rattle.xfs_super.specs.Geometry.{Geometry}
use Rattle.xfs_super.specs.declared.agf.Agf.{Agf}
use Rattle.xfs_tree.specs.Block.{Sight}
use Rattle.xfs_tree.specs.Form.{Form, Setting, IsGrown}
use Rattle.xfs_tree.specs.Records.{by_start, by_count}
use Rattle.xfs_tree.specs.Tree.{levels_below, blocks_of}
use Rattle.xfs_tree.proofs.TreeLaws.{same_sights, same_setting, sound_grows}
use Rattle.xfs_tree.specs.inside.RecordLaws.{run_grows}
use Rattle.xfs_alloc.specs.Free.{FreeSeen, group_setting, tree_seen, free_seen, tree_claims, AreSoundTrees}

pub same_free : (geo : Geometry) (group : ℕ) (agf : Agf) (volume other : ℕ → List ℕ) → AgreeOn (tree_claims (free_seen geo group agf volume)) volume other
    → free_seen geo group agf other ≡ free_seen geo group agf volume
same_free geo group agf volume other agree =
    let s : FreeSeen = free_seen geo group agf volume in
    let starts : tree_seen by_start geo group other agf.bno_root agf.bno_level ≡ s.starts =
    same_sights (group_setting by_start geo group) volume other (agf.bno_level - 1) 0 ((group * geo.agblocks + agf.bno_root) ∷ []) (agree_left (blocks_of s.starts) (blocks_of s.counts) volume other agree) in
    let counts : tree_seen by_count geo group other agf.cnt_root agf.cnt_level ≡ s.counts =
    same_sights (group_setting by_count geo group) volume other (agf.cnt_level - 1) 0 ((group * geo.agblocks + agf.cnt_root) ∷ []) (agree_right (blocks_of s.starts) (blocks_of s.counts) volume other agree) in
    ap (λ (l : List (List Sight)). record { starts = l; counts = tree_seen by_count geo group other agf.cnt_root agf.cnt_level }) starts
    ∙ ap (λ (l : List (List Sight)). record { starts = s.starts; counts = l }) counts

grown_tree : {R : Type 0} (form : Form R) (geo grown : Geometry) (group : ℕ) (volume : ℕ → List ℕ) (root level : ℕ) → IsGrown geo grown → tree_seen form grown group volume root level ≡ tree_seen form geo group volume root level
grown_tree {R} form geo grown group volume root level g =
    ap (λ (t : Setting R). levels_below t volume (level - 1) 0 ((group * grown.agblocks + root) ∷ [])) (same_setting form geo grown group group g)
    ∙ ap (λ (n : ℕ). levels_below (group_setting form geo group) volume (level - 1) 0 ((group * n + root) ∷ [])) g.agblocks

pub grown_free : (geo grown : Geometry) (group : ℕ) (agf : Agf) (volume : ℕ → List ℕ) → IsGrown geo grown → free_seen grown group agf volume ≡ free_seen geo group agf volume
grown_free geo grown group agf volume g =
    ap (λ (l : List (List Sight)). record { starts = l; counts = tree_seen by_count grown group volume agf.cnt_root agf.cnt_level }) (grown_tree by_start geo grown group volume agf.bno_root agf.bno_level g)
    ∙ ap (λ (l : List (List Sight)). record { starts = tree_seen by_start geo group volume agf.bno_root agf.bno_level; counts = l }) (grown_tree by_count geo grown group volume agf.cnt_root agf.cnt_level g)

pub grown_trees : (geo grown : Geometry) (group : ℕ) (s : FreeSeen) → IsGrown geo grown → AreSoundTrees geo group s → AreSoundTrees grown group s
grown_trees geo grown group s g trees = record {
  starts = rw (same_setting by_start geo grown group group g)
      (sound_grows by_start (λ a b h r e i. run_grows a b h r.start r.count e i) (group_setting by_start geo group) geo grown s.starts refl g trees.starts);
  counts = rw (same_setting by_count geo grown group group g)
      (sound_grows by_count (λ a b h r e i. run_grows a b h r.start r.count e i) (group_setting by_count geo group) geo grown s.counts refl g trees.counts);
}
