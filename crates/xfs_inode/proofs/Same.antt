-- What is seen of a fork, an inode and the chunks of a group depends on the blocks that they claim alone, and stays under
-- growth.
use Rattle.std.proofs.Common.{◌≡◌, ℕ, ◌+◌, ◌-◌, ◌*◌, ◌^◌, ◌%◌, Bool, true, false, cond, ◌==◌, List, [], ◌∷◌, map, refl, ap, ◌∙◌}
use Rattle.std.specs.List.{flat_map}
use Rattle.disk_base.specs.Image.{bytes_at}
use Rattle.block_claims.specs.Agreement.{AgreeOn}
use Rattle.block_claims.proofs.Agreements.{agree_left, agree_right, agree_head, agree_tail, same_map}
use Rattle.xfs_super.specs.Geometry.{Geometry}
use Rattle.xfs_super.specs.declared.agi.Agi.{Agi}
use Rattle.xfs_tree.specs.Block.{Sight}
use Rattle.xfs_tree.specs.Fork.{fork_level, fork_blocks, levels_of_fork}
use Rattle.xfs_tree.specs.Form.{Form}
use Rattle.xfs_tree.specs.Records.{by_inode, by_sparse_inode}
use Rattle.xfs_tree.specs.Tree.{blocks_of}
use Rattle.xfs_tree.proofs.TreeLaws.{same_sights}
use Rattle.xfs_tree.specs.declared.extent.Extent.{Extent}
use Rattle.xfs_inode.specs.Chunks.{inode_tree, chunk_levels, chunk_setting}
use Rattle.xfs_inode.specs.Core.{InodeFork, core_of}
use Rattle.xfs_inode.specs.Extents.{extent_blocks}
use Rattle.xfs_inode.specs.Seen.{FileBlock, file_block_at, SeenExtent, extent_seen, extent_claims, SeenFork, fork_tree, fork_extents, fork_with, fork_seen, fork_claims, extent_setting, shown_data, shown_attributes, inode_block, inode_bytes, inode_of, inode_seen, inode_claims}

same_blocks : (volume other : ℕ → List ℕ) (xs : List ℕ) → AgreeOn (map (λ (b : FileBlock). b.at) (map (file_block_at volume) xs)) volume other → map (file_block_at other) xs ≡ map (file_block_at volume) xs
same_blocks volume other [] agree = refl
same_blocks volume other (x ∷ xs) agree =
    ap (λ (bytes : List ℕ). record { at = x; bytes = bytes } ∷ map (file_block_at other) xs) (agree_head x (map (λ (b : FileBlock). b.at) (map (file_block_at volume) xs)) volume other agree)
    ∙ ap (λ (l : List FileBlock). file_block_at volume x ∷ l) (same_blocks volume other xs (agree_tail x (map (λ (b : FileBlock). b.at) (map (file_block_at volume) xs)) volume other agree))

same_extent : (geo : Geometry) (volume other : ℕ → List ℕ) (e : Extent) → AgreeOn (extent_claims (extent_seen volume geo e)) volume other → extent_seen other geo e ≡ extent_seen volume geo e
unfolding extent_seen
same_extent geo volume other e agree = ap (λ (l : List FileBlock). record { extent = e; blocks = l }) (same_blocks volume other (extent_blocks geo e) agree)

same_levels : (geo : Geometry) (f : InodeFork) (volume other : ℕ → List ℕ) (b : Bool) → AgreeOn (blocks_of (cond b (levels_of_fork (extent_setting geo f.ino) volume f.bytes) [])) volume other
    → cond b (levels_of_fork (extent_setting geo f.ino) other f.bytes) [] ≡ cond b (levels_of_fork (extent_setting geo f.ino) volume f.bytes) []
same_levels geo f volume other true agree = same_sights (extent_setting geo f.ino) volume other (fork_level f.bytes - 1) 1 (fork_blocks (extent_setting geo f.ino) f.bytes) agree
same_levels geo f volume other false agree = refl

pub same_fork : (geo : Geometry) (f : InodeFork) (volume other : ℕ → List ℕ) → AgreeOn (fork_claims (fork_seen volume geo f)) volume other → fork_seen other geo f ≡ fork_seen volume geo f
unfolding fork_seen
same_fork geo f volume other agree =
    let levels : List (List Sight) = fork_tree volume geo f in
    let es : List Extent = fork_extents geo f levels in
    let front : List ℕ = blocks_of levels in
    let rest : List ℕ = flat_map extent_claims (map (extent_seen volume geo) es) in
    let one : fork_tree other geo f ≡ levels = same_levels geo f volume other (f.format == 3) (agree_left front rest volume other agree) in
    let two : map (extent_seen other geo) es ≡ map (extent_seen volume geo) es =
    same_map extent_claims volume other (extent_seen volume geo) (extent_seen other geo) (same_extent geo volume other) es (agree_right front rest volume other agree) in
    ap (λ (l : List (List Sight)). fork_with other geo f l) one ∙ ap (λ (l : List SeenExtent). record { levels = levels; extents = l }) two

pub same_inode_of : (geo : Geometry) (ino : ℕ) (bytes : List ℕ) (volume other : ℕ → List ℕ) → AgreeOn (inode_claims (inode_of geo volume ino bytes)) volume other → inode_of geo other ino bytes ≡ inode_of geo volume ino bytes
unfolding inode_of
same_inode_of geo ino bytes volume other agree =
    let a : SeenFork = fork_seen volume geo (shown_data geo ino bytes) in
    let b : SeenFork = fork_seen volume geo (shown_attributes geo ino bytes) in
    let after : SeenFork = fork_seen other geo (shown_attributes geo ino bytes) in
    let one : fork_seen other geo (shown_data geo ino bytes) ≡ a = same_fork geo (shown_data geo ino bytes) volume other (agree_left (fork_claims a) (fork_claims b) volume other agree) in
    let two : after ≡ b = same_fork geo (shown_attributes geo ino bytes) volume other (agree_right (fork_claims a) (fork_claims b) volume other agree) in
    ap (λ (s : SeenFork). record { ino = ino; bytes = bytes; contents = s; attributes = after }) one ∙ ap (λ (s : SeenFork). record { ino = ino; bytes = bytes; contents = a; attributes = s }) two

pub same_inode : (geo : Geometry) (ino : ℕ) (volume other : ℕ → List ℕ) → AgreeOn (inode_block geo ino ∷ inode_claims (inode_seen geo volume ino)) volume other → inode_seen geo other ino ≡ inode_seen geo volume ino
same_inode geo ino volume other agree =
    let at : ℕ = inode_block geo ino in
    let claims : List ℕ = inode_claims (inode_seen geo volume ino) in
    let held : other at ≡ volume at = agree_head at claims volume other agree in
    let bytes : inode_bytes geo other ino ≡ inode_bytes geo volume ino = ap (λ (l : List ℕ). bytes_at l (ino % 2 ^ geo.inopblog * geo.inodesize) geo.inodesize) held in
    ap (λ (l : List ℕ). inode_of geo other ino l) bytes ∙ same_inode_of geo ino (inode_bytes geo volume ino) volume other (agree_tail at claims volume other agree)

same_chunk_levels : {R : Type 0} (form : Form R) (geo : Geometry) (group : ℕ) (agi : Agi) (volume other : ℕ → List ℕ) → AgreeOn (blocks_of (chunk_levels form geo group agi volume)) volume other → chunk_levels form geo group agi other ≡ chunk_levels form geo group agi volume
same_chunk_levels form geo group agi volume other agree = same_sights (chunk_setting form geo group) volume other (agi.level - 1) 0 ((group * geo.agblocks + agi.root) ∷ []) agree

same_either : (geo : Geometry) (group : ℕ) (agi : Agi) (volume other : ℕ → List ℕ) (b : Bool) → AgreeOn (blocks_of (cond b (chunk_levels by_sparse_inode geo group agi volume) (chunk_levels by_inode geo group agi volume))) volume other
    → cond b (chunk_levels by_sparse_inode geo group agi other) (chunk_levels by_inode geo group agi other) ≡ cond b (chunk_levels by_sparse_inode geo group agi volume) (chunk_levels by_inode geo group agi volume)
same_either geo group agi volume other true agree = same_chunk_levels by_sparse_inode geo group agi volume other agree
same_either geo group agi volume other false agree = same_chunk_levels by_inode geo group agi volume other agree

pub same_chunks : (geo : Geometry) (group : ℕ) (agi : Agi) (volume other : ℕ → List ℕ) → AgreeOn (blocks_of (inode_tree geo group agi volume)) volume other → inode_tree geo group agi other ≡ inode_tree geo group agi volume
same_chunks geo group agi volume other agree = same_either geo group agi volume other geo.sparse agree

-- ---- growth

pub grown_inode : (geo : Geometry) (dblocks agcount ino : ℕ) (volume : ℕ → List ℕ) → inode_seen (record geo { dblocks = dblocks; agcount = agcount }) volume ino ≡ inode_seen geo volume ino
unfolding inode_of fork_seen extent_seen core_of
grown_inode geo dblocks agcount ino volume = refl

pub grown_chunks : (geo : Geometry) (dblocks agcount group : ℕ) (agi : Agi) (volume : ℕ → List ℕ) → inode_tree (record geo { dblocks = dblocks; agcount = agcount }) group agi volume ≡ inode_tree geo group agi volume
grown_chunks geo dblocks agcount group agi volume = refl
