-- All that a valid volume holds lies in the blocks that its superblock counts.
use Rattle.std.proofs.Common.{◌≡◌, ℕ, suc, zero, ◌+◌, ◌-◌, ◌*◌, ◌/◌, ◌%◌, ◌^◌, ◌<◌, ◌≤◌, Bool, true, false, cond, leb, ltb, ◌==◌, ◌&&◌, IsTrue, List, [], ◌∷◌, ◌++◌, map, inl, inr, refl, sym, ap, ◌∙◌, arith, subst}
use Rattle.std.specs.Prelude.{slice_index_or}
use Rattle.std.specs.List.{All, flat_map, list_all, range_with_len}
use Rattle.std.proofs.lemmas.Bool.{and_from, and_parts, cases_lt, eqb-true, le-leb, leb-true, ltb-true}
use Rattle.std.proofs.lemmas.Bool.Decides.{nat_tests}
use Rattle.std.proofs.lemmas.Grind.{flat_map-append}
use Rattle.std.proofs.lemmas.List.Elements.{All-append, All-cons, All-head, All-map, All-nil, All-tail, All-weaker}
use Rattle.block_claims.proofs.Agreements.{times_in-append}
use Rattle.block_claims.specs.Agreement.{block, times_in}
use Rattle.xfs_alloc.specs.Free.{free_seen, group_setting, tree_seen}
use Rattle.xfs_check.proofs.Frames.{same_files}
use Rattle.xfs_check.proofs.Shares.{flat_twice, held, held_part, inode_held}
use Rattle.xfs_check.specs.Frame.{StaysOnOtherDisk, volume_on}
use Rattle.xfs_check.specs.Parts.{LogBlocks, group_parts, groups_parts, header_blocks, header_claims, inode_parts, inodes_parts, volume_parts}
use Rattle.xfs_check.specs.Seen.{GroupHead, InodeBlock, SeenGroup, SeenVolume, agf_seen, agi_seen, chunk_block_seen, chunk_seen, chunks_seen, free_inode_tree, geometry_seen, group_of, group_seen, groups_seen, head_seen, inode_at_place, inode_block_seen, inodes_in_bytes, inodes_of_blocks, seen_with, volume_seen}
use Rattle.xfs_check.specs.Valid.{IsSoundFreeInodeTree, IsSoundGroup, IsSoundSeen, IsValidVolume, unclaimed}
use Rattle.xfs_inode.proofs.Chunking.{block_of_chunk}
use Rattle.xfs_inode.specs.Chunks.{IsSoundChunk, IsSoundInodeTree, chunk_block, chunk_blocks, chunk_len, chunks_blocks, inode_number, inode_tree, is_allocated, is_hole, tree_chunks}
use Rattle.xfs_inode.specs.Core.{InodeFork}
use Rattle.xfs_inode.specs.Extents.{extent_blocks}
use Rattle.xfs_inode.specs.ForkReading.{IsSoundFork}
use Rattle.xfs_inode.specs.Seen.{FileBlock, SeenExtent, SeenFork, SeenInode, extent_claims, extent_seen, extent_setting, file_block_at, fork_extents, fork_seen, fork_tree, inode_of, shown_attributes, shown_data}
use Rattle.xfs_log.specs.Log.{log_blocks}
use Rattle.xfs_super.proofs.Judged.{agf_sound, agi_sound}
use Rattle.xfs_super.proofs.Laid.{laid_from_tests}
use Rattle.xfs_super.proofs.Lying.{group_has_blocks, group_lies_inside}
use Rattle.xfs_super.specs.Geometry.{AreGroups, Geometry, IsLogPlace, group_len}
use Rattle.xfs_super.specs.Headers.{IsSoundAgf, IsSoundAgi, used_entries}
use Rattle.xfs_super.specs.Superblock.{IsSuperblock, fits_volume, geometry_in, has_places, has_sizes, superblock_in}
use Rattle.xfs_super.specs.declared.agi.Agi.{Agi}
use Rattle.xfs_super.specs.inside.Layout.{HasLayout}
use Rattle.xfs_tree.proofs.Blocks.{children_are, kept_all, leads_all, spells_sound}
use Rattle.xfs_tree.proofs.Trees.{blocks_at, numbers_seen}
use Rattle.xfs_tree.specs.Block.{IsSoundBlock, Sight, blocks_led_to, children, pointers, points_inside, sight}
use Rattle.xfs_tree.specs.Fork.{IsSoundRoot, fork_blocks, fork_level, fork_pointers, levels_of_fork, spells_root}
use Rattle.xfs_tree.specs.Form.{Form, Setting}
use Rattle.xfs_tree.specs.Records.{by_count, by_file, by_free_inode, by_free_sparse_inode, by_inode, by_sparse_inode, by_start}
use Rattle.xfs_tree.specs.Tree.{IsSoundTree, all_sights, blocks_of, levels_below}
use Rattle.xfs_tree.specs.declared.extent.Extent.{Extent}
use Rattle.xfs_tree.specs.declared.sparse_chunk.SparseChunk.{SparseChunk}

-- ---- lists of blocks

abbrev AreBelow : ℕ → List ℕ → Type 0
AreBelow d xs = All (λ n. n < d) xs

each : {X : Type 0} (P : X → Type 0) (xs : List X) → ((x : X) → P x) → All P xs
each P xs f = λ k e lt. f (slice_index_or xs k e)

all_flat : {X A : Type 0} (P : A → Type 0) (f : X → List A) (xs : List X) → All (λ x. All P (f x)) xs → All P (flat_map f xs)
all_flat P f [] h = All-nil P
all_flat P f (x ∷ xs) h =
    All-append P (f x) (flat_map f xs) (All-head (λ y. All P (f y)) x xs h)
    (all_flat P f xs (All-tail (λ y. All P (f y)) x xs h))

all_left : {X : Type 0} (P : X → Type 0) (xs ys : List X) → All P (xs ++ ys) → All P xs
all_left P [] ys h = All-nil P
all_left P (x ∷ xs) ys h = All-cons P x xs (All-head P x (xs ++ ys) h) (all_left P xs ys (All-tail P x (xs ++ ys) h))

all_right : {X : Type 0} (P : X → Type 0) (xs ys : List X) → All P (xs ++ ys) → All P ys
all_right P [] ys h = h
all_right P (x ∷ xs) ys h = all_right P xs ys (All-tail P x (xs ++ ys) h)

none_below : (d : ℕ) → AreBelow d []
none_below d = All-nil (λ n. n < d)

one_below : (d n : ℕ) → n < d → AreBelow d (n ∷ [])
one_below d n lt = All-cons (λ m. m < d) n [] lt (none_below d)

both_below : (d : ℕ) (xs ys : List ℕ) → AreBelow d xs → AreBelow d ys → AreBelow d (xs ++ ys)
both_below d xs ys p q = All-append (λ n. n < d) xs ys p q

flat_below : {X : Type 0} (d : ℕ) (f : X → List ℕ) (xs : List X) → All (λ x. AreBelow d (f x)) xs → AreBelow d (flat_map f xs)
flat_below d f xs h = all_flat (λ n. n < d) f xs h

run_below : (d first count : ℕ) → first + count ≤ d → AreBelow d (range_with_len first count)
run_below d first zero fits = none_below d
run_below d first (suc count) fits =
    All-cons (λ n. n < d) first (range_with_len (first + 1) count) (omega arith) (run_below d (first + 1) count (omega arith))

stands_not : (n x : ℕ) → x < n → times_in n (x ∷ []) ≡ 0
stands_not n x lt = grind (arith, nat_tests)

below_all : (d n : ℕ) (xs : List ℕ) → AreBelow d xs → 0 < times_in n xs → n < d
below_all d n [] below some = absurd (omega (arith, some))
below_all d n (x ∷ xs) below some = elim (cases_lt n d) [
  | inl lt ↦ lt
  | inr le ↦
      let first : x < d = All-head (λ m. m < d) x xs below in
      let other : times_in n (x ∷ []) ≡ 0 = stands_not n x (omega arith) in
      below_all d n xs (All-tail (λ m. m < d) x xs below) (omega (arith, some, other, times_in-append n (x ∷ []) xs))
]

-- ---- the blocks of a tree

-- a level, and the levels below it
level_below : (d : ℕ) (row : List Sight) (rest : List (List Sight)) → AreBelow d (map (λ s. s.at) row)
    → AreBelow d (blocks_of rest) → AreBelow d (blocks_of (row ∷ rest))
level_below d row rest p q = subst (AreBelow d) (sym (blocks_at [] row rest)) (both_below d (map (λ (s : Sight). s.at) row) (blocks_of rest) p q)

module _ {R : Type 0} (t : Setting R) (geo : Geometry) (volume : ℕ → List ℕ) where
  children_below : (height least : ℕ) (blocks : List ℕ) → All (IsSoundBlock t geo) (map (sight volume (suc height) least) blocks)
      → AreBelow geo.dblocks (flat_map (λ b. children t (sight volume (suc height) least b)) blocks)
  children_below height least [] sound = none_below geo.dblocks
  children_below height least (b ∷ bs) sound =
      let s : Sight = sight volume (suc height) least b in
      let rest : List Sight = map (sight volume (suc height) least) bs in
      let here : IsSoundBlock t geo s = All-head (IsSoundBlock t geo) s rest sound in
      let inside : All (λ p. IsTrue (points_inside t geo p)) (pointers t.form s.bytes) = here.range.inside in
      let are = children_are t geo s (spells_sound t geo s here) inside in
      let mine : AreBelow geo.dblocks (children t s) =
      subst (AreBelow geo.dblocks) (sym are) (leads_all t geo (pointers t.form s.bytes) inside) in
      both_below geo.dblocks (children t s) (flat_map (λ c. children t (sight volume (suc height) least c)) bs) mine
      (children_below height least bs (All-tail (IsSoundBlock t geo) s rest sound))

  tree_below : (height least : ℕ) (blocks : List ℕ) → AreBelow geo.dblocks blocks
      → All (IsSoundBlock t geo) (all_sights (levels_below t volume height least blocks))
      → AreBelow geo.dblocks (blocks_of (levels_below t volume height least blocks))
  unfolding levels_below
  tree_below zero least blocks top sound =
      let row : List Sight = map (sight volume 0 least) blocks in
      level_below geo.dblocks row [] (subst (AreBelow geo.dblocks) (sym (numbers_seen volume 0 least blocks)) top) (none_below geo.dblocks)
  tree_below (suc height) least blocks top sound =
      let row : List Sight = map (sight volume (suc height) least) blocks in
      let below : List ℕ = flat_map (λ b. children t (sight volume (suc height) least b)) blocks in
      let rest : List (List Sight) = levels_below t volume height 1 below in
      let led : AreBelow geo.dblocks below =
      children_below height least blocks (all_left (IsSoundBlock t geo) row (all_sights rest) sound) in
      level_below geo.dblocks row rest (subst (AreBelow geo.dblocks) (sym (numbers_seen volume (suc height) least blocks)) top)
      (tree_below height 1 below led (all_right (IsSoundBlock t geo) row (all_sights rest) sound))

-- a tree of a group, whose root is that block of it
root_below : (geo : Geometry) (group b : ℕ) → b < group_len geo group → group * geo.agblocks + b < geo.dblocks
root_below geo group b lt = omega arith

group_tree_below : {R : Type 0} (form : Form R) (geo : Geometry) (volume : ℕ → List ℕ) (group root level : ℕ) → root < group_len geo group
    → IsSoundTree (group_setting form geo group) geo (tree_seen form geo group volume root level)
    → AreBelow geo.dblocks (blocks_of (tree_seen form geo group volume root level))
group_tree_below form geo volume group root level lt sound =
    tree_below (group_setting form geo group) geo volume (level - 1) 0 ((group * geo.agblocks + root) ∷ [])
    (one_below geo.dblocks (group * geo.agblocks + root) (root_below geo group root lt)) sound.blocks

-- one of two trees, as a flag says
abbrev either_tree : {R S : Type 0} → Form R → Form S → Geometry → (ℕ → List ℕ) → ℕ → ℕ → ℕ → Bool → List (List Sight)
either_tree f g geo volume group root level b = cond b (tree_seen f geo group volume root level) (tree_seen g geo group volume root level)

either_tree_below : {R S : Type 0} (f : Form R) (g : Form S) (geo : Geometry) (volume : ℕ → List ℕ) (group root level : ℕ) (b : Bool)
    → root < group_len geo group
    → (b ≡ true → IsSoundTree (group_setting f geo group) geo (either_tree f g geo volume group root level b))
    → (b ≡ false → IsSoundTree (group_setting g geo group) geo (either_tree f g geo volume group root level b))
    → AreBelow geo.dblocks (blocks_of (either_tree f g geo volume group root level b))
either_tree_below f g geo volume group root level true lt sound _ = group_tree_below f geo volume group root level lt (sound refl)
either_tree_below f g geo volume group root level false lt _ sound = group_tree_below g geo volume group root level lt (sound refl)

-- ---- the chunks of a group

left_out_below : (d n : ℕ) (b : Bool) → n < d → AreBelow d (cond b [] (n ∷ []))
left_out_below d n true lt = none_below d
left_out_below d n false lt = one_below d n lt

module _ (geo : Geometry) (groups : AreGroups geo.dblocks geo.agblocks geo.agcount geo.agblklog) (few : geo.inopblog ≤ 3) (group : ℕ) (inside : group < geo.agcount) where
  chunk_below : (c : SparseChunk) → IsSoundChunk geo group c → AreBelow geo.dblocks (chunk_blocks geo group c)
  chunk_below c sound =
      let run : All (λ j. j < chunk_len geo) (range_with_len 0 (chunk_len geo)) = run_below (chunk_len geo) 0 (chunk_len geo) (omega arith) in
      flat_below geo.dblocks (chunk_block geo group c) (range_with_len 0 (chunk_len geo))
      (λ k e lt.
      let j : ℕ = slice_index_or (range_with_len 0 (chunk_len geo)) k e in
      let ends = block_of_chunk geo group c.start j groups inside few sound.inside sound.aligned (run k e lt) in
      left_out_below geo.dblocks (group * geo.agblocks + c.start / 2 ^ geo.inopblog + j) (is_hole c (2 ^ geo.inopblog * j)) (omega (arith, ends)))

  chunks_below : (chunks : List SparseChunk) → All (IsSoundChunk geo group) chunks → AreBelow geo.dblocks (chunks_blocks geo group chunks)
  chunks_below chunks sound =
      flat_below geo.dblocks (chunk_blocks geo group) chunks
      (All-weaker (IsSoundChunk geo group) (λ c. AreBelow geo.dblocks (chunk_blocks geo group c)) chunk_below chunks sound)

-- ---- a fork

kept_below : (d : ℕ) (b : Bool) (xs : List ℕ) → AreBelow d xs → AreBelow d (cond b xs [])
kept_below d true xs h = h
kept_below d false xs h = none_below d

fork_tree_below : (geo : Geometry) (volume : ℕ → List ℕ) (ino : ℕ) (bytes : List ℕ) (b : Bool)
    → (b ≡ true → IsSoundRoot (extent_setting geo ino) geo bytes)
    → IsSoundTree (extent_setting geo ino) geo (cond b (levels_of_fork (extent_setting geo ino) volume bytes) [])
    → AreBelow geo.dblocks (blocks_of (cond b (levels_of_fork (extent_setting geo ino) volume bytes) []))
fork_tree_below geo volume ino bytes true root sound =
    let t : Setting Extent = extent_setting geo ino in
    let inside : All (λ p. IsTrue (points_inside t geo p)) (fork_pointers bytes) = (root refl).range.inside in
    let led : AreBelow geo.dblocks (blocks_led_to t (fork_pointers bytes)) =
    subst (AreBelow geo.dblocks) (sym (kept_all t geo (fork_pointers bytes) inside)) (leads_all t geo (fork_pointers bytes) inside) in
    tree_below t geo volume (fork_level bytes - 1) 1 (fork_blocks t bytes)
    (kept_below geo.dblocks (spells_root bytes) (blocks_led_to t (fork_pointers bytes)) led) sound.blocks
fork_tree_below geo volume ino bytes false root sound = none_below geo.dblocks

extent_places : (volume : ℕ → List ℕ) (xs : List ℕ) → map (λ (b : FileBlock). b.at) (map (file_block_at volume) xs) ≡ xs
extent_places volume [] = refl
extent_places volume (x ∷ xs) = ap (λ (l : List ℕ). x ∷ l) (extent_places volume xs)

extent_below : (geo : Geometry) → AreGroups geo.dblocks geo.agblocks geo.agcount geo.agblklog → (e : Extent) → IsTrue (by_file.inside geo 0 e)
    → AreBelow geo.dblocks (extent_blocks geo e)
extent_below geo groups e lies =
    let group : ℕ = e.block / 2 ^ geo.agblklog in
    let first : ℕ = e.block % 2 ^ geo.agblklog in
    let parts = and_parts (ltb group geo.agcount) (leb (first + e.count) (group_len geo group)) lies in
    let whole = group_lies_inside geo.dblocks geo.agblocks geo.agcount geo.agblklog group groups (ltb-true group geo.agcount parts.0) in
    let ends : first + e.count ≤ group_len geo group = leb-true (first + e.count) (group_len geo group) parts.1 in
    run_below geo.dblocks (group * geo.agblocks + first) e.count (omega arith)

extents_below : (geo : Geometry) → AreGroups geo.dblocks geo.agblocks geo.agcount geo.agblklog → (volume : ℕ → List ℕ) (es : List Extent)
    → All (λ e. IsTrue (by_file.inside geo 0 e)) (map (λ (s : SeenExtent). s.extent) (map (extent_seen volume geo) es))
    → AreBelow geo.dblocks (flat_map extent_claims (map (extent_seen volume geo) es))
unfolding extent_seen
extents_below geo groups volume [] lie = none_below geo.dblocks
extents_below geo groups volume (e ∷ es) lie =
    let others : List Extent = map (λ (s : SeenExtent). s.extent) (map (extent_seen volume geo) es) in
    let here = All-head (λ (x : Extent). IsTrue (by_file.inside geo 0 x)) e others lie in
    let mine : AreBelow geo.dblocks (extent_claims (extent_seen volume geo e)) =
    subst (AreBelow geo.dblocks) (sym (extent_places volume (extent_blocks geo e))) (extent_below geo groups e here) in
    both_below geo.dblocks (extent_claims (extent_seen volume geo e)) (flat_map extent_claims (map (extent_seen volume geo) es)) mine
    (extents_below geo groups volume es (All-tail (λ (x : Extent). IsTrue (by_file.inside geo 0 x)) e others lie))

module _ (geo : Geometry) (groups : AreGroups geo.dblocks geo.agblocks geo.agcount geo.agblklog) (volume : ℕ → List ℕ) where
  fork_below : (f : InodeFork) → IsSoundFork geo f (fork_seen volume geo f) unclaimed
      → AreBelow geo.dblocks (blocks_of (fork_seen volume geo f).levels) × AreBelow geo.dblocks (flat_map extent_claims (fork_seen volume geo f).extents)
  unfolding fork_seen
  fork_below f sound = (
    fork_tree_below geo volume f.ino f.bytes (f.format == 3) (λ is. sound.tree.root (eqb-true f.format 3 is)) sound.tree.tree,
    extents_below geo groups volume (fork_extents geo f (fork_tree volume geo f)) sound.extents.inside,
  )

  -- ---- the inodes of a group

  abbrev HoldsBelow : SeenInode → Type 0
  HoldsBelow i = IsSoundSeen geo i → AreBelow geo.dblocks (inode_held geo i)

  inode_below : (ino : ℕ) (bytes : List ℕ) → HoldsBelow (inode_of geo volume ino bytes)
  unfolding inode_of
  inode_below ino bytes sound =
      let s : SeenFork = fork_seen volume geo (shown_data geo ino bytes) in
      let r : SeenFork = fork_seen volume geo (shown_attributes geo ino bytes) in
      let data_below = fork_below (shown_data geo ino bytes) sound.contents in
      let rest_below = fork_below (shown_attributes geo ino bytes) sound.attributes in
      let a : List ℕ = blocks_of s.levels in
      let b : List ℕ = flat_map extent_claims s.extents in
      let c : List ℕ = blocks_of r.levels in
      let d : List ℕ = flat_map extent_claims r.extents in
      both_below geo.dblocks a (b ++ (c ++ (d ++ []))) data_below.0
      (both_below geo.dblocks b (c ++ (d ++ [])) data_below.1
      (both_below geo.dblocks c (d ++ []) rest_below.0
      (both_below geo.dblocks d [] rest_below.1 (none_below geo.dblocks))))

  abbrev BlockHoldsBelow : InodeBlock → Type 0
  BlockHoldsBelow b = All HoldsBelow b.inodes

  place_below : (b : Bool) (ino : ℕ) (bytes : List ℕ) → All HoldsBelow (cond b (inode_of geo volume ino bytes ∷ []) [])
  place_below true ino bytes = All-cons HoldsBelow (inode_of geo volume ino bytes) [] (inode_below ino bytes) (All-nil HoldsBelow)
  place_below false ino bytes = All-nil HoldsBelow

  bytes_below : (group : ℕ) (c : SparseChunk) (j : ℕ) (bytes : List ℕ) → All HoldsBelow (inodes_in_bytes geo volume group c j bytes)
  bytes_below group c j bytes =
      let w : ℕ = 2 ^ geo.inopblog in
      let at : ℕ → List SeenInode = λ k. inode_at_place geo volume group c bytes (w * j + k) k in
      all_flat HoldsBelow at (range_with_len 0 w)
      (each (λ k. All HoldsBelow (at k)) (range_with_len 0 w) (λ k. place_below (is_allocated c (w * j + k)) (inode_number geo group c (w * j + k)) _))

  block_below : (group : ℕ) (c : SparseChunk) (j at : ℕ) → BlockHoldsBelow (inode_block_seen geo volume group c j at)
  unfolding inode_block_seen
  block_below group c j at = bytes_below group c j (volume at)

  blocks_below : (group : ℕ) (chunks : List SparseChunk) → All BlockHoldsBelow (chunks_seen geo volume group chunks)
  blocks_below group chunks =
      let of_place : (c : SparseChunk) (j : ℕ) → All BlockHoldsBelow (chunk_block_seen geo volume group c j) =
      λ c j.
      All-map BlockHoldsBelow (inode_block_seen geo volume group c j) (chunk_block geo group c j)
      (each (λ at. BlockHoldsBelow (inode_block_seen geo volume group c j at)) (chunk_block geo group c j) (block_below group c j)) in
      let of_chunk : (c : SparseChunk) → All BlockHoldsBelow (chunk_seen geo volume group c) =
      λ c.
      all_flat BlockHoldsBelow (chunk_block_seen geo volume group c) (range_with_len 0 (chunk_len geo))
      (each (λ j. All BlockHoldsBelow (chunk_block_seen geo volume group c j)) (range_with_len 0 (chunk_len geo)) (of_place c)) in
      all_flat BlockHoldsBelow (chunk_seen geo volume group) chunks
      (each (λ c. All BlockHoldsBelow (chunk_seen geo volume group c)) chunks of_chunk)

  inodes_below : (group : ℕ) (chunks : List SparseChunk) → All (IsSoundSeen geo) (inodes_of_blocks (chunks_seen geo volume group chunks))
      → AreBelow geo.dblocks (held geo (inodes_parts geo (inodes_of_blocks (chunks_seen geo volume group chunks))))
  inodes_below group chunks sound =
      let bs : List InodeBlock = chunks_seen geo volume group chunks in
      let inodes : List SeenInode = inodes_of_blocks bs in
      let holds : All HoldsBelow inodes = all_flat HoldsBelow (λ (b : InodeBlock). b.inodes) bs (blocks_below group chunks) in
      let all : AreBelow geo.dblocks (flat_map (inode_held geo) inodes) =
      flat_below geo.dblocks (inode_held geo) inodes (λ k e lt. holds k e lt (sound k e lt)) in
      subst (AreBelow geo.dblocks) (sym (flat_twice (held_part geo) (inode_parts geo) inodes)) all

-- ---- a group

listed_below : (geo : Geometry) (group : ℕ) (bs : List ℕ) → list_all (λ b. ltb b (group_len geo group)) bs ≡ true
    → AreBelow geo.dblocks (map (λ b. group * geo.agblocks + b) bs)
listed_below geo group [] h = none_below geo.dblocks
listed_below geo group (b ∷ bs) h =
    let parts = and_parts (ltb b (group_len geo group)) (list_all (λ c. ltb c (group_len geo group)) bs) h in
    All-cons (λ n. n < geo.dblocks) (group * geo.agblocks + b) (map (λ c. group * geo.agblocks + c) bs)
    (root_below geo group b (ltb-true b (group_len geo group) parts.0)) (listed_below geo group bs parts.1)

headers_few : (b : Bool) → cond b 4 1 ≤ 64
headers_few true = omega arith
headers_few false = omega arith

headers_below : (geo : Geometry) → AreGroups geo.dblocks geo.agblocks geo.agcount geo.agblklog → (group : ℕ) → group < geo.agcount
    → AreBelow geo.dblocks (header_claims geo group)
headers_below geo groups group inside =
    let whole = group_lies_inside geo.dblocks geo.agblocks geo.agcount geo.agblklog group groups inside in
    let many = group_has_blocks geo.dblocks geo.agblocks geo.agcount geo.agblklog group groups inside in
    let few = headers_few (geo.sectsize == 4096) in
    run_below geo.dblocks (group * geo.agblocks) (header_blocks geo) (omega arith)

inode_tree_below : (geo : Geometry) (volume : ℕ → List ℕ) (group : ℕ) (agi : Agi) → IsSoundAgi geo group agi
    → IsSoundInodeTree geo group (inode_tree geo group agi volume) → AreBelow geo.dblocks (blocks_of (inode_tree geo group agi volume))
inode_tree_below geo volume group agi fits sound =
    either_tree_below by_sparse_inode by_inode geo volume group agi.root agi.level geo.sparse fits.root sound.sparse sound.full

abbrev free_tree_if : Geometry → (ℕ → List ℕ) → ℕ → Agi → Bool → List (List Sight)
free_tree_if geo volume group agi b =
    cond b (either_tree by_free_sparse_inode by_free_inode geo volume group agi.free_root agi.free_level geo.sparse) []

free_tree_if_below : (geo : Geometry) (volume : ℕ → List ℕ) (group : ℕ) (agi : Agi) (b : Bool) → (b ≡ true → agi.free_root < group_len geo group)
    → (b ≡ true → geo.sparse ≡ true → IsSoundTree (group_setting by_free_sparse_inode geo group) geo (free_tree_if geo volume group agi b))
    → (b ≡ true → geo.sparse ≡ false → IsSoundTree (group_setting by_free_inode geo group) geo (free_tree_if geo volume group agi b))
    → AreBelow geo.dblocks (blocks_of (free_tree_if geo volume group agi b))
free_tree_if_below geo volume group agi true root sparse full =
    either_tree_below by_free_sparse_inode by_free_inode geo volume group agi.free_root agi.free_level geo.sparse (root refl) (sparse refl)
    (full refl)
free_tree_if_below geo volume group agi false root sparse full = none_below geo.dblocks

free_inode_tree_below : (geo : Geometry) (volume : ℕ → List ℕ) (group : ℕ) (agi : Agi) → IsSoundAgi geo group agi
    → IsSoundFreeInodeTree geo group (free_inode_tree geo group agi volume)
    → AreBelow geo.dblocks (blocks_of (free_inode_tree geo group agi volume))
free_inode_tree_below geo volume group agi fits sound =
    free_tree_if_below geo volume group agi geo.finobt fits.free_root sound.sparse sound.full

module _ (geo : Geometry) (groups : AreGroups geo.dblocks geo.agblocks geo.agcount geo.agblklog) (few : geo.inopblog ≤ 3) (volume : ℕ → List ℕ) where
  abbrev group_held : SeenGroup → List ℕ
  group_held x = held geo (group_parts geo x)

  group_below : (group : ℕ) (head : GroupHead) → group < geo.agcount → IsSoundGroup geo (group_of geo volume group head)
      → AreBelow geo.dblocks (group_held (group_of geo volume group head))
  unfolding group_of
  group_below group head inside sound =
      let d : ℕ = geo.dblocks in
      let levels : List (List Sight) = inode_tree geo group (agi_seen head) volume in
      let chunks : List SparseChunk = tree_chunks geo group levels in
      let agf : IsSoundAgf geo group (agf_seen head) = agf_sound geo group head.agf sound.head.agf.test in
      let agi : IsSoundAgi geo group (agi_seen head) = agi_sound geo group head.agi sound.head.agi.test in
      let listed : List ℕ = map (λ b. group * geo.agblocks + b) (used_entries (agf_seen head) head.agfl) in
      let starts : List ℕ = blocks_of (free_seen geo group (agf_seen head) volume).starts in
      let counts : List ℕ = blocks_of (free_seen geo group (agf_seen head) volume).counts in
      let more : List ℕ = blocks_of (free_inode_tree geo group (agi_seen head) volume) in
      let inodes : List ℕ = held geo (inodes_parts geo (inodes_of_blocks (chunks_seen geo volume group chunks))) in
      let blocks : List ℕ = chunks_blocks geo group chunks in
      let starts_lie : AreBelow d starts = group_tree_below by_start geo volume group (agf_seen head).bno_root (agf_seen head).bno_level agf.bno_root sound.free.trees.starts in
      let counts_lie : AreBelow d counts = group_tree_below by_count geo volume group (agf_seen head).cnt_root (agf_seen head).cnt_level agf.cnt_root sound.free.trees.counts in
      let space : AreBelow d (starts ++ counts) = both_below d starts counts starts_lie counts_lie in
      let behind : AreBelow d (blocks_of levels ++ (blocks ++ (more ++ inodes))) =
      both_below d (blocks_of levels) (blocks ++ (more ++ inodes)) (inode_tree_below geo volume group (agi_seen head) agi sound.trees.chunks.tree)
      (both_below d blocks (more ++ inodes) (chunks_below geo groups few group inside chunks sound.trees.chunks.chunks)
      (both_below d more inodes (free_inode_tree_below geo volume group (agi_seen head) agi sound.trees.free) (inodes_below geo groups volume group chunks sound.inodes))) in
      both_below d (header_claims geo group) (listed ++ ((starts ++ counts) ++ (blocks_of levels ++ (blocks ++ (more ++ inodes)))))
      (headers_below geo groups group inside)
      (both_below d listed ((starts ++ counts) ++ (blocks_of levels ++ (blocks ++ (more ++ inodes))))
      (listed_below geo group (used_entries (agf_seen head) head.agfl) sound.head.used)
      (both_below d (starts ++ counts) (blocks_of levels ++ (blocks ++ (more ++ inodes))) space behind))

  -- ---- the volume

  groups_below : (numbers : List ℕ) → All (λ n. n < geo.agcount) numbers → All (IsSoundGroup geo) (map (group_seen geo volume) numbers)
      → AreBelow geo.dblocks (flat_map group_held (map (group_seen geo volume) numbers))
  groups_below [] inside sound = none_below geo.dblocks
  groups_below (n ∷ ns) inside sound =
      let rest : List SeenGroup = map (group_seen geo volume) ns in
      both_below geo.dblocks (group_held (group_seen geo volume n)) (flat_map group_held rest)
      (group_below n (head_seen geo volume n) (All-head (λ m. m < geo.agcount) n ns inside) (All-head (IsSoundGroup geo) (group_seen geo volume n) rest sound))
      (groups_below ns (All-tail (λ m. m < geo.agcount) n ns inside) (All-tail (IsSoundGroup geo) (group_seen geo volume n) rest sound))

  log_below : IsLogPlace geo.logstart geo.logblocks geo.dblocks geo.agblocks geo.agcount geo.agblklog → AreBelow geo.dblocks (log_blocks geo)
  log_below place =
      let group : ℕ = geo.logstart / 2 ^ geo.agblklog in
      let first : ℕ = geo.logstart % 2 ^ geo.agblklog in
      let whole = group_lies_inside geo.dblocks geo.agblocks geo.agcount geo.agblklog group groups place.group in
      let ends : first + geo.logblocks ≤ group_len geo group = place.inside in
      run_below geo.dblocks (group * geo.agblocks + first) geo.logblocks (omega arith)

  seen_below : (s : List ℕ) → IsLogPlace geo.logstart geo.logblocks geo.dblocks geo.agblocks geo.agcount geo.agblklog → All (IsSoundGroup geo) (groups_seen geo volume)
      → AreBelow geo.dblocks (held geo (volume_parts geo (seen_with geo volume s)))
  seen_below s place sound =
      let all : List SeenGroup = groups_seen geo volume in
      let are : held geo (volume_parts geo (seen_with geo volume s)) ≡ flat_map group_held all ++ (log_blocks geo ++ []) =
      flat_map-append (held_part geo) (groups_parts geo all) (LogBlocks ∷ [])
      ∙ ap (λ (l : List ℕ). l ++ (log_blocks geo ++ [])) (flat_twice (held_part geo) (group_parts geo) all) in
      let numbers : All (λ n. n < geo.agcount) (range_with_len 0 geo.agcount) = run_below geo.agcount 0 geo.agcount (omega arith) in
      subst (AreBelow geo.dblocks) (sym are)
      (both_below geo.dblocks (flat_map group_held all) (log_blocks geo ++ []) (groups_below (range_with_len 0 geo.agcount) numbers sound)
      (both_below geo.dblocks (log_blocks geo) [] (log_below place) (none_below geo.dblocks)))

laid_out : (sectors : ℕ) (bytes : List ℕ) → IsSuperblock sectors bytes → HasLayout (superblock_in bytes)
laid_out sectors bytes sound =
    let s = superblock_in bytes in
    let parts = and_parts (has_sizes s && fits_volume sectors s) (has_places s) sound.geometry in
    let sized = and_parts (has_sizes s) (fits_volume sectors s) parts.0 in
    laid_from_tests s sized.0 parts.1

volume_below : (sectors : ℕ) (d : ℕ → List ℕ) → IsValidVolume sectors (volume_seen d)
    → AreBelow (geometry_seen (volume_seen d)).dblocks (held (geometry_seen (volume_seen d)) (volume_parts (geometry_seen (volume_seen d)) (volume_seen d)))
unfolding volume_seen
volume_below sectors d valid =
    let geo : Geometry = geometry_in (d 0) in
    let laid : HasLayout (superblock_in (d 0)) = laid_out sectors (d 0) valid.superblock in
    seen_below geo laid.groups laid.sizes.inodes_most d (d 0) laid.log valid.groups

-- ---- other disks

-- a superblock asks of its disk that it has room for its blocks
superblock_elsewhere : (sectors now : ℕ) (bytes : List ℕ) → IsSuperblock sectors bytes → 8 * (geometry_in bytes).dblocks ≤ now → IsSuperblock now bytes
superblock_elsewhere sectors now bytes sound room =
    let s = superblock_in bytes in
    let parts = and_parts (has_sizes s && fits_volume sectors s) (has_places s) sound.geometry in
    let sized = and_parts (has_sizes s) (fits_volume sectors s) parts.0 in
    let groups : AreGroups s.dblocks s.agblocks s.agcount s.agblklog = (laid_out sectors bytes sound).groups in
    let last : (s.agcount - 1) * s.agblocks + 64 ≤ s.dblocks = groups.last in
    let fits : fits_volume now s ≡ true = and_from (leb 8 now) (leb (8 * s.dblocks) now) (le-leb 8 now (omega arith)) (le-leb (8 * s.dblocks) now room) in
    record {
      magic = sound.magic;
      geometry = and_from (has_sizes s && fits_volume now s) (has_places s) (and_from (has_sizes s) (fits_volume now s) sized.0 fits) parts.1;
      served = sound.served;
      checksum = sound.checksum;
    }

valid_elsewhere : (sectors now : ℕ) (s : SeenVolume) → IsValidVolume sectors s → 8 * (geometry_seen s).dblocks ≤ now → IsValidVolume now s
valid_elsewhere sectors now s valid room = record {
  superblock = superblock_elsewhere sectors now s.superblock valid.superblock room;
  groups = valid.groups;
  root = valid.root;
  apart = valid.apart;
  log = valid.log;
}

pub stays : (sectors : ℕ) (image : List ℕ) → IsValidVolume sectors (volume_on image) → StaysOnOtherDisk image
stays sectors image valid now other room alike =
    let s : SeenVolume = volume_on image in
    let geo : Geometry = geometry_seen s in
    let below = volume_below sectors (block image) valid in
    same_files now image other (valid_elsewhere sectors now s valid room)
    (λ n some. alike n (below_all geo.dblocks n (held geo (volume_parts geo s)) below some))
