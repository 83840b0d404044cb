-- What is seen of a valid volume depends on what is held in it alone.
use Rattle.std.proofs.Common.{◌≡◌, ℕ, ◌+◌, ◌-◌, ◌*◌, ◌/◌, ◌%◌, ◌^◌, ◌<◌, ◌≤◌, Bool, true, false, cond, eqb, ◌==◌, ◌&&◌, List, [], ◌∷◌, ◌++◌, map, inl, inr, refl, sym, ap, ◌∙◌, arith, subst}
use Rattle.std.proofs.lemmas.Bool.{and_parts, eqb-true, or_cases}
use Rattle.std.proofs.lemmas.Grind.{flat_map-append}
use Rattle.std.specs.List.{flat_map, range_with_len}
use Rattle.block_claims.proofs.Agreements.{agree_head, agree_left, agree_right, agree_tail, outside_of, same_flat_map, same_map, times_in-append}
use Rattle.block_claims.specs.Agreement.{AgreeOn, block, times_in}
use Rattle.disk_base.specs.Image.{bytes_at}
use Rattle.xfs_alloc.proofs.Same.{same_free}
use Rattle.xfs_alloc.specs.Free.{FreeSeen, free_seen, tree_claims}
use Rattle.xfs_check.proofs.Shares.{agree_both, agree_less, agree_on_held, block_held, blocks_hold, flat_twice, held, held_part, in_run, inode_held, inode_holds, map_flat, places_of}
use Rattle.xfs_check.specs.Frame.{FreeCarriesNoFile, HasSameFiles, file_at, volume_on}
use Rattle.xfs_check.specs.Parts.{LogBlocks, free_list_claims, group_parts, groups_parts, header_claims, inode_parts, inodes_parts, volume_free, volume_parts}
use Rattle.xfs_check.specs.Seen.{GroupHead, InodeBlock, SeenGroup, SeenVolume, agf_seen, agi_seen, chunk_block_seen, chunk_seen, chunks_seen, free_inode_levels, free_inode_tree, geometry_seen, group_of, group_seen, group_with, groups_seen, head_seen, inode_at_place, inode_block_seen, inode_block_with, inodes_in_bytes, inodes_of_blocks, volume_seen, seen_with}
use Rattle.xfs_check.specs.Valid.{IsValidVolume}
use Rattle.xfs_inode.proofs.Same.{same_chunks, same_inode_of}
use Rattle.xfs_inode.specs.Chunks.{chunk_block, chunk_blocks, chunk_len, chunk_setting, chunks_blocks, inode_number, inode_tree, is_allocated, tree_chunks}
use Rattle.xfs_inode.specs.Seen.{SeenInode, inode_claims, inode_of}
use Rattle.xfs_log.specs.Log.{log_blocks}
use Rattle.xfs_super.proofs.Laid.{groups_from_test, sizes_from_test}
use Rattle.xfs_super.specs.Geometry.{Geometry, are_groups, header_seen, is_log_place, is_sector_size}
use Rattle.xfs_super.specs.Superblock.{IsSuperblock, fits_volume, geometry_from, geometry_in, has_places, has_sizes, superblock_in}
use Rattle.xfs_super.specs.declared.agi.Agi.{Agi}
use Rattle.xfs_tree.proofs.Levels.{run_at}
use Rattle.xfs_tree.proofs.TreeLaws.{same_sights}
use Rattle.xfs_tree.specs.Block.{Sight}
use Rattle.xfs_tree.specs.Form.{Form}
use Rattle.xfs_tree.specs.Records.{by_free_inode, by_free_sparse_inode}
use Rattle.xfs_tree.specs.Tree.{blocks_of}
use Rattle.xfs_tree.specs.declared.sparse_chunk.SparseChunk.{SparseChunk}

-- ---- blocks of inodes

module _ (geo : Geometry) (d e : ℕ → List ℕ) (group : ℕ) (c : SparseChunk) where
  same_either : (b : Bool) (ino : ℕ) (bytes : List ℕ) → AgreeOn (flat_map (inode_held geo) (cond b (inode_of geo d ino bytes ∷ []) [])) d e
      → cond b (inode_of geo e ino bytes ∷ []) [] ≡ cond b (inode_of geo d ino bytes ∷ []) []
  same_either true ino bytes agree =
      let i : SeenInode = inode_of geo d ino bytes in
      let mine : AgreeOn (inode_held geo i) d e = agree_left (inode_held geo i) [] d e agree in
      ap (λ (x : SeenInode). x ∷ []) (same_inode_of geo ino bytes d e (agree_less (inode_claims i) (inode_held geo i) d e (inode_holds geo i) mine))
  same_either false ino bytes agree = refl

  same_inodes : (j : ℕ) (bytes : List ℕ) → AgreeOn (flat_map (inode_held geo) (inodes_in_bytes geo d group c j bytes)) d e → inodes_in_bytes geo e group c j bytes ≡ inodes_in_bytes geo d group c j bytes
  same_inodes j bytes agree =
      let w : ℕ = 2 ^ geo.inopblog in
      same_flat_map (inode_held geo) d e
      (λ k. inode_at_place geo d group c bytes (w * j + k) k) (λ k. inode_at_place geo e group c bytes (w * j + k) k)
      (λ k h. same_either (is_allocated c (w * j + k)) (inode_number geo group c (w * j + k)) (bytes_at bytes (geo.inodesize * k) geo.inodesize) h)
      (range_with_len 0 w) agree

  same_block : (j at : ℕ) → AgreeOn (block_held geo (inode_block_seen geo d group c j at)) d e → inode_block_seen geo e group c j at ≡ inode_block_seen geo d group c j at
  unfolding inode_block_seen
  same_block j at agree =
      let rest : List ℕ = flat_map (inode_held geo) (inodes_in_bytes geo d group c j (d at)) in
      let here : e at ≡ d at = agree_head at rest d e agree in
      ap (λ (l : List ℕ). inode_block_with geo e group c j at l) here
      ∙ ap (λ (l : List SeenInode). record { at = at; bytes = d at; inodes = l }) (same_inodes j (d at) (agree_tail at rest d e agree))

  same_chunk_block : (j : ℕ) → AgreeOn (flat_map (block_held geo) (chunk_block_seen geo d group c j)) d e → chunk_block_seen geo e group c j ≡ chunk_block_seen geo d group c j
  same_chunk_block j agree =
      same_map (block_held geo) d e (inode_block_seen geo d group c j) (inode_block_seen geo e group c j) (same_block j) (chunk_block geo group c j) agree

  same_chunk : AgreeOn (flat_map (block_held geo) (chunk_seen geo d group c)) d e → chunk_seen geo e group c ≡ chunk_seen geo d group c
  same_chunk agree =
      same_flat_map (block_held geo) d e (chunk_block_seen geo d group c) (chunk_block_seen geo e group c) same_chunk_block (range_with_len 0 (chunk_len geo)) agree

  -- and which blocks they are
  places_again : (j : ℕ) (ats : List ℕ) → places_of (map (inode_block_seen geo d group c j) ats) ≡ ats
  unfolding inode_block_seen
  places_again j [] = refl
  places_again j (at ∷ ats) = ap (λ (l : List ℕ). at ∷ l) (places_again j ats)

  chunk_places : (js : List ℕ) → places_of (flat_map (chunk_block_seen geo d group c) js) ≡ flat_map (chunk_block geo group c) js
  chunk_places [] = refl
  chunk_places (j ∷ js) =
      map_flat (λ (b : InodeBlock). b.at) (chunk_block_seen geo d group c) (j ∷ js)
      ∙ ap (λ (l : List ℕ). l ++ flat_map (λ (k : ℕ). places_of (chunk_block_seen geo d group c k)) js) (places_again j (chunk_block geo group c j))
      ∙ ap (λ (l : List ℕ). chunk_block geo group c j ++ l) (sym (map_flat (λ (b : InodeBlock). b.at) (chunk_block_seen geo d group c) js) ∙ chunk_places js)

all_places : (geo : Geometry) (d : ℕ → List ℕ) (group : ℕ) (chunks : List SparseChunk) → places_of (chunks_seen geo d group chunks) ≡ chunks_blocks geo group chunks
all_places geo d group [] = refl
all_places geo d group (c ∷ cs) =
    map_flat (λ (b : InodeBlock). b.at) (chunk_seen geo d group) (c ∷ cs)
    ∙ ap (λ (l : List ℕ). l ++ flat_map (λ (x : SparseChunk). places_of (chunk_seen geo d group x)) cs) (chunk_places geo d d group c (range_with_len 0 (chunk_len geo)))
    ∙ ap (λ (l : List ℕ). chunk_blocks geo group c ++ l) (sym (map_flat (λ (b : InodeBlock). b.at) (chunk_seen geo d group) cs) ∙ all_places geo d group cs)

same_inode_blocks : (geo : Geometry) (d e : ℕ → List ℕ) (group : ℕ) (chunks : List SparseChunk) → AgreeOn (chunks_blocks geo group chunks) d e
    → AgreeOn (held geo (inodes_parts geo (inodes_of_blocks (chunks_seen geo d group chunks)))) d e → chunks_seen geo e group chunks ≡ chunks_seen geo d group chunks
same_inode_blocks geo d e group chunks blocks inodes =
    let bs : List InodeBlock = chunks_seen geo d group chunks in
    let are : held geo (inodes_parts geo (inodes_of_blocks bs)) ≡ flat_map (inode_held geo) (inodes_of_blocks bs) = flat_twice (held_part geo) (inode_parts geo) (inodes_of_blocks bs) in
    let theirs : AgreeOn (flat_map (inode_held geo) (inodes_of_blocks bs)) d e = subst (λ (l : List ℕ). AgreeOn l d e) are inodes in
    let places : AgreeOn (places_of bs) d e = subst (λ (l : List ℕ). AgreeOn l d e) (sym (all_places geo d group chunks)) blocks in
    let both : AgreeOn (places_of bs ++ flat_map (inode_held geo) (inodes_of_blocks bs)) d e =
    agree_both (places_of bs) (flat_map (inode_held geo) (inodes_of_blocks bs)) d e places theirs in
    let all : AgreeOn (flat_map (block_held geo) bs) d e =
    agree_less (flat_map (block_held geo) bs) (places_of bs ++ flat_map (inode_held geo) (inodes_of_blocks bs)) d e
    (λ n. omega (arith, blocks_hold geo n bs, times_in-append n (places_of bs) (flat_map (inode_held geo) (inodes_of_blocks bs)))) both in
    same_flat_map (block_held geo) d e (chunk_seen geo d group) (chunk_seen geo e group) (λ c h. same_chunk geo d e group c h) chunks all

-- ---- a group

-- a header lies in the blocks that the headers claim
abbrev LiesIn : ℕ → ℕ → Type 0
LiesIn k size = k * size / 4096 < cond (size == 4096) 4 1

lies_small : (k : ℕ) → k ≤ 3 → LiesIn k 512
lies_small k few = omega arith

lies_large : (k : ℕ) → k ≤ 3 → LiesIn k 4096
lies_large k few = omega arith

header_lies : (geo : Geometry) (k : ℕ) → is_sector_size geo.sectsize ≡ true → k ≤ 3 → LiesIn k geo.sectsize
header_lies geo k size few = elim (or_cases (eqb geo.sectsize 512) (eqb geo.sectsize 4096) size) [
  | inl small ↦ subst (LiesIn k) (sym (eqb-true geo.sectsize 512 small)) (lies_small k few)
  | inr large ↦ subst (LiesIn k) (sym (eqb-true geo.sectsize 4096 large)) (lies_large k few)
]

same_header : (geo : Geometry) (d e : ℕ → List ℕ) (group k : ℕ) → is_sector_size geo.sectsize ≡ true → k ≤ 3 → AgreeOn (header_claims geo group) d e → header_seen geo e group k ≡ header_seen geo d group k
same_header geo d e group k size few agree =
    let at : ℕ = k * geo.sectsize / 4096 in
    let here : e (group * geo.agblocks + at) ≡ d (group * geo.agblocks + at) =
    agree (group * geo.agblocks + at) (in_run (group * geo.agblocks) (cond (geo.sectsize == 4096) 4 1) at (header_lies geo k size few)) in
    ap (λ (l : List ℕ). bytes_at l (k * geo.sectsize % 4096) geo.sectsize) here

same_head : (geo : Geometry) (d e : ℕ → List ℕ) (group : ℕ) → is_sector_size geo.sectsize ≡ true → AgreeOn (header_claims geo group) d e → head_seen geo e group ≡ head_seen geo d group
same_head geo d e group size agree =
    let one = same_header geo d e group 1 size (omega arith) agree in
    let two = same_header geo d e group 2 size (omega arith) agree in
    let three = same_header geo d e group 3 size (omega arith) agree in
    cc

same_free_levels : {R : Type 0} (form : Form R) (geo : Geometry) (group : ℕ) (agi : Agi) (d e : ℕ → List ℕ) → AgreeOn (blocks_of (free_inode_levels form geo group agi d)) d e
    → free_inode_levels form geo group agi e ≡ free_inode_levels form geo group agi d
same_free_levels form geo group agi d e agree = same_sights (chunk_setting form geo group) d e (agi.free_level - 1) 0 ((group * geo.agblocks + agi.free_root) ∷ []) agree

same_free_either : (geo : Geometry) (group : ℕ) (agi : Agi) (d e : ℕ → List ℕ) (b : Bool)
    → AgreeOn (blocks_of (cond b (free_inode_levels by_free_sparse_inode geo group agi d) (free_inode_levels by_free_inode geo group agi d))) d e
    → cond b (free_inode_levels by_free_sparse_inode geo group agi e) (free_inode_levels by_free_inode geo group agi e)
    ≡ cond b (free_inode_levels by_free_sparse_inode geo group agi d) (free_inode_levels by_free_inode geo group agi d)
same_free_either geo group agi d e true agree = same_free_levels by_free_sparse_inode geo group agi d e agree
same_free_either geo group agi d e false agree = same_free_levels by_free_inode geo group agi d e agree

same_free_tree_if : (geo : Geometry) (group : ℕ) (agi : Agi) (d e : ℕ → List ℕ) (b : Bool)
    → AgreeOn (blocks_of (cond b (cond geo.sparse (free_inode_levels by_free_sparse_inode geo group agi d) (free_inode_levels by_free_inode geo group agi d)) [])) d e
    → cond b (cond geo.sparse (free_inode_levels by_free_sparse_inode geo group agi e) (free_inode_levels by_free_inode geo group agi e)) []
    ≡ cond b (cond geo.sparse (free_inode_levels by_free_sparse_inode geo group agi d) (free_inode_levels by_free_inode geo group agi d)) []
same_free_tree_if geo group agi d e true agree = same_free_either geo group agi d e geo.sparse agree
same_free_tree_if geo group agi d e false agree = refl

same_group_of : (geo : Geometry) (d e : ℕ → List ℕ) (group : ℕ) (head : GroupHead) → AgreeOn (held geo (group_parts geo (group_of geo d group head))) d e
    → group_of geo e group head ≡ group_of geo d group head
unfolding group_of
same_group_of geo d e group head agree =
    let levels : List (List Sight) = inode_tree geo group (agi_seen head) d in
    let chunks : List SparseChunk = tree_chunks geo group levels in
    let x : SeenGroup = group_with geo d group head levels in
    let inodes : List ℕ = held geo (inodes_parts geo (inodes_of_blocks (chunks_seen geo d group chunks))) in
    let free : List ℕ = tree_claims (free_seen geo group (agf_seen head) d) in
    let more : List ℕ = blocks_of (free_inode_tree geo group (agi_seen head) d) in
    let last : List ℕ = more ++ inodes in
    let blocks : List ℕ = chunks_blocks geo group chunks in
    let behind : List ℕ = blocks_of levels ++ (blocks ++ last) in
    let one : AgreeOn (free_list_claims geo x ++ (free ++ behind)) d e = agree_right (header_claims geo group) (free_list_claims geo x ++ (free ++ behind)) d e agree in
    let two : AgreeOn (free ++ behind) d e = agree_right (free_list_claims geo x) (free ++ behind) d e one in
    let three : AgreeOn behind d e = agree_right free behind d e two in
    let four : AgreeOn (blocks ++ last) d e = agree_right (blocks_of levels) (blocks ++ last) d e three in
    let five : AgreeOn last d e = agree_right blocks last d e four in
    let tree : inode_tree geo group (agi_seen head) e ≡ levels = same_chunks geo group (agi_seen head) d e (agree_left (blocks_of levels) (blocks ++ last) d e three) in
    let space : free_seen geo group (agf_seen head) e ≡ free_seen geo group (agf_seen head) d = same_free geo group (agf_seen head) d e (agree_left free behind d e two) in
    let frees : free_inode_tree geo group (agi_seen head) e ≡ free_inode_tree geo group (agi_seen head) d =
    same_free_tree_if geo group (agi_seen head) d e geo.finobt (agree_left more inodes d e five) in
    let there : chunks_seen geo e group chunks ≡ chunks_seen geo d group chunks =
    same_inode_blocks geo d e group chunks (agree_left blocks last d e four) (agree_right more inodes d e five) in
    ap (λ (l : List (List Sight)). group_with geo e group head l) tree
    ∙ ap (λ (f : FreeSeen). record { number = group; head = head; free = f; inode_levels = levels; free_inode_levels = free_inode_tree geo group (agi_seen head) e; inode_blocks = chunks_seen geo e group chunks }) space
    ∙ ap (λ (l : List (List Sight)). record { number = group; head = head; free = free_seen geo group (agf_seen head) d; inode_levels = levels; free_inode_levels = l; inode_blocks = chunks_seen geo e group chunks }) frees
    ∙ ap (λ (l : List InodeBlock). record { number = group; head = head; free = free_seen geo group (agf_seen head) d; inode_levels = levels; free_inode_levels = free_inode_tree geo group (agi_seen head) d; inode_blocks = l }) there

abbrev group_held : Geometry → SeenGroup → List ℕ
group_held geo x = held geo (group_parts geo x)

heads_held : (geo : Geometry) (d : ℕ → List ℕ) (group : ℕ) (head : GroupHead) (n : ℕ) → times_in n (header_claims geo group) ≤ times_in n (group_held geo (group_of geo d group head))
unfolding group_of
heads_held geo d group head n =
    let x : SeenGroup = group_with geo d group head (inode_tree geo group (agi_seen head) d) in
    let behind : List ℕ = blocks_of x.inode_levels ++ (chunks_blocks geo group (tree_chunks geo group x.inode_levels) ++ (blocks_of x.free_inode_levels ++ held geo (inodes_parts geo (inodes_of_blocks x.inode_blocks)))) in
    omega (arith, times_in-append n (header_claims geo group) (free_list_claims geo x ++ (tree_claims x.free ++ behind)))

same_group : (geo : Geometry) (d e : ℕ → List ℕ) → is_sector_size geo.sectsize ≡ true → (group : ℕ) → AgreeOn (group_held geo (group_seen geo d group)) d e → group_seen geo e group ≡ group_seen geo d group
same_group geo d e size group agree =
    let head : GroupHead = head_seen geo d group in
    let heads : AgreeOn (header_claims geo group) d e = agree_less (header_claims geo group) (group_held geo (group_seen geo d group)) d e (heads_held geo d group head) agree in
    ap (λ (h : GroupHead). group_of geo e group h) (same_head geo d e group size heads) ∙ same_group_of geo d e group head agree

-- ---- the volume

some_header : (b : Bool) → 0 < cond b 4 1
some_header true = omega arith
some_header false = omega arith

first_header : (a size : ℕ) → 0 < times_in 0 (range_with_len (0 * a) (cond (size == 4096) 4 1))
first_header a size =
    let first : 0 * a + 0 ≡ 0 = omega arith in
    subst (λ (n : ℕ). 0 < times_in n (range_with_len (0 * a) (cond (size == 4096) 4 1))) first (in_run (0 * a) (cond (size == 4096) 4 1) 0 (some_header (size == 4096)))

same_all : (d e : ℕ → List ℕ) (xs : List ℕ) → AgreeOn xs d e → map e xs ≡ map d xs
same_all d e [] agree = refl
same_all d e (x ∷ xs) agree =
    let here = agree_head x xs d e agree in
    let rest = same_all d e xs (agree_tail x xs d e agree) in
    cc

-- a volume that its superblock lays out has a sector size and a group
pub has_size : (sectors : ℕ) (bytes : List ℕ) → IsSuperblock sectors bytes → is_sector_size (geometry_in bytes).sectsize ≡ true
has_size sectors bytes sound =
    let s = superblock_in bytes in
    let laid = and_parts (has_sizes s && fits_volume sectors s) (has_places s) sound.geometry in
    let sized = and_parts (has_sizes s) (fits_volume sectors s) laid.0 in
    (sizes_from_test s sized.0).sector

pub has_group : (sectors : ℕ) (bytes : List ℕ) → IsSuperblock sectors bytes → 1 ≤ (geometry_in bytes).agcount
has_group sectors bytes sound =
    let s = superblock_in bytes in
    let laid = and_parts (has_sizes s && fits_volume sectors s) (has_places s) sound.geometry in
    let parts = and_parts (are_groups s.dblocks s.agblocks s.agcount s.agblklog) (is_log_place (geometry_from s)) laid.1 in
    (groups_from_test s.dblocks s.agblocks s.agcount s.agblklog parts.0).some

-- all that is held lies in the groups or in the log
module _ (geo : Geometry) (d e : ℕ → List ℕ) where
  abbrev all_seen : List SeenGroup
  all_seen = groups_seen geo d

  abbrev all_groups_held : List ℕ
  all_groups_held = flat_map (group_held geo) all_seen

  groups_then_log : (s : List ℕ) → AgreeOn (held geo (volume_parts geo (seen_with geo d s))) d e → AgreeOn (all_groups_held ++ (log_blocks geo ++ [])) d e
  groups_then_log s agree =
      subst (λ (l : List ℕ). AgreeOn l d e)
      (flat_map-append (held_part geo) (groups_parts geo all_seen) (LogBlocks ∷ [])
      ∙ ap (λ (l : List ℕ). l ++ (log_blocks geo ++ [])) (flat_twice (held_part geo) (group_parts geo) all_seen))
      agree

  same_parts : (s : List ℕ) → is_sector_size geo.sectsize ≡ true → AgreeOn (held geo (volume_parts geo (seen_with geo d s))) d e → seen_with geo e s ≡ seen_with geo d s
  same_parts s size agree =
      let both = groups_then_log s agree in
      let groups : map (group_seen geo e) (range_with_len 0 geo.agcount) ≡ all_seen =
      same_map (group_held geo) d e (group_seen geo d) (group_seen geo e) (same_group geo d e size) (range_with_len 0 geo.agcount) (agree_left all_groups_held (log_blocks geo ++ []) d e both) in
      let log : map e (log_blocks geo) ≡ map d (log_blocks geo) =
      same_all d e (log_blocks geo) (agree_left (log_blocks geo) [] d e (agree_right all_groups_held (log_blocks geo ++ []) d e both)) in
      ap (λ (l : List SeenGroup). record { superblock = s; groups = l; log = map e (log_blocks geo) }) groups
      ∙ ap (λ (l : List (List ℕ)). record { superblock = s; groups = all_seen; log = l }) log

  -- the superblock stands in the first block of the first group
  same_first : (s : List ℕ) → 1 ≤ geo.agcount → AgreeOn (held geo (volume_parts geo (seen_with geo d s))) d e → e 0 ≡ d 0
  same_first s some agree =
      let all = agree_left all_groups_held (log_blocks geo ++ []) d e (groups_then_log s agree) in
      let first : range_with_len 0 geo.agcount ≡ 0 ∷ range_with_len 1 (geo.agcount - 1) = run_at 0 geo.agcount 0 some in
      let rest : List ℕ = flat_map (group_held geo) (map (group_seen geo d) (range_with_len 1 (geo.agcount - 1))) in
      let front : AgreeOn (group_held geo (group_seen geo d 0) ++ rest) d e = subst (λ (l : List ℕ). AgreeOn (flat_map (group_held geo) (map (group_seen geo d) l)) d e) first all in
      let one : AgreeOn (group_held geo (group_seen geo d 0)) d e = agree_left (group_held geo (group_seen geo d 0)) rest d e front in
      let heads : AgreeOn (header_claims geo 0) d e = agree_less (header_claims geo 0) (group_held geo (group_seen geo d 0)) d e (heads_held geo d 0 (head_seen geo d 0)) one in
      heads 0 (first_header geo.agblocks geo.sectsize)

pub same_volume : (sectors : ℕ) (d e : ℕ → List ℕ) → IsSuperblock sectors (d 0) → AgreeOn (held (geometry_in (d 0)) (volume_parts (geometry_in (d 0)) (volume_seen d))) d e → volume_seen e ≡ volume_seen d
unfolding volume_seen
same_volume sectors d e sound agree =
    let geo : Geometry = geometry_in (d 0) in
    let first : e 0 ≡ d 0 = same_first geo d e (d 0) (has_group sectors (d 0) sound) agree in
    ap (λ (s : List ℕ). seen_with (geometry_in s) e s) first ∙ same_parts geo d e (d 0) (has_size sectors (d 0) sound) agree

-- the superblock that is seen
pub seen_superblock : (d : ℕ → List ℕ) → (volume_seen d).superblock ≡ d 0
unfolding volume_seen
seen_superblock d = refl

-- volumes that hold the same in all that is held have the same files, on any disk on which the first one is valid
pub same_files : (sectors : ℕ) (image other : List ℕ) → IsValidVolume sectors (volume_on image)
    → AgreeOn (held (geometry_seen (volume_on image)) (volume_parts (geometry_seen (volume_on image)) (volume_on image))) (block image) (block other)
    → HasSameFiles sectors (volume_on image) (volume_on other)
same_files sectors image other valid agree =
    let d : ℕ → List ℕ = block image in
    let e : ℕ → List ℕ = block other in
    let s : SeenVolume = volume_seen d in
    let is : s.superblock ≡ d 0 = seen_superblock d in
    let sound : IsSuperblock sectors (d 0) = subst (IsSuperblock sectors) is valid.superblock in
    let there : AgreeOn (held (geometry_in (d 0)) (volume_parts (geometry_in (d 0)) s)) d e = subst (λ (l : List ℕ). AgreeOn (held (geometry_in l) (volume_parts (geometry_in l) s)) d e) is agree in
    let same : volume_seen e ≡ s = same_volume sectors d e sound there in
    record {
      seen = same;
      valid = subst (IsValidVolume sectors) (sym same) valid;
      geometry = ap (λ (v : SeenVolume). geometry_seen v) same;
      free = ap (λ (v : SeenVolume). volume_free v) same;
      files = λ path. ap (λ (v : SeenVolume). file_at v path) same;
    }

pub frame : (sectors : ℕ) (image : List ℕ) → IsValidVolume sectors (volume_on image) → FreeCarriesNoFile sectors image
frame sectors image valid other differs =
    let s : SeenVolume = volume_on image in
    same_files sectors image other valid (agree_on_held s (block image) (block other) valid.apart (outside_of (volume_free s) image other differs))
