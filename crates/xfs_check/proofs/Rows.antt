-- Inodes that are judged one after the other, as they stand in blocks and chunks.
use Rattle.std.proofs.Common.{◌≡◌, ℕ, ◌+◌, ◌-◌, ◌*◌, ◌/◌, ◌^◌, ◌<◌, ◌≤◌, Bool, true, false, ◌==◌, ◌||◌, cond, List, [], ◌∷◌, ◌++◌, length, map, take, drop, get_or, inl, inr, refl, sym, ap, ◌∙◌, subst, arith}
use Rattle.std.specs.List.{flat_map, range_with_len}
use Rattle.std.proofs.lemmas.Bool.{cases_lt, false≢true}
use Rattle.std.proofs.lemmas.Grind.{flat_map-append, take_at_read}
use Rattle.std.proofs.lemmas.List.{append-nil, take_all}
use Rattle.std.proofs.lemmas.List.Folds.{list_any-append}
use Rattle.std.proofs.lemmas.List.FromFn.{get_or-range_with_len, length-range_with_len}
use Rattle.block_claims.specs.Agreement.{block}
use Rattle.disk_base.proofs.Images.{length-range, range_in_range}
use Rattle.disk_base.specs.Image.{bytes_at}
use Rattle.xfs_check.proofs.Shares.{flat_twice}
use Rattle.xfs_check.proofs.Steps.{checked_on, inodes_refused_in}
use Rattle.xfs_check.specs.Seen.{InodeBlock, chunk_block_seen, chunk_seen, inode_at_place, inode_block_seen, inodes_in_bytes, inodes_of_blocks}
use Rattle.xfs_check.specs.Valid.{has_root}
use Rattle.xfs_check.specs.inside.Reading.{inodes_of_chunk, inodes_of_chunk_block, inodes_of_chunks}
use Rattle.xfs_check.specs.inside.Steps.{AreChecked, AreRefused}
use Rattle.xfs_inode.specs.Chunks.{chunk_len, inode_number, is_allocated, is_hole}
use Rattle.xfs_inode.specs.Seen.{SeenInode, inode_of}
use Rattle.xfs_super.specs.Geometry.{Geometry}
use Rattle.xfs_super.specs.declared.reason.CheckFault.{CheckFault}
use Rattle.xfs_tree.proofs.Levels.{list_at, pieces_more}
use Rattle.xfs_tree.specs.declared.sparse_chunk.SparseChunk.{SparseChunk}

-- ---- a list of things, each of which has some inodes

module _ {X : Type 0} (f : X → List SeenInode) (z : X) (geo : Geometry) where
  pub next_inodes : (xs : List X) (n : ℕ) → n < length xs → flat_map f (take (n + 1) xs) ≡ flat_map f (take n xs) ++ f (get_or xs n z)
  next_inodes xs n lt = ap (λ (l : List X). flat_map f l) (take_at_read xs n z lt).1 ∙ pieces_more f (take n xs) (get_or xs n z)

  pub inodes_more : (old mid new : ℕ → ℕ) (xs : List X) (n : ℕ) → n < length xs → AreChecked geo (flat_map f (take n xs)) old mid → AreChecked geo (f (get_or xs n z)) mid new → AreChecked geo (flat_map f (take (n + 1) xs)) old new
  inodes_more old mid new xs n lt p q =
      subst (λ (l : List SeenInode). AreChecked geo l old new) (sym (next_inodes xs n lt)) (checked_on geo old mid new (flat_map f (take n xs)) (f (get_or xs n z)) p q)

  pub inodes_fault : (old mid : ℕ → ℕ) (xs : List X) (n : ℕ) (fault : CheckFault) → n < length xs → AreChecked geo (flat_map f (take n xs)) old mid → AreRefused geo (f (get_or xs n z)) mid fault → AreRefused geo (flat_map f xs) old fault
  inodes_fault old mid xs n fault lt p due =
      let x : X = get_or xs n z in
      let whole : flat_map f xs ≡ flat_map f (take n xs) ++ (f x ++ flat_map f (drop (n + 1) xs)) =
      ap (λ (l : List X). flat_map f l) (list_at xs n z lt) ∙ flat_map-append f (take n xs) (x ∷ drop (n + 1) xs) in
      subst (λ (l : List SeenInode). AreRefused geo l old fault) (sym whole) (inodes_refused_in geo old mid (flat_map f (take n xs)) (f x) (flat_map f (drop (n + 1) xs)) fault p due)

  pub root_more : (xs : List X) (n : ℕ) (root found : Bool) → n < length xs → root ≡ has_root geo (flat_map f (take n xs)) → found ≡ has_root geo (f (get_or xs n z)) → (root || found) ≡ has_root geo (flat_map f (take (n + 1) xs))
  root_more xs n root found lt p q =
      ap (λ (b : Bool). b || found) p ∙ ap (λ (b : Bool). has_root geo (flat_map f (take n xs)) || b) q
      ∙ sym (list_any-append (λ (i : SeenInode). i.ino == geo.rootino) (flat_map f (take n xs)) (f (get_or xs n z)))
      ∙ ap (λ (l : List SeenInode). has_root geo l) (sym (next_inodes xs n lt))

-- things that are counted
module _ (f : ℕ → List SeenInode) (n : ℕ) (geo : Geometry) where
  nth : (j : ℕ) → j < n → j ≡ get_or (range_with_len 0 n) j 0
  nth j lt = let is : get_or (range_with_len 0 n) j 0 ≡ 0 + j = get_or-range_with_len 0 n j 0 lt in omega (arith, is)

  small : (j : ℕ) → j < n → j < length (range_with_len 0 n)
  small j lt = omega (arith, lt, length-range_with_len 0 n)

  abbrev pub first_inodes : ℕ → List SeenInode
  first_inodes j = flat_map f (take j (range_with_len 0 n))

  pub counted_inodes : (old mid new : ℕ → ℕ) (j : ℕ) → j < n → AreChecked geo (first_inodes j) old mid → AreChecked geo (f j) mid new → AreChecked geo (first_inodes (j + 1)) old new
  counted_inodes old mid new j lt p q =
      inodes_more f 0 geo old mid new (range_with_len 0 n) j (small j lt) p (subst (λ (i : ℕ). AreChecked geo (f i) mid new) (nth j lt) q)

  pub counted_refused : (old mid : ℕ → ℕ) (j : ℕ) (fault : CheckFault) → j < n → AreChecked geo (first_inodes j) old mid → AreRefused geo (f j) mid fault → AreRefused geo (flat_map f (range_with_len 0 n)) old fault
  counted_refused old mid j fault lt p due =
      inodes_fault f 0 geo old mid (range_with_len 0 n) j fault (small j lt) p (subst (λ (i : ℕ). AreRefused geo (f i) mid fault) (nth j lt) due)

  pub counted_root : (j : ℕ) (root found : Bool) → j < n → root ≡ has_root geo (first_inodes j) → found ≡ has_root geo (f j) → (root || found) ≡ has_root geo (first_inodes (j + 1))
  counted_root j root found lt p q = root_more f 0 geo (range_with_len 0 n) j root found (small j lt) p (q ∙ ap (λ (i : ℕ). has_root geo (f i)) (nth j lt))

  pub whole_row : (j : ℕ) → n ≤ j → first_inodes j ≡ flat_map f (range_with_len 0 n)
  whole_row j le = ap (λ (l : List ℕ). flat_map f l) (take_all j (range_with_len 0 n) (omega (arith, le, length-range_with_len 0 n)))

-- ---- the root

number_is : (geo : Geometry) (volume : ℕ → List ℕ) (ino : ℕ) (bytes : List ℕ) → (inode_of geo volume ino bytes).ino ≡ ino
unfolding inode_of
number_is geo volume ino bytes = refl

or_false : (b : Bool) → b ≡ (b || false)
or_false true = refl
or_false false = refl

root_if : (geo : Geometry) (volume : ℕ → List ℕ) (b : Bool) (ino : ℕ) (bytes : List ℕ) → b ≡ true → (ino == geo.rootino) ≡ has_root geo (cond b (inode_of geo volume ino bytes ∷ []) [])
root_if geo volume true ino bytes h = or_false (ino == geo.rootino) ∙ ap (λ (n : ℕ). (n == geo.rootino) || false) (sym (number_is geo volume ino bytes))
root_if geo volume false ino bytes h = absurd (false≢true h)

pub root_at_place : (geo : Geometry) (volume : ℕ → List ℕ) (group : ℕ) (c : SparseChunk) (bytes : List ℕ) (i k n : ℕ) → is_allocated c i ≡ true → n ≡ inode_number geo group c i
    → (n == geo.rootino) ≡ has_root geo (inode_at_place geo volume group c bytes i k)
root_at_place geo volume group c bytes i k n there is = ap (λ (m : ℕ). m == geo.rootino) is ∙ root_if geo volume (is_allocated c i) (inode_number geo group c i) _ there

-- ---- blocks and chunks

module _ (geo : Geometry) (volume : ℕ → List ℕ) (group : ℕ) where
  in_hole : (c : SparseChunk) (j at : ℕ) (b : Bool) → b ≡ true → inodes_of_blocks (map (inode_block_seen geo volume group c j) (cond b [] (at ∷ []))) ≡ []
  in_hole c j at true h = refl
  in_hole c j at false h = absurd (false≢true h)

  in_block : (c : SparseChunk) (j at : ℕ) (b : Bool) → b ≡ false → inodes_of_blocks (map (inode_block_seen geo volume group c j) (cond b [] (at ∷ []))) ≡ inodes_in_bytes geo volume group c j (volume at)
  unfolding inode_block_seen
  in_block c j at true h = absurd (false≢true (sym h))
  in_block c j at false h = append-nil (inodes_in_bytes geo volume group c j (volume at))

  pub none_in_hole : (c : SparseChunk) (j : ℕ) → is_hole c (2 ^ geo.inopblog * j) ≡ true → inodes_of_chunk_block geo volume group c j ≡ []
  none_in_hole c j hole = in_hole c j (group * geo.agblocks + c.start / 2 ^ geo.inopblog + j) (is_hole c (2 ^ geo.inopblog * j)) hole

  pub those_in_block : (c : SparseChunk) (j : ℕ) → is_hole c (2 ^ geo.inopblog * j) ≡ false
      → inodes_of_chunk_block geo volume group c j ≡ inodes_in_bytes geo volume group c j (volume (group * geo.agblocks + c.start / 2 ^ geo.inopblog + j))
  those_in_block c j there = in_block c j (group * geo.agblocks + c.start / 2 ^ geo.inopblog + j) (is_hole c (2 ^ geo.inopblog * j)) there

  pub chunk_row : (c : SparseChunk) → flat_map (inodes_of_chunk_block geo volume group c) (range_with_len 0 (chunk_len geo)) ≡ inodes_of_chunk geo volume group c
  chunk_row c = sym (flat_twice (λ (b : InodeBlock). b.inodes) (chunk_block_seen geo volume group c) (range_with_len 0 (chunk_len geo)))

  pub chunks_row : (cs : List SparseChunk) → flat_map (inodes_of_chunk geo volume group) cs ≡ inodes_of_chunks geo volume group cs
  chunks_row cs = sym (flat_twice (λ (b : InodeBlock). b.inodes) (chunk_seen geo volume group) cs)

-- a block has 1 to 8 inodes, so a chunk has 64 to 8 blocks
of_four : (P : ℕ → Type 0) → P 0 → P 1 → P 2 → P 3 → (k : ℕ) → k ≤ 3 → P k
of_four P a b c d k few = elim (cases_lt k 1) [
  | inl one ↦ subst P (omega (arith, one)) a
  | inr more ↦ elim (cases_lt k 2) [
    | inl two ↦ subst P (omega (arith, more, two)) b
    | inr larger ↦ elim (cases_lt k 3) [ inl three ↦ subst P (omega (arith, larger, three)) c | inr last ↦ subst P (omega (arith, last, few)) d ]
  ]
]

pub chunk_has_blocks : (k : ℕ) → k ≤ 3 → (1 ≤ 64 / 2 ^ k) × (64 / 2 ^ k ≤ 64)
chunk_has_blocks k few = of_four (λ (n : ℕ). (1 ≤ 64 / 2 ^ n) × (64 / 2 ^ n ≤ 64)) (omega arith, omega arith) (omega arith, omega arith) (omega arith, omega arith) (omega arith, omega arith) k few

-- block `j` of many blocks that were read
pub block_of_many : (image bytes : List ℕ) (first len j at : ℕ) → length bytes ≡ 4096 * len → bytes ≡ bytes_at image (4096 * first) (length bytes) → j < len → at ≡ first + j
    → take (4096 * j + 4096 - 4096 * j) (drop (4096 * j) bytes) ≡ block image at
block_of_many image bytes first len j at long is lt there =
    let n : ℕ = 4096 * len in
    let all : bytes ≡ bytes_at image (4096 * first) n = is ∙ ap (λ (m : ℕ). bytes_at image (4096 * first) m) long in
    let inside : 4096 * first + n ≤ length image = omega (arith, lt, long, ap (λ (l : List ℕ). length l) all, length-range image (4096 * first) n) in
    let one : 4096 * j + 4096 - 4096 * j ≡ 4096 = omega arith in
    let place : 4096 * at ≡ 4096 * first + 4096 * j = omega (arith, there) in
    ap (λ (m : ℕ). take m (drop (4096 * j) bytes)) one ∙ ap (λ (l : List ℕ). bytes_at l (4096 * j) 4096) all
    ∙ range_in_range image (4096 * first) n (4096 * j) 4096 (4096 * at) place (omega (arith, lt)) inside
