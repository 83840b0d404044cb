-- The blocks of a directory that have entries: those of an extent, and those of some extents.
use Rattle.std.proofs.Common.{◌≡◌, ℕ, zero, suc, ◌+◌, ◌-◌, ◌<◌, ◌≤◌, nat_lt, List, [], ◌∷◌, ◌++◌, length, take, drop, get_or, map, inl, inr, refl, sym, ap, subst, ◌∙◌, arith}
use Rattle.std.specs.Prelude.{min}
use Rattle.std.specs.List.{All, Contains, flat_map, range_with_len}
use Rattle.std.proofs.lemmas.Bool.{cases_Bool, cond-true, cond-false, ltb-true, ltb-false}
use Rattle.std.proofs.lemmas.Grind.{flat_map-append, take_at_read}
use Rattle.std.proofs.lemmas.List.Elements.{All-nil, All-append, All-same, Contains-append_left, Contains-append_right}
use Rattle.std.proofs.lemmas.List.Folds.{flat_map-map}
use Rattle.std.proofs.lemmas.List.FromFn.{length-map-range_with_len, get_or-map-range_with_len}
use Rattle.xfs_super.specs.Geometry.{Geometry}
use Rattle.xfs_tree.proofs.Levels.{pieces_more, list_at}
use Rattle.xfs_tree.specs.declared.extent.Extent.{Extent}
use Rattle.xfs_inode.specs.Extents.{block_named}
use Rattle.xfs_inode.specs.Seen.{SeenExtent, file_block_at, extent_seen}
use Rattle.xfs_files.specs.Directory.{DirectoryBlock, first_index_block, no_block, directory_block, entry_block, entry_blocks_of, entry_blocks}
use Rattle.xfs_files.specs.inside.Judging.{held_block}

-- ---- the blocks of an extent

-- how many blocks of an extent stand before the indexes
abbrev pub few : ℕ → ℕ → ℕ
few file count = min count (first_index_block - file)

none_few : (file : ℕ) → few file 0 ≡ 0
none_few file = omega arith

one_more : (file n : ℕ) → file < first_index_block → few file (suc n) ≡ suc (few (file + 1) n)
one_more file n h = omega arith

no_more : (file n : ℕ) → first_index_block ≤ file → few file n ≡ 0
no_more file n h = omega arith

-- the blocks from one on are those that a function gives, up to the indexes
blocks_from : (s : SeenExtent) (g : ℕ → DirectoryBlock) (low n : ℕ) → ((k : ℕ) → low ≤ k → k < low + n → directory_block s k ≡ g k)
    → flat_map (entry_block s) (range_with_len low n) ≡ map g (range_with_len low (few (s.extent.file + low) n))
blocks_from s g low zero each = ap (λ (m : ℕ). map g (range_with_len low m)) (sym (none_few (s.extent.file + low)))
blocks_from s g low (suc n) each =
    let rest : List DirectoryBlock = flat_map (entry_block s) (range_with_len (low + 1) n) in
    let next : s.extent.file + (low + 1) ≡ s.extent.file + low + 1 = omega arith in
    let tail : rest ≡ map g (range_with_len (low + 1) (few (s.extent.file + low + 1) n)) =
    blocks_from s g (low + 1) n (λ k a b. each k (omega (arith, a)) (omega (arith, b)))
    ∙ ap (λ (f : ℕ). map g (range_with_len (low + 1) (few f n))) next in
    elim (cases_Bool (nat_lt (s.extent.file + low) first_index_block)) [
      | inl inside ↦
          let below : s.extent.file + low < first_index_block = ltb-true _ _ inside in
          ap (λ (l : List DirectoryBlock). l ++ rest) (cond-true (nat_lt (s.extent.file + low) first_index_block) (directory_block s low ∷ []) [] inside)
          ∙ ap (λ (b : DirectoryBlock). b ∷ rest) (each low (omega arith) (omega arith))
          ∙ ap (λ (l : List DirectoryBlock). g low ∷ l) tail
          ∙ ap (λ (m : ℕ). map g (range_with_len low m)) (sym (one_more (s.extent.file + low) n below))
      | inr past ↦
          let behind : first_index_block ≤ s.extent.file + low = ltb-false _ _ past in
          ap (λ (l : List DirectoryBlock). l ++ rest) (cond-false (nat_lt (s.extent.file + low) first_index_block) (directory_block s low ∷ []) [] past)
          ∙ tail
          ∙ ap (λ (m : ℕ). map g (range_with_len (low + 1) m)) (no_more (s.extent.file + low + 1) n (omega (arith, behind)))
          ∙ ap (λ (m : ℕ). map g (range_with_len low m)) (sym (no_more (s.extent.file + low) (suc n) behind))
    ]

module _ (volume : ℕ → List ℕ) (geo : Geometry) (e : Extent) where
  abbrev pub nth_block : ℕ → DirectoryBlock
  nth_block k = held_block (e.file + k) (block_named geo e.block + k) (volume (block_named geo e.block + k))

  abbrev pub some_blocks : ℕ
  some_blocks = few e.file e.count

  there : (k : ℕ) → k < e.count → directory_block (extent_seen volume geo e) k ≡ nth_block k
  unfolding extent_seen
  there k lt =
      let held = get_or-map-range_with_len (file_block_at volume) (block_named geo e.block) e.count k (block_named geo e.block + k) no_block lt refl in
      ap (λ b. record { file = e.file + k; at = b.at; bytes = b.bytes }) held

  count_seen : length (extent_seen volume geo e).blocks ≡ e.count
  unfolding extent_seen
  count_seen = length-map-range_with_len (file_block_at volume) (block_named geo e.block) e.count

  extent_is : (extent_seen volume geo e).extent ≡ e
  unfolding extent_seen
  extent_is = refl

  pub blocks_are : entry_blocks_of (extent_seen volume geo e) ≡ map nth_block (range_with_len 0 some_blocks)
  blocks_are =
      let s : SeenExtent = extent_seen volume geo e in
      let start : s.extent.file + 0 ≡ e.file = omega (arith, ap (λ (x : Extent). x.file) extent_is) in
      ap (λ (n : ℕ). flat_map (entry_block s) (range_with_len 0 n)) count_seen
      ∙ blocks_from s nth_block 0 e.count (λ k a b. there k (omega (arith, b)))
      ∙ ap (λ (f : ℕ). map nth_block (range_with_len 0 (few f e.count))) start

  pub all_blocks : (P : DirectoryBlock → Type 0) → ((k : ℕ) → k < some_blocks → P (nth_block k)) → All P (entry_blocks_of (extent_seen volume geo e))
  all_blocks P each =
      All-same P _ _ blocks_are
      (λ k d lt. subst P (sym (get_or-map-range_with_len nth_block 0 some_blocks k k d (omega (arith, lt, length-map-range_with_len nth_block 0 some_blocks)) (omega arith))) (each k (omega (arith, lt, length-map-range_with_len nth_block 0 some_blocks))))

  pub one_block : (k : ℕ) → k < some_blocks → Contains (entry_blocks_of (extent_seen volume geo e)) (nth_block k)
  one_block k lt =
      subst (λ (l : List DirectoryBlock). Contains l (nth_block k)) (sym blocks_are)
      (k, omega (arith, lt, length-map-range_with_len nth_block 0 some_blocks), get_or-map-range_with_len nth_block 0 some_blocks k k (nth_block k) lt (omega arith))

-- ---- the blocks of some extents

pub all_none : (P : DirectoryBlock → Type 0) → All P (entry_blocks [])
unfolding entry_blocks
all_none P = All-nil P

module _ (volume : ℕ → List ℕ) (geo : Geometry) where
  abbrev blocks_in : Extent → List DirectoryBlock
  blocks_in e = entry_blocks_of (extent_seen volume geo e)

  joined : (es : List Extent) → entry_blocks (map (extent_seen volume geo) es) ≡ flat_map blocks_in es
  unfolding entry_blocks
  joined es = flat_map-map entry_blocks_of (extent_seen volume geo) es

  pub all_more : (P : DirectoryBlock → Type 0) (es : List Extent) (i : ℕ) (z : Extent) → i < length es → All P (entry_blocks (map (extent_seen volume geo) (take i es)))
      → All P (entry_blocks_of (extent_seen volume geo (get_or es i z))) → All P (entry_blocks (map (extent_seen volume geo) (take (i + 1) es)))
  all_more P es i z lt before here =
      let more : entry_blocks (map (extent_seen volume geo) (take (i + 1) es)) ≡ entry_blocks (map (extent_seen volume geo) (take i es)) ++ blocks_in (get_or es i z) =
      joined (take (i + 1) es) ∙ ap (λ (l : List Extent). flat_map blocks_in l) (take_at_read es i z lt).1 ∙ pieces_more blocks_in (take i es) (get_or es i z)
      ∙ ap (λ (l : List DirectoryBlock). l ++ blocks_in (get_or es i z)) (sym (joined (take i es))) in
      All-same P _ _ more (All-append P _ _ before here)

  pub one_of_all : (es : List Extent) (i : ℕ) (z : Extent) (b : DirectoryBlock) → i < length es → Contains (entry_blocks_of (extent_seen volume geo (get_or es i z))) b
      → Contains (entry_blocks (map (extent_seen volume geo) es)) b
  one_of_all es i z b lt here =
      let e : Extent = get_or es i z in
      let whole : flat_map blocks_in (take i es) ++ (blocks_in e ++ flat_map blocks_in (drop (i + 1) es)) ≡ entry_blocks (map (extent_seen volume geo) es) =
      sym (joined es ∙ ap (λ (l : List Extent). flat_map blocks_in l) (list_at es i z lt) ∙ flat_map-append blocks_in (take i es) (e ∷ drop (i + 1) es)) in
      subst (λ (l : List DirectoryBlock). Contains l b) whole
      (Contains-append_right (flat_map blocks_in (take i es)) _ b (Contains-append_left (blocks_in e) (flat_map blocks_in (drop (i + 1) es)) b here))
