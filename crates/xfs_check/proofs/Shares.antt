-- What the parts of a volume claim, apart into what is held and what is free.
use Rattle.std.proofs.Common.{◌≡◌, ℕ, ◌+◌, ◌-◌, ◌<◌, ◌≤◌, List, [], ◌∷◌, ◌++◌, map, inl, inr, refl, ap, ◌∙◌, arith}
use Rattle.std.proofs.lemmas.Grind.{flat_map-append}
use Rattle.std.proofs.lemmas.Bool.{cases_lt}
use Rattle.std.proofs.lemmas.List.{map-append}
use Rattle.std.specs.List.{flat_map, range_with_len}
use Rattle.block_claims.proofs.Agreements.{times_in-append, times_itself}
use Rattle.block_claims.specs.Agreement.{AgreeElsewhere, AgreeOn, times_in}
use Rattle.xfs_check.specs.Parts.{Chunks, ForkExtents, ForkTree, FreeInodeTree, FreeList, FreeRuns, FreeTrees, Headers, InodeTree, LogBlocks, Part, group_free, group_parts, groups_free, groups_parts, inode_parts, inodes_parts, part_claims, parts_claims, volume_claims, volume_free, volume_parts}
use Rattle.xfs_check.specs.Seen.{InodeBlock, SeenGroup, SeenVolume, geometry_seen, inodes_of_blocks, inodes_of_group}
use Rattle.xfs_inode.specs.Seen.{SeenInode, extent_claims, fork_claims, inode_claims}
use Rattle.xfs_super.specs.Geometry.{Geometry}
use Rattle.xfs_tree.proofs.Levels.{run_at}
use Rattle.xfs_tree.specs.Tree.{blocks_of}

-- what a part claims that isn't free, and what it claims that is
abbrev pub held_part : Geometry → Part → List ℕ
held_part geo (Headers x) = part_claims geo (Headers x)
held_part geo (FreeList x) = part_claims geo (FreeList x)
held_part geo (FreeTrees x) = part_claims geo (FreeTrees x)
held_part geo (FreeRuns x) = []
held_part geo (InodeTree x) = part_claims geo (InodeTree x)
held_part geo (Chunks x) = part_claims geo (Chunks x)
held_part geo (FreeInodeTree x) = part_claims geo (FreeInodeTree x)
held_part geo (ForkTree f s) = part_claims geo (ForkTree f s)
held_part geo (ForkExtents f s) = part_claims geo (ForkExtents f s)
held_part geo LogBlocks = part_claims geo LogBlocks

abbrev pub free_part : Geometry → Part → List ℕ
free_part geo (FreeRuns x) = group_free geo x
free_part geo _ = []

abbrev pub held : Geometry → List Part → List ℕ
held geo parts = flat_map (held_part geo) parts

abbrev pub freed : Geometry → List Part → List ℕ
freed geo parts = flat_map (free_part geo) parts

share : (geo : Geometry) (n : ℕ) (p : Part) → times_in n (part_claims geo p) ≡ times_in n (held_part geo p) + times_in n (free_part geo p)
share geo n (FreeRuns x) = omega arith
share geo n (Headers x) = omega arith
share geo n (FreeList x) = omega arith
share geo n (FreeTrees x) = omega arith
share geo n (InodeTree x) = omega arith
share geo n (Chunks x) = omega arith
share geo n (FreeInodeTree x) = omega arith
share geo n (ForkTree f s) = omega arith
share geo n (ForkExtents f s) = omega arith
share geo n LogBlocks = omega arith

shares : (geo : Geometry) (n : ℕ) (parts : List Part) → times_in n (parts_claims geo parts) ≡ times_in n (held geo parts) + times_in n (freed geo parts)
shares geo n [] = omega arith
shares geo n (p ∷ ps) =
    omega (arith, share geo n p, shares geo n ps, times_in-append n (part_claims geo p) (parts_claims geo ps), times_in-append n (held_part geo p) (held geo ps), times_in-append n (free_part geo p) (freed geo ps))

-- ---- what is free

inodes_free_nothing : (geo : Geometry) (n : ℕ) (inodes : List SeenInode) → times_in n (freed geo (inodes_parts geo inodes)) ≡ 0
inodes_free_nothing geo n [] = omega arith
inodes_free_nothing geo n (i ∷ is) =
    omega (arith, inodes_free_nothing geo n is, ap (λ (l : List ℕ). times_in n l) (flat_map-append (free_part geo) (inode_parts geo i) (inodes_parts geo is)))

group_frees : (geo : Geometry) (n : ℕ) (x : SeenGroup) → times_in n (freed geo (group_parts geo x)) ≡ times_in n (group_free geo x)
group_frees geo n x = omega (arith, inodes_free_nothing geo n (inodes_of_group x), times_in-append n (group_free geo x) (freed geo (inodes_parts geo (inodes_of_group x))))

groups_free_all : (geo : Geometry) (n : ℕ) (xs : List SeenGroup) → times_in n (freed geo (groups_parts geo xs)) ≡ times_in n (groups_free geo xs)
groups_free_all geo n [] = omega arith
groups_free_all geo n (x ∷ xs) =
    omega (
      arith,
      groups_free_all geo n xs,
      group_frees geo n x,
      ap (λ (l : List ℕ). times_in n l) (flat_map-append (free_part geo) (group_parts geo x) (groups_parts geo xs)),
      times_in-append n (freed geo (group_parts geo x)) (freed geo (groups_parts geo xs)),
      times_in-append n (group_free geo x) (groups_free geo xs),
    )

volume_frees : (s : SeenVolume) (n : ℕ) → times_in n (freed (geometry_seen s) (volume_parts (geometry_seen s) s)) ≡ times_in n (volume_free s)
volume_frees s n =
    let geo = geometry_seen s in
    omega (
      arith,
      groups_free_all geo n s.groups,
      ap (λ (l : List ℕ). times_in n l) (flat_map-append (free_part geo) (groups_parts geo s.groups) (LogBlocks ∷ [])),
      times_in-append n (freed geo (groups_parts geo s.groups)) (freed geo (LogBlocks ∷ [])),
    )

-- volumes that agree outside what is free agree on what is held
pub agree_on_held : (s : SeenVolume) (d e : ℕ → List ℕ) → ((n : ℕ) → times_in n (volume_claims s) ≤ 1) → AgreeElsewhere (volume_free s) d e → AgreeOn (held (geometry_seen s) (volume_parts (geometry_seen s) s)) d e
agree_on_held s d e apart elsewhere = λ n some.
    elsewhere n (omega (arith, apart n, some, shares (geometry_seen s) n (volume_parts (geometry_seen s) s), volume_frees s n))

-- ---- lists of lists

pub agree_less : (xs ys : List ℕ) (d e : ℕ → List ℕ) → ((n : ℕ) → times_in n xs ≤ times_in n ys) → AgreeOn ys d e → AgreeOn xs d e
agree_less xs ys d e less agree = λ n some. agree n (omega (arith, less n, some))

pub flat_twice : {X Y A : Type 0} (f : Y → List A) (h : X → List Y) (xs : List X) → flat_map f (flat_map h xs) ≡ flat_map (λ x. flat_map f (h x)) xs
flat_twice f h [] = refl
flat_twice {A = A} f h (x ∷ xs) = flat_map-append f (h x) (flat_map h xs) ∙ ap (λ (l : List A). flat_map f (h x) ++ l) (flat_twice f h xs)

pub map_flat : {X Y A : Type 0} (f : Y → A) (h : X → List Y) (xs : List X) → map f (flat_map h xs) ≡ flat_map (λ x. map f (h x)) xs
map_flat f h [] = refl
map_flat {A = A} f h (x ∷ xs) = map-append f (h x) (flat_map h xs) ∙ ap (λ (l : List A). map f (h x) ++ l) (map_flat f h xs)

pub in_run : (first count i : ℕ) → i < count → 0 < times_in (first + i) (range_with_len first count)
in_run first count i lt =
    let n : ℕ = first + i in
    omega (
      arith,
      ap (λ (l : List ℕ). times_in n l) (run_at first count i lt),
      times_in-append n (range_with_len first i) (n ∷ range_with_len (n + 1) (count - (i + 1))),
      times_in-append n (n ∷ []) (range_with_len (n + 1) (count - (i + 1))),
      times_itself n,
    )

-- ---- the inodes

abbrev pub inode_held : Geometry → SeenInode → List ℕ
inode_held geo i = held geo (inode_parts geo i)

-- an inode holds what its forks claim
pub inode_holds : (geo : Geometry) (i : SeenInode) (n : ℕ) → times_in n (inode_claims i) ≤ times_in n (inode_held geo i)
inode_holds geo i n =
    let a : List ℕ = blocks_of i.contents.levels in
    let b : List ℕ = flat_map extent_claims i.contents.extents in
    let c : List ℕ = blocks_of i.attributes.levels in
    let d : List ℕ = flat_map extent_claims i.attributes.extents in
    omega (
      arith,
      times_in-append n (fork_claims i.contents) (fork_claims i.attributes),
      times_in-append n a b,
      times_in-append n c d,
      times_in-append n a (b ++ (c ++ (d ++ []))),
      times_in-append n b (c ++ (d ++ [])),
      times_in-append n c (d ++ []),
      times_in-append n d [],
    )

-- a block of inodes, and what they hold
abbrev pub block_held : Geometry → InodeBlock → List ℕ
block_held geo b = b.at ∷ flat_map (inode_held geo) b.inodes

abbrev pub places_of : List InodeBlock → List ℕ
places_of bs = map (λ b. b.at) bs

pub blocks_hold : (geo : Geometry) (n : ℕ) (bs : List InodeBlock) → times_in n (flat_map (block_held geo) bs) ≡ times_in n (places_of bs) + times_in n (flat_map (inode_held geo) (inodes_of_blocks bs))
blocks_hold geo n [] = omega arith
blocks_hold geo n (b ∷ bs) =
    let mine : List ℕ = flat_map (inode_held geo) b.inodes in
    let theirs : List ℕ = flat_map (inode_held geo) (inodes_of_blocks bs) in
    omega (
      arith,
      blocks_hold geo n bs,
      ap (λ (l : List ℕ). times_in n l) (flat_map-append (inode_held geo) b.inodes (inodes_of_blocks bs)),
      times_in-append n mine theirs,
      times_in-append n (b.at ∷ mine) (flat_map (block_held geo) bs),
      times_in-append n (b.at ∷ []) mine,
      times_in-append n (b.at ∷ []) (places_of bs),
    )

pub agree_both : (xs ys : List ℕ) (d e : ℕ → List ℕ) → AgreeOn xs d e → AgreeOn ys d e → AgreeOn (xs ++ ys) d e
agree_both xs ys d e p q = λ n some. elim (cases_lt 0 (times_in n xs)) [
  | inl here ↦ p n here
  | inr none ↦ q n (omega (arith, none, some, times_in-append n xs ys))
]
