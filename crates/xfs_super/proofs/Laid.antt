-- What the tests on sizes, groups and the log say.
use Rattle.std.proofs.Common.{◌≡◌, ℕ, ◌+◌, ◌-◌, ◌*◌, ◌/◌, ◌%◌, ◌^◌, ◌<◌, ◌≤◌, ◌⊎◌, inl, inr, true, false, eqb, ltb, leb, ◌&&◌, ◌||◌, min, sym, ap, ◌∙◌, subst, arith}
use Rattle.std.specs.Int.{div_ceil}
use Rattle.std.proofs.lemmas.Bool.{and_parts, and_from, or_right, or_cases, lt-ltb, le-leb, eq-eqb, leb-true, ltb-true, le-ltb, eqb-true, cases_lt, and_right}
use Rattle.std.proofs.lemmas.Grind.{div_ceil_times}
use Rattle.std.proofs.Math.Pow.{pow_mono}
use Rattle.xfs_super.specs.Geometry.{Geometry, group_len, is_least_log, blocks_in_group, are_groups, is_sector_size, is_log_place, AreGroups, AreSizes, IsLogPlace}
use Rattle.xfs_super.specs.Superblock.{has_inode_sizes, has_sector_size, has_sizes, has_places, geometry_from}
use Rattle.xfs_super.specs.inside.Layout.{HasLayout}
use Rattle.xfs_super.specs.declared.superblock.Superblock.{Superblock}

half_below : (k n : ℕ) → 64 ≤ n → (k ≡ 0) ⊎ (2 ^ (k - 1) < n) → 2 ^ (k - 1) < n
half_below k n least (inl e) = let one : 2 ^ (k - 1) ≡ 1 = ap (λ j. 2 ^ (j - 1)) e in omega arith
half_below k n least (inr h) = h

half_or_none : (k n : ℕ) → (eqb k 0 ≡ true) ⊎ (ltb (2 ^ (k - 1)) n ≡ true) → (k ≡ 0) ⊎ (2 ^ (k - 1) < n)
half_or_none k n (inl e) = inl (eqb-true k 0 e)
half_or_none k n (inr h) = inr (ltb-true (2 ^ (k - 1)) n h)

log_below : (k n : ℕ) → n ≤ 2 ^ 28 → 2 ^ (k - 1) < n → k ≤ 28
log_below k n most half =
    elim (cases_lt 28 k) [
      | inl above ↦ let more : 2 ^ 28 ≤ 2 ^ (k - 1) = pow_mono {i = 28} {j = k - 1} (omega arith) in absurd (omega arith)
      | inr fits ↦ fits
    ]

-- a logarithm above 28 is that of a greater number
pub too_great : (k n : ℕ) → n ≤ 2 ^ 28 → 28 < k → is_least_log k n ≡ false
too_great k n most above =
    let more : 2 ^ 28 ≤ 2 ^ (k - 1) = pow_mono {i = 28} {j = k - 1} (omega arith) in
    let zero : eqb k 0 ≡ false = grind arith in
    let half : ltb (2 ^ (k - 1)) n ≡ false = le-ltb (2 ^ (k - 1)) n (omega arith) in
    and_right (leb n (2 ^ k)) (eqb k 0 || ltb (2 ^ (k - 1)) n) (ap (λ b. b || ltb (2 ^ (k - 1)) n) zero ∙ half)

pub groups_from_test : (d a c k : ℕ) → are_groups d a c k ≡ true → AreGroups d a c k
groups_from_test d a c k passes =
    let last = and_parts _ (leb 64 (blocks_in_group d a (c - 1))) passes in
    let some = and_parts _ (ltb 0 c) last.0 in
    let count = and_parts _ (eqb c (div_ceil d a)) some.0 in
    let log = and_parts _ (is_least_log k a) count.0 in
    let sizes = and_parts (leb 64 a) (leb a (2 ^ 28)) log.0 in
    let least : 64 ≤ a = leb-true 64 a sizes.0 in
    let most : a ≤ 2 ^ 28 = leb-true a (2 ^ 28) sizes.1 in
    let power = and_parts (leb a (2 ^ k)) (eqb k 0 || ltb (2 ^ (k - 1)) a) log.1 in
    let half : 2 ^ (k - 1) < a = half_below k a least (half_or_none k a (or_cases (eqb k 0) (ltb (2 ^ (k - 1)) a) power.1)) in
    let counted : c ≡ div_ceil d a = eqb-true c (div_ceil d a) count.1 in
    let whole = div_ceil_times d a (omega arith) in
    record {
      least = least;
      most = most;
      log = log_below k a most half;
      named = leb-true a (2 ^ k) power.0;
      tight = half;
      count = counted;
      some = ltb-true 0 c some.1;
      last = (let enough : 64 ≤ min a (d - (c - 1) * a) = leb-true 64 (blocks_in_group d a (c - 1)) last.1 in omega arith);
      all = subst (λ n. d ≤ n * a) (sym counted) whole.0;
    }

-- the sizes that are served, as facts
sector_sizes : (s l : ℕ) → ((eqb s 512 && eqb l 9) || (eqb s 4096 && eqb l 12)) ≡ true → (s ≡ 512) ⊎ (s ≡ 4096)
sector_sizes s l h =
    elim (or_cases (eqb s 512 && eqb l 9) (eqb s 4096 && eqb l 12) h) [
      | inl small ↦ inl (eqb-true s 512 (and_parts (eqb s 512) (eqb l 9) small).0)
      | inr large ↦ inr (eqb-true s 4096 (and_parts (eqb s 4096) (eqb l 12) large).0)
    ]

sector_test : (s : ℕ) → (s ≡ 512) ⊎ (s ≡ 4096) → (is_sector_size s ≡ true) × (512 ≤ s) × (s ≤ 4096)
sector_test s (inl e) = (ap is_sector_size e, omega arith, omega arith)
sector_test s (inr e) = (ap is_sector_size e, omega arith, omega arith)

-- inodes of that size, as many in a block
abbrev InodeSizes : ℕ → ℕ → Type 0
InodeSizes i p = ((i ≡ 512) × (p ≡ 3)) ⊎ (((i ≡ 1024) × (p ≡ 2)) ⊎ ((i ≡ 2048) × (p ≡ 1)))

one_inode_size : (i l n p size log count power : ℕ) → (eqb i size && eqb l log && eqb n count && eqb p power) ≡ true → (i ≡ size) × (p ≡ power)
one_inode_size i l n p size log count power h =
    let last = and_parts (eqb i size && eqb l log && eqb n count) (eqb p power) h in
    let counted = and_parts (eqb i size && eqb l log) (eqb n count) last.0 in
    let sized = and_parts (eqb i size) (eqb l log) counted.0 in
    (eqb-true i size sized.0, eqb-true p power last.1)

inode_sizes : (s : Superblock) → has_inode_sizes s ≡ true → InodeSizes s.inodesize s.inopblog
inode_sizes s h =
    elim (or_cases _ (eqb s.inodesize 2048 && eqb s.inodelog 11 && eqb s.inopblock 2 && eqb s.inopblog 1) h) [
      | inr large ↦ inr (inr (one_inode_size s.inodesize s.inodelog s.inopblock s.inopblog 2048 11 2 1 large))
      | inl smaller ↦
          elim (or_cases _ (eqb s.inodesize 1024 && eqb s.inodelog 10 && eqb s.inopblock 4 && eqb s.inopblog 2) smaller) [
            | inr middle ↦ inr (inl (one_inode_size s.inodesize s.inodelog s.inopblock s.inopblog 1024 10 4 2 middle))
            | inl small ↦ inl (one_inode_size s.inodesize s.inodelog s.inopblock s.inopblog 512 9 8 3 small)
          ]
    ]

inode_facts : (i p : ℕ) → InodeSizes i p → (i * 2 ^ p ≡ 4096) × (512 ≤ i) × (i ≤ 2048) × (p ≤ 3)
inode_facts i p (inl e) = ((λ k. e.0 k * 2 ^ e.1 k), omega (arith, e.0), omega (arith, e.0), omega (arith, e.1))
inode_facts i p (inr (inl e)) = ((λ k. e.0 k * 2 ^ e.1 k), omega (arith, e.0), omega (arith, e.0), omega (arith, e.1))
inode_facts i p (inr (inr e)) = ((λ k. e.0 k * 2 ^ e.1 k), omega (arith, e.0), omega (arith, e.0), omega (arith, e.1))

pub sizes_from_test : (s : Superblock) → has_sizes s ≡ true → AreSizes s.sectsize s.inodesize s.inopblog
sizes_from_test s h =
    let last = and_parts _ (eqb s.dirblklog 0) h in
    let inodes = and_parts _ (has_inode_sizes s) last.0 in
    let sector = and_parts _ (has_sector_size s) inodes.0 in
    let sectors = sector_test s.sectsize (sector_sizes s.sectsize s.sectlog sector.1) in
    let facts = inode_facts s.inodesize s.inopblog (inode_sizes s inodes.1) in
    record {
      sector = sectors.0;
      sector_least = sectors.1;
      sector_most = sectors.2;
      inodes = facts.0;
      inode_least = facts.1;
      inode_most = facts.2;
      inodes_most = facts.3;
    }

pub log_from_test : (g : Geometry) → is_log_place g ≡ true → IsLogPlace g.logstart g.logblocks g.dblocks g.agblocks g.agcount g.agblklog
log_from_test g h =
    let group : ℕ = g.logstart / 2 ^ g.agblklog in
    let last = and_parts _ (leb (g.logstart % 2 ^ g.agblklog + g.logblocks) (group_len g group)) h in
    let first = and_parts (ltb 0 g.logblocks) (ltb group g.agcount) last.0 in
    record {
      some = ltb-true 0 g.logblocks first.0;
      group = ltb-true group g.agcount first.1;
      inside = leb-true _ _ last.1;
    }

pub laid_from_tests : (s : Superblock) → has_sizes s ≡ true → has_places s ≡ true → HasLayout s
laid_from_tests s sized placed =
    let places = and_parts (are_groups s.dblocks s.agblocks s.agcount s.agblklog) (is_log_place (geometry_from s)) placed in
    record {
      groups = groups_from_test s.dblocks s.agblocks s.agcount s.agblklog places.0;
      sizes = sizes_from_test s sized;
      log = log_from_test (geometry_from s) places.1;
    }

-- and back
pub test_from_groups : (d a c k : ℕ) → AreGroups d a c k → are_groups d a c k ≡ true
test_from_groups d a c k g =
    let half : ltb (2 ^ (k - 1)) a ≡ true = lt-ltb (2 ^ (k - 1)) a g.tight in
    let power : is_least_log k a ≡ true = and_from (leb a (2 ^ k)) (eqb k 0 || ltb (2 ^ (k - 1)) a) (le-leb a (2 ^ k) g.named) (or_right (eqb k 0) (ltb (2 ^ (k - 1)) a) half) in
    let sizes : (leb 64 a && leb a (2 ^ 28)) ≡ true = and_from (leb 64 a) (leb a (2 ^ 28)) (le-leb 64 a g.least) (le-leb a (2 ^ 28) g.most) in
    let log : (leb 64 a && leb a (2 ^ 28) && is_least_log k a) ≡ true = and_from (leb 64 a && leb a (2 ^ 28)) (is_least_log k a) sizes power in
    let count = and_from (leb 64 a && leb a (2 ^ 28) && is_least_log k a) (eqb c (div_ceil d a)) log (eq-eqb c (div_ceil d a) g.count) in
    let some = and_from (leb 64 a && leb a (2 ^ 28) && is_least_log k a && eqb c (div_ceil d a)) (ltb 0 c) count (lt-ltb 0 c g.some) in
    let enough : 64 ≤ blocks_in_group d a (c - 1) = (let last : (c - 1) * a + 64 ≤ d = g.last in let least : 64 ≤ a = g.least in omega arith) in
    and_from (leb 64 a && leb a (2 ^ 28) && is_least_log k a && eqb c (div_ceil d a) && ltb 0 c) (leb 64 (blocks_in_group d a (c - 1))) some (le-leb 64 (blocks_in_group d a (c - 1)) enough)

pub test_from_log : (g : Geometry) → IsLogPlace g.logstart g.logblocks g.dblocks g.agblocks g.agcount g.agblklog → is_log_place g ≡ true
test_from_log g p =
    let group : ℕ = g.logstart / 2 ^ g.agblklog in
    let first : (ltb 0 g.logblocks && ltb group g.agcount) ≡ true = and_from (ltb 0 g.logblocks) (ltb group g.agcount) (lt-ltb 0 g.logblocks p.some) (lt-ltb group g.agcount p.group) in
    and_from (ltb 0 g.logblocks && ltb group g.agcount) (leb (g.logstart % 2 ^ g.agblklog + g.logblocks) (group_len g group)) first
    (le-leb (g.logstart % 2 ^ g.agblklog + g.logblocks) (group_len g group) p.inside)
