-- The sectors of a log, and where a disk holds them.
use Rattle.std.proofs.Common.{◌≡◌, ℕ, zero, suc, ◌+◌, ◌-◌, ◌*◌, ◌/◌, ◌%◌, ◌<◌, ◌≤◌, List, [], map, length, get_or, refl, sym, ap, ◌∙◌, arith, length-append, mod-lt}
use Rattle.std.specs.List.{flat_map, range_with_len}
use Rattle.std.proofs.lemmas.List.{get_or_append_left, get_or-append_right}
use Rattle.std.proofs.lemmas.List.FromFn.{get_or-map-range_with_len}
use Rattle.disk_base.specs.Image.{bytes_at, sector}
use Rattle.disk_base.proofs.Images.{range_in_range}
use Rattle.block_claims.specs.Agreement.{block}
use Rattle.xfs_super.specs.declared.geometry.Super.{Super}
use Rattle.xfs_super.specs.Super.{geometry_of}
use Rattle.xfs_log.specs.Log.{log_first, log_seen, log_sector, log_sectors, sectors_in}
use Rattle.xfs_log.specs.inside.Finding.{sector_of_log}

-- pieces of eight, one behind the other
module _ (f : List ℕ → List (List ℕ)) (eight : (bytes : List ℕ) → length (f bytes) ≡ 8) (volume : ℕ → List ℕ) where
  length-pieces : (n a : ℕ) → length (flat_map f (map volume (range_with_len a n))) ≡ 8 * n
  length-pieces zero a = refl
  length-pieces (suc n) a =
      let rest : List (List ℕ) = flat_map f (map volume (range_with_len (a + 1) n)) in
      omega (arith, length-append (f (volume a)) rest, eight (volume a), length-pieces n (a + 1))

  piece_at : (n a i j m : ℕ) → m ≡ 8 * i + j → i < n → j < 8 → get_or (flat_map f (map volume (range_with_len a n))) m [] ≡ get_or (f (volume (a + i))) j []
  piece_at zero a i j m is lt small = absurd (omega (arith, lt))
  piece_at (suc n) a zero j m is lt small =
      let rest : List (List ℕ) = flat_map f (map volume (range_with_len (a + 1) n)) in
      let same : m ≡ j = omega (arith, is) in
      let here : a ≡ a + zero = omega arith in
      get_or_append_left (f (volume a)) rest [] m (omega (arith, eight (volume a), same))
      ∙ ap (λ (k : ℕ). get_or (f (volume a)) k []) same
      ∙ ap (λ (k : ℕ). get_or (f (volume k)) j []) here
  piece_at (suc n) a (suc i) j m is lt small =
      let rest : List (List ℕ) = flat_map f (map volume (range_with_len (a + 1) n)) in
      let there : a + 1 + i ≡ a + suc i = omega arith in
      get_or-append_right (f (volume a)) rest 8 m [] (eight (volume a)) (omega (arith, is))
      ∙ piece_at n (a + 1) i j (m - 8) (omega (arith, is)) (omega (arith, lt)) small
      ∙ ap (λ (k : ℕ). get_or (f (volume k)) j []) there

-- a log as the list of its n sectors, which stand each at its place
pub record AreAt (sectors : List (List ℕ)) (n : ℕ) (at : ℕ → List ℕ) : Type 0 where
  pub long : length sectors ≡ n
  pub same : (k : ℕ) → k < n → log_sector sectors k ≡ at k

-- sector `k` of a block
pub sector_of_block : (image out : List ℕ) (first at k : ℕ) → out ≡ block image (first + at) → k < 8 → 4096 * (first + at) + 4096 ≤ length image
    → sector image (8 * first + (8 * at + k)) ≡ bytes_at out (512 * k) 512
sector_of_block image out first at k is small fits =
    sym (range_in_range image (4096 * (first + at)) 4096 (512 * k) 512 (512 * (8 * first + (8 * at + k))) (omega arith) (omega (arith, small)) fits)
    ∙ ap (λ (bytes : List ℕ). bytes_at bytes (512 * k) 512) (sym is)

sectors_at : (image : List ℕ) (first n : ℕ) → 4096 * (first + n) ≤ length image → AreAt (log_sectors (map (block image) (range_with_len first n))) (8 * n) (λ k. sector image (8 * first + k))
sectors_at image first n fits = record {
  long = length-pieces sectors_in (λ bytes. refl) (block image) n first;
  same = λ k lt.
      let i : ℕ = k / 8 in
      let j : ℕ = k % 8 in
      let small : j < 8 = mod-lt k (omega arith) in
      let is : k ≡ 8 * i + j = omega arith in
      let within : i < n = omega (arith, lt, is) in
      piece_at sectors_in (λ bytes. refl) (block image) n first i j k is within small
      ∙ get_or-map-range_with_len (λ m. bytes_at (block image (first + i)) (512 * m) 512) 0 8 j j [] small (omega arith)
      ∙ sym (sector_of_block image (block image (first + i)) first i j refl small (omega (arith, fits, within)))
      ∙ ap (λ (m : ℕ). sector image (8 * first + m)) (sym is);
}

-- the log of a volume lies in it
pub log_inside : (s : Super) → log_first (geometry_of s) + s.logblocks ≤ s.dblocks
log_inside s = omega (arith, s.log.inside, s.log.some)

pub log_fits : (s : Super) (image : List ℕ) (size : ℕ) → length image ≡ 512 * size → 8 * s.dblocks ≤ size → 4096 * (log_first (geometry_of s) + s.logblocks) ≤ length image
log_fits s image size long room = omega (arith, long, room, log_inside s)

pub seen_at : (s : Super) (image : List ℕ) (size : ℕ) → length image ≡ 512 * size → 8 * s.dblocks ≤ size
    → AreAt (log_seen (geometry_of s) (block image)) (8 * s.logblocks) (sector_of_log (geometry_of s) image)
seen_at s image size long room = sectors_at image (log_first (geometry_of s)) s.logblocks (log_fits s image size long room)
