-- The laws of chunks.
use Rattle.std.specs.Prelude.{◌≡◌, ℕ, ◌+◌, ◌*◌, ◌<◌, ◌≤◌, ◌^◌, min, ◌-◌, true, false, nat_lt, nat_le, List, ◌++◌, [], ◌∷◌, length, take, drop, slice_index}
use Rattle.std.proofs.Common.{◌∙◌, ap, sym, arith, length-append, append_assoc, get_or}
use Rattle.std.proofs.lemmas.Bool.Decides.{nat_tests}
use Rattle.std.proofs.lemmas.Nat.{mul-le}
use Rattle.std.proofs.lemmas.List.{append-nil, get_or-append-add}
use Rattle.std.proofs.Math.Seq.{drop-append_seam, take-append_seam, get_or-append_seam}
use Rattle.byteorder.specs.Endian.{big_bytes, big_number}
use Rattle.byteorder.specs.Numbers.{big_number-reads_back, length-bytes_high_first}
use Rattle.disk_base.specs.Fields.{big_at}
use Rattle.xfs_super.specs.Geometry.{Geometry, group_len}
use Rattle.xfs_tree.specs.Form.{IsGrown}
use Rattle.xfs_tree.specs.Records.{chunk_before, chunk_inside, chunk_bytes, sparse_bytes, fits_chunk, fits_sparse, by_inode, by_free_inode, by_sparse_inode, by_free_sparse_inode}
use Rattle.xfs_tree.specs.declared.chunk.Chunk.{Chunk}
use Rattle.xfs_tree.specs.declared.chunk.FreeChunk.{FreeChunk}
use Rattle.xfs_tree.specs.declared.sparse_chunk.SparseChunk.{SparseChunk}
use Rattle.xfs_tree.specs.declared.sparse_chunk.FreeSparseChunk.{FreeSparseChunk}

-- a number that stands behind other bytes is read back there
number_back : (n at m : ℕ) (xs ys : List ℕ) → length xs ≡ at → m < 256 ^ n → big_at n (xs ++ (big_bytes n m ++ ys)) at ≡ m
unfolding big_at
number_back n at m xs ys e small =
    ap (λ (k : ℕ). big_number n (drop k (xs ++ (big_bytes n m ++ ys)))) (sym e) ∙ ap (λ (l : List ℕ). big_number n l) (drop-append_seam xs (big_bytes n m ++ ys))
    ∙ big_number-reads_back n m ys small

last_back : (n at m : ℕ) (xs : List ℕ) → length xs ≡ at → m < 256 ^ n → big_at n (xs ++ big_bytes n m) at ≡ m
last_back n at m xs e small = ap (λ (l : List ℕ). big_at n (xs ++ l) at) (sym (append-nil (big_bytes n m))) ∙ number_back n at m xs [] e small

first_back : (n m : ℕ) (ys : List ℕ) → m < 256 ^ n → big_at n (big_bytes n m ++ ys) 0 ≡ m
unfolding big_at
first_back n m ys small = big_number-reads_back n m ys small

-- the order, and the key
pub chunk_strict : (start : ℕ) → chunk_before start start ≡ false
chunk_strict start = grind (arith, nat_tests)

pub chunk_on : (r s t : ℕ) → chunk_before r s ≡ true → chunk_before s t ≡ true → chunk_before r t ≡ true
chunk_on r s t p q = grind (arith, nat_tests)

starts_rise : (r s : ℕ) → chunk_before r s ≡ true → nat_lt r s ≡ true
starts_rise r s p = grind (arith, nat_tests)

-- the key is the first 4 bytes
key_is : (m : ℕ) (ys : List ℕ) → take 4 (big_bytes 4 m ++ ys) ≡ big_bytes 4 m
key_is m ys = ap (λ (k : ℕ). take k (big_bytes 4 m ++ ys)) (sym (length-bytes_high_first 4 m)) ∙ take-append_seam (big_bytes 4 m) ys

key_back : (m : ℕ) (ys : List ℕ) → m < 2 ^ 32 → big_at 4 (take 4 (big_bytes 4 m ++ ys)) 0 ≡ m
key_back m ys small = ap (λ (l : List ℕ). big_at 4 l 0) (key_is m ys ∙ sym (append-nil (big_bytes 4 m))) ∙ first_back 4 m [] small

keys_rise : (m n : ℕ) (xs ys : List ℕ) → m < 2 ^ 32 → n < 2 ^ 32 → chunk_before m n ≡ true → nat_lt (big_at 4 (take 4 (big_bytes 4 m ++ xs)) 0) (big_at 4 (take 4 (big_bytes 4 n ++ ys)) 0) ≡ true
keys_rise m n xs ys p q h =
    ap (λ (k : ℕ). nat_lt k (big_at 4 (take 4 (big_bytes 4 n ++ ys)) 0)) (key_back m xs p) ∙ ap (λ (k : ℕ). nat_lt m k) (key_back n ys q) ∙ starts_rise m n h

-- chunks without holes
three : (start freecount free : ℕ) → fits_chunk start freecount free ≡ true → (start < 2 ^ 32) × (freecount < 2 ^ 32) × (free < 2 ^ 64)
three start freecount free h = (grind (arith, nat_tests), grind (arith, nat_tests), grind (arith, nat_tests))

pub chunk_length : (start freecount free : ℕ) → length (chunk_bytes start freecount free) ≡ 16
chunk_length start freecount free =
    omega (arith, length-append (big_bytes 4 start) (big_bytes 4 freecount ++ big_bytes 8 free), length-append (big_bytes 4 freecount) (big_bytes 8 free), length-bytes_high_first 4 start, length-bytes_high_first 4 freecount, length-bytes_high_first 8 free)

pub chunk_keys : (m a x n b y : ℕ) → fits_chunk m a x ≡ true → fits_chunk n b y ≡ true → chunk_before m n ≡ true
    → nat_lt (big_at 4 (take 4 (chunk_bytes m a x)) 0) (big_at 4 (take 4 (chunk_bytes n b y)) 0) ≡ true
chunk_keys m a x n b y p q h = keys_rise m n (big_bytes 4 a ++ big_bytes 8 x) (big_bytes 4 b ++ big_bytes 8 y) (three m a x p).0 (three n b y q).0 h

chunk_of : (m a x : ℕ) → fits_chunk m a x ≡ true
    → (big_at 4 (chunk_bytes m a x) 0 ≡ m) × (big_at 4 (chunk_bytes m a x) 4 ≡ a) × (big_at 8 (chunk_bytes m a x) 8 ≡ x)
chunk_of m a x fit =
    let t = three m a x fit in
    let eight : length (big_bytes 4 m ++ big_bytes 4 a) ≡ 8 = omega (arith, length-append (big_bytes 4 m) (big_bytes 4 a), length-bytes_high_first 4 m, length-bytes_high_first 4 a) in (
      first_back 4 m (big_bytes 4 a ++ big_bytes 8 x) t.0,
      number_back 4 4 a (big_bytes 4 m) (big_bytes 8 x) (length-bytes_high_first 4 m) t.1,
      ap (λ (l : List ℕ). big_at 8 l 8) (sym (append_assoc (big_bytes 4 m) (big_bytes 4 a) (big_bytes 8 x))) ∙ last_back 8 8 x (big_bytes 4 m ++ big_bytes 4 a) eight t.2,
    )

-- what is made of the three numbers is made of those that are read back
chunk_back : {R : Type 0} (make : ℕ → ℕ → ℕ → R) (m a x : ℕ) → fits_chunk m a x ≡ true
    → make (big_at 4 (chunk_bytes m a x) 0) (big_at 4 (chunk_bytes m a x) 4) (big_at 8 (chunk_bytes m a x) 8) ≡ make m a x
chunk_back make m a x fit =
    let t = chunk_of m a x fit in
    let bytes : List ℕ = chunk_bytes m a x in
    ap (λ (n : ℕ). make n (big_at 4 bytes 4) (big_at 8 bytes 8)) t.0
    ∙ ap (λ (n : ℕ). make m n (big_at 8 bytes 8)) t.1
    ∙ ap (λ (n : ℕ). make m a n) t.2

pub by_inode_back : (r : Chunk) → by_inode.fits r ≡ true → by_inode.record_of (by_inode.bytes_of r) ≡ r
by_inode_back r fit = chunk_back {R = Chunk} (λ m a x. record { start = m; freecount = a; free = x }) r.start r.freecount r.free fit

pub by_free_inode_back : (r : FreeChunk) → by_free_inode.fits r ≡ true → by_free_inode.record_of (by_free_inode.bytes_of r) ≡ r
by_free_inode_back r fit = chunk_back {R = FreeChunk} (λ m a x. record { start = m; freecount = a; free = x }) r.start r.freecount r.free fit

-- chunks that may have holes
five : (m h c f x : ℕ) → fits_sparse m h c f x ≡ true → (m < 2 ^ 32) × (h < 2 ^ 16) × (x < 2 ^ 64)
five m h c f x fit = (grind (arith, nat_tests), grind (arith, nat_tests), grind (arith, nat_tests))

pub sparse_length : (m h c f x : ℕ) → length (sparse_bytes m h c f x) ≡ 16
sparse_length m h c f x =
    omega (arith, length-append (big_bytes 4 m) (big_bytes 2 h ++ (c ∷ (f ∷ big_bytes 8 x))), length-append (big_bytes 2 h) (c ∷ (f ∷ big_bytes 8 x)), length-bytes_high_first 4 m, length-bytes_high_first 2 h, length-bytes_high_first 8 x)

pub sparse_keys : (m a b c x n d e f y : ℕ) → fits_sparse m a b c x ≡ true → fits_sparse n d e f y ≡ true → chunk_before m n ≡ true
    → nat_lt (big_at 4 (take 4 (sparse_bytes m a b c x)) 0) (big_at 4 (take 4 (sparse_bytes n d e f y)) 0) ≡ true
sparse_keys m a b c x n d e f y p q h =
    keys_rise m n (big_bytes 2 a ++ (b ∷ (c ∷ big_bytes 8 x))) (big_bytes 2 d ++ (e ∷ (f ∷ big_bytes 8 y))) (five m a b c x p).0 (five n d e f y q).0 h

record IsSparse (m h c f x : ℕ) : Type 0 where
  pub start : big_at 4 (sparse_bytes m h c f x) 0 ≡ m
  pub holemask : big_at 2 (sparse_bytes m h c f x) 4 ≡ h
  pub count : slice_index (sparse_bytes m h c f x) 6 ≡ c
  pub freecount : slice_index (sparse_bytes m h c f x) 7 ≡ f
  pub free : big_at 8 (sparse_bytes m h c f x) 8 ≡ x

sparse_of : (m h c f x : ℕ) → fits_sparse m h c f x ≡ true → IsSparse m h c f x
sparse_of m h c f x fit =
    let t = five m h c f x fit in
    let four : length (big_bytes 4 m) ≡ 4 = length-bytes_high_first 4 m in
    let two : length (big_bytes 2 h) ≡ 2 = length-bytes_high_first 2 h in
    let front : List ℕ = big_bytes 4 m ++ big_bytes 2 h in
    let six : length front ≡ 6 = omega (arith, length-append (big_bytes 4 m) (big_bytes 2 h), four, two) in
    let rest : List ℕ = f ∷ big_bytes 8 x in
    let whole : sparse_bytes m h c f x ≡ front ++ (c ∷ rest) = sym (append_assoc (big_bytes 4 m) (big_bytes 2 h) (c ∷ rest)) in
    let eight : length (front ++ (c ∷ f ∷ [])) ≡ 8 = omega (arith, length-append front (c ∷ f ∷ []), six) in
    record {
      start = first_back 4 m (big_bytes 2 h ++ (c ∷ rest)) t.0;
      holemask = number_back 2 4 h (big_bytes 4 m) (c ∷ rest) four t.1;
      count = ap (λ (l : List ℕ). get_or l 6 0) whole ∙ ap (λ (k : ℕ). get_or (front ++ (c ∷ rest)) k 0) (sym six) ∙ get_or-append_seam front c rest 0;
      freecount = ap (λ (l : List ℕ). get_or l 7 0) whole ∙ ap (λ (k : ℕ). get_or (front ++ (c ∷ rest)) (k + 1) 0) (sym six) ∙ get_or-append-add front (c ∷ rest) 1 0;
      free = ap (λ (l : List ℕ). big_at 8 l 8) (whole ∙ sym (append_assoc front (c ∷ f ∷ []) (big_bytes 8 x))) ∙ last_back 8 8 x (front ++ (c ∷ f ∷ [])) eight t.2;
    }

-- what is made of the five numbers is made of those that are read back
sparse_back : {R : Type 0} (make : ℕ → ℕ → ℕ → ℕ → ℕ → R) (m h c f x : ℕ) → fits_sparse m h c f x ≡ true
    → make (big_at 4 (sparse_bytes m h c f x) 0) (big_at 2 (sparse_bytes m h c f x) 4) (slice_index (sparse_bytes m h c f x) 6)
    (slice_index (sparse_bytes m h c f x) 7) (big_at 8 (sparse_bytes m h c f x) 8) ≡ make m h c f x
sparse_back make m h c f x fit =
    let t = sparse_of m h c f x fit in
    let bytes : List ℕ = sparse_bytes m h c f x in
    ap (λ (n : ℕ). make n (big_at 2 bytes 4) (slice_index bytes 6) (slice_index bytes 7) (big_at 8 bytes 8)) t.start
    ∙ ap (λ (n : ℕ). make m n (slice_index bytes 6) (slice_index bytes 7) (big_at 8 bytes 8)) t.holemask
    ∙ ap (λ (n : ℕ). make m h n (slice_index bytes 7) (big_at 8 bytes 8)) t.count
    ∙ ap (λ (n : ℕ). make m h c n (big_at 8 bytes 8)) t.freecount
    ∙ ap (λ (n : ℕ). make m h c f n) t.free

pub by_sparse_inode_back : (r : SparseChunk) → by_sparse_inode.fits r ≡ true → by_sparse_inode.record_of (by_sparse_inode.bytes_of r) ≡ r
by_sparse_inode_back r fit =
    sparse_back {R = SparseChunk} (λ m h c f x. record { start = m; holemask = h; count = c; freecount = f; free = x })
    r.start r.holemask r.count r.freecount r.free fit

pub by_free_sparse_inode_back : (r : FreeSparseChunk) → by_free_sparse_inode.fits r ≡ true → by_free_sparse_inode.record_of (by_free_sparse_inode.bytes_of r) ≡ r
by_free_sparse_inode_back r fit =
    sparse_back {R = FreeSparseChunk} (λ m h c f x. record { start = m; holemask = h; count = c; freecount = f; free = x })
    r.start r.holemask r.count r.freecount r.free fit

-- what lies in a group lies in it when the volume grew
wider : (a b c x : ℕ) → a ≤ b → nat_le x (a * c) ≡ true → nat_le x (b * c) ≡ true
wider a b c x h p = let more : a * c ≤ b * c = mul-le a c b c h (omega arith) in grind (arith, nat_tests)

longer : (a d e m : ℕ) → d ≤ e → min a (d - m) ≤ min a (e - m)
longer a d e m h = omega arith

pub chunk_grows : (geo grown : Geometry) (group start : ℕ) → IsGrown geo grown → chunk_inside geo group start ≡ true → chunk_inside grown group start ≡ true
chunk_grows geo grown group start g h =
    ap (λ (a : ℕ). nat_le (start + 64) (min a (grown.dblocks - group * a) * 2 ^ grown.inopblog)) g.agblocks
    ∙ ap (λ (k : ℕ). nat_le (start + 64) (min geo.agblocks (grown.dblocks - group * geo.agblocks) * 2 ^ k)) g.inopblog
    ∙ wider (group_len geo group) (min geo.agblocks (grown.dblocks - group * geo.agblocks)) (2 ^ geo.inopblog) (start + 64) (longer geo.agblocks geo.dblocks grown.dblocks (group * geo.agblocks) g.more) h
