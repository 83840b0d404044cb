-- Facts about ranges of a disk and writes to it. A place is a variable with an equation, since `512 * (a + b)` and
-- `512 * a + 512 * b` never match by computing.
use Rattle.std.proofs.Common.{rules, ◌≡◌, ℕ, ◌+◌, ◌-◌, ◌*◌, ◌<◌, ◌≤◌, List, [], ◌++◌, length, slice_index, arith, refl, append-nil, add-zero, ◌∙◌, sym, ap, min, length-take, length-drop, ◌⊎◌, inl, inr}
use Rattle.std.proofs.lemmas.Grind.{same_number_lists}
use Rattle.std.proofs.lemmas.List.{same_lists, places, take-append-drop}
use Rattle.disk_base.specs.Image.{bytes_at, with_bytes, sector, AgreesOutside}

-- how long a range and a written disk are
pub length-bytes_at : (image : List ℕ) (from n : ℕ) → from + n ≤ length image → length (bytes_at image from n) ≡ n
length-bytes_at image from n fits = search (rules, places)

pub length-with_bytes : (image : List ℕ) (from : ℕ) (bytes : List ℕ) → from + length bytes ≤ length image → length (with_bytes image from bytes) ≡ length image
length-with_bytes image from bytes fits = search (rules, places)

-- a write of nothing
pub with_none : (image : List ℕ) (from : ℕ) → with_bytes image from [] ≡ image
with_none image from = simp (append-nil, add-zero) (take-append-drop from image)

-- a range of no bytes, and the range of all
pub bytes_none : (image : List ℕ) (from : ℕ) → bytes_at image from 0 ≡ []
bytes_none image from = refl

-- two writes, one right behind the other, are one
pub with_more : (image : List ℕ) (from at : ℕ) (xs ys : List ℕ) → at ≡ from + length xs → at + length ys ≤ length image
    → with_bytes (with_bytes image from xs) at ys ≡ with_bytes image from (xs ++ ys)
with_more image from at xs ys is fits = same_lists _ _ (search (rules, places)) (λ k d h. grind (arith, places))

-- a range in two parts
pub bytes_more : (image : List ℕ) (from at m n k : ℕ) → at ≡ from + m → k ≡ m + n → at + n ≤ length image
    → bytes_at image from k ≡ bytes_at image from m ++ bytes_at image at n
bytes_more image from at m n k is sum fits = same_lists _ _ (search (rules, places)) (λ i d h. grind (arith, places))

-- a range of a range
pub range_in_range : (image : List ℕ) (from n at m k : ℕ) → k ≡ from + at → at + m ≤ n → from + n ≤ length image
    → bytes_at (bytes_at image from n) at m ≡ bytes_at image k m
range_in_range image from n at m k is inside fits = same_lists _ _ (search (rules, places)) (λ i d h. grind (arith, places))

-- a range of a written disk that lies in what was written, before it, or behind it
pub bytes_written : (image : List ℕ) (from : ℕ) (bytes : List ℕ) (at m k : ℕ) → at ≡ from + k → k + m ≤ length bytes → from + length bytes ≤ length image
    → bytes_at (with_bytes image from bytes) at m ≡ bytes_at bytes k m
bytes_written image from bytes at m k is inside fits = same_lists _ _ (search (rules, places)) (λ i d h. grind (arith, places))

pub bytes_before : (image : List ℕ) (from : ℕ) (bytes : List ℕ) (at m : ℕ) → at + m ≤ from → from + length bytes ≤ length image
    → bytes_at (with_bytes image from bytes) at m ≡ bytes_at image at m
bytes_before image from bytes at m before fits = same_lists _ _ (search (rules, places)) (λ i d h. grind (arith, places))

pub bytes_behind : (image : List ℕ) (from : ℕ) (bytes : List ℕ) (at m : ℕ) → from + length bytes ≤ at → from + length bytes ≤ length image
    → bytes_at (with_bytes image from bytes) at m ≡ bytes_at image at m
bytes_behind image from bytes at m behind fits = same_lists _ _ (search (rules, places)) (λ i d h. grind (arith, places))

-- a write of a whole range is what is read back there
pub bytes_of_write : (image : List ℕ) (from n : ℕ) (bytes : List ℕ) → n ≡ length bytes → from + n ≤ length image
    → bytes_at (with_bytes image from bytes) from n ≡ bytes
bytes_of_write image from n bytes is fits = same_lists _ _ (search (rules, places)) (λ i d h. grind (arith, places))

-- byte `i` of a range
pub byte_of_range : (image : List ℕ) (from n i k : ℕ) → k ≡ from + i → i < n → slice_index (bytes_at image from n) i ≡ slice_index image k
byte_of_range image from n i k is inside = grind (arith, places)

-- agreement outside a range: of a disk with itself, of three disks, and after a write
pub agrees_refl : (from n : ℕ) (image : List ℕ) → AgreesOutside from n image image
agrees_refl from n image = record { same_length = refl; before = λ i h. refl; after = λ i h. refl }

pub agrees_on : (from n : ℕ) (a b c : List ℕ) → AgreesOutside from n a b → AgreesOutside from n b c → AgreesOutside from n a c
agrees_on from n a b c r s =
    record { same_length = s.same_length ∙ r.same_length; before = λ i h. s.before i h ∙ r.before i h; after = λ i h. s.after i h ∙ r.after i h }

pub agrees_with_bytes : (image : List ℕ) (from n : ℕ) (bytes : List ℕ) → n ≡ length bytes → from + n ≤ length image
    → AgreesOutside from n image (with_bytes image from bytes)
agrees_with_bytes image from n bytes is fits = record { same_length = search (rules, places); before = λ i h. grind (arith, places); after = λ i h. grind (arith, places) }

-- how long a range is, also one that passes the end
pub length-range : (image : List ℕ) (at m : ℕ) → length (bytes_at image at m) ≡ min m (length image - at)
length-range image at m = simp (length-take, length-drop)

-- a change inside a range leaves each range that lies outside it
pub bytes_outside : (old new : List ℕ) (from n at m : ℕ) → AgreesOutside from n old new → ((at + m ≤ from) ⊎ (from + n ≤ at))
    → bytes_at new at m ≡ bytes_at old at m
bytes_outside old new from n at m agrees apart =
    same_number_lists _ _ (length-range new at m ∙ ap (λ l. min m (l - at)) agrees.same_length ∙ sym (length-range old at m))
    (λ i h.
    let small : i < m = omega (arith, length-range new at m) in
    byte_of_range new at m i (at + i) refl small
    ∙ elim apart [ inl before ↦ agrees.before (at + i) (omega arith) | inr behind ↦ agrees.after (at + i) (omega arith) ]
    ∙ sym (byte_of_range old at m i (at + i) refl small))

-- sectors of a disk with `bytes` written at sector `at`: one that was written, one before, one behind
pub sector_written : (image : List ℕ) (at : ℕ) (bytes : List ℕ) (k j : ℕ) → k ≡ at + j → 512 * j + 512 ≤ length bytes → 512 * at + length bytes ≤ length image
    → sector (with_bytes image (512 * at) bytes) k ≡ sector bytes j
sector_written image at bytes k j is inside fits = bytes_written image (512 * at) bytes (512 * k) 512 (512 * j) (omega arith) inside fits

pub sector_before : (image : List ℕ) (at : ℕ) (bytes : List ℕ) (k : ℕ) → k < at → 512 * at + length bytes ≤ length image
    → sector (with_bytes image (512 * at) bytes) k ≡ sector image k
sector_before image at bytes k before fits = bytes_before image (512 * at) bytes (512 * k) 512 (omega arith) fits

pub sector_behind : (image : List ℕ) (at : ℕ) (bytes : List ℕ) (k : ℕ) → 512 * at + length bytes ≤ 512 * k → 512 * at + length bytes ≤ length image
    → sector (with_bytes image (512 * at) bytes) k ≡ sector image k
sector_behind image at bytes k behind fits = bytes_behind image (512 * at) bytes (512 * k) 512 behind fits

-- sector `j` of a range that begins at sector `from`
pub sector_of_range : (image : List ℕ) (from n k j : ℕ) → k ≡ from + j → 512 * j + 512 ≤ n → 512 * from + n ≤ length image
    → sector (bytes_at image (512 * from) n) j ≡ sector image k
sector_of_range image from n k j is inside fits = range_in_range image (512 * from) n (512 * j) 512 (512 * k) (omega arith) inside fits
