-- What a disk holds: its bytes, 512 to a sector. A range is named by its first byte and its length.
use Rattle.std.specs.Prelude.{◌≡◌, ℕ, ◌+◌, ◌*◌, ◌/◌, ◌<◌, ◌≤◌, List, ◌++◌, length, take, drop, slice_index, ◌⊎◌}

-- the `n` bytes from byte `from` on
abbrev pub bytes_at : List ℕ → ℕ → ℕ → List ℕ
bytes_at image from n = take n (drop from image)

-- the disk with `bytes` written from byte `from` on
abbrev pub with_bytes : List ℕ → ℕ → List ℕ → List ℕ
with_bytes image from bytes = take from image ++ bytes ++ drop (from + length bytes) image

-- sector `k`
abbrev pub sector : List ℕ → ℕ → List ℕ
sector image k = bytes_at image (512 * k) 512

-- how many sectors a disk has that holds this
abbrev pub sectors_of : List ℕ → ℕ
sectors_of image = length image / 512

-- two disks of one length that are equal at each byte outside the `n` bytes from `from` on
pub record AgreesOutside (from n : ℕ) (old new : List ℕ) : Type 0 where
  pub same_length : length new ≡ length old
  pub before : (i : ℕ) → i < from → slice_index new i ≡ slice_index old i
  pub after : (i : ℕ) → from + n ≤ i → slice_index new i ≡ slice_index old i

-- each sector that `bytes`, written at sector `at`, covers is as before or, whole, as written
abbrev pub OldOrNew : ℕ → List ℕ → List ℕ → List ℕ → Type 0
OldOrNew at bytes old new =
    (k : ℕ) → 512 * k < length bytes →
    (sector new (at + k) ≡ sector old (at + k)) ⊎ (sector new (at + k) ≡ sector bytes k)

-- what a failed write of `bytes` at sector `at` may leave
pub record HalfWritten (at : ℕ) (bytes old new : List ℕ) : Type 0 where
  pub outside : AgreesOutside (512 * at) (length bytes) old new
  pub within : OldOrNew at bytes old new
