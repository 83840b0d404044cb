-- Numbers as they stand in a sector or a block, in both byte orders, and fields that are written one after the other.
use Rattle.std.specs.Prelude.{◌≡◌, ℕ, List, [], ◌∷◌, drop, length}
use Rattle.byteorder.specs.Endian.{little_number, big_number}
use Rattle.disk_base.specs.Image.{bytes_at, with_bytes}

-- the number of the `n` bytes from byte `at` on, lowest byte first
unfoldable pub little_at : ℕ → List ℕ → ℕ → ℕ
little_at n bytes at = little_number n (drop at bytes)

-- highest byte first
unfoldable pub big_at : ℕ → List ℕ → ℕ → ℕ
big_at n bytes at = big_number n (drop at bytes)

-- a field: the byte at which it begins, and what stands there
pub record Field : Type 0 where
  pub at : ℕ
  pub bytes : List ℕ

abbrev pub field : ℕ → List ℕ → Field
field at bytes = record { at = at; bytes = bytes }

-- the bytes with these fields written, in their order
abbrev pub with_fields : List ℕ → List Field → List ℕ
with_fields bytes [] = bytes
with_fields bytes (first ∷ rest) = with_fields (with_bytes bytes first.at first.bytes) rest

-- each of these fields stands in the bytes
abbrev pub HasFields : List Field → List ℕ → Type 0
HasFields [] bytes = Unit {0}
HasFields (first ∷ rest) bytes = (bytes_at bytes first.at (length first.bytes) ≡ first.bytes) × HasFields rest bytes
