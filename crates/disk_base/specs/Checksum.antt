-- Checksums of 32 bits, as remainders of the division of polynomials over two elements. A polynomial is the list
-- of its coefficients, highest power first. A byte or a number read from its lowest bit is such a list.
use Rattle.std.specs.Prelude.{◌≡◌, ℕ, zero, suc, ◌+◌, ◌*◌, ◌/◌, ◌%◌, ◌^◌, ◌<◌, Bool, true, false, not, nat_eq, if◌then◌else◌, List, [], ◌∷◌, ◌++◌, length, drop, replicate, flat_map, bit_xor}
use Rattle.disk_base.specs.Image.{with_bytes}

-- the sum of two coefficients
abbrev pub xor : Bool → Bool → Bool
xor true b = not b
xor false b = b

-- the sum of two polynomials with as many coefficients
unfoldable pub plus : List Bool → List Bool → List Bool
plus [] ys = ys
plus (x ∷ xs) [] = x ∷ xs
plus (x ∷ xs) (y ∷ ys) = xor x y ∷ plus xs ys

-- a polynomial of n coefficients, all zero
abbrev pub zeros : ℕ → List Bool
zeros n = replicate n false

-- a polynomial times the n-th power
abbrev pub shifted : List Bool → ℕ → List Bool
shifted xs n = xs ++ zeros n

-- a polynomial times a coefficient
abbrev pub scaled : Bool → List Bool → List Bool
scaled c xs = if c then xs else zeros (length xs)

-- the product of two polynomials
unfoldable pub times : List Bool → List Bool → List Bool
times [] generator = zeros (length (drop 1 generator))
times (c ∷ quotient) generator = plus (shifted (scaled c generator) (length quotient)) (false ∷ times quotient generator)

-- dividend = quotient · generator + remainder, where the remainder has one coefficient less than the generator
pub record IsRemainder (dividend generator remainder : List Bool) : Type 0 where
  pub quotient : List Bool
  pub width : length quotient + length remainder ≡ length dividend
  pub smaller : suc (length remainder) ≡ length generator
  pub divides : dividend ≡ plus (times quotient generator) (zeros (length quotient) ++ remainder)

-- the n lowest bits of a number, the lowest first
unfoldable pub bits : ℕ → ℕ → List Bool
bits zero x = []
bits (suc n) x = nat_eq (x % 2) 1 ∷ bits n (x / 2)

-- the polynomial of a message
abbrev pub message : List ℕ → List Bool
message bytes = flat_map (bits 8) bytes

-- `remainder` is left of the message, times the 32nd power, and of `start` in front of it, by a generator of
-- degree 32 whose other coefficients are `polynomial`
abbrev pub LeavesRemainder : ℕ → ℕ → List ℕ → ℕ → Type 0
LeavesRemainder polynomial start bytes remainder =
    IsRemainder
    (plus (shifted (message bytes) 32) (shifted (bits 32 start) (length (message bytes))))
    (true ∷ bits 32 polynomial)
    (bits 32 remainder)

-- the checksum by that polynomial and start, with `inversion` added at the end
pub record IsChecksum (polynomial start inversion : ℕ) (bytes : List ℕ) (checksum : ℕ) : Type 0 where
  pub fits : checksum < 2 ^ 32
  pub left : LeavesRemainder polynomial start bytes (bit_xor checksum inversion)

-- the two generators in use, without their first coefficient: of IEEE 802.3, and Castagnoli's (RFC 3720, 12.1)
abbrev pub ieee_802_3 : ℕ
ieee_802_3 = 0xEDB88320

abbrev pub castagnoli : ℕ
castagnoli = 0x82F63B78

-- the checksum of GUID partition tables (UEFI specification, 5.3.2)
abbrev pub IsCrc32 : List ℕ → ℕ → Type 0
IsCrc32 bytes checksum = IsChecksum ieee_802_3 0xFFFFFFFF 0xFFFFFFFF bytes checksum

-- the checksum of LVM2's labels, headers and texts: another start, and nothing added at the end
abbrev pub IsCrc32Lvm : List ℕ → ℕ → Type 0
IsCrc32Lvm bytes checksum = IsChecksum ieee_802_3 0xF597A6CF 0 bytes checksum

-- the checksum of the metadata of XFS
abbrev pub IsCrc32c : List ℕ → ℕ → Type 0
IsCrc32c bytes checksum = IsChecksum castagnoli 0xFFFFFFFF 0xFFFFFFFF bytes checksum

-- ---- the same checksums as functions, so that a right one can be told by a test

-- a division, coefficient by coefficient: one more coefficient of the dividend, of which `rest` was left so far
unfoldable pub rest_with : List Bool → List Bool → Bool → List Bool
rest_with polynomial [] coefficient = []
rest_with polynomial (first ∷ rest) coefficient = plus (rest ++ false ∷ []) (scaled (xor first coefficient) polynomial)

unfoldable pub rest_after : List Bool → List Bool → List Bool → List Bool
rest_after polynomial rest [] = rest
rest_after polynomial rest (coefficient ∷ dividend) = rest_after polynomial (rest_with polynomial rest coefficient) dividend

-- the number whose bits these are, the lowest first
unfoldable pub number_of_bits : List Bool → ℕ
number_of_bits [] = 0
number_of_bits (bit ∷ rest) = (if bit then 1 else 0) + 2 * number_of_bits rest

-- what is left of the message, times the 32nd power, and of `start` in front of it, as a number
unfoldable pub left_of : ℕ → ℕ → List ℕ → ℕ
left_of polynomial start bytes = number_of_bits (rest_after (bits 32 polynomial) (bits 32 start) (message bytes))

unfoldable pub checksum_of : ℕ → ℕ → ℕ → List ℕ → ℕ
checksum_of polynomial start inversion bytes = bit_xor (left_of polynomial start bytes) inversion

abbrev pub crc32_of : List ℕ → ℕ
crc32_of bytes = checksum_of ieee_802_3 0xFFFFFFFF 0xFFFFFFFF bytes

abbrev pub crc32_lvm_of : List ℕ → ℕ
crc32_lvm_of bytes = checksum_of ieee_802_3 0xF597A6CF 0 bytes

abbrev pub crc32c_of : List ℕ → ℕ
crc32c_of bytes = checksum_of castagnoli 0xFFFFFFFF 0xFFFFFFFF bytes

-- with the four bytes from byte `at` on taken as zero
abbrev pub crc32c_without_of : List ℕ → ℕ → ℕ
crc32c_without_of bytes at = crc32c_of (with_bytes bytes at (replicate 4 0))

-- the function gives the checksum, and there is no other
abbrev pub OneChecksum : Type 0
OneChecksum =
    (polynomial start inversion : ℕ) (bytes : List ℕ) → inversion < 2 ^ 32
    → IsChecksum polynomial start inversion bytes (checksum_of polynomial start inversion bytes)
    × ((other : ℕ) → IsChecksum polynomial start inversion bytes other → other ≡ checksum_of polynomial start inversion bytes)
