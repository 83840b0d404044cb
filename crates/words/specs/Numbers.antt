-- What digits spell. Letters and digits are those of ASCII.
use Rattle.std.specs.Prelude.{ℕ, ◌+◌, ◌-◌, ◌*◌, ◌&&◌, Bool, Option, Some, None, List, length, nat_lt, nat_le, ◌==◌, if◌then◌else◌, slice_index, fold}
use Rattle.std.specs.List.{list_all}

-- 0 to 9
abbrev pub is_digit : ℕ → Bool
is_digit byte = nat_le 48 byte && nat_le byte 57

-- the number so far with one more digit
abbrev pub with_digit : ℕ → ℕ → ℕ
with_digit number digit = 10 * number + (digit - 48)

-- the number that digits spell in base ten
abbrev pub spelled_number : List ℕ → ℕ
spelled_number digits = fold with_digit 0 digits

-- one to `most` bytes, each a digit
abbrev pub are_digits : ℕ → List ℕ → Bool
are_digits most bytes = nat_lt 0 (length bytes) && nat_le (length bytes) most && list_all is_digit bytes

-- what one to `most` digits spell
unfoldable pub digits_of : ℕ → List ℕ → Option ℕ
digits_of most bytes = if are_digits most bytes then Some (spelled_number bytes) else None

-- the same without a leading zero
unfoldable pub whole_number_of : ℕ → List ℕ → Option ℕ
whole_number_of most bytes = if slice_index bytes 0 == 48 then None else digits_of most bytes
