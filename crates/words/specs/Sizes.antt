-- What a size spells: an optional sign, one to fifteen digits, and `%` or one of `b`, `K`, `M`, `G` and `T`.
use Rattle.std.specs.Prelude.{ℕ, ◌-◌, ◌*◌, ◌^◌, Option, Some, None, List, length, take, drop, nat_lt, nat_le, ◌==◌, if◌then◌else◌, slice_index, option_and_then}
use Rattle.layout_plan.specs.declared.wish.Size.{Size}
use Rattle.layout_plan.specs.declared.wish.Size.TheVariants.{Bytes, More, Less, Percent, MorePercent, LessPercent}
use Rattle.words.specs.declared.size.Sign.{Sign}
use Rattle.words.specs.declared.size.Sign.TheVariants.{Plus, Minus, Absent}
use Rattle.words.specs.Numbers.{digits_of}

-- `+` or `-` at the front
abbrev pub sign_of : List ℕ → Sign
sign_of bytes = if slice_index bytes 0 == 43 then Plus else if slice_index bytes 0 == 45 then Minus else Absent

-- what stands behind the sign
abbrev pub behind_sign : Sign → List ℕ → List ℕ
behind_sign Plus bytes = drop 1 bytes
behind_sign Minus bytes = drop 1 bytes
behind_sign Absent bytes = bytes

-- how many bytes a unit is: powers of 1024
abbrev pub unit_of : ℕ → Option ℕ
unit_of byte = if byte == 98 then Some 1 else if byte == 75 then Some (2 ^ 10) else if byte == 77 then Some (2 ^ 20) else if byte == 71 then Some (2 ^ 30) else if byte == 84 then Some (2 ^ 40) else None

abbrev pub percentage : Sign → ℕ → Size
percentage Plus number = MorePercent number
percentage Minus number = LessPercent number
percentage Absent number = Percent number

abbrev pub amount : Sign → ℕ → Size
amount Plus number = More number
amount Minus number = Less number
amount Absent number = Bytes number

-- a percentage is at most 999999, an amount at most 2^63 - 1 bytes
abbrev pub size_in : Sign → ℕ → ℕ → Option Size
size_in sign unit number = if unit == 37 then (if nat_le number 999999 then Some (percentage sign number) else None) else option_and_then (λ scale. if nat_lt (number * scale) (2 ^ 63) then Some (amount sign (number * scale)) else None) (unit_of unit)

-- the digits and the unit behind the sign
abbrev pub unsigned_size : Sign → List ℕ → Option Size
unsigned_size sign bytes = option_and_then (size_in sign (slice_index bytes (length bytes - 1))) (digits_of 15 (take (length bytes - 1) bytes))

unfoldable pub size_of : List ℕ → Option Size
size_of bytes = unsigned_size (sign_of bytes) (behind_sign (sign_of bytes) bytes)
