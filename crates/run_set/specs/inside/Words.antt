-- How a set of numbers below a bound stands in words of 64 bits: number x is bit x % 64 of word x / 64.
use Rattle.std.specs.Prelude.{ℕ, ◌/◌, ◌%◌, ◌==◌, Bool, List, map, slice_index}
use Rattle.std.specs.Int.{bit_at}
use Rattle.std.specs.List.{range_with_len}

-- whether the words have the number
abbrev pub has_bit : List ℕ → ℕ → Bool
has_bit words number = bit_at (slice_index words (number / 64)) (number % 64) == 1

-- for each number below the bound, whether the words have it
unfoldable pub tests_of : ℕ → List ℕ → List Bool
tests_of bound words = map (has_bit words) (range_with_len 0 bound)
