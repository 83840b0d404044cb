-- Claims as lists of marks, one list a group.
use Rattle.std.specs.Prelude.{ℕ, Bool, false, ◌&&◌, nat_lt, List, [], length, slice_index_or}

abbrev pub claimed_in : List (List Bool) → ℕ → ℕ → Bool
claimed_in groups g b = slice_index_or (slice_index_or groups g []) b false

abbrev pub admitted_in : List (List Bool) → ℕ → ℕ → Bool
admitted_in groups g b = nat_lt g (length groups) && nat_lt b (length (slice_index_or groups g []))
