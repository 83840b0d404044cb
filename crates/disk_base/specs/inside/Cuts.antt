-- What is cut out of a few bytes.
use Rattle.std.specs.Prelude.{◌≡◌, ℕ, ◌+◌, ◌≤◌, List, ◌++◌, length, replicate}
use Rattle.disk_base.specs.Image.{bytes_at}

-- what was cut out from a byte on, as long as it was, with zeros behind the last byte
abbrev pub IsCutFrom : List ℕ → ℕ → List ℕ → List ℕ → Type 0
IsCutFrom bytes start old new =
    (zeros : ℕ) → start + length old ≤ length bytes + zeros → new ≡ bytes_at (bytes ++ replicate zeros 0) start (length old)
