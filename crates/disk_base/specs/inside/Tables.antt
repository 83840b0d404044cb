-- The table of a checksum's loop.
use Rattle.std.specs.Prelude.{ℕ, ◌<◌, List, [], ◌∷◌, slice_index}
use Rattle.disk_base.specs.Checksum.{LeavesRemainder}

-- word v of a table is left of the byte v
abbrev pub IsTable : ℕ → List ℕ → Type 0
IsTable polynomial table = (v : ℕ) → v < 256 → LeavesRemainder polynomial 0 (v ∷ []) (slice_index table v)
