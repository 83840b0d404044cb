-- Multiples of an alignment.
use Rattle.std.specs.Prelude.{◌≡◌, ℕ, ◌+◌, ◌*◌, ◌<◌, ◌≤◌}

-- found is the least multiple of align that is n or more
pub record IsNext (align n found : ℕ) : Type 0 where
  pub multiple : (k : ℕ) × (found ≡ k * align)
  pub above : n ≤ found
  pub least : found < n + align
