-- What ends a sector that holds a table or an extended boot record.
use Rattle.std.specs.Prelude.{◌≡◌, ℕ, List, slice_index}

-- bytes 510 and 511 are 55 AA
pub record HasSignature (bytes : List ℕ) : Type 0 where
  pub first : slice_index bytes 510 ≡ 0x55
  pub second : slice_index bytes 511 ≡ 0xAA
