-- What follows where an item stands at the front of bytes.
use Rattle.std.specs.Prelude.{◌≡◌, ℕ, ◌<◌, ◌≤◌, Bool, true, List, length}
use Rattle.xfs_dir.specs.Scan.{begins_with_item, dir_item_len}
use Rattle.xfs_dir.specs.ShortScan.{begins_with_short, short_item_len}

-- the length of an item that stands there
pub record IsItemLen (at : ℕ) (rest : List ℕ) (len : ℕ) : Type 0 where
  pub there : begins_with_item at rest ≡ true
  pub long : len ≡ dir_item_len rest
  pub least : 8 ≤ len
  pub inside : len ≤ length rest
  pub near : at < 65536
  pub short : len < 65536

-- the length of an entry of a short form
pub record IsShortItemLen (wide : Bool) (rest : List ℕ) (len : ℕ) : Type 0 where
  pub there : begins_with_short wide rest ≡ true
  pub long : len ≡ short_item_len wide rest
  pub inside : len ≤ length rest
  pub least : 5 ≤ len
  pub most : len ≤ 267
