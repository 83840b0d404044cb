-- A record that may be that of an unmount, as it is judged sector by sector.
use Rattle.std.specs.Prelude.{◌≡◌, ℕ, ◌+◌, ◌%◌, ◌<◌, ◌≤◌, Bool, true, ◌==◌, ◌&&◌, ◌||◌, not, nat_lt, nat_le, cond, List, slice_index}
use Rattle.std.specs.Int.{bit_at}
use Rattle.disk_base.specs.Fields.{big_at}
use Rattle.xfs_log.specs.declared.unmount.Unmount.{Unmount}
use Rattle.xfs_log.specs.Log.{record_cycle, operations, header_sectors, data_sectors, record_sectors}

-- the numbers of a header are those of an unmount, in a log of that many sectors
abbrev pub fits_unmount : List ℕ → ℕ → Bool
fits_unmount s room = nat_le (record_sectors s) room && nat_lt 0 (data_sectors s) && operations s == 1

-- the record that begins with the sector `s`
pub record IsUnmountIn (s : List ℕ) (place room : ℕ) (u : Unmount) : Type 0 where
  pub fits : fits_unmount s room ≡ true
  pub place_is : u.place ≡ place
  pub room_is : u.room ≡ room
  pub cycle_is : u.cycle ≡ record_cycle s
  pub header_is : u.header ≡ header_sectors s
  pub sectors_are : u.sectors ≡ record_sectors s

-- sector j of the record begins with the cycle that it has to begin with and, behind the header, has the flag of an
-- unmount
abbrev pub has_due : Unmount → ℕ → List ℕ → Bool
has_due u j s =
    big_at 4 s 0 == cond (nat_lt (u.place + j) u.room) u.cycle (u.cycle + 1)
    && (not (j == u.header) || bit_at (slice_index s 9) 5 == 1)

-- so do all below n that follow the first one, where a log is given by its sectors
abbrev pub HaveDue : (ℕ → List ℕ) → Unmount → ℕ → Type 0
HaveDue sectors u n = (j : ℕ) → 1 ≤ j → j < n → has_due u j (sectors ((u.place + j) % u.room)) ≡ true
