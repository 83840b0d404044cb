-- What holds of the header of a swap area.
use Rattle.std.specs.Prelude.{◌≡◌, ◌≢◌, ◌↔◌, ℕ, ◌+◌, ◌*◌, ◌^◌, ◌<◌, ◌≤◌, List, length}
use Rattle.disk_base.specs.Fields.{little_at}
use Rattle.disk_base.specs.Image.{bytes_at, sector}
use Rattle.block_claims.specs.Agreement.{times_in, AgreeElsewhere}
use Rattle.swap_area.specs.declared.header.Swap.{Swap}
use Rattle.swap_area.specs.Header.{IsSwap, swap_in, swap_free, with_last_page}

-- two first pages, of which the second has another last page in its sector 2, and is the same in all other sectors
pub record HasLastPage (last : ℕ) (old new : List ℕ) : Type 0 where
  pub long : length old ≡ 4096
  pub same_length : length new ≡ length old
  pub written : sector new 2 ≡ with_last_page (sector old 2) last
  pub others : (k : ℕ) → k ≢ 2 → sector new k ≡ sector old k

-- they have the same signature and version and say the same, but for the last page
pub record DiffersInLastPage (last : ℕ) (old new : List ℕ) : Type 0 where
  pub signature : bytes_at new 4086 10 ≡ bytes_at old 4086 10
  pub version : little_at 4 new 1024 ≡ little_at 4 old 1024
  pub swap : swap_in new ≡ record (swap_in old) { last_page = last }

abbrev pub LastPageAlone : Type 0
LastPageAlone =
    (last : ℕ) (old new : List ℕ) → last < 2 ^ 32 → HasLastPage last old new → DiffersInLastPage last old new

-- where the first is the header of a swap area, the second is one in each volume that has room for its pages
abbrev pub GrownIsSwap : Type 0
GrownIsSwap =
    (last sectors room : ℕ) (old new : List ℕ)
    → last < 2 ^ 32 → HasLastPage last old new → IsSwap old sectors → 1 ≤ last → (last + 1) * 8 ≤ room → IsSwap new room

-- two first pages that say the same
pub record SaysSame (old new : List ℕ) : Type 0 where
  pub swap : swap_in new ≡ swap_in old
  pub valid : (sectors : ℕ) → IsSwap new sectors ↔ IsSwap old sectors

-- volumes that differ in free pages alone have first pages that say the same
abbrev pub FreePagesCarryNothing : Type 0
FreePagesCarryNothing =
    (swap : Swap) (old new : ℕ → List ℕ) → AgreeElsewhere (swap_free swap) old new → SaysSame (old 0) (new 0)

-- the free pages are those from page 1 to the last one, and lie in the volume
pub record IsFreePage (page : List ℕ) (sectors n : ℕ) : Type 0 where
  pub behind_header : 1 ≤ n
  pub within : n ≤ little_at 4 page 1028
  pub inside : (n + 1) * 8 ≤ sectors

abbrev pub FreePagesLieInside : Type 0
FreePagesLieInside =
    (page : List ℕ) (sectors n : ℕ) → IsSwap page sectors
    → (0 < times_in n (swap_free (swap_in page))) ↔ IsFreePage page sectors n
