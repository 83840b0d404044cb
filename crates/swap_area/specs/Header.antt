-- The header of a swap area in its first page of 4096 bytes, after `union swap_header` of Linux and `mkswap`: the bytes
-- of the first two sectors are left to boot loaders, the fields begin at byte 1024, the signature ends the page.
use Rattle.std.specs.Prelude.{◌≡◌, ℕ, ◌+◌, ◌*◌, ◌≤◌, List, codes}
use Rattle.std.specs.List.{range_with_len}
use Rattle.byteorder.specs.Endian.{little_bytes}
use Rattle.disk_base.specs.Fields.{little_at}
use Rattle.disk_base.specs.Image.{bytes_at, with_bytes}
use Rattle.swap_area.specs.declared.header.Swap.{Swap}

-- the page ends in the signature of pages of this size
abbrev pub HasSwapSignature : List ℕ → Type 0
HasSwapSignature page = bytes_at page 4086 10 ≡ codes "SWAPSPACE2"

-- what the fields say
abbrev pub swap_in : List ℕ → Swap
swap_in page =
    record {
      last_page = little_at 4 page 1028;
      bad = little_at 4 page 1032;
      uuid = bytes_at page 1036 16;
      label = bytes_at page 1052 16;
    }

-- the page is the first of a swap area, whose pages of eight sectors lie in a volume of that many sectors
pub record IsSwap (page : List ℕ) (sectors : ℕ) : Type 0 where
  pub signature : HasSwapSignature page
  pub version : little_at 4 page 1024 ≡ 1
  pub some : 1 ≤ little_at 4 page 1028
  pub fits : (little_at 4 page 1028 + 1) * 8 ≤ sectors

-- sector 2 of a swap area with another last page
abbrev pub with_last_page : List ℕ → ℕ → List ℕ
with_last_page sector last = with_bytes sector 4 (little_bytes 4 last)

-- the pages that carry nothing: all behind the header, as numbers of blocks
abbrev pub swap_free : Swap → List ℕ
swap_free swap = range_with_len 1 swap.last_page
