-- A header of the table, in the second sector of a disk or in its last one (UEFI specification, 5.3.2).
use Rattle.std.specs.Prelude.{◌≡◌, ℕ, ◌+◌, ◌-◌, ◌*◌, ◌<◌, ◌≤◌, Bool, if◌then◌else◌, not, List, ◌++◌, take, replicate, codes}
use Rattle.byteorder.specs.Endian.{little_bytes}
use Rattle.uuid.specs.Parts.{swap_fields}
use Rattle.disk_base.specs.Checksum.{IsCrc32}
use Rattle.disk_base.specs.Fields.{little_at}
use Rattle.disk_base.specs.Image.{bytes_at, sector}
use Rattle.gpt_table.specs.declared.header.Header.{Header}
use Rattle.gpt_table.specs.Entry.{guid_at}

-- what a header's checksum is taken of: its 92 bytes, with the checksum's own place zero
unfoldable pub summed : List ℕ → List ℕ
summed bytes = take 16 bytes ++ replicate 4 0 ++ bytes_at bytes 20 72

-- the fields of a header, as its bytes spell them; what is reserved, and the place of the other header, is not
-- looked at
unfoldable pub header_of : List ℕ → Header
header_of bytes = record {
  signature = bytes_at bytes 0 8;
  revision = little_at 4 bytes 8;
  size = little_at 4 bytes 12;
  checksum = little_at 4 bytes 16;
  place = little_at 8 bytes 24;
  first = little_at 8 bytes 40;
  last = little_at 8 bytes 48;
  disk = guid_at bytes 56;
  array = little_at 8 bytes 72;
  count = little_at 4 bytes 80;
  entry_size = little_at 4 bytes 84;
  array_checksum = little_at 4 bytes 88;
  covered = summed bytes;
}

-- the header in sector `at` of a disk
abbrev pub header_at : List ℕ → ℕ → Header
header_at image at = header_of (sector image at)

-- a header of revision 1.0 and 92 bytes, which names the place where it stands and whose checksum is right
pub record IsSound (at : ℕ) (header : Header) : Type 0 where
  pub signature : header.signature ≡ codes "EFI PART"
  pub revision : header.revision ≡ 0x10000
  pub size : header.size ≡ 92
  pub place : header.place ≡ at
  pub checksum : IsCrc32 header.covered header.checksum

-- 128 entries of 128 bytes
pub record HasShape (header : Header) : Type 0 where
  pub count : header.count ≡ 128
  pub size : header.entry_size ≡ 128

-- a sound header of another shape
pub record HasOtherShape (at : ℕ) (header : Header) (count size : ℕ) : Type 0 where
  pub sound : IsSound at header
  pub other : HasShape header → ⊥
  pub count_is : count ≡ header.count
  pub size_is : size ≡ header.entry_size

-- an array of entries and usable sectors that lie where they may on a disk of that many sectors
pub record LieOnDisk (sectors : ℕ) (header : Header) : Type 0 where
  pub array_inside : header.array + 32 ≤ sectors
  pub behind_tables : 34 ≤ header.first
  pub in_order : header.first ≤ header.last
  pub within : header.last < sectors

-- a sound header of the right shape whose parts lie where they may
pub record IsPlacedHeader (sectors at : ℕ) (header : Header) : Type 0 where
  pub sound : IsSound at header
  pub shape : HasShape header
  pub placed : LieOnDisk sectors header

-- the array of entries that a header names
abbrev pub array_of : List ℕ → Header → List ℕ
array_of image header = bytes_at image (512 * header.array) 16384

-- sector `at` of a disk holds a valid header
pub record IsValid (sectors at : ℕ) (image : List ℕ) : Type 0 where
  pub inside : at < sectors
  pub placed : IsPlacedHeader sectors at (header_at image at)
  pub checksum : IsCrc32 (array_of image (header_at image at)) (header_at image at).array_checksum

-- sector `at` of a disk holds a sound header of another shape
pub record IsMisshapen (sectors at : ℕ) (image : List ℕ) (count size : ℕ) : Type 0 where
  pub inside : at < sectors
  pub shape : HasOtherShape at (header_at image at) count size

-- sector `at` of a disk holds neither
pub record IsAbsent (sectors at : ℕ) (image : List ℕ) : Type 0 where
  pub not_valid : IsValid sectors at image → ⊥
  pub not_misshapen : (count size : ℕ) → IsMisshapen sectors at image count size → ⊥

-- where the primary header stands, and its backup
abbrev pub header_place : ℕ → Bool → ℕ
header_place sectors backup = if backup then sectors - 1 else 1

-- where the array of each of them is written
abbrev pub array_written : ℕ → Bool → ℕ
array_written sectors backup = if backup then sectors - 33 else 2

-- the 92 bytes that are written for a header with that checksum: 40 that say where it stands, and the rest
unfoldable pub start_bytes : ℕ → Bool → ℕ → List ℕ
start_bytes sectors backup checksum =
    codes "EFI PART" ++ little_bytes 4 0x10000 ++ little_bytes 4 92 ++ little_bytes 4 checksum ++ little_bytes 4 0
    ++ little_bytes 8 (header_place sectors backup) ++ little_bytes 8 (header_place sectors (not backup))

unfoldable pub rest_bytes : List ℕ → ℕ → Bool → ℕ → List ℕ
rest_bytes disk sectors backup array =
    little_bytes 8 34 ++ little_bytes 8 (sectors - 34) ++ swap_fields disk
    ++ little_bytes 8 (array_written sectors backup) ++ little_bytes 4 128 ++ little_bytes 4 128 ++ little_bytes 4 array

abbrev pub header_bytes : List ℕ → ℕ → Bool → ℕ → ℕ → List ℕ
header_bytes disk sectors backup array checksum =
    start_bytes sectors backup checksum ++ rest_bytes disk sectors backup array

-- a sector holds the header of a table with that identifier, whose array has the checksum `array`
pub record IsHeaderSector (disk : List ℕ) (sectors : ℕ) (backup : Bool) (array : ℕ) (bytes : List ℕ) : Type 0 where
  pub checksum : ℕ
  pub sums : IsCrc32 (header_bytes disk sectors backup array 0) checksum
  pub bytes_are : bytes ≡ header_bytes disk sectors backup array checksum ++ replicate 420 0
