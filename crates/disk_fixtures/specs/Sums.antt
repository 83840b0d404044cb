-- What stands in bytes that were summed.
use Rattle.std.specs.Prelude.{◌≡◌, ℕ, Bool, if◌then◌else◌, List, take}
use Rattle.disk_base.specs.Checksum.{crc32c_without_of}
use Rattle.disk_base.specs.Fields.{little_at}
use Rattle.disk_fixtures.specs.declared.xfs.Header.{Header}
use Rattle.disk_fixtures.specs.declared.xfs.Header.TheVariants.{Superblock, Agf, Agi, Agfl}

-- at that byte they hold their own checksum, taken with zeros there
abbrev pub IsSummed : ℕ → List ℕ → Type 0
IsSummed at bytes = little_at 4 bytes at ≡ crc32c_without_of bytes at

-- bytes of a sector of the file system
abbrev pub sector_len : Bool → ℕ
sector_len large = if large then 4096 else 512

-- the sector at the start holds its own checksum at that byte
abbrev pub HasSummedSector : Bool → ℕ → List ℕ → Type 0
HasSummedSector large at bytes = IsSummed at (take (sector_len large) bytes)

-- where a header holds its checksum
abbrev pub sum_place : Header → ℕ
sum_place Superblock = 224
sum_place Agf = 216
sum_place Agi = 312
sum_place Agfl = 32
