-- The table of a disk, why there is none, and the disk that a written table is read from.
use Rattle.std.specs.Prelude.{◌≡◌, ℕ, ◌+◌, ◌-◌, ◌*◌, ◌^◌, ◌<◌, ◌≤◌, ◌⊎◌, Bool, true, false, nat_eq, if◌then◌else◌, List, ◌++◌, ◌∷◌, [], length, replicate, min, slice_index_or, flat_map, Option, Some, None, IsTrue}
use Rattle.byteorder.specs.Endian.{little_bytes}
use Rattle.disk_base.specs.Checksum.{IsCrc32}
use Rattle.disk_base.specs.Image.{bytes_at, sector}
use Rattle.uuid.specs.Parts.{is_nil_bytes}
use Rattle.gpt_table.specs.declared.entry.Entry.{Entry}
use Rattle.gpt_table.specs.declared.header.Header.{Header}
use Rattle.gpt_table.specs.declared.fault.GptFault.{GptFault}
use Rattle.gpt_table.specs.declared.fault.GptFault.TheVariants as faults
use Rattle.gpt_table.specs.Entry.{slot_at, is_bad, LiesBetweenTables, slot_bytes}
use Rattle.gpt_table.specs.Header.{IsValid, IsMisshapen, IsAbsent, IsHeaderSector, header_at, header_place, array_written, array_of}

-- a table as contracts see it
pub record EntryTable : Type 0 where
  pub disk : List ℕ  -- the disk's identifier
  pub entries : List (Option Entry)  -- the 128 entries
  pub from_backup : Bool

-- the entry of that number, counted from 1
abbrev pub entry_at : EntryTable → ℕ → Option Entry
entry_at table number = if nat_eq number 0 then None else slice_index_or table.entries (number - 1) None

-- the primary header is in use where it is valid, else the backup where that is valid; a primary header of
-- another shape leaves none in use
pub record IsInUse (sectors : ℕ) (image : List ℕ) (backup : Bool) : Type 0 where
  pub valid : IsValid sectors (header_place sectors backup) image
  pub primary : IsTrue backup → IsAbsent sectors 1 image

-- neither header is there
abbrev pub HasNoHeader : ℕ → List ℕ → Type 0
HasNoHeader sectors image = IsAbsent sectors 1 image × IsAbsent sectors (sectors - 1) image

-- the primary header, or where it is absent the backup, is sound and of another shape
abbrev pub HasOtherTable : ℕ → List ℕ → ℕ → ℕ → Type 0
HasOtherTable sectors image count size =
    IsMisshapen sectors 1 image count size
    ⊎ (IsAbsent sectors 1 image × IsMisshapen sectors (sectors - 1) image count size)

-- the header and the array that are in use
abbrev pub header_in : ℕ → List ℕ → Bool → Header
header_in sectors image backup = header_at image (header_place sectors backup)

abbrev pub array_in : ℕ → List ℕ → Bool → List ℕ
array_in sectors image backup = array_of image (header_in sectors image backup)

-- entry `k`, counted from 0, of an array is bad by a header's usable sectors
abbrev pub is_bad_at : Header → List ℕ → ℕ → Bool
is_bad_at header array k = is_bad header.first header.last (slot_at array k)

-- the entries of an array, of which none is bad
pub record AreEntries (header : Header) (array : List ℕ) (entries : List (Option Entry)) : Type 0 where
  pub count : length entries ≡ 128
  pub each : (k : ℕ) → k < 128 → slice_index_or entries k None ≡ slot_at array k
  pub none_bad : (k : ℕ) → k < 128 → is_bad_at header array k ≡ false

-- the first bad entry has that number, counted from 1
pub record IsFirstBad (header : Header) (array : List ℕ) (number : ℕ) : Type 0 where
  pub counted : (1 ≤ number) × (number ≤ 128)
  pub bad : IsTrue (is_bad_at header array (number - 1))
  pub none_before : (k : ℕ) → k + 1 < number → is_bad_at header array k ≡ false

-- the table of a disk of that many sectors
pub record IsGptTable (sectors : ℕ) (image : List ℕ) (table : EntryTable) : Type 0 where
  pub in_use : IsInUse sectors image table.from_backup
  pub disk : table.disk ≡ (header_in sectors image table.from_backup).disk
  pub entries :
      AreEntries (header_in sectors image table.from_backup) (array_in sectors image table.from_backup) table.entries

-- why a disk of that many sectors has no table; a device's fault and want of memory say nothing of it
abbrev pub HasGptFault : ℕ → List ℕ → GptFault → Type 0
HasGptFault sectors image faults.NoHeader = HasNoHeader sectors image
HasGptFault sectors image (faults.Shape count size) = HasOtherTable sectors image count size
HasGptFault sectors image (faults.Entry number) =
    (backup : Bool) × IsInUse sectors image backup
    × IsFirstBad (header_in sectors image backup) (array_in sectors image backup) number
HasGptFault sectors image faults.Device = Unit {0}
HasGptFault sectors image faults.Memory = Unit {0}

-- a disk has at most one table, and where it has one there is no reason against it
abbrev pub OneGptTable : Type 0
OneGptTable =
    (sectors : ℕ) (image : List ℕ) (one : EntryTable) → IsGptTable sectors image one
    → ((other : EntryTable) → IsGptTable sectors image other → other ≡ one)
    × ((fault : GptFault) → HasGptFault sectors image fault → (fault ≡ faults.Device) ⊎ (fault ≡ faults.Memory))

-- 128 entries, of which each used one lies on a disk of that many sectors
pub record AreInside (sectors : ℕ) (entries : List (Option Entry)) : Type 0 where
  pub count : length entries ≡ 128
  pub inside : (k : ℕ) (entry : Entry) → slice_index_or entries k None ≡ Some entry → LiesBetweenTables sectors entry

-- sector 0 of a disk of that many sectors: a head, a slot of type EE from sector 1 to the end, which takes the
-- place of the disk's other tables, three unused slots, and the signature
abbrev pub protective_bytes : List ℕ → ℕ → List ℕ
protective_bytes head sectors =
    head ++ (0x00 ∷ 0x00 ∷ 0x02 ∷ 0x00 ∷ 0xEE ∷ 0xFF ∷ 0xFF ∷ 0xFF ∷ []) ++ little_bytes 4 1
    ++ little_bytes 4 (min (sectors - 1) 0xFFFFFFFF)
    ++ replicate 48 0 ++ (0x55 ∷ 0xAA ∷ [])

-- the array that is written for a table's entries
abbrev pub array_bytes : List (Option Entry) → List ℕ
array_bytes entries = flat_map slot_bytes entries

-- an entry may stand in a table that is written for that many sectors
pub record MayBeWritten (sectors : ℕ) (entry : Entry) : Type 0 where
  pub kind : is_nil_bytes entry.kind ≡ false
  pub behind_tables : 34 ≤ entry.first
  pub in_order : entry.first ≤ entry.last
  pub before_backup : entry.last ≤ sectors - 34

abbrev pub AreWritable : ℕ → List (Option Entry) → Type 0
AreWritable sectors entries =
    (k : ℕ) (entry : Entry) → slice_index_or entries k None ≡ Some entry → MayBeWritten sectors entry

-- a disk of that many sectors on which both headers and both arrays of a table stand as they are written
pub record IsWritten (sectors : ℕ) (table : EntryTable) (image : List ℕ) : Type 0 where
  pub checksum : ℕ
  pub sums : IsCrc32 (array_bytes table.entries) checksum
  pub primary : IsHeaderSector table.disk sectors false checksum (sector image 1)
  pub primary_array : bytes_at image (512 * array_written sectors false) 16384 ≡ array_bytes table.entries
  pub backup : IsHeaderSector table.disk sectors true checksum (sector image (sectors - 1))
  pub backup_array : bytes_at image (512 * array_written sectors true) 16384 ≡ array_bytes table.entries

-- a disk is read as that table, by its primary header, and both of its headers are valid
pub record ReadsAs (sectors : ℕ) (table : EntryTable) (image : List ℕ) : Type 0 where
  pub is_table : IsGptTable sectors image (record table { from_backup = false })
  pub primary : IsValid sectors 1 image
  pub backup : IsValid sectors (sectors - 1) image

-- whatever disk that table is written on is read as it
abbrev pub IsReadWhereWritten : EntryTable → Type 0
IsReadWhereWritten table =
    (sectors : ℕ) (image : List ℕ) → 68 ≤ sectors → sectors < 2 ^ 64 → AreWritable sectors table.entries
    → IsWritten sectors table image → ReadsAs sectors table image
