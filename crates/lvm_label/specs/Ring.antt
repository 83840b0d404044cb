-- The ring of a metadata area: a header of one sector, and a text behind it that goes on at the ring's first byte
-- after the last one.
use Rattle.std.specs.Prelude.{◌≡◌, ◌≢◌, ℕ, ◌+◌, ◌*◌, ◌%◌, ◌^◌, ◌<◌, ◌≤◌, ◌⊎◌, nat_eq, if◌then◌else◌, List, [], ◌∷◌, ◌++◌, take, drop, Option, Some, None}
use Rattle.disk_base.specs.Checksum.{crc32_lvm_of}
use Rattle.disk_base.specs.Image.{bytes_at}
use Rattle.lvm_label.specs.declared.label.Label.{Label}
use Rattle.lvm_label.specs.declared.fault.RingFault.{RingFault}
use Rattle.lvm_label.specs.declared.fault.RingFault.TheVariants as faults
use Rattle.disk_base.specs.Fields.{little_at}

-- a ring as contracts see it
pub record RingArea : Type 0 where
  pub header : List ℕ  -- its first sector
  pub start : ℕ  -- where it begins in the volume, in bytes
  pub length : ℕ  -- how many bytes it has
  pub text : List ℕ

-- a label without a second area has no place for it
abbrev pub place_or_none : Option (ℕ × ℕ) → ℕ × ℕ
place_or_none None = (0, 0)
place_or_none (Some place) = place

-- where the area of that number begins, and its length
abbrev pub place_of_area : Label → ℕ → ℕ × ℕ
place_of_area label area = if nat_eq area 0 then (label.start, label.length) else place_or_none label.second

-- the label has an area of that number, 0 or 1
pub record HasArea (label : Label) (area : ℕ) : Type 0 where
  pub one_of_two : area < 2
  pub counted : area < label.areas
  pub known : area ≡ 1 → label.second ≡ None → ⊥

-- an area lies in whole sectors of a volume of that many, and is neither too short nor too long
pub record IsAreaPlaced (sectors start length : ℕ) : Type 0 where
  pub whole_start : start % 512 ≡ 0
  pub whole_length : length % 512 ≡ 0
  pub least : 1024 ≤ length
  pub most : length ≤ 2 ^ 26
  pub inside : start + length ≤ 512 * sectors

-- what a header has from byte 4 on: ` LVM2 x[5A%r0N*>`
abbrev pub area_magic : List ℕ
area_magic =
    0x20 ∷ 0x4C ∷ 0x56 ∷ 0x4D ∷ 0x32 ∷ 0x20 ∷ 0x78 ∷ 0x5B ∷ 0x35 ∷ 0x41 ∷ 0x25 ∷ 0x72 ∷ 0x30 ∷ 0x4E ∷ 0x2A ∷ 0x3E ∷ []

-- a sector is the header of an area of that place
pub record IsAreaHeader (start length : ℕ) (header : List ℕ) : Type 0 where
  pub checksum : little_at 4 header 0 ≡ crc32_lvm_of (bytes_at header 4 508)
  pub magic_is : bytes_at header 4 16 ≡ area_magic
  pub version : little_at 4 header 20 ≡ 1
  pub start_is : little_at 8 header 24 ≡ start
  pub length_is : little_at 8 header 32 ≡ length

-- where the header says that the text stands in the area, how many bytes it stores, and their checksum
abbrev pub text_offset : List ℕ → ℕ
text_offset header = little_at 8 header 40

abbrev pub text_size : List ℕ → ℕ
text_size header = little_at 8 header 48

abbrev pub text_checksum : List ℕ → ℕ
text_checksum header = little_at 4 header 56

-- the place of the text is to be ignored, by bit 0 of its flags
abbrev pub IsTextIgnored : List ℕ → Type 0
IsTextIgnored header = little_at 4 header 60 % 2 ≡ 1

-- there is no text
pub record NamesNoText (header : List ℕ) : Type 0 where
  pub no_offset : text_offset header ≡ 0
  pub no_size : text_size header ≡ 0

-- the text lies in an area of that length, behind the header
pub record IsTextPlaced (length : ℕ) (header : List ℕ) : Type 0 where
  pub behind_header : 512 ≤ text_offset header
  pub before_end : text_offset header < length
  pub some : 0 < text_size header
  pub fits : text_size header + 512 ≤ length

-- `size` bytes of an area from byte `offset` on; after its last byte they go on at byte 512
abbrev pub around_area : List ℕ → ℕ → ℕ → List ℕ
around_area area offset size = take size (drop offset area ++ drop 512 area)

-- the bytes before the first zero, or all
unfoldable pub before_zero : List ℕ → List ℕ
before_zero [] = []
before_zero (x ∷ xs) = if nat_eq x 0 then [] else x ∷ before_zero xs

-- the bytes that an area stores for its text
abbrev pub stored_in : List ℕ → List ℕ → List ℕ
stored_in header area = around_area area (text_offset header) (text_size header)

-- a header names a text
pub record NamesText (start length : ℕ) (header : List ℕ) : Type 0 where
  pub is_header : IsAreaHeader start length header
  pub not_ignored : IsTextIgnored header → ⊥
  pub not_empty : NamesNoText header → ⊥
  pub placed : IsTextPlaced length header

-- why a header names none, each where no earlier one holds
abbrev pub IsHeaderFault : ℕ → ℕ → List ℕ → RingFault → Type 0
IsHeaderFault start length header faults.Header = IsAreaHeader start length header → ⊥
IsHeaderFault start length header faults.Ignored = IsAreaHeader start length header × IsTextIgnored header
IsHeaderFault start length header faults.Empty = IsAreaHeader start length header × (IsTextIgnored header → ⊥) × NamesNoText header
IsHeaderFault start length header faults.Place =
    IsAreaHeader start length header × (IsTextIgnored header → ⊥) × (NamesNoText header → ⊥) × (IsTextPlaced length header → ⊥)
IsHeaderFault start length header faults.Checksum = ⊥
IsHeaderFault start length header faults.Device = ⊥
IsHeaderFault start length header faults.Memory = ⊥

-- the checksum of the stored text is right
abbrev pub IsTextSound : List ℕ → List ℕ → Type 0
IsTextSound header area = text_checksum header ≡ crc32_lvm_of (stored_in header area)

-- the header of an area of a volume
abbrev pub area_header : List ℕ → ℕ → List ℕ
area_header image start = bytes_at image start 512

-- what a header and the bytes of its area make
abbrev pub ring_with : ℕ → ℕ → List ℕ → List ℕ → RingArea
ring_with start length header area = record {
  header = header;
  start = start;
  length = length;
  text = before_zero (stored_in header area);
}

-- the ring of the area at that place of a volume of that many sectors
pub record IsRing (sectors : ℕ) (image : List ℕ) (start length : ℕ) (ring : RingArea) : Type 0 where
  pub placed : IsAreaPlaced sectors start length
  pub names : NamesText start length (area_header image start)
  pub sound : IsTextSound (area_header image start) (bytes_at image start length)
  pub ring_is : ring ≡ ring_with start length (area_header image start) (bytes_at image start length)

-- the area is placed, and its header has that fault
abbrev pub HasHeaderFault : ℕ → List ℕ → ℕ → ℕ → RingFault → Type 0
HasHeaderFault sectors image start length fault =
    IsAreaPlaced sectors start length × IsHeaderFault start length (area_header image start) fault

-- the header names a text, whose checksum is wrong
pub record HasUnsoundText (sectors : ℕ) (image : List ℕ) (start length : ℕ) : Type 0 where
  pub placed : IsAreaPlaced sectors start length
  pub names : NamesText start length (area_header image start)
  pub unsound : IsTextSound (area_header image start) (bytes_at image start length) → ⊥

-- why it has none, each where no earlier one holds; a device's fault and want of memory say nothing of it
abbrev pub HasRingFault : ℕ → List ℕ → ℕ → ℕ → RingFault → Type 0
HasRingFault sectors image start length faults.Place =
    (IsAreaPlaced sectors start length → ⊥) ⊎ HasHeaderFault sectors image start length faults.Place
HasRingFault sectors image start length faults.Header = HasHeaderFault sectors image start length faults.Header
HasRingFault sectors image start length faults.Ignored = HasHeaderFault sectors image start length faults.Ignored
HasRingFault sectors image start length faults.Empty = HasHeaderFault sectors image start length faults.Empty
HasRingFault sectors image start length faults.Checksum = HasUnsoundText sectors image start length
HasRingFault sectors image start length faults.Device = Unit {0}
HasRingFault sectors image start length faults.Memory = Unit {0}

-- the same of the area of that number of a label
abbrev pub IsPlacedBy : ℕ → Label → ℕ → Type 0
IsPlacedBy sectors label area = IsAreaPlaced sectors (place_of_area label area).0 (place_of_area label area).1

abbrev pub IsRingBy : ℕ → List ℕ → Label → ℕ → RingArea → Type 0
IsRingBy sectors image label area ring = IsRing sectors image (place_of_area label area).0 (place_of_area label area).1 ring

abbrev pub HasRingFaultBy : ℕ → List ℕ → Label → ℕ → RingFault → Type 0
HasRingFaultBy sectors image label area fault =
    HasRingFault sectors image (place_of_area label area).0 (place_of_area label area).1 fault

-- the law that an area with a ring has no fault
abbrev pub RingOrFault : Type 0
RingOrFault =
    (sectors : ℕ) (image : List ℕ) (start length : ℕ) (ring : RingArea) (fault : RingFault) → fault ≢ faults.Device → fault ≢ faults.Memory
    → IsRing sectors image start length ring → HasRingFault sectors image start length fault → ⊥
