-- The label of a physical volume of LVM2, in one of the first four sectors of a volume: a head of 32 bytes, and the
-- header of the physical volume, with its lists of areas.
use Rattle.std.specs.Prelude.{◌≡◌, ℕ, ◌+◌, ◌*◌, ◌<◌, ◌≤◌, Bool, true, false, ◌&&◌, nat_eq, nat_lt, if◌then◌else◌, List, codes, Option, Some, None}
use Rattle.disk_base.specs.Checksum.{crc32_lvm_of}
use Rattle.disk_base.specs.Image.{bytes_at, sector}
use Rattle.lvm_label.specs.declared.label.Label.{Label}
use Rattle.disk_base.specs.Fields.{little_at}

-- the sector begins as the label of sector `number` does
pub record IsLabelHead (number : ℕ) (bytes : List ℕ) : Type 0 where
  pub signature : bytes_at bytes 0 8 ≡ codes "LABELONE"
  pub place : little_at 8 bytes 8 ≡ number
  pub checksum : little_at 4 bytes 16 ≡ crc32_lvm_of (bytes_at bytes 20 492)
  pub kind : bytes_at bytes 24 8 ≡ codes "LVM2 001"

-- where the header of the physical volume stands in the sector
abbrev pub header_offset : List ℕ → ℕ
header_offset bytes = little_at 4 bytes 20

-- two numbers of 8 bytes that are both zero
abbrev pub is_zero_pair : List ℕ → ℕ → Bool
is_zero_pair bytes at = nat_eq (little_at 8 bytes at) 0 && nat_eq (little_at 8 bytes (at + 8)) 0

-- that many pairs stand from byte `at` on, before the first zero pair, which ends inside the sector
pub record ArePairs (bytes : List ℕ) (at count : ℕ) : Type 0 where
  pub inside : at + 16 * count + 16 ≤ 512
  pub ended : is_zero_pair bytes (at + 16 * count) ≡ true
  pub none_before : (k : ℕ) → k < count → is_zero_pair bytes (at + 16 * k) ≡ false

-- where the list of metadata areas begins, behind that many data areas and a zero pair
abbrev pub areas_place : List ℕ → ℕ → ℕ
areas_place bytes others = header_offset bytes + 56 + 16 * others

-- the header has that many data areas and metadata areas
pub record HasAreas (bytes : List ℕ) (others areas : ℕ) : Type 0 where
  pub behind_head : 32 ≤ header_offset bytes
  pub data_areas : ArePairs bytes (header_offset bytes + 40) others
  pub metadata_areas : ArePairs bytes (areas_place bytes others) areas

-- the pair of numbers of 8 bytes from byte `at` on
abbrev pub pair_at : List ℕ → ℕ → ℕ × ℕ
pair_at bytes at = (little_at 8 bytes at, little_at 8 bytes (at + 8))

-- the label of sector `number` with that many areas
abbrev pub label_of : ℕ → List ℕ → ℕ → ℕ → Label
label_of number bytes others areas = record {
  sector = number;
  offset = header_offset bytes;
  id = bytes_at bytes (header_offset bytes) 32;
  size = little_at 8 bytes (header_offset bytes + 32);
  areas = areas;
  start = little_at 8 bytes (areas_place bytes others);
  length = little_at 8 bytes (areas_place bytes others + 8);
  second = if nat_lt areas 2 then None else Some (pair_at bytes (areas_place bytes others + 16));
}

-- the bytes of sector `number` are that label
pub record IsLabel (number : ℕ) (bytes : List ℕ) (label : Label) : Type 0 where
  pub head : IsLabelHead number bytes
  pub others : ℕ
  pub areas : ℕ
  pub has_areas : HasAreas bytes others areas
  pub label_is : label ≡ label_of number bytes others areas

-- they are none
abbrev pub IsNoLabel : ℕ → List ℕ → Type 0
IsNoLabel number bytes = (label : Label) → IsLabel number bytes label → ⊥

-- the first label in four sectors
pub record IsFirstLabel (bytes : List ℕ) (label : Label) : Type 0 where
  pub inside : label.sector < 4
  pub here : IsLabel label.sector (sector bytes label.sector) label
  pub none_before : (k : ℕ) → k < label.sector → IsNoLabel k (sector bytes k)

-- four sectors hold none
abbrev pub HaveNoLabel : List ℕ → Type 0
HaveNoLabel bytes = (k : ℕ) → k < 4 → IsNoLabel k (sector bytes k)

-- what four sectors hold: their first label, or none
abbrev pub FindsLabel : List ℕ → Option Label → Type 0
FindsLabel bytes None = HaveNoLabel bytes
FindsLabel bytes (Some label) = IsFirstLabel bytes label

-- the law that four sectors hold one answer
abbrev pub OneLabel : Type 0
OneLabel = (bytes : List ℕ) (a b : Option Label) → FindsLabel bytes a → FindsLabel bytes b → a ≡ b
