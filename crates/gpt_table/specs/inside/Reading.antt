-- What the parts of the reader find, one sector at a time.
use Rattle.std.specs.Prelude.{◌≡◌, ℕ, List, length}
use Rattle.gpt_table.specs.declared.fault.GptFault.{GptFault}
use Rattle.gpt_table.specs.declared.fault.GptFault.TheVariants as faults
use Rattle.gpt_table.specs.declared.reading.Chosen.{Chosen}
use Rattle.gpt_table.specs.declared.reading.Found.{Found}
use Rattle.gpt_table.specs.declared.reading.Found.TheVariants as found
use Rattle.gpt_table.specs.declared.header.Header.{Header}
use Rattle.gpt_table.specs.declared.header.Judged.{Judged}
use Rattle.gpt_table.specs.declared.header.Judged.TheVariants as judged
use Rattle.gpt_table.specs.Header.{header_at, array_of, LieOnDisk, IsPlacedHeader, HasOtherShape, IsValid, IsMisshapen, IsAbsent}
use Rattle.gpt_table.specs.Gpt.{IsInUse, IsFirstBad, HasNoHeader, HasOtherTable, header_in, array_in}

-- neither a placed header nor one of another shape
pub record IsNoHeader (sectors at : ℕ) (header : Header) : Type 0 where
  pub not_placed : IsPlacedHeader sectors at header → ⊥
  pub not_misshapen : (count size : ℕ) → HasOtherShape at header count size → ⊥

-- what a header was found to be
abbrev pub IsJudged : ℕ → ℕ → Header → Judged → Type 0
IsJudged sectors at header judged.Absent = IsNoHeader sectors at header
IsJudged sectors at header (judged.Misshapen count size) = HasOtherShape at header count size
IsJudged sectors at header judged.Placed = IsPlacedHeader sectors at header

-- the faults that say nothing of a table
abbrev pub IsHindered : GptFault → Type 0
IsHindered faults.NoHeader = ⊥
IsHindered (faults.Shape count size) = ⊥
IsHindered (faults.Entry number) = ⊥
IsHindered faults.Device = Unit {0}
IsHindered faults.Memory = Unit {0}

-- a valid header and its array
pub record IsValidFound (sectors at : ℕ) (image : List ℕ) (header : Header) (array : List ℕ) : Type 0 where
  pub valid : IsValid sectors at image
  pub header_is : header ≡ header_at image at
  pub array_is : array ≡ array_of image (header_at image at)

-- what sector `at` of a disk holds
abbrev pub IsHeaderFound : ℕ → ℕ → List ℕ → Found → Type 0
IsHeaderFound sectors at image found.Absent = IsAbsent sectors at image
IsHeaderFound sectors at image (found.Misshapen count size) = IsMisshapen sectors at image count size
IsHeaderFound sectors at image (found.Valid header array) = IsValidFound sectors at image header array.items

-- what is known of it on every disk
pub record IsTakenInside (sectors : ℕ) (header : Header) (array : List ℕ) : Type 0 where
  pub placed : LieOnDisk sectors header
  pub long : length array ≡ 16384

abbrev pub IsBounded : ℕ → Found → Type 0
IsBounded sectors found.Absent = Unit {0}
IsBounded sectors (found.Misshapen count size) = Unit {0}
IsBounded sectors (found.Valid header array) = IsTakenInside sectors header array.items

-- the header in use and its array
pub record IsChosen (sectors : ℕ) (image : List ℕ) (chosen : Chosen) : Type 0 where
  pub in_use : IsInUse sectors image chosen.backup
  pub header_is : chosen.header ≡ header_in sectors image chosen.backup
  pub array_is : chosen.array.items ≡ array_in sectors image chosen.backup

abbrev pub IsChoiceBounded : ℕ → Chosen → Type 0
IsChoiceBounded sectors chosen = IsTakenInside sectors chosen.header chosen.array.items

-- why no header is in use
abbrev pub IsChoiceFault : ℕ → List ℕ → GptFault → Type 0
IsChoiceFault sectors image faults.NoHeader = HasNoHeader sectors image
IsChoiceFault sectors image (faults.Shape count size) = HasOtherTable sectors image count size
IsChoiceFault sectors image (faults.Entry number) = ⊥
IsChoiceFault sectors image faults.Device = Unit {0}
IsChoiceFault sectors image faults.Memory = Unit {0}

-- why the entries of an array are no table's
abbrev pub IsListFault : Header → List ℕ → GptFault → Type 0
IsListFault header array faults.NoHeader = ⊥
IsListFault header array (faults.Shape count size) = ⊥
IsListFault header array (faults.Entry number) = IsFirstBad header array number
IsListFault header array faults.Device = ⊥
IsListFault header array faults.Memory = Unit {0}
