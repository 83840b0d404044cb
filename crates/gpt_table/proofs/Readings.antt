-- From what the parts of the reader find to the table of a disk.
use Rattle.std.proofs.Common.{◌≡◌, ℕ, ◌+◌, ◌-◌, ◌*◌, ◌<◌, true, false, Option, take, drop, List, sym, ap, subst, ◌∙◌, arith, Vec, Global}
use Rattle.disk_base.specs.Checksum.{IsCrc32}
use Rattle.disk_base.proofs.Checksums.{one_crc32}
use Rattle.gpt_table.specs.declared.entry.Entry.{Entry as UsedEntry}
use Rattle.gpt_table.specs.declared.fault.GptFault.{GptFault}
use Rattle.gpt_table.specs.declared.fault.GptFault.TheVariants.{NoHeader, Shape, Entry, Device, Memory}
use Rattle.gpt_table.specs.declared.header.Header.{Header}
use Rattle.gpt_table.specs.declared.reading.Chosen.{Chosen}
use Rattle.gpt_table.specs.Entry.{slot_at, entry_of, used, is_bad}
use Rattle.gpt_table.specs.Header.{header_at, array_of, IsPlacedHeader, HasOtherShape, IsAbsent}
use Rattle.gpt_table.specs.Gpt.{HasGptFault, IsFirstBad, is_bad_at, header_in, array_in}
use Rattle.gpt_table.specs.inside.Reading.{IsNoHeader, IsValidFound, IsChosen, IsListFault}

-- a header that is neither placed nor of another shape makes its sector absent
pub absent_by_header : (size sectors at : ℕ) (image : List ℕ) (header : Header) → sectors ≡ size → header ≡ header_at image at
    → IsNoHeader sectors at header → IsAbsent size at image
absent_by_header size sectors at image header size-is header-is none =
    let P : Header → Type 0 = λ h. IsNoHeader size at h in
    let here : IsNoHeader size at (header_at image at) = subst P header-is (subst (λ (n : ℕ). IsNoHeader n at header) size-is none) in
    record { not_valid = λ valid. here.not_placed valid.placed; not_misshapen = λ count other shaped. here.not_misshapen count other shaped.shape }

-- a placed header whose array has another checksum is not valid
pub absent_by_checksum : (size sectors at : ℕ) (image : List ℕ) (header : Header) (array : List ℕ) (sum : ℕ) → header ≡ header_at image at
    → IsPlacedHeader sectors at header → array ≡ array_of image header → IsCrc32 array sum → (sum ≡ header.array_checksum → ⊥) → IsAbsent size at image
absent_by_checksum size sectors at image header array sum header-is placed array-is sums other =
    let here : array ≡ array_of image (header_at image at) = array-is ∙ ap (array_of image) header-is in
    record {
      not_valid = λ valid.
          other
          (one_crc32 array sum (header_at image at).array_checksum sums (subst (λ (a : List ℕ). IsCrc32 a (header_at image at).array_checksum) (sym here) valid.checksum)
          ∙ ap (λ (h : Header). h.array_checksum) (sym header-is));
      not_misshapen = λ count size shaped.
          (let there : HasOtherShape at header count size = subst (λ (h : Header). HasOtherShape at h count size) (sym header-is) shaped.shape in there.other placed.shape);
    }

-- the backup is in use where the primary is absent
pub backup_chosen : (sectors size last : ℕ) (image now : List ℕ) (header : Header) (array : Vec ℕ Global) → size ≡ sectors → now ≡ image → last ≡ sectors - 1
    → IsAbsent sectors 1 image → IsValidFound size last now header array.items → IsChosen sectors image (record { header = header; array = array; backup = true })
backup_chosen sectors size last image now header array size-is now-is last-is absent taken =
    let here : IsValidFound sectors (sectors - 1) image header array.items =
    subst (λ (n : ℕ). IsValidFound n (sectors - 1) image header array.items) size-is
    (subst (λ (i : List ℕ). IsValidFound size (sectors - 1) i header array.items) now-is
    (subst (λ (k : ℕ). IsValidFound size k now header array.items) last-is taken)) in
    record {
      in_use = record { valid = here.valid; primary = λ t. absent };
      header_is = here.header_is;
      array_is = here.array_is;
    }

-- entry `n` is the first that is bad
pub first_bad : (header : Header) (array : List ℕ) (n : ℕ) (slot : Option UsedEntry) → n < 128 → slot ≡ slot_at array n → is_bad header.first header.last slot ≡ true
    → ((k : ℕ) → k < n → is_bad_at header array k ≡ false) → IsFirstBad header array (n + 1)
first_bad header array n slot lt slot-is bad before =
    let back : n ≡ n + 1 - 1 = omega arith in
    record {
      counted = (omega arith, omega arith);
      bad = subst (λ (k : ℕ). is_bad_at header array k ≡ true) back (ap (is_bad header.first header.last) (sym slot-is) ∙ bad);
      none_before = λ k less. before k (omega arith);
    }

-- entry `n` of an array, by its range
pub slot_here : (array : List ℕ) (n start m : ℕ) → start ≡ 128 * n → m ≡ 128 → used (entry_of (take m (drop start array))) ≡ slot_at array n
slot_here array n start m start-is m-is =
    ap (λ (k : ℕ). used (entry_of (take k (drop start array)))) m-is ∙ ap (λ (k : ℕ). used (entry_of (take 128 (drop k array)))) start-is

-- the fault of the entries is one of the table
pub list_fault : (sectors : ℕ) (image array : List ℕ) (chosen : Chosen) (fault : GptFault) → IsChosen sectors image chosen → array ≡ chosen.array.items
    → IsListFault chosen.header array fault → HasGptFault sectors image fault
list_fault sectors image array chosen NoHeader is same due = absurd due
list_fault sectors image array chosen (Shape count size) is same due = absurd due
list_fault sectors image array chosen (Entry number) is same due =
    let header : Header = header_in sectors image chosen.backup in
    let read : array ≡ array_in sectors image chosen.backup = same ∙ is.array_is in
    let first : IsFirstBad header (array_in sectors image chosen.backup) number =
    subst (λ (a : List ℕ). IsFirstBad header a number) read (subst (λ (h : Header). IsFirstBad h array number) is.header_is due) in
    (chosen.backup, is.in_use, first)
list_fault sectors image array chosen Device is same due = tt
list_fault sectors image array chosen Memory is same due = tt
