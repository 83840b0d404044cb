-- A disk has one table, or a reason to have none.
use Rattle.std.proofs.Common.{◌≡◌, ℕ, ◌-◌, ◌<◌, ◌⊎◌, inl, inr, Bool, true, false, List, length, Option, None, refl, sym, ap, subst, ◌∙◌, arith}
use Rattle.std.proofs.lemmas.Bool.{false≢true}
use Rattle.std.proofs.lemmas.List.{same_lists, get_or_default}
use Rattle.gpt_table.specs.declared.entry.Entry.{Entry as UsedEntry}
use Rattle.gpt_table.specs.declared.header.Header.{Header}
use Rattle.gpt_table.specs.declared.fault.GptFault.{GptFault}
use Rattle.gpt_table.specs.declared.fault.GptFault.TheVariants.{NoHeader, Shape, Entry, Device, Memory}
use Rattle.gpt_table.specs.Header.{IsValid, IsAbsent, IsMisshapen}
use Rattle.gpt_table.specs.Gpt.{EntryTable, IsInUse, IsGptTable, HasGptFault, AreEntries, IsFirstBad, header_in, array_in}

-- one header is in use
one_in_use : (sectors : ℕ) (image : List ℕ) (a b : Bool) → IsInUse sectors image a → IsInUse sectors image b → a ≡ b
one_in_use sectors image true true a-is b-is = refl
one_in_use sectors image true false a-is b-is = let absent : IsAbsent sectors 1 image = a-is.primary refl in absurd (absent.not_valid b-is.valid)
one_in_use sectors image false true a-is b-is = let absent : IsAbsent sectors 1 image = b-is.primary refl in absurd (absent.not_valid a-is.valid)
one_in_use sectors image false false a-is b-is = refl

same_entries : (header : Header) (array : List ℕ) (a b : List (Option UsedEntry)) → AreEntries header array a → AreEntries header array b → a ≡ b
same_entries header array a b a-are b-are =
    same_lists a b (a-are.count ∙ sym b-are.count)
    (λ k d lt.
    let small : k < 128 = omega (arith, a-are.count) in
    let in_b : k < length b = omega (arith, a-are.count, b-are.count) in
    get_or_default a k d None lt ∙ a-are.each k small ∙ sym (b-are.each k small) ∙ sym (get_or_default b k d None in_b))

pub one_table_at_most : (sectors : ℕ) (image : List ℕ) (a b : EntryTable) → IsGptTable sectors image a → IsGptTable sectors image b → a ≡ b
one_table_at_most sectors image a b a-is b-is =
    let same : a.from_backup ≡ b.from_backup = one_in_use sectors image a.from_backup b.from_backup a-is.in_use b-is.in_use in
    let disk : a.disk ≡ b.disk = a-is.disk ∙ ap (λ (u : Bool). (header_in sectors image u).disk) same ∙ sym b-is.disk in
    let here : AreEntries (header_in sectors image b.from_backup) (array_in sectors image b.from_backup) a.entries =
    subst (λ (u : Bool). AreEntries (header_in sectors image u) (array_in sectors image u) a.entries) same a-is.entries in
    let entries : a.entries ≡ b.entries = same_entries _ _ a.entries b.entries here b-is.entries in
    let made : List ℕ → List (Option UsedEntry) → Bool → EntryTable = λ d e u. record { disk = d; entries = e; from_backup = u } in
    ap (λ (d : List ℕ). made d a.entries a.from_backup) disk ∙ ap (λ (e : List (Option UsedEntry)). made b.disk e a.from_backup) entries ∙ ap (made b.disk b.entries) same

-- a header that is in use leaves no reason to have none
in_use_not_misshapen : (sectors : ℕ) (image : List ℕ) (at count size : ℕ) → IsValid sectors at image → IsMisshapen sectors at image count size → ⊥
in_use_not_misshapen sectors image at count size valid other = other.shape.other valid.placed.shape

in_use_present : (sectors : ℕ) (image : List ℕ) (backup : Bool) → IsInUse sectors image backup → IsAbsent sectors 1 image → IsAbsent sectors (sectors - 1) image → ⊥
in_use_present sectors image true is first last = last.not_valid is.valid
in_use_present sectors image false is first last = first.not_valid is.valid

in_use_shaped : (sectors : ℕ) (image : List ℕ) (backup : Bool) (count size : ℕ) → IsInUse sectors image backup
    → (IsMisshapen sectors 1 image count size ⊎ (IsAbsent sectors 1 image × IsMisshapen sectors (sectors - 1) image count size)) → ⊥
in_use_shaped sectors image true count size is (inl other) = let absent : IsAbsent sectors 1 image = is.primary refl in absent.not_misshapen count size other
in_use_shaped sectors image true count size is (inr both) = in_use_not_misshapen sectors image (sectors - 1) count size is.valid both.1
in_use_shaped sectors image false count size is (inl other) = in_use_not_misshapen sectors image 1 count size is.valid other
in_use_shaped sectors image false count size is (inr both) = let absent : IsAbsent sectors 1 image = both.0 in absent.not_valid is.valid

none_bad_at : (sectors : ℕ) (image : List ℕ) (table : EntryTable) (backup : Bool) (number : ℕ) → IsGptTable sectors image table → IsInUse sectors image backup
    → IsFirstBad (header_in sectors image backup) (array_in sectors image backup) number → ⊥
none_bad_at sectors image table backup number is used first =
    let same : backup ≡ table.from_backup = one_in_use sectors image backup table.from_backup used is.in_use in
    let here : IsFirstBad (header_in sectors image table.from_backup) (array_in sectors image table.from_backup) number =
    subst (λ (u : Bool). IsFirstBad (header_in sectors image u) (array_in sectors image u) number) same first in
    false≢true (sym (is.entries.none_bad (number - 1) (omega (arith, here.counted))) ∙ here.bad)

-- a disk with a table gives no reason to refuse it
pub no_fault : (sectors : ℕ) (image : List ℕ) (table : EntryTable) (fault : GptFault) → IsGptTable sectors image table → HasGptFault sectors image fault → (fault ≡ Device) ⊎ (fault ≡ Memory)
no_fault sectors image table NoHeader is has = absurd (in_use_present sectors image table.from_backup is.in_use has.0 has.1)
no_fault sectors image table (Shape count size) is has = absurd (in_use_shaped sectors image table.from_backup count size is.in_use has)
no_fault sectors image table (Entry number) is has = absurd (none_bad_at sectors image table has.0 number is has.1 has.2)
no_fault sectors image table Device is has = inl refl
no_fault sectors image table Memory is has = inr refl
