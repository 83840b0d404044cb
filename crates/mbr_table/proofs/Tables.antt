-- A sector that was written for a head and slots is read as their table.
use Rattle.std.proofs.Common.{◌-◌, ◌⊎◌, inl, inr, subst, cond, false, None, Some, MatchOption, ◌≡◌, ℕ, suc, ◌^◌, ◌<◌, ◌≤◌, true, List, [], ◌∷◌, ◌++◌, length, take, drop, map, get_or, refl, sym, ap, ◌∙◌, append_assoc, arith, add-zero}
use Rattle.std.specs.List.{list_any, find}
use Rattle.std.proofs.lemmas.Bool.{and_parts, cases_lt}
use Rattle.std.proofs.lemmas.Option.{MatchOption-at_some}
use Rattle.std.proofs.lemmas.List.{length-append, append-nil, take_at, drop_at, take-map, get_or-map, get_or-drop, length-map}
use Rattle.disk_base.specs.Image.{bytes_at, sector}
use Rattle.mbr_table.specs.declared.slot.Slot.{Slot}
use Rattle.mbr_table.specs.declared.slot.Logical.{Logical}
use Rattle.mbr_table.specs.declared.fault.MbrFault.{MbrFault}
use Rattle.mbr_table.specs.declared.fault.MbrFault.TheVariants.{NoSignature, Entry, Chain, TooMany, Device, Memory}
use Rattle.mbr_table.specs.Slot.{slot_of, empty_slot, kept_slot, slot_entry, slot_end, is_used, is_extended, holds_extended, is_bad_slot, IsBadEntry}
use Rattle.mbr_table.specs.Signature.{HasSignature}
use Rattle.mbr_table.specs.Mbr.{Table, slots_of, AreSound, IsFirstBadSlot, IsOfDisk, IsSectorTable, IsMbrTable, IsSectorFault, HasMbrFault, AreLogicals, HasExtended, mbr_sector_of, table_of, ReadsBack}
use Rattle.mbr_table.specs.Chain.{AreChained, ComesToBad, ComesTooFar, logicals_at}
use Rattle.mbr_table.specs.inside.Walk.{IsLogicalsFault}
use Rattle.mbr_table.proofs.Chains.{one_chain_at_most, none_bad, none_too_far, one_bad, one_too_far, not_both}
use Rattle.mbr_table.proofs.Entries.{length-entry_of, kept-is_bad, any-kept, entry_read_back, good_bounds}

-- a part is found behind what stands before it
part : (before e rest bytes : List ℕ) (at n : ℕ) → bytes ≡ before ++ (e ++ rest) → length before ≡ at → length e ≡ n → bytes_at bytes at n ≡ e
part before e rest bytes at n is at-is n-is =
    rw is (ap (take n) (drop_at before (e ++ rest) at at-is) ∙ take_at e rest n n-is)

-- a byte is found behind what stands before it
byte : (before rest bytes : List ℕ) (b at : ℕ) → bytes ≡ before ++ (b ∷ rest) → length before ≡ at → get_or bytes at 0 ≡ b
byte before rest bytes b at is at-is =
    let found : get_or (drop at bytes) 0 0 ≡ b = rw (is, drop_at before (b ∷ rest) at at-is) refl in
    let moved : get_or (drop at bytes) 0 0 ≡ get_or bytes at 0 = get_or-drop at bytes 0 0 ∙ ap (λ (k : ℕ). get_or bytes k 0) (add-zero at) in
    sym moved ∙ found

-- four parts between a front and the signature
pub record Parts (front a b c d bytes : List ℕ) : Type 0 where
  pub signature : HasSignature bytes
  pub at_front : bytes_at bytes 0 446 ≡ front
  pub first : bytes_at bytes 446 16 ≡ a
  pub second : bytes_at bytes 462 16 ≡ b
  pub third : bytes_at bytes 478 16 ≡ c
  pub fourth : bytes_at bytes 494 16 ≡ d

pub four_parts : (front a b c d bytes : List ℕ) → bytes ≡ (front ++ (a ++ (b ++ (c ++ (d ++ []))))) ++ 0x55 ∷ 0xAA ∷ []
    → length front ≡ 446 → length a ≡ 16 → length b ≡ 16 → length c ≡ 16 → length d ≡ 16 → Parts front a b c d bytes
four_parts front a b c d bytes is len a-len b-len c-len d-len =
    let sig : List ℕ = 0x55 ∷ 0xAA ∷ [] in
    let long2 : length (front ++ a) ≡ 462 = omega (arith, length-append front a) in
    let long3 : length ((front ++ a) ++ b) ≡ 478 = omega (arith, length-append (front ++ a) b) in
    let long4 : length (((front ++ a) ++ b) ++ c) ≡ 494 = omega (arith, length-append ((front ++ a) ++ b) c) in
    let long5 : length ((((front ++ a) ++ b) ++ c) ++ d) ≡ 510 = omega (arith, length-append (((front ++ a) ++ b) ++ c) d) in
    let long6 : length (((((front ++ a) ++ b) ++ c) ++ d) ++ 0x55 ∷ []) ≡ 511 = omega (arith, length-append ((((front ++ a) ++ b) ++ c) ++ d) (0x55 ∷ [])) in
    let is0 : bytes ≡ front ++ (a ++ (b ++ (c ++ (d ++ sig)))) = is ∙ simp (append_assoc, append-nil) in
    let is1 : bytes ≡ (front ++ a) ++ (b ++ (c ++ (d ++ sig))) = is0 ∙ simp append_assoc in
    let is2 : bytes ≡ ((front ++ a) ++ b) ++ (c ++ (d ++ sig)) = is0 ∙ simp append_assoc in
    let is3 : bytes ≡ (((front ++ a) ++ b) ++ c) ++ (d ++ sig) = is0 ∙ simp append_assoc in
    let is4 : bytes ≡ ((((front ++ a) ++ b) ++ c) ++ d) ++ sig = is0 ∙ simp append_assoc in
    let is5 : bytes ≡ (((((front ++ a) ++ b) ++ c) ++ d) ++ 0x55 ∷ []) ++ 0xAA ∷ [] = is0 ∙ simp append_assoc in
    record {
      signature = record { first = byte _ _ bytes 0x55 510 is4 long5; second = byte _ _ bytes 0xAA 511 is5 long6 };
      at_front = rw is0 (take_at front (a ++ (b ++ (c ++ (d ++ sig)))) 446 len);
      first = part front a _ bytes 446 16 is0 len a-len;
      second = part (front ++ a) b _ bytes 462 16 is1 long2 b-len;
      third = part ((front ++ a) ++ b) c _ bytes 478 16 is2 long3 c-len;
      fourth = part (((front ++ a) ++ b) ++ c) d _ bytes 494 16 is3 long4 d-len;
    }

list4 : (p q r s p' q' r' s' : Slot) → p ≡ p' → q ≡ q' → r ≡ r' → s ≡ s' → p ∷ q ∷ r ∷ s ∷ [] ≡ p' ∷ q' ∷ r' ∷ s' ∷ []
list4 p q r s p' q' r' s' p-is q-is r-is s-is = cc

-- what is written for slots that read back one by one reads back
pub sector_reads_back : (front : List ℕ) (slots : List Slot) → length front ≡ 446 → length slots ≡ 4
    → ((i : ℕ) → i < 4 → slot_of (slot_entry (get_or slots i empty_slot)) ≡ kept_slot (get_or slots i empty_slot))
    → ReadsBack front slots (mbr_sector_of front slots)
sector_reads_back front [] len four each = absurd (omega arith)
sector_reads_back front (p ∷ []) len four each = absurd (omega arith)
sector_reads_back front (p ∷ q ∷ []) len four each = absurd (omega arith)
sector_reads_back front (p ∷ q ∷ r ∷ []) len four each = absurd (omega arith)
sector_reads_back front (p ∷ q ∷ r ∷ s ∷ []) len four each =
    let parts : Parts front (slot_entry p) (slot_entry q) (slot_entry r) (slot_entry s) (mbr_sector_of front (p ∷ q ∷ r ∷ s ∷ [])) =
    four_parts front (slot_entry p) (slot_entry q) (slot_entry r) (slot_entry s) _ refl len (length-entry_of p) (length-entry_of q) (length-entry_of r) (length-entry_of s) in
    record {
      signature = parts.signature;
      head = parts.at_front;
      slots = list4 _ _ _ _ _ _ _ _
          (ap slot_of parts.first ∙ each 0 (omega arith)) (ap slot_of parts.second ∙ each 1 (omega arith))
          (ap slot_of parts.third ∙ each 2 (omega arith)) (ap slot_of parts.fourth ∙ each 3 (omega arith));
    }
sector_reads_back front (p ∷ q ∷ r ∷ s ∷ t ∷ slots) len four each = absurd (omega arith)

-- slots that are kept_slot are sound as they were
pub kept_sound : (sectors : ℕ) (slots : List Slot) → AreSound sectors slots → AreSound sectors (map kept_slot slots)
kept_sound sectors slots sound = record {
  four = length-map slots kept_slot ∙ sound.four;
  none_bad = λ i lt bad.
      let before : list_any holds_extended (take i (map kept_slot slots)) ≡ list_any holds_extended (take i slots) =
      ap (list_any holds_extended) (take-map kept_slot i slots) ∙ any-kept (take i slots) in
      let here : get_or (map kept_slot slots) i empty_slot ≡ kept_slot (get_or slots i empty_slot) = get_or-map kept_slot slots i empty_slot empty_slot (omega (arith, sound.four)) in
      let same : is_bad_slot sectors (list_any holds_extended (take i (map kept_slot slots))) (get_or (map kept_slot slots) i empty_slot)
      ≡ is_bad_slot sectors (list_any holds_extended (take i slots)) (get_or slots i empty_slot) =
      ap (λ b. is_bad_slot sectors b (get_or (map kept_slot slots) i empty_slot)) before
      ∙ ap (is_bad_slot sectors (list_any holds_extended (take i slots))) here
      ∙ kept-is_bad sectors (list_any holds_extended (take i slots)) (get_or slots i empty_slot) in
      sound.none_bad i lt (sym same ∙ bad);
}

-- a sector that reads back as a head and sound slots holds their table
pub table_read_back : (sectors : ℕ) (front : List ℕ) (slots : List Slot) (bytes : List ℕ) → 0 < sectors → ReadsBack front slots bytes → AreSound sectors slots
    → IsSectorTable sectors bytes (table_of front slots)
table_read_back sectors front slots bytes some back sound = record {
  some = some;
  signature = back.signature;
  head = sym back.head;
  slots = sym back.slots;
  sound = kept_sound sectors slots sound;
}

-- what is written for sound slots holds their table
pub table_written : (sectors : ℕ) (front : List ℕ) (slots : List Slot) → 0 < sectors → length front ≡ 446 → AreSound sectors slots
    → ((i : ℕ) → i < 4 → ((get_or slots i empty_slot).start < 2 ^ 32) × ((get_or slots i empty_slot).count < 2 ^ 32))
    → IsSectorTable sectors (mbr_sector_of front slots) (table_of front slots)
table_written sectors front slots some len sound fit =
    table_read_back sectors front slots (mbr_sector_of front slots) some
    (sector_reads_back front slots len sound.four (λ i lt. entry_read_back (get_or slots i empty_slot) (fit i lt).0 (fit i lt).1)) sound

-- slots of which each is used or empty are read as they were written
pub same_slots : (slots : List Slot) → ((i : ℕ) → i < length slots → kept_slot (get_or slots i empty_slot) ≡ get_or slots i empty_slot) → map kept_slot slots ≡ slots
same_slots [] each = refl
same_slots (slot ∷ slots) each =
    let here : kept_slot slot ≡ slot = each 0 (omega arith) in
    let rest : map kept_slot slots ≡ slots = same_slots slots (λ i lt. each (suc i) (omega arith)) in
    cc

-- a used slot of a table lies behind sector 0 and on the disk
pub used_bounds : (sectors : ℕ) (slots : List Slot) (i : ℕ) → AreSound sectors slots → i < 4 → is_used (get_or slots i empty_slot) ≡ true
    → (1 ≤ (get_or slots i empty_slot).start) × (slot_end (get_or slots i empty_slot) ≤ sectors)
used_bounds sectors slots i sound lt used =
    good_bounds sectors (list_any holds_extended (take i slots)) (get_or slots i empty_slot) used (sound.none_bad i lt)

-- where a slot is found that holds an extended partition
record FoundAt (slots : List Slot) (extended : Slot) : Type 0 where
  place : ℕ
  inside : place < length slots
  here : get_or slots place empty_slot ≡ extended
  holds : holds_extended extended ≡ true

found_at : (slots : List Slot) (extended : Slot) → find holds_extended slots ≡ Some extended → FoundAt slots extended
found_at [] extended is = absurd cc
found_at (slot ∷ slots) extended is =
    elim (holds_extended slot) as (λ b. (holds_extended slot ≡ b) → cond b (Some slot) (find holds_extended slots) ≡ Some extended → FoundAt (slot ∷ slots) extended) [
      | true ↦ λ holds found.
          let same : slot ≡ extended = cc in
          record { place = 0; inside = omega arith; here = same; holds = ap holds_extended (sym same) ∙ holds }
      | false ↦ λ holds found.
          let rest : FoundAt slots extended = found_at slots extended found in
          record { place = suc rest.place; inside = omega (arith, rest.inside); here = rest.here; holds = rest.holds }
    ] refl is

-- the extended partition of sound slots lies behind sector 0 and on the disk
pub found_bounds : (sectors : ℕ) (slots : List Slot) (extended : Slot) → find holds_extended slots ≡ Some extended → AreSound sectors slots
    → (1 ≤ extended.start) × (slot_end extended ≤ sectors)
found_bounds sectors slots extended is sound =
    let found : FoundAt slots extended = found_at slots extended is in
    let used : is_used extended ≡ true = (and_parts (is_used extended) (is_extended extended) found.holds).0 in
    let P : Slot → Type 0 = λ s. (1 ≤ s.start) × (slot_end s ≤ sectors) in
    subst P found.here (used_bounds sectors slots found.place sound (omega (arith, found.inside, sound.four)) (ap is_used found.here ∙ used))

-- a disk whose sector 0 spells a table without an extended partition has that table
pub table_on_disk : (sectors : ℕ) (image bytes : List ℕ) (table : Table) → sector image 0 ≡ bytes → IsSectorTable sectors bytes table
    → find holds_extended table.slots ≡ None → table.logicals ≡ [] → IsMbrTable sectors image table
table_on_disk sectors image bytes table same is plain none = record {
  in_sector = subst (λ (b : List ℕ). IsSectorTable sectors b table) (sym same) is;
  logicals = rw plain none;
}

-- the logical partitions of a disk are given by its slots
one_list : (image : List ℕ) (slots : List Slot) (a b : List Logical) → AreLogicals image slots a → AreLogicals image slots b → a ≡ b
one_list image slots a b a-are b-are =
    elim (find holds_extended slots) as (λ o. MatchOption o (a ≡ []) (λ e. AreChained image e a) → MatchOption o (b ≡ []) (λ e. AreChained image e b) → a ≡ b) [
      | None ↦ λ a-none b-none. a-none ∙ sym b-none
      | Some extended ↦ λ a-is b-is.
          a-is.logicals_are ∙ ap (logicals_at image) (one_chain_at_most image extended b-is.places a-is.places b-is.chain a-is.chain) ∙ sym b-is.logicals_are
    ] a-are b-are

-- a disk has one table
pub one_table_at_most : (sectors : ℕ) (image : List ℕ) (a b : Table) → IsMbrTable sectors image a → IsMbrTable sectors image b → a ≡ b
one_table_at_most sectors image a b a-is b-is =
    let head : a.head ≡ b.head = a-is.in_sector.head ∙ sym b-is.in_sector.head in
    let slots : a.slots ≡ b.slots = a-is.in_sector.slots ∙ sym b-is.in_sector.slots in
    let logicals : a.logicals ≡ b.logicals =
    one_list image b.slots a.logicals b.logicals (subst (λ (s : List Slot). AreLogicals image s a.logicals) slots a-is.logicals) b-is.logicals in
    let made : List ℕ → List Slot → List Logical → Table = λ h s l. record { head = h; slots = s; logicals = l } in
    ap (λ (h : List ℕ). made h a.slots a.logicals) head ∙ ap (λ (s : List Slot). made b.head s a.logicals) slots ∙ ap (made b.head b.slots) logicals

-- the extended partition of a disk with a table has a chain
chained : (sectors : ℕ) (image : List ℕ) (table : Table) (extended : Slot) → IsMbrTable sectors image table → HasExtended sectors (sector image 0) extended
    → AreChained image extended table.logicals
chained sectors image table extended is has =
    MatchOption-at_some (table.logicals ≡ []) (λ e. AreChained image e table.logicals) extended (ap (find holds_extended) is.in_sector.slots ∙ has.found) is.logicals

-- a disk with a table gives no reason to refuse it
pub no_fault : (sectors : ℕ) (image : List ℕ) (table : Table) (fault : MbrFault) → IsMbrTable sectors image table → HasMbrFault sectors image fault → (fault ≡ Device) ⊎ (fault ≡ Memory)
no_fault sectors image table NoSignature is (inl none) = absurd (omega (arith, is.in_sector.some))
no_fault sectors image table NoSignature is (inr unsigned) = absurd (unsigned is.in_sector.signature)
no_fault sectors image table (Entry number) is has =
    let first = has.2 in
    let bad : IsBadEntry sectors table.slots (number - 1) = subst (λ (s : List Slot). IsBadEntry sectors s (number - 1)) (sym is.in_sector.slots) first.bad in
    absurd (is.in_sector.sound.none_bad (number - 1) (omega (arith, first.counted)) bad)
no_fault sectors image table (Chain at) is has =
    let chain = chained sectors image table has.0 is has.1 in
    absurd (none_bad image has.0 chain.places at chain.chain has.2)
no_fault sectors image table (TooMany at) is has =
    let chain = chained sectors image table has.0 is has.1 in
    absurd (none_too_far image has.0 chain.places at chain.chain has.2)
no_fault sectors image table Device is has = inl refl
no_fault sectors image table Memory is has = inr refl

-- what speaks against sector 0 speaks against the disk
pub sector_fault : (sectors : ℕ) (image bytes : List ℕ) (fault : MbrFault) → bytes ≡ sector image 0 → IsSectorFault sectors bytes fault → HasMbrFault sectors image fault
sector_fault sectors image bytes NoSignature same why = subst (λ (b : List ℕ). IsSectorFault sectors b NoSignature) same why
sector_fault sectors image bytes (Entry number) same why = subst (λ (b : List ℕ). IsSectorFault sectors b (Entry number)) same why
sector_fault sectors image bytes (Chain at) same why = absurd why
sector_fault sectors image bytes (TooMany at) same why = absurd why
sector_fault sectors image bytes Device same why = absurd why
sector_fault sectors image bytes Memory same why = absurd why

has_extended : (sectors : ℕ) (bytes : List ℕ) (table : Table) (extended : Slot) → IsSectorTable sectors bytes table → find holds_extended table.slots ≡ Some extended
    → HasExtended sectors bytes extended
has_extended sectors bytes table extended is found = record {
  some = is.some;
  signature = is.signature;
  sound = subst (AreSound sectors) is.slots is.sound;
  found = ap (find holds_extended) (sym is.slots) ∙ found;
}

-- and so does what speaks against the chain of the extended partition in sector 0
pub logicals_fault : (sectors : ℕ) (image : List ℕ) (table : Table) (fault : MbrFault) → IsSectorTable sectors (sector image 0) table
    → IsLogicalsFault image table.slots fault → HasMbrFault sectors image fault
logicals_fault sectors image table NoSignature is why = absurd why.2
logicals_fault sectors image table (Entry number) is why = absurd why.2
logicals_fault sectors image table (Chain at) is why = (why.0, has_extended sectors (sector image 0) table why.0 is why.1, why.2)
logicals_fault sectors image table (TooMany at) is why = (why.0, has_extended sectors (sector image 0) table why.0 is why.1, why.2)
logicals_fault sectors image table Device is why = tt
logicals_fault sectors image table Memory is why = tt

-- one slot is the first bad one
one_first_bad : (sectors : ℕ) (slots : List Slot) (a b : ℕ) → IsFirstBadSlot sectors slots a → IsFirstBadSlot sectors slots b → a ≡ b
one_first_bad sectors slots a b a-is b-is =
    elim (cases_lt a b) [
      | inl lt ↦ absurd (b-is.none_before (a - 1) (omega (arith, a-is.counted)) a-is.bad)
      | inr ge ↦ elim (cases_lt b a) [
        | inl lt ↦ absurd (a-is.none_before (b - 1) (omega (arith, b-is.counted)) b-is.bad)
        | inr le ↦ omega arith
      ]
    ]

-- a sector that spells a table has the signature and no bad slot
unsigned_only : (sectors : ℕ) (bytes : List ℕ) → 0 < sectors → HasSignature bytes → IsSectorFault sectors bytes NoSignature → ⊥
unsigned_only sectors bytes some signed (inl none) = omega arith
unsigned_only sectors bytes some signed (inr unsigned) = unsigned signed

sound_only : (sectors : ℕ) (bytes : List ℕ) (extended : Slot) (number : ℕ) → HasExtended sectors bytes extended → IsFirstBadSlot sectors (slots_of bytes) number → ⊥
sound_only sectors bytes extended number has first = has.sound.none_bad (number - 1) (omega (arith, first.counted)) first.bad

-- a table has one extended partition
one_extended : (sectors : ℕ) (bytes : List ℕ) (a b : Slot) → HasExtended sectors bytes a → HasExtended sectors bytes b → a ≡ b
one_extended sectors bytes a b a-has b-has =
    let first = a-has.found in
    let second = b-has.found in
    cc

-- one reason stands against a disk
pub one_fault_at_most : (sectors : ℕ) (image : List ℕ) (one other : MbrFault) → HasMbrFault sectors image one → HasMbrFault sectors image other
    → IsOfDisk one → IsOfDisk other → other ≡ one
one_fault_at_most sectors image NoSignature NoSignature a b p q = refl
one_fault_at_most sectors image NoSignature (Entry n) a b p q = absurd (unsigned_only sectors (sector image 0) b.0 b.1 a)
one_fault_at_most sectors image NoSignature (Chain at) a b p q = absurd (unsigned_only sectors (sector image 0) b.1.some b.1.signature a)
one_fault_at_most sectors image NoSignature (TooMany at) a b p q = absurd (unsigned_only sectors (sector image 0) b.1.some b.1.signature a)
one_fault_at_most sectors image (Entry n) NoSignature a b p q = absurd (unsigned_only sectors (sector image 0) a.0 a.1 b)
one_fault_at_most sectors image (Entry n) (Entry m) a b p q = ap Entry (one_first_bad sectors (slots_of (sector image 0)) m n b.2 a.2)
one_fault_at_most sectors image (Entry n) (Chain at) a b p q = absurd (sound_only sectors (sector image 0) b.0 n b.1 a.2)
one_fault_at_most sectors image (Entry n) (TooMany at) a b p q = absurd (sound_only sectors (sector image 0) b.0 n b.1 a.2)
one_fault_at_most sectors image (Chain at) NoSignature a b p q = absurd (unsigned_only sectors (sector image 0) a.1.some a.1.signature b)
one_fault_at_most sectors image (Chain at) (Entry n) a b p q = absurd (sound_only sectors (sector image 0) a.0 n a.1 b.2)
one_fault_at_most sectors image (Chain at) (Chain place) a b p q =
    let same : b.0 ≡ a.0 = one_extended sectors (sector image 0) b.0 a.0 b.1 a.1 in
    ap Chain (one_bad image a.0 place at (subst (λ (e : Slot). ComesToBad image e place) same b.2) a.2)
one_fault_at_most sectors image (Chain at) (TooMany place) a b p q =
    let same : b.0 ≡ a.0 = one_extended sectors (sector image 0) b.0 a.0 b.1 a.1 in
    absurd (not_both image a.0 at place a.2 (subst (λ (e : Slot). ComesTooFar image e place) same b.2))
one_fault_at_most sectors image (TooMany at) NoSignature a b p q = absurd (unsigned_only sectors (sector image 0) a.1.some a.1.signature b)
one_fault_at_most sectors image (TooMany at) (Entry n) a b p q = absurd (sound_only sectors (sector image 0) a.0 n a.1 b.2)
one_fault_at_most sectors image (TooMany at) (Chain place) a b p q =
    let same : b.0 ≡ a.0 = one_extended sectors (sector image 0) b.0 a.0 b.1 a.1 in
    absurd (not_both image a.0 place at (subst (λ (e : Slot). ComesToBad image e place) same b.2) a.2)
one_fault_at_most sectors image (TooMany at) (TooMany place) a b p q =
    let same : b.0 ≡ a.0 = one_extended sectors (sector image 0) b.0 a.0 b.1 a.1 in
    ap TooMany (one_too_far image a.0 place at (subst (λ (e : Slot). ComesTooFar image e place) same b.2) a.2)
one_fault_at_most sectors image Device other a b p q = absurd p
one_fault_at_most sectors image Memory other a b p q = absurd p
one_fault_at_most sectors image one Device a b p q = absurd q
one_fault_at_most sectors image one Memory a b p q = absurd q
