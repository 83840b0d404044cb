-- One slot more, as the loops over the four slots read and write them.
use Rattle.std.proofs.Common.{◌≡◌, ℕ, ◌+◌, ◌*◌, ◌<◌, Bool, false, ◌||◌, List, [], ◌∷◌, ◌++◌, length, take, get_or, sym, ap, ◌∙◌, append_assoc, arith}
use Rattle.std.specs.List.{list_any, flat_map}
use Rattle.std.proofs.lemmas.Bool.{false≢true}
use Rattle.std.proofs.lemmas.Grind.{flat_map-append}
use Rattle.std.proofs.lemmas.List.{append-nil, take_all, take_more, get_or_default}
use Rattle.std.proofs.lemmas.List.Folds.{list_any_more}
use Rattle.mbr_table.specs.declared.slot.Slot.{Slot}
use Rattle.mbr_table.specs.Slot.{slot_of, empty_slot, holds_extended, is_bad_slot, IsBadEntry, kept_slot, slot_entry}
use Rattle.mbr_table.specs.Mbr.{mbr_sector_of}
use Rattle.mbr_table.proofs.Entries.{length-entry_of}

-- whether a slot so far holds an extended partition
pub seen_more : (slots : List Slot) (i : ℕ) (d : Slot) (extended here : Bool) → i < length slots
    → extended ≡ list_any holds_extended (take i slots) → here ≡ holds_extended (get_or slots i d)
    → (extended || here) ≡ list_any holds_extended (take (i + 1) slots)
seen_more slots i d extended here lt so_far here-is =
    rw (so_far, here-is) (sym (list_any_more holds_extended slots i d lt))

-- a slot that the test passed is not bad
pub not_bad : (sectors : ℕ) (slots : List Slot) (i : ℕ) (d : Slot) (extended : Bool) → i < length slots
    → extended ≡ list_any holds_extended (take i slots) → is_bad_slot sectors extended (get_or slots i d) ≡ false
    → IsBadEntry sectors slots i → ⊥
not_bad sectors slots i d extended lt so_far passed bad =
    let here : is_bad_slot sectors extended (get_or slots i d) ≡ is_bad_slot sectors extended (get_or slots i empty_slot) =
    ap (is_bad_slot sectors extended) (get_or_default slots i d empty_slot lt) in
    let before : is_bad_slot sectors extended (get_or slots i empty_slot) ≡ is_bad_slot sectors (list_any holds_extended (take i slots)) (get_or slots i empty_slot) =
    ap (λ b. is_bad_slot sectors b (get_or slots i empty_slot)) so_far in
    false≢true (sym passed ∙ here ∙ before ∙ bad)

-- one entry more stands in the sector
pub written_more : (front : List ℕ) (slots : List Slot) (i : ℕ) (d : Slot) (old new bytes : List ℕ) → i < length slots
    → take (446 + 16 * i) old ≡ front ++ flat_map slot_entry (take i slots) → bytes ≡ slot_entry (get_or slots i d)
    → take ((446 + 16 * i) + length bytes) new ≡ take (446 + 16 * i) old ++ bytes
    → take (446 + 16 * (i + 1)) new ≡ front ++ flat_map slot_entry (take (i + 1) slots)
written_more front slots i d old new bytes lt so_far bytes-is put =
    let long : length bytes ≡ 16 = ap length bytes-is ∙ length-entry_of (get_or slots i d) in
    let end : 446 + 16 * (i + 1) ≡ (446 + 16 * i) + length bytes = omega arith in
    let last : flat_map slot_entry (take (i + 1) slots) ≡ flat_map slot_entry (take i slots) ++ slot_entry (get_or slots i d) =
    ap (flat_map slot_entry) (take_more slots i d lt) ∙ flat_map-append slot_entry (take i slots) (get_or slots i d ∷ [])
    ∙ ap (λ (l : List ℕ). flat_map slot_entry (take i slots) ++ l) (append-nil (slot_entry (get_or slots i d))) in
    ap (λ (k : ℕ). take k new) end ∙ put ∙ ap (λ (l : List ℕ). l ++ bytes) so_far ∙ append_assoc front (flat_map slot_entry (take i slots)) bytes
    ∙ ap (λ (l : List ℕ). front ++ (flat_map slot_entry (take i slots) ++ l)) bytes-is ∙ ap (λ (l : List ℕ). front ++ l) (sym last)

-- the entry that was written reads back
pub back_here : (slots : List Slot) (i : ℕ) (d : Slot) (bytes : List ℕ) → i < length slots
    → bytes ≡ slot_entry (get_or slots i d) → slot_of bytes ≡ kept_slot (get_or slots i d)
    → slot_of (slot_entry (get_or slots i empty_slot)) ≡ kept_slot (get_or slots i empty_slot)
back_here slots i d bytes lt bytes-is back =
    let same : get_or slots i empty_slot ≡ get_or slots i d = get_or_default slots i empty_slot d lt in
    ap (λ s. slot_of (slot_entry s)) same ∙ sym (ap slot_of bytes-is) ∙ back ∙ sym (ap kept_slot same)

-- behind the four entries the signature ends the sector
pub written_all : (front : List ℕ) (slots : List Slot) (i : ℕ) (old new : List ℕ) → length slots ≡ 4 → length new ≡ 512 → i ≡ 4
    → take (446 + 16 * i) old ≡ front ++ flat_map slot_entry (take i slots) → take 512 new ≡ take 510 old ++ 0x55 ∷ 0xAA ∷ []
    → new ≡ mbr_sector_of front slots
written_all front slots i old new four long i-is so_far put =
    let all : take i slots ≡ slots = take_all i slots (omega arith) in
    let end : 446 + 16 * i ≡ 510 = omega arith in
    let entries : take 510 old ≡ front ++ flat_map slot_entry slots =
    ap (λ (k : ℕ). take k old) (sym end) ∙ so_far ∙ ap (λ (l : List Slot). front ++ flat_map slot_entry l) all in
    sym (take_all 512 new (omega arith)) ∙ put ∙ ap (λ (l : List ℕ). l ++ 0x55 ∷ 0xAA ∷ []) entries
