-- An entry that was written is read as its slot.
use Rattle.std.proofs.Common.{◌≡◌, ℕ, ◌^◌, ◌<◌, ◌≤◌, Bool, true, false, cond, ◌&&◌, ◌||◌, nat_eq, nat_lt, List, [], ◌∷◌, ◌++◌, length, replicate, map, refl, ap, ◌∙◌, arith, eq-eqb, inl, inr}
use Rattle.std.specs.List.{list_any}
use Rattle.std.proofs.lemmas.Bool.{cases_lt, lt-ltb}
use Rattle.std.proofs.Math.Bool.{or-true}
use Rattle.byteorder.specs.Endian.{little_number, little_bytes}
use Rattle.byteorder.specs.Numbers.{little_number-reads_back}
use Rattle.mbr_table.specs.declared.slot.Slot.{Slot}
use Rattle.mbr_table.specs.Slot.{slot_of, empty_slot, is_used, is_extended, holds_extended, slot_end, is_bad_slot, kept_slot, slot_entry}

-- an entry has 16 bytes
pub length-entry_of : (slot : Slot) → length (slot_entry slot) ≡ 16
length-entry_of slot =
    elim (is_used slot) as (λ b. length (cond b (slot.status ∷ 254 ∷ 255 ∷ 255 ∷ slot.kind ∷ 254 ∷ 255 ∷ 255 ∷ [] ++ little_bytes 4 slot.start ++ little_bytes 4 slot.count) (replicate 16 0)) ≡ 16) [
      | true ↦ refl
      | false ↦ refl
    ]

-- keeping a slot changes neither whether it holds an extended partition nor whether it is bad
pub kept-holds_extended : (slot : Slot) → holds_extended (kept_slot slot) ≡ holds_extended slot
kept-holds_extended slot =
    elim (is_used slot) as (λ b. (is_used slot ≡ b) → holds_extended (cond b slot empty_slot) ≡ holds_extended slot) [
      | true ↦ λ e. refl
      | false ↦ λ e. rw e refl
    ] refl

pub kept-is_bad : (sectors : ℕ) (extended : Bool) (slot : Slot) → is_bad_slot sectors extended (kept_slot slot) ≡ is_bad_slot sectors extended slot
kept-is_bad sectors extended slot =
    elim (is_used slot) as (λ b. (is_used slot ≡ b) → is_bad_slot sectors extended (cond b slot empty_slot) ≡ is_bad_slot sectors extended slot) [
      | true ↦ λ e. refl
      | false ↦ λ e. rw e refl
    ] refl

pub any-kept : (slots : List Slot) → list_any holds_extended (map kept_slot slots) ≡ list_any holds_extended slots
any-kept [] = refl
any-kept (slot ∷ slots) = rw (kept-holds_extended slot, any-kept slots) refl

-- the entry of a slot whose numbers have 32 bits is read as it was written
pub entry_read_back : (slot : Slot) → slot.start < 2 ^ 32 → slot.count < 2 ^ 32 → slot_of (slot_entry slot) ≡ kept_slot slot
entry_read_back slot start-fits count-fits =
    let made : ℕ → ℕ → Slot = λ a b. record { status = slot.status; kind = slot.kind; start = a; count = b } in
    let a = little_number-reads_back 4 slot.start (little_bytes 4 slot.count) start-fits in
    let b = little_number-reads_back 4 slot.count [] count-fits in
    elim (is_used slot) as (λ u. slot_of (cond u (slot.status ∷ 254 ∷ 255 ∷ 255 ∷ slot.kind ∷ 254 ∷ 255 ∷ 255 ∷ [] ++ little_bytes 4 slot.start ++ little_bytes 4 slot.count) (replicate 16 0)) ≡ cond u slot empty_slot) [
      | true ↦ ap (λ (k : ℕ). made k (little_number 4 (little_bytes 4 slot.count))) a ∙ ap (made slot.start) b
      | false ↦ refl
    ]

-- where a used slot is not bad
pub good_bounds : (sectors : ℕ) (extended : Bool) (slot : Slot) → is_used slot ≡ true → (is_bad_slot sectors extended slot ≡ true → ⊥)
    → (1 ≤ slot.start) × (slot_end slot ≤ sectors)
good_bounds sectors extended slot used good =
    let rest : Bool = is_extended slot && extended in
    let bad : is_bad_slot sectors extended slot ≡ (true && (nat_eq slot.start 0 || nat_lt sectors (slot_end slot) || rest)) = ap (λ u. u && (nat_eq slot.start 0 || nat_lt sectors (slot_end slot) || rest)) used in (
      elim (cases_lt 0 slot.start) [
        | inl lt ↦ omega arith
        | inr le ↦ let zero-is : slot.start ≡ 0 = omega arith in absurd (good (bad ∙ ap (λ t. t || nat_lt sectors (slot_end slot) || rest) (eq-eqb slot.start 0 zero-is)))
      ],
      elim (cases_lt sectors (slot_end slot)) [
        | inl lt ↦ absurd (good (bad ∙ ap (λ t. (nat_eq slot.start 0 || t) || rest) (lt-ltb sectors (slot_end slot) lt) ∙ ap (λ t. t || rest) (or-true (nat_eq slot.start 0))))
        | inr le ↦ le
      ],
    )
