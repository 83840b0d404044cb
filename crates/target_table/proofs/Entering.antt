-- The entries of the target, one by one.
use Rattle.std.proofs.Common.{◌≡◌, ◌≢◌, ℕ, zero, suc, ◌+◌, ◌-◌, ◌<◌, ◌≤◌, ◌==◌, Bool, true, false, cond, List, [], length, slice_index_or, slice_set, replicate, All, Option, Some, None, arith, refl, sym, ◌∙◌, ap, inl, inr, eq-eqb, ne_eqb}
use Rattle.std.specs.List.{list_any}
use Rattle.std.proofs.lemmas.Bool.{cases_eq, cases_lt}
use Rattle.std.proofs.lemmas.List.{same_lists, length-replicate, get_or-replicate, get_or_past, get_or_default, get_or-set_other, length-set}
use Rattle.std.proofs.lemmas.List.FromFn.{length-map-range_with_len, get_or-map-range_with_len}
use Rattle.std.proofs.lemmas.Grind.{get_or-set_at}
use Rattle.layout_plan.specs.declared.part.Placed.{Placed}
use Rattle.layout_plan.specs.Plans.{Plan}
use Rattle.gpt_table.specs.declared.entry.Entry.{Entry}
use Rattle.gpt_table.specs.Gpt.{EntryTable}
use Rattle.target_table.specs.Entries.{entry_or_spare, extra_entry, extra_id, extra_in, fresh_id, has_id, kept_entries, planned_entries, spare_entry, target_entries, target_entry, without_extra}
use Rattle.target_table.specs.Slots.{placed_under}
use Rattle.target_table.proofs.Found.{find_none}

-- ---- the identifier of what is left over

pub fresh_free : (n : ℕ) (entries : List (Option Entry)) (id : List ℕ) → list_any (has_id id) entries ≡ false → fresh_id n entries id ≡ id
unfolding fresh_id
fresh_free zero entries id free = refl
fresh_free (suc n) entries id free = ap (λ (b : Bool). cond b (fresh_id n entries (extra_in id)) id) free

pub fresh_taken : (n : ℕ) (entries : List (Option Entry)) (id : List ℕ) → list_any (has_id id) entries ≡ true → fresh_id (suc n) entries id ≡ fresh_id n entries (extra_in id)
unfolding fresh_id
fresh_taken n entries id taken = ap (λ (b : Bool). cond b (fresh_id n entries (extra_in id)) id) taken

pub fresh_end : (entries : List (Option Entry)) (id : List ℕ) → fresh_id 0 entries id ≡ id
unfolding fresh_id
fresh_end entries id = refl

-- ---- the 128 entries

pub length-target : (id : List ℕ) (entries : List (Option Entry)) (plan : Plan) → length (target_entries id entries plan) ≡ 128
unfolding target_entries
length-target id entries plan = length-map-range_with_len (λ number. target_entry id entries plan number) 1 128

pub target_at : (id : List ℕ) (entries : List (Option Entry)) (plan : Plan) (k : ℕ) (d : Option Entry) → k < 128
    → slice_index_or (target_entries id entries plan) k d ≡ target_entry id entries plan (k + 1)
unfolding target_entries
target_at id entries plan k d h = get_or-map-range_with_len (λ number. target_entry id entries plan number) 1 128 k (k + 1) d h (omega arith)

-- lists of 128 entries that are equal one by one
pub same_entries : (xs ys : List (Option Entry)) → length xs ≡ 128 → length ys ≡ 128 → ((k : ℕ) → k < 128 → slice_index_or xs k None ≡ slice_index_or ys k None) → xs ≡ ys
same_entries xs ys xs-long ys-long each = same_lists xs ys (xs-long ∙ sym ys-long) (λ k d h.
    get_or_default xs k d None h ∙ each k (omega (arith, xs-long)) ∙ sym (get_or_default ys k d None (omega (arith, xs-long, ys-long))))

made_table : List ℕ → List (Option Entry) → Bool → EntryTable
made_table disk entries from_backup = record { disk = disk; entries = entries; from_backup = from_backup }

same_parts : (d d' : List ℕ) (e e' : List (Option Entry)) (b b' : Bool) → d ≡ d' → e ≡ e' → b ≡ b' → made_table d e b ≡ made_table d' e' b'
same_parts d d' e e' b b' d-is e-is b-is = cc

-- a table with these parts
pub table_is : (table : EntryTable) (disk : List ℕ) (entries : List (Option Entry)) → table.disk ≡ disk → table.entries ≡ entries → table.from_backup ≡ false
    → table ≡ record { disk = disk; entries = entries; from_backup = false }
unfolding made_table
table_is table disk entries disk-is entries-is own = same_parts table.disk disk table.entries entries table.from_backup false disk-is entries-is own

-- no entry of a new table is used
pub none_used : (k : ℕ) → slice_index_or {A = Option Entry} (replicate 128 None) k None ≡ None
none_used k = elim (cases_lt k 128) [
  | inl small ↦ get_or-replicate 128 k None None small
  | inr far ↦ get_or_past (replicate 128 None) k None (omega (arith, length-replicate {A = Option Entry} 128 None))
]

-- where nothing is left over, what is kept is all
pub all_kept : (disk : List ℕ) (entries : List (Option Entry)) (plan : Plan) → plan.extra ≡ None → kept_entries entries plan ≡ planned_entries disk entries plan
all_kept disk entries plan none =
    same_entries (kept_entries entries plan) (planned_entries disk entries plan) (length-target [] entries (without_extra plan)) (length-target (extra_id disk entries plan) entries plan)
    (λ k h.
    target_at [] entries (without_extra plan) k None h
    ∙ ap (λ (o : Option Placed). entry_or_spare entries (placed_under plan (k + 1)) (spare_entry (extra_id disk entries plan) o (k + 1))) (sym none)
    ∙ sym (target_at (extra_id disk entries plan) entries plan k None h))

-- no placed partition has that number
pub none_under : (plan : Plan) (number : ℕ) → All (λ (placed : Placed). placed.number ≢ number) plan.parts → placed_under plan number ≡ None
none_under plan number others = find_none (λ (placed : Placed). placed.number == number) plan.parts (λ k d h. ne_eqb _ _ (others k d h))

-- where something is, its entry stands under its number beside what is kept
module _ (disk : List ℕ) (entries : List (Option Entry)) (plan : Plan) (extra : Placed)
    (is : plan.extra ≡ Some extra)
    (counted : (1 ≤ extra.number) × (extra.number ≤ 128))
    (own : All (λ (placed : Placed). placed.number ≢ extra.number) plan.parts) where
  abbrev id : List ℕ
  id = extra_id disk entries plan

  abbrev made : List (Option Entry)
  made = slice_set (kept_entries entries plan) (extra.number - 1) (Some (extra_entry id extra))

  kept_long : length (kept_entries entries plan) ≡ 128
  kept_long = length-target [] entries (without_extra plan)

  spare_is : (number : ℕ) (b : Bool) → (extra.number == number) ≡ b → spare_entry id plan.extra number ≡ cond b (Some (extra_entry id extra)) None
  spare_is number b test =
      ap (λ (o : Option Placed). spare_entry id o number) is ∙ ap (λ (c : Bool). cond c (Some (extra_entry id extra)) None) test

  at_number : (k : ℕ) → k < 128 → k ≡ extra.number - 1 → slice_index_or made k None ≡ target_entry id entries plan (k + 1)
  at_number k h same =
      let number : extra.number ≡ k + 1 = omega (arith, counted.0) in
      let free : placed_under plan (k + 1) ≡ None = ap (λ (n : ℕ). placed_under plan n) (sym number) ∙ none_under plan extra.number own in
      get_or-set_at (kept_entries entries plan) (extra.number - 1) k (Some (extra_entry id extra)) None same (omega (arith, kept_long, same, h))
      ∙ sym (ap (λ (o : Option Placed). entry_or_spare entries o (spare_entry id plan.extra (k + 1))) free ∙ spare_is (k + 1) true (eq-eqb _ _ number))

  at_other : (k : ℕ) → k < 128 → k ≢ extra.number - 1 → slice_index_or made k None ≡ target_entry id entries plan (k + 1)
  at_other k h other =
      let not_it : (extra.number == k + 1) ≡ false = ne_eqb _ _ (λ e. other (omega (arith, e))) in
      get_or-set_other (kept_entries entries plan) (extra.number - 1) k (Some (extra_entry id extra)) None other
      ∙ target_at [] entries (without_extra plan) k None h
      ∙ ap (λ (o : Option Entry). entry_or_spare entries (placed_under plan (k + 1)) o) (sym (spare_is (k + 1) false not_it))

  pub extra_beside : made ≡ planned_entries disk entries plan
  extra_beside =
      same_entries made (planned_entries disk entries plan) (length-set (kept_entries entries plan) (extra.number - 1) (Some (extra_entry id extra)) ∙ kept_long)
      (length-target id entries plan)
      (λ k h.
      (elim (cases_eq k (extra.number - 1)) [ inl same ↦ at_number k h same | inr other ↦ at_other k h other ])
      ∙ sym (target_at id entries plan k None h))
