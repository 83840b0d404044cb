-- The table that a plan makes of a GPT: each placed partition is there under its number, and its entry may stand there.
use Rattle.std.proofs.Common.{◌≡◌, ◌≢◌, ℕ, ◌+◌, ◌-◌, ◌<◌, ◌≤◌, ◌==◌, Bool, true, false, cond, List, length, slice_index_or, All, IfSome, Option, Some, None, option_map, arith, refl, sym, ◌∙◌, ap, subst, inl, inr}
use Rattle.std.proofs.lemmas.Bool.{cases_lt, eq-eqb, ne_eqb}
use Rattle.std.proofs.lemmas.List.{get_or_past}
use Rattle.uuid.specs.Parts.{is_nil_bytes}
use Rattle.gpt_table.specs.declared.entry.Entry.{Entry}
use Rattle.gpt_table.specs.Gpt.{AreInside, AreWritable, EntryTable, MayBeWritten, entry_at}
use Rattle.guest_view.specs.declared.partition.Partition.{Partition}
use Rattle.guest_view.specs.declared.table.Table.TheVariants.{Gpt}
use Rattle.guest_view.specs.Partitions.{entry_partition}
use Rattle.layout_plan.specs.declared.part.Placed.{Placed}
use Rattle.layout_plan.specs.declared.part.Role.{Role}
use Rattle.layout_plan.specs.declared.part.Role.TheVariants.{Slot}
use Rattle.layout_plan.specs.Plans.{Plan, is_taken, role_of}
use Rattle.target_table.specs.Entries.{entry_in_place, entry_or_spare, extra_entry, extra_id, planned_entries, source_entry, spare_entry, target_entry}
use Rattle.target_table.specs.Planned.{HasPlaced, KeepsNames, placed_partition, unplaced}
use Rattle.target_table.specs.Slots.{placed_under}
use Rattle.target_table.proofs.Entering.{length-target, none_under, target_at}
use Rattle.target_table.proofs.Found.{find_at, found_has, none_found}
use Rattle.target_table.proofs.GptPlans.{HasEntry, IsGptPlace, IsGptPlan}

-- a used entry has that number in a table
numbered : (table : EntryTable) (number : ℕ) → 1 ≤ number → entry_at table number ≡ slice_index_or table.entries (number - 1) None
numbered table number low = ap (λ (b : Bool). cond b None (slice_index_or table.entries (number - 1) None)) (ne_eqb number 0 (λ e. absurd (omega (arith, low, e))))

-- partitions are equal where their fields are
made_partition : ℕ → Role → ℕ → ℕ → ℕ → Partition
made_partition number role start count ebr = record { number = number; role = role; start = start; count = count; ebr = ebr }

same_partition : (n : ℕ) (r r' : Role) (s s' c c' b b' : ℕ) → r ≡ r' → s ≡ s' → c ≡ c' → b ≡ b' → made_partition n r s c b ≡ made_partition n r' s' c' b'
same_partition n r r' s s' c c' b b' r-is s-is c-is b-is = cc

-- an entry from the first to the last sector of a partition names it
names_placed : (sectors : ℕ) (one : Placed) (entry : Entry) → IsGptPlace sectors one → entry.first ≡ one.start → entry.last ≡ one.start + one.count - 1
    → entry_partition one.number (Some entry) ≡ Some (placed_partition one)
unfolding made_partition
names_placed sectors one entry place first-is last-is =
    let some = place.some in
    let count : entry.last + 1 - entry.first ≡ one.count = omega (arith, first-is, last-is, some) in
    ap Some (same_partition one.number Slot (role_of one) entry.first one.start (entry.last + 1 - entry.first) one.count 0 one.ebr (sym place.slot) first-is count (sym place.no_record))

module _ (table : EntryTable) (sectors : ℕ) (plan : Plan) (known : IsGptPlan table.entries sectors plan) where
  abbrev id : List ℕ
  id = extra_id table.disk table.entries plan

  abbrev target : EntryTable
  target = record { disk = table.disk; entries = planned_entries table.disk table.entries plan; from_backup = false }

  -- the entry of a number is the one of the definition
  under : (number : ℕ) → 1 ≤ number → number ≤ 128 → entry_at target number ≡ target_entry id table.entries plan number
  under number low high =
      let same : number - 1 + 1 ≡ number = omega (arith, low) in
      numbered target number low ∙ target_at id table.entries plan (number - 1) None (omega (arith, low, high))
      ∙ ap (λ (n : ℕ). target_entry id table.entries plan n) same

  -- what is placed there is found by its number
  found : (k : ℕ) (d : Placed) → k < length plan.parts → placed_under plan (slice_index_or plan.parts k d).number ≡ Some (slice_index_or plan.parts k d)
  found k d h =
      find_at (λ (one : Placed). one.number == (slice_index_or plan.parts k d).number) plan.parts k d h (eq-eqb _ _ refl)
      (λ j lt. ne_eqb _ _ (known.other_numbers j k d lt h))

  abbrev part : ℕ → Placed → Placed
  part k d = slice_index_or plan.parts k d

  -- the entry of a placed partition
  at_placed : (k : ℕ) (d : Placed) (h : k < length plan.parts) → entry_at target (part k d).number ≡ Some (entry_in_place (part k d) (known.sources k d h).entry)
  at_placed k d h =
      let counted = (known.places k d h).counted in
      under (part k d).number counted.0 counted.1
      ∙ ap (λ (o : Option Placed). entry_or_spare table.entries o (spare_entry id plan.extra (part k d).number)) (found k d h)
      ∙ ap (λ (o : Option Entry). option_map (entry_in_place (part k d)) o) (known.sources k d h).is

  -- that of what takes what is left over
  at_extra : (extra : Option Placed) → plan.extra ≡ extra → IfSome extra (IsGptPlace sectors)
      → IfSome extra (λ (one : Placed). All (λ (placed : Placed). placed.number ≢ one.number) plan.parts)
      → IfSome extra (λ (one : Placed). entry_at target one.number ≡ Some (extra_entry id one))
  at_extra None is place own = tt
  at_extra (Some one) is place own =
      under one.number place.counted.0 place.counted.1
      ∙ ap (λ (o : Option Placed). entry_or_spare table.entries o (spare_entry id plan.extra one.number)) (none_under plan one.number own)
      ∙ ap (λ (o : Option Placed). spare_entry id o one.number) is
      ∙ ap (λ (b : Bool). cond b (Some (extra_entry id one)) None) (eq-eqb one.number one.number refl)

  extra_there : (extra : Option Placed) → IfSome extra (IsGptPlace sectors) → IfSome extra (λ (one : Placed). entry_at target one.number ≡ Some (extra_entry id one))
      → IfSome extra (λ (one : Placed). entry_partition one.number (entry_at target one.number) ≡ Some (placed_partition one))
  extra_there None place at = tt
  extra_there (Some one) place at = ap (entry_partition one.number) at ∙ names_placed sectors one (extra_entry id one) place refl refl

  -- no other number has an entry
  not_spare : (extra : Option Placed) (number : ℕ) → IfSome extra (λ (one : Placed). one.number ≢ number) → spare_entry id extra number ≡ None
  not_spare None number other = refl
  not_spare (Some one) number other = ap (λ (b : Bool). cond b (Some (extra_entry id one)) None) (ne_eqb one.number number other)

  none_there : (number : ℕ) → 1 ≤ number → is_taken plan.parts number ≡ false → IfSome plan.extra (λ (one : Placed). one.number ≢ number) → entry_at target number ≡ None
  none_there number low free other = elim (cases_lt number 129) [
    | inl small ↦
        under number low (omega (arith, small))
        ∙ ap (λ (o : Option Placed). entry_or_spare table.entries o (spare_entry id plan.extra number)) (none_found (λ (one : Placed). one.number == number) plan.parts free)
        ∙ not_spare plan.extra number other
    | inr far ↦ numbered target number low ∙ get_or_past target.entries (number - 1) None (omega (arith, far, length-target id table.entries plan))
  ]

  pub has_placed : HasPlaced (Gpt target) plan
  has_placed = record {
    placed = λ k d h.
        ap (entry_partition (part k d).number) (at_placed k d h)
        ∙ names_placed sectors (part k d) (entry_in_place (part k d) (known.sources k d h).entry) (known.places k d h) refl refl;
    extra = extra_there plan.extra known.extra (at_extra plan.extra refl known.extra known.own_number);
    others = λ number low free other. ap (entry_partition number) (none_there number low free other);
  }

  pub keeps_names : KeepsNames (Gpt table) (Gpt target) plan
  keeps_names k d h =
      let source = known.sources k d h in
      ap (λ (o : Option Entry). option_map unplaced o) (at_placed k d h)
      ∙ sym (ap (λ (o : Option Entry). option_map unplaced o) (numbered table (part k d).from source.from_one ∙ source.is))

  -- what holds of the entries that may be made holds of each
  chosen : (P : Entry → Type 0) (one entry : Entry) (b : Bool) → P one → cond b (Some one) None ≡ Some entry → P entry
  chosen P one entry true holds is = let same : one ≡ entry = cc is in subst P same holds
  chosen P one entry false holds is = absurd (cc is)

  spare_has : (P : Entry → Type 0) (extra : Option Placed) (number : ℕ) (entry : Entry) → IfSome extra (λ (one : Placed). P (extra_entry id one))
      → spare_entry id extra number ≡ Some entry → P entry
  spare_has P None number entry holds is = absurd (cc is)
  spare_has P (Some one) number entry holds is = chosen P (extra_entry id one) entry (one.number == number) holds is

  moved : (P : Entry → Type 0) (placed : Placed) (slot : Option Entry) (source entry : Entry) → slot ≡ Some source → P (entry_in_place placed source)
      → option_map (entry_in_place placed) slot ≡ Some entry → P entry
  moved P placed slot source entry slot-is holds is =
      let told : Some (entry_in_place placed source) ≡ Some entry = sym (ap (λ (o : Option Entry). option_map (entry_in_place placed) o) slot-is) ∙ is in
      let same : entry_in_place placed source ≡ entry = cc told in
      subst P same holds

  -- an entry of the source in its new place, or the one of what takes what is left over
  pub record HasBoth (P : Entry → Type 0) : Type 0 where
    pub of_placed : All (λ (placed : Placed). (source : HasEntry table.entries placed.from) → P (entry_in_place placed source.entry)) plan.parts
    pub of_extra : IfSome plan.extra (λ (one : Placed). P (extra_entry id one))

  by_placed : (P : Entry → Type 0) → HasBoth P → (number : ℕ) (entry : Entry) (o : Option Placed) → placed_under plan number ≡ o
      → entry_or_spare table.entries o (spare_entry id plan.extra number) ≡ Some entry → P entry
  by_placed P both number entry None there is = spare_has P plan.extra number entry both.of_extra is
  by_placed P both number entry (Some placed) there is =
      let source : HasEntry table.entries placed.from =
      found_has (λ (one : Placed). HasEntry table.entries one.from) (λ (one : Placed). one.number == number) plan.parts placed there known.sources in
      let holds = found_has (λ (one : Placed). (s : HasEntry table.entries one.from) → P (entry_in_place one s.entry)) (λ (one : Placed). one.number == number) plan.parts placed there both.of_placed in
      moved P placed (source_entry table.entries placed) source.entry entry source.is (holds source) is

  each_entry : (P : Entry → Type 0) → HasBoth P → (k : ℕ) (entry : Entry) → slice_index_or target.entries k None ≡ Some entry → P entry
  each_entry P both k entry is = elim (cases_lt k 128) [
    | inl small ↦ by_placed P both (k + 1) entry (placed_under plan (k + 1)) refl (sym (target_at id table.entries plan k None small) ∙ is)
    | inr far ↦
        let told : None ≡ Some entry = sym (get_or_past target.entries k None (omega (arith, far, length-target id table.entries plan))) ∙ is in
        absurd (cc told)
  ]

  -- an entry in its place may be written
  may_be_written : (one : Placed) (entry : Entry) → IsGptPlace sectors one → is_nil_bytes entry.kind ≡ false → entry.first ≡ one.start
      → entry.last ≡ one.start + one.count - 1 → MayBeWritten sectors entry
  may_be_written one entry place kind first-is last-is =
      let behind = place.behind_table in
      let some = place.some in
      let before = place.before_limit in
      record {
        kind = kind;
        behind_tables = omega (arith, first-is, behind);
        in_order = omega (arith, first-is, last-is, some);
        before_backup = omega (arith, last-is, some, before);
      }

  extra_written : (extra : Option Placed) → IfSome extra (IsGptPlace sectors) → IfSome extra (λ (one : Placed). MayBeWritten sectors (extra_entry id one))
  extra_written None place = tt
  extra_written (Some one) place = may_be_written one (extra_entry id one) place refl refl refl

  pub are_writable : (size : ℕ) → AreInside size table.entries → AreWritable sectors target.entries
  are_writable size sound = each_entry (MayBeWritten sectors) (record {
    of_placed = λ k d h source.
        may_be_written (part k d) (entry_in_place (part k d) source.entry) (known.places k d h) (sound.inside ((part k d).from - 1) source.entry source.is).kind refl refl;
    of_extra = extra_written plan.extra known.extra;
  })
