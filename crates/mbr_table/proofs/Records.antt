-- A record's sector that was written is read as its slots, and records that were written are a chain.
use Rattle.std.proofs.Common.{◌≡◌, ℕ, zero, suc, ◌+◌, ◌-◌, ◌^◌, ◌<◌, ◌≤◌, inl, inr, Bool, true, cond, nat_eq, Option, None, Some, option_map, List, [], ◌∷◌, ◌++◌, length, take, replicate, map, get_or, slice_get, slice_index, All, MatchOption, add-one, refl, sym, ap, ◌∙◌, subst, append_assoc, arith}
use Rattle.std.specs.List.{cons_option, find}
use Rattle.std.proofs.lemmas.List.{length-replicate, take_all, length-map, get_or-map}
use Rattle.std.proofs.lemmas.List.Elements.{All-head, All-tail, All-get_or, All-from_get_or}
use Rattle.std.proofs.lemmas.Option.{slice_get-get_or, slice_get_past}
use Rattle.std.proofs.lemmas.Bool.{cases_lt}
use Rattle.byteorder.specs.Endian.{little_bytes}
use Rattle.byteorder.specs.Numbers.{little_number-reads_back}
use Rattle.disk_base.specs.Image.{bytes_at, sector}
use Rattle.mbr_table.specs.declared.slot.Slot.{Slot}
use Rattle.mbr_table.specs.declared.slot.Logical.{Logical}
use Rattle.mbr_table.specs.Signature.{HasSignature}
use Rattle.mbr_table.specs.Slot.{slot_of, empty_slot, is_used, holds_extended, kept_slot, slot_entry}
use Rattle.mbr_table.specs.Chain.{own_of, link_of, next_of, own_logical, logical_of, due_at, logicals_at, LiesBehind, IsGoodRecord, IsChain, AreChained, IsLogicalIn}
use Rattle.mbr_table.specs.Record.{link_slot, link_entry_of, ebr_sector_of, own_slot, link_to, AreWritten, HasRecords}
use Rattle.mbr_table.specs.Mbr.{Table, IsSectorTable, IsMbrTable}
use Rattle.mbr_table.proofs.Entries.{length-entry_of, entry_read_back}
use Rattle.mbr_table.proofs.Tables.{Parts, four_parts, found_bounds}

-- the entry for the next record has 16 bytes
pub length-link_entry_of : (next : Option (ℕ × ℕ)) → length (link_entry_of next) ≡ 16
length-link_entry_of None = refl
length-link_entry_of (Some next) = refl

regrouped : (f e l z a b sig : List ℕ) → z ≡ a ++ (b ++ []) → f ++ e ++ l ++ z ++ sig ≡ (f ++ (e ++ (l ++ (a ++ (b ++ []))))) ++ sig
regrouped f e l z a b sig z-is = rw z-is (simp append_assoc)

-- the parts of a record's sector
ebr_parts : (own : Slot) (next : Option (ℕ × ℕ)) → Parts (replicate 446 0) (slot_entry own) (link_entry_of next) (replicate 16 0) (replicate 16 0) (ebr_sector_of own next)
unfolding ebr_sector_of
ebr_parts own next =
    four_parts (replicate 446 0) (slot_entry own) (link_entry_of next) (replicate 16 0) (replicate 16 0) (ebr_sector_of own next)
    (regrouped (replicate 446 0) (slot_entry own) (link_entry_of next) (replicate 32 0) (replicate 16 0) (replicate 16 0) (0x55 ∷ 0xAA ∷ []) refl)
    (length-replicate {A = ℕ} 446 0) (length-entry_of own) (length-link_entry_of next) refl refl

-- it has the signature
pub record_signed : (own : Slot) (next : Option (ℕ × ℕ)) → HasSignature (ebr_sector_of own next)
record_signed own next = (ebr_parts own next).signature

-- and is read as its own slot, where that slot's entry is
pub own_reads_back : (own : Slot) (next : Option (ℕ × ℕ)) → slot_of (slot_entry own) ≡ kept_slot own → own_of (ebr_sector_of own next) ≡ kept_slot own
unfolding own_of
own_reads_back own next back = ap slot_of (ebr_parts own next).first ∙ back

-- the start of the entry for the next record is read as it was written
abbrev pub StartReadsBack : Option (ℕ × ℕ) → Type 0
StartReadsBack None = Unit {0}
StartReadsBack (Some next) = (slot_of (link_entry_of (Some next))).start ≡ next.0

pub start_fits : (next : ℕ × ℕ) → next.0 < 2 ^ 32 → StartReadsBack (Some next)
start_fits next fits = little_number-reads_back 4 next.0 (little_bytes 4 next.1) fits

named : ℕ → Slot → Option ℕ
named base link = cond (nat_eq link.kind 0) None (Some (base + link.start))

next_is_named : (base : ℕ) (bytes : List ℕ) → next_of base bytes ≡ named base (slot_of (bytes_at bytes 462 16))
unfolding next_of link_of named
next_is_named base bytes = refl

named_entry : (base : ℕ) (next : Option (ℕ × ℕ)) → StartReadsBack next → named base (slot_of (link_entry_of next)) ≡ option_map (λ link. base + link.0) next
unfolding named
named_entry base None back = refl
named_entry base (Some next) back = ap (λ (n : ℕ). Some (base + n)) back

-- and as the next record
pub next_reads_back : (base : ℕ) (own : Slot) (next : Option (ℕ × ℕ)) → StartReadsBack next
    → next_of base (ebr_sector_of own next) ≡ option_map (λ link. base + link.0) next
next_reads_back base own next back =
    next_is_named base (ebr_sector_of own next) ∙ ap (λ (e : List ℕ). named base (slot_of e)) (ebr_parts own next).second ∙ named_entry base next back

-- bytes that were put behind what stands before them
put_more : (old new bytes front : List ℕ) (at to : ℕ) → take at old ≡ front → take (at + length bytes) new ≡ take at old ++ bytes → at + length bytes ≡ to
    → take to new ≡ front ++ bytes
put_more old new bytes front at to front-is put to-is =
    ap (λ (k : ℕ). take k new) (sym to-is) ∙ put ∙ ap (λ (l : List ℕ). l ++ bytes) front-is

-- the parts of a record's sector, put one after the other
pub record_written : (own : Slot) (next : Option (ℕ × ℕ)) (o0 o1 o2 o3 o4 o5 e l : List ℕ) → e ≡ slot_entry own → l ≡ link_entry_of next → length o5 ≡ 512
    → take 446 o1 ≡ take 0 o0 ++ replicate 446 0
    → take (446 + length e) o2 ≡ take 446 o1 ++ e → take (462 + length l) o3 ≡ take 462 o2 ++ l
    → take 510 o4 ≡ take 478 o3 ++ replicate 32 0 → take 512 o5 ≡ take 510 o4 ++ 0x55 ∷ 0xAA ∷ []
    → o5 ≡ ebr_sector_of own next
unfolding ebr_sector_of
record_written own next o0 o1 o2 o3 o4 o5 e l e-is l-is long p1 p2 p3 p4 p5 =
    let e-long : length e ≡ 16 = ap length e-is ∙ length-entry_of own in
    let l-long : length l ≡ 16 = ap length l-is ∙ length-link_entry_of next in
    let front : take 446 o1 ≡ replicate 446 0 = p1 in
    let with_own : take 462 o2 ≡ replicate 446 0 ++ e = put_more o1 o2 e (replicate 446 0) 446 462 front p2 (omega arith) in
    let with_link : take 478 o3 ≡ replicate 446 0 ++ e ++ l = put_more o2 o3 l (replicate 446 0 ++ e) 462 478 with_own p3 (omega arith) in
    let with_zeros : take 510 o4 ≡ replicate 446 0 ++ e ++ l ++ replicate 32 0 = p4 ∙ ap (λ (x : List ℕ). x ++ replicate 32 0) with_link in
    let all : take 512 o5 ≡ replicate 446 0 ++ e ++ l ++ replicate 32 0 ++ 0x55 ∷ 0xAA ∷ [] = p5 ∙ ap (λ (x : List ℕ). x ++ 0x55 ∷ 0xAA ∷ []) with_zeros in
    sym (take_all 512 o5 (omega arith)) ∙ all
    ∙ ap (λ (x : List ℕ). replicate 446 0 ++ x ++ l ++ replicate 32 0 ++ 0x55 ∷ 0xAA ∷ []) e-is
    ∙ ap (λ (x : List ℕ). replicate 446 0 ++ slot_entry own ++ x ++ replicate 32 0 ++ 0x55 ∷ 0xAA ∷ []) l-is

pub start_back : (next : Option (ℕ × ℕ)) (bytes : List ℕ) → bytes ≡ link_entry_of next
    → MatchOption next (slot_of bytes ≡ empty_slot) (λ link. slot_of bytes ≡ link_slot link) → StartReadsBack next
start_back None bytes is back = tt
start_back (Some next) bytes is back = ap (λ (b : List ℕ). (slot_of b).start) (sym is) ∙ ap (λ (s : Slot). s.start) back

-- a logical partition in the extended one is read of its record as it was written
record IsReadBack (extended : Slot) (logical : Logical) (bytes : List ℕ) : Type 0 where
  good : IsGoodRecord extended logical.ebr bytes
  logical_is : logical_of logical.ebr bytes ≡ Some logical

logical_back : (logical : Logical) → is_used logical.slot ≡ true → logical.ebr < logical.slot.start → own_logical logical.ebr (own_slot logical) ≡ Some logical
unfolding own_logical
logical_back logical used behind =
    let made : ℕ → Logical = λ n. record { ebr = logical.ebr; slot = record logical.slot { start = n } } in
    let start : logical.ebr + (logical.slot.start - logical.ebr) ≡ logical.slot.start = omega arith in
    ap (λ (u : Bool). cond u (Some (made (logical.ebr + (logical.slot.start - logical.ebr)))) None) used ∙ ap (λ (n : ℕ). Some (made n)) start

read_back : (extended : Slot) (logical : Logical) (next : Option (ℕ × ℕ)) → extended.count < 2 ^ 32 → IsLogicalIn extended logical
    → IsReadBack extended logical (ebr_sector_of (own_slot logical) next)
read_back extended logical next fits inside =
    let own : Slot = own_slot logical in
    let bytes : List ℕ = ebr_sector_of own next in
    let used : is_used own ≡ true = inside.used in
    let start-fits : own.start < 2 ^ 32 = omega (arith, inside.record_inside, inside.behind_record, inside.ends_inside) in
    let count-fits : own.count < 2 ^ 32 = omega (arith, inside.record_inside, inside.behind_record, inside.ends_inside) in
    let own-is : own_of bytes ≡ own =
    own_reads_back own next (entry_read_back own start-fits count-fits) ∙ ap (λ (u : Bool). cond u own empty_slot) used in
    let lies : LiesBehind extended logical.ebr own = record { behind = omega (arith, inside.behind_record); inside = omega (arith, inside.behind_record, inside.ends_inside) } in
    record {
      good = record {
        inside = (inside.record_inside, omega (arith, inside.behind_record, inside.ends_inside));
        signature = record_signed own next;
        own = λ _. subst (λ (s : Slot). LiesBehind extended logical.ebr s) (sym own-is) lies;
      };
      logical_is = ap (own_logical logical.ebr) own-is ∙ logical_back logical inside.used inside.behind_record;
    }

-- the records of logical partitions are their list, where each is read back
listed : (image : List ℕ) (logicals : List Logical) → All (λ (l : Logical). logical_of l.ebr (sector image l.ebr) ≡ Some l) logicals
    → logicals_at image (map (λ (l : Logical). l.ebr) logicals) ≡ logicals
listed image [] each = refl
listed image (l ∷ ls) each =
    let here : logical_of l.ebr (sector image l.ebr) ≡ Some l = All-head (λ (l : Logical). logical_of l.ebr (sector image l.ebr) ≡ Some l) l ls each in
    let rest : logicals_at image (map (λ (l : Logical). l.ebr) ls) ≡ ls = listed image ls (All-tail (λ (l : Logical). logical_of l.ebr (sector image l.ebr) ≡ Some l) l ls each) in
    ap (λ (o : Option Logical). cons_option o (logicals_at image (map (λ (l : Logical). l.ebr) ls))) here ∙ ap (λ (r : List Logical). l ∷ r) rest

zero_logical : Logical
zero_logical = record { ebr = 0; slot = empty_slot }

-- what is known of each record that was written
record IsBack (image : List ℕ) (extended : Slot) (logicals : List Logical) (i : ℕ) (logical : Logical) : Type 0 where
  here : slice_get logicals i ≡ Some logical
  good : IsGoodRecord extended logical.ebr (sector image logical.ebr)
  logical_is : logical_of logical.ebr (sector image logical.ebr) ≡ Some logical
  next : next_of extended.start (sector image logical.ebr) ≡ option_map (λ (l : Logical). l.ebr) (slice_get logicals (suc i))

link_back : (extended : Slot) (logicals : List Logical) (i : ℕ) → extended.count < 2 ^ 32 → All (IsLogicalIn extended) logicals
    → StartReadsBack (option_map (link_to extended.start) (slice_get logicals i))
    × (option_map (λ link. extended.start + link.0) (option_map (link_to extended.start) (slice_get logicals i)) ≡ option_map (λ (l : Logical). l.ebr) (slice_get logicals i))
link_back extended logicals i fits inside =
    elim (cases_lt i (length logicals)) [
      | inl lt ↦
          let l : Logical = get_or logicals i zero_logical in
          let in_it : IsLogicalIn extended l = All-get_or (IsLogicalIn extended) logicals i zero_logical lt inside in
          let same : extended.start + (l.ebr - extended.start) ≡ l.ebr = omega (arith, in_it.record_inside) in
          let below : l.ebr - extended.start < 2 ^ 32 = omega (arith, in_it.record_inside, in_it.behind_record, in_it.ends_inside) in
          rw (slice_get-get_or logicals i zero_logical lt) (start_fits (link_to extended.start l) below, ap Some same)
      | inr past ↦ rw (slice_get_past logicals i past) (tt, refl)
    ]

is_back : (image : List ℕ) (extended : Slot) (logicals : List Logical) (i : ℕ) → extended.count < 2 ^ 32 → AreWritten image extended logicals → i < length logicals
    → IsBack image extended logicals i (get_or logicals i zero_logical)
is_back image extended logicals i fits are lt =
    let l : Logical = get_or logicals i zero_logical in
    let here : slice_get logicals i ≡ Some l = slice_get-get_or logicals i zero_logical lt in
    let next : Option (ℕ × ℕ) = option_map (link_to extended.start) (slice_get logicals (i + 1)) in
    let written : sector image l.ebr ≡ ebr_sector_of (own_slot l) next = are.written i l here in
    let back : IsReadBack extended l (ebr_sector_of (own_slot l) next) =
    read_back extended l next fits (All-get_or (IsLogicalIn extended) logicals i zero_logical lt are.inside) in
    let link = link_back extended logicals (i + 1) fits are.inside in
    record {
      here = here;
      good = rw written back.good;
      logical_is = rw written back.logical_is;
      next =
          ap (next_of extended.start) written ∙ next_reads_back extended.start (own_slot l) next link.0 ∙ link.1
          ∙ ap (λ (k : ℕ). option_map (λ (l : Logical). l.ebr) (slice_get logicals k)) (add-one i);
    }

-- the place of each record
place_at : (logicals : List Logical) (i : ℕ) → i < length logicals → slice_index (map (λ (l : Logical). l.ebr) logicals) i ≡ (get_or logicals i zero_logical).ebr
place_at logicals i lt = get_or-map (λ (l : Logical). l.ebr) logicals i zero_logical 0 lt

-- the place that is due is that of the logical partition
due_back : (image : List ℕ) (extended : Slot) (logicals : List Logical) (i : ℕ) → extended.count < 2 ^ 32 → AreWritten image extended logicals → i ≤ length logicals
    → due_at image extended (map (λ (l : Logical). l.ebr) logicals) i ≡ option_map (λ (l : Logical). l.ebr) (slice_get logicals i)
due_back image extended logicals zero fits are le = sym are.first
due_back image extended logicals (suc i) fits are le =
    ap (λ (p : ℕ). next_of extended.start (sector image p)) (place_at logicals i (omega arith)) ∙ (is_back image extended logicals i fits are (omega arith)).next

pub chain_written : (image : List ℕ) (extended : Slot) (logicals : List Logical) → extended.count < 2 ^ 32 → AreWritten image extended logicals
    → IsChain image extended (map (λ (l : Logical). l.ebr) logicals)
chain_written image extended logicals fits are =
    let places : List ℕ = map (λ (l : Logical). l.ebr) logicals in
    let long : length places ≡ length logicals = length-map logicals (λ (l : Logical). l.ebr) in
    record {
      begins = record {
        following = λ i lt.
            let here : slice_get logicals i ≡ Some (get_or logicals i zero_logical) = slice_get-get_or logicals i zero_logical (omega arith) in
            due_back image extended logicals i fits are (omega arith) ∙ ap (option_map (λ (l : Logical). l.ebr)) here
            ∙ ap Some (sym (place_at logicals i (omega arith)));
        distinct = λ i j d before lt same.
            let at-i : get_or places i d ≡ (get_or logicals i zero_logical).ebr = get_or-map (λ (l : Logical). l.ebr) logicals i zero_logical d (omega arith) in
            let at-j : get_or places j d ≡ (get_or logicals j zero_logical).ebr = get_or-map (λ (l : Logical). l.ebr) logicals j zero_logical d (omega arith) in
            are.distinct i j zero_logical before (omega arith) (sym at-i ∙ same ∙ at-j);
        few = omega (arith, are.few);
        sound = λ i lt.
            let P : ℕ → Type 0 = λ p. IsGoodRecord extended p (sector image p) in
            subst P (sym (place_at logicals i (omega arith))) (is_back image extended logicals i fits are (omega arith)).good;
      };
      ends = due_back image extended logicals (length places) fits are (omega arith)
          ∙ ap (option_map (λ (l : Logical). l.ebr)) (slice_get_past logicals (length places) (omega arith));
    }

pub logicals_written : (image : List ℕ) (extended : Slot) (logicals : List Logical) → extended.count < 2 ^ 32 → AreWritten image extended logicals
    → logicals_at image (map (λ (l : Logical). l.ebr) logicals) ≡ logicals
logicals_written image extended logicals fits are =
    listed image logicals (All-from_get_or (λ (l : Logical). logical_of l.ebr (sector image l.ebr) ≡ Some l) logicals zero_logical
    (λ i lt. (is_back image extended logicals i fits are lt).logical_is))

pub table_written_back : (sectors : ℕ) (image : List ℕ) (table : Table) → sectors ≤ 2 ^ 31 → IsSectorTable sectors (sector image 0) table
    → HasRecords image table → IsMbrTable sectors image table
table_written_back sectors image table few is records = record {
  in_sector = is;
  logicals =
      elim (find holds_extended table.slots) as (λ o. (find holds_extended table.slots ≡ o)
      → MatchOption o (table.logicals ≡ []) (λ extended. AreWritten image extended table.logicals)
      → MatchOption o (table.logicals ≡ []) (λ extended. AreChained image extended table.logicals)) [
        | None ↦ λ e none. none
        | Some extended ↦ λ e are.
            let bounds = found_bounds sectors table.slots extended e is.sound in
            let fits : extended.count < 2 ^ 32 = omega (arith, bounds.1) in
            record {
              places = map (λ (l : Logical). l.ebr) table.logicals;
              chain = chain_written image extended table.logicals fits are;
              logicals_are = sym (logicals_written image extended table.logicals fits are);
            }
      ] refl records;
}
