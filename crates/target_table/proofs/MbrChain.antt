-- The chain of the target: each of its logical partitions lies with its record in the extended one, beside all else.
use Rattle.std.proofs.Common.{◌≡◌, ◌≢◌, ℕ, ◌+◌, ◌-◌, ◌/◌, ◌%◌, ◌<◌, ◌≤◌, ◌==◌, ◌&&◌, ◌⊎◌, not, if◌then◌else◌, Bool, true, false, List, [], ◌∷◌, ◌++◌, length, map, replicate, filter, slice_index_or, refl, sym, ◌∙◌, ap, subst, inl, inr, arith, All, AllPairs, Option}
use Rattle.std.proofs.lemmas.Bool.{cases_eq, ne_eqb}
use Rattle.std.proofs.lemmas.List.{get_or_default, get_or-map, length-append, length-map, length-replicate}
use Rattle.std.proofs.lemmas.Option.{slice_get-get_or}
use Rattle.guest_view.specs.declared.guest.GuestPart.{GuestPart}
use Rattle.guest_view.specs.Contents.{planned_part}
use Rattle.layout_plan.specs.declared.part.Fate.{Fate}
use Rattle.layout_plan.specs.declared.part.Fate.TheVariants.{Kept, Resized, Ignored, Extended as Outer}
use Rattle.layout_plan.specs.declared.part.Kind.TheVariants.{Mbr}
use Rattle.layout_plan.specs.declared.part.Placed.{Placed}
use Rattle.layout_plan.specs.declared.part.Role.TheVariants.{Slot as InSlot, Extended, Logical as InChain}
use Rattle.layout_plan.specs.declared.wish.Layout.{Layout}
use Rattle.layout_plan.specs.declared.wish.Wish.{Wish}
use Rattle.layout_plan.specs.Plans.{Apart, Plan, first_of, role_by, role_of}
use Rattle.layout_plan.specs.Roles.{is_extended_role}
use Rattle.mbr_table.specs.declared.slot.Logical.{Logical}
use Rattle.mbr_table.specs.declared.slot.Slot.{Slot}
use Rattle.mbr_table.specs.Chain.{IsLogicalIn}
use Rattle.mbr_table.specs.Mbr.{Table}
use Rattle.mbr_table.specs.Record.{ebr_sector_of, link_after, link_entry_of, own_slot}
use Rattle.mbr_table.specs.Slot.{is_used, slot_entry}
use Rattle.mbr_table.proofs.Entries.{length-entry_of}
use Rattle.mbr_table.proofs.Records.{length-link_entry_of}
use Rattle.target_work.specs.declared.sector_write.SectorWrite.{SectorWrite}
use Rattle.target_work.specs.Works.{WritesLieApart, write_end}
use Rattle.target_table.specs.Planned.{IsBesidePlan, KeepsOff, KeepsOffBy}
use Rattle.target_table.specs.Slots.{AreRecordWrites, chain_base, has_record, no_logical, placed_logical, placed_slot, source_logical, start_of_slot, target_logicals, target_slots}
use Rattle.target_table.specs.inside.Sources.{IsBehindBase}
use Rattle.target_table.proofs.Counts.{was_at}
use Rattle.target_table.proofs.MbrPlans.{IsInChain, IsMbrPlan, chain_numbers, of_chain, used_in_chain}
use Rattle.target_table.proofs.MbrSlots.{outer_found}
use Rattle.target_table.proofs.Outer.{HasRole, has_outer, lie_apart, lies_around, nowhere}

-- a record has 512 bytes
pub length-ebr_sector_of : (own : Slot) (next : Option (ℕ × ℕ)) → length (ebr_sector_of own next) ≡ 512
unfolding ebr_sector_of
length-ebr_sector_of own next =
    let first = length-append (replicate 446 0 ++ slot_entry own ++ link_entry_of next ++ replicate 32 0) (0x55 ∷ 0xAA ∷ []) in
    let second = length-append (replicate 446 0 ++ slot_entry own ++ link_entry_of next) (replicate 32 0) in
    let third = length-append (replicate 446 0 ++ slot_entry own) (link_entry_of next) in
    let fourth = length-append (replicate 446 0) (slot_entry own) in
    omega (arith, first, second, third, fourth, length-replicate {A = ℕ} 446 0, length-replicate {A = ℕ} 32 0, length-entry_of own, length-link_entry_of next)

-- the first sector that a placed partition takes
first_with_record : (placed : Placed) → placed.ebr ≢ 0 → first_of placed ≡ placed.ebr
first_with_record placed some = ap (λ b. if b then placed.start else placed.ebr) (ne_eqb placed.ebr 0 some)

first_before : (placed : Placed) → placed.ebr < placed.start → first_of placed ≤ placed.start
first_before placed before = elim (placed.ebr == 0) as (λ b. (if b then placed.start else placed.ebr) ≤ placed.start) [ true ↦ omega arith | false ↦ omega (arith, before) ]

plain_role : (b : Bool) → is_extended_role (if b then InSlot else InChain) ≡ false
plain_role true = refl
plain_role false = refl

keeps_by : (fate : Fate) (b : Bool) (write : SectorWrite) (placed : Placed)
    → (is_extended_role (role_by fate b) ≡ false → (write_end write ≤ placed.start) ⊎ (placed.start + placed.count ≤ write.at)) → KeepsOffBy fate write placed
keeps_by Outer b write placed f = tt
keeps_by Kept b write placed f = f (plain_role b)
keeps_by Resized b write placed f = f (plain_role b)
keeps_by Ignored b write placed f = f (plain_role b)

-- a write of one sector ends behind it
one_sector : (write : SectorWrite) → length write.bytes ≡ 512 → write_end write ≡ write.at + 1
one_sector write long = ap (λ n. write.at + n / 512) long

module _ (source_sectors sectors : ℕ) (table : Table) (parts : List GuestPart) (wishes : List Wish) (layout : Layout) (plan : Plan)
    (is : IsMbrPlan source_sectors sectors table parts wishes layout plan) where
  abbrev placed_at : ℕ → Placed
  placed_at k = slice_index_or plan.parts k nowhere

  abbrev pub with_record : List Placed
  with_record = filter has_record plan.parts

  abbrev pub chain : List Logical
  chain = target_logicals table.logicals plan

  abbrev pub base : ℕ
  base = chain_base (target_slots table.slots plan)

  -- a logical partition of the target is that of a placed partition
  pub record IsLink (i : ℕ) : Type 0 where
    pub place : ℕ
    pub within : place < length plan.parts
    pub same : (d : Logical) → slice_index_or chain i d ≡ placed_logical table.logicals (placed_at place)
    pub of_it : IsInChain table.logicals (placed_at place)
    pub number : (placed_at place).number ≡ 5 + i

  pub chain_long : length chain ≡ length with_record
  chain_long = length-map with_record (placed_logical table.logicals)

  pub link_at : (i : ℕ) → i < length chain → IsLink i
  link_at i h =
      let in_it : i < length with_record = omega (arith, chain_long) in
      let was = was_at has_record plan.parts i in_it in
      let number = chain_numbers source_sectors sectors table parts wishes layout plan is was.place nowhere was.within (was.passes nowhere) in
      record {
        place = was.place;
        within = was.within;
        same = λ d. get_or-map (placed_logical table.logicals) with_record i nowhere d in_it ∙ ap (placed_logical table.logicals) (was.same nowhere);
        of_it = of_chain source_sectors sectors table parts wishes layout plan is was.place nowhere was.within (was.passes nowhere);
        number = omega (arith, number, was.count);
      }

  pub few_links : length chain ≤ 60
  few_links =
      elim (cases_eq (length chain) 0) [
        | inl none ↦ omega arith
        | inr some ↦ let last = link_at (length chain - 1) (omega arith) in omega (arith, last.number, last.of_it.high)
      ]

  -- the extended partition round a logical one
  pub outer_of : (k : ℕ) → k < length plan.parts → IsInChain table.logicals (placed_at k) → HasRole plan.parts Extended
  outer_of k h one = has_outer Mbr (map planned_part parts) is.source wishes layout sectors plan is.known.is_plan is.known.froms k h one.role

  -- a logical partition lies in the extended one
  pub logical_in : (e k : ℕ) → e < length plan.parts → k < length plan.parts → role_of (placed_at e) ≡ Extended → IsInChain table.logicals (placed_at k)
      → IsLogicalIn (placed_slot table.slots (placed_at e)) (placed_logical table.logicals (placed_at k))
  logical_in e k in_e in_k outer one =
      let q = placed_at k in
      let around = lies_around plan.parts is.known.apart e k nowhere in_e in_k outer one.role in
      let inside = is.known.inside k nowhere in_k in
      let source = source_logical table.logicals q in
      let place : q.from - 5 ≡ one.place = omega (arith, one.from) in
      let used : (not (source.slot.kind == 0) && not (source.slot.count == 0)) ≡ true =
      ap (λ n. is_used (slice_index_or table.logicals n no_logical).slot) place ∙ used_in_chain table.slots table.logicals is.within one.place one.within in
      let kind : not (source.slot.kind == 0) ≡ true = elim (not (source.slot.kind == 0)) as (λ b. (b && not (source.slot.count == 0)) ≡ true → b ≡ true) [ true ↦ λ _. refl | false ↦ λ e. e ] used in
      let some = inside.some in
      let count : (q.count == 0) ≡ false = ne_eqb q.count 0 (omega arith) in
      record {
        used = ap (λ b. b && not (q.count == 0)) kind ∙ ap not count;
        record_inside = omega (arith, around.from, first_with_record q one.some_record);
        behind_record = inside.record_before;
        ends_inside = around.to;
      }

  pub base_is : (e : ℕ) → e < length plan.parts → role_of (placed_at e) ≡ Extended → base ≡ (placed_at e).start
  base_is e in_e outer = ap start_of_slot (outer_found source_sectors sectors table parts wishes layout plan is e in_e outer)

  pub behind_base : All (IsBehindBase base) chain
  behind_base i d h =
      let link = link_at i h in
      let outer = outer_of link.place link.within link.of_it in
      let lies = logical_in outer.place link.place outer.within link.within (outer.role_is nowhere) link.of_it in
      let starts = base_is outer.place outer.within (outer.role_is nowhere) in
      let inside = is.known.inside link.place nowhere link.within in
      let Behind : Logical → Type 0 = λ logical. IsBehindBase base logical in
      subst Behind (sym (link.same d)) (record {
        record_behind = omega (arith, lies.record_inside, starts);
        record_before = lies.behind_record;
        few = omega (arith, inside.before_limit, is.known.limit, is.known.is_plan.due.room.not_too_many);
      })

  -- two logical partitions and their records lie apart
  pub links_apart : (i j : ℕ) → i < j → (one : IsLink i) → (other : IsLink j) → Apart (placed_at one.place) (placed_at other.place)
  links_apart i j before one other =
      let differ : one.place ≢ other.place = λ same. let number = ap (λ n. (placed_at n).number) same in omega (arith, number, one.number, other.number, before) in
      lie_apart plan.parts is.known.apart one.place other.place nowhere one.within other.within differ (ap is_extended_role one.of_it.role) (ap is_extended_role other.of_it.role)

  -- the record of one ends before that of another starts, or the other way round
  pub records_apart : (i j : ℕ) → i < j → (one : IsLink i) → (other : IsLink j)
      → ((placed_at one.place).ebr < (placed_at other.place).ebr) ⊎ ((placed_at other.place).ebr < (placed_at one.place).ebr)
  records_apart i j before one other =
      let p = placed_at one.place in
      let q = placed_at other.place in
      let in_p = (is.known.inside one.place nowhere one.within).record_before in
      let in_q = (is.known.inside other.place nowhere other.within).record_before in
      elim (links_apart i j before one other) [
        | inl ahead ↦ inl (omega (arith, ahead, in_p, first_with_record q other.of_it.some_record))
        | inr behind ↦ inr (omega (arith, behind, in_q, first_with_record p one.of_it.some_record))
      ]

  -- a record lies beside each placed partition but the extended one
  beside_placed : (i : ℕ) → (link : IsLink i) → (write : SectorWrite) → write.at ≡ (placed_at link.place).ebr → length write.bytes ≡ 512 → All (KeepsOff write) plan.parts
  beside_placed i link write at long j d h =
      let p = placed_at link.place in
      let q = slice_index_or plan.parts j d in
      let ends = one_sector write long in
      let in_p = (is.known.inside link.place nowhere link.within).record_before in
      let in_q = (is.known.inside j d h).record_before in
      let same : placed_at j ≡ q = get_or_default plan.parts j nowhere d h in
      keeps_by q.fate (q.ebr == 0) write q (λ plain.
      elim (cases_eq link.place j) [
        | inl here ↦
            let is_q : p ≡ q = ap placed_at here ∙ same in
            let start : p.start ≡ q.start = ap (λ (one : Placed). one.start) is_q in
            inl (omega (arith, ends, at, in_p, start))
        | inr other ↦
            let Plain : Placed → Type 0 = λ one. is_extended_role (role_of one) ≡ false in
            let apart = lie_apart plan.parts is.known.apart link.place j nowhere link.within h other (ap is_extended_role link.of_it.role) (subst Plain (sym same) plain) in
            let From : Placed → Type 0 = λ one. Apart p one in
            elim (subst From same apart) [
              | inl ahead ↦ inl (omega (arith, ends, at, in_p, ahead, first_before q in_q))
              | inr behind ↦ inr (omega (arith, at, behind, first_with_record p link.of_it.some_record))
            ]
      ])

  beside_link : (i : ℕ) → (link : IsLink i) → (write : SectorWrite) → write.at ≡ (placed_at link.place).ebr → length write.bytes ≡ 512 → IsBesidePlan Mbr plan sectors write
  beside_link i link write at long =
      let p = placed_at link.place in
      let ends = one_sector write long in
      let inside = is.known.inside link.place nowhere link.within in
      let some = link.of_it.some_record in
      let outer = outer_of link.place link.within link.of_it in
      let lies = logical_in outer.place link.place outer.within link.within (outer.role_is nowhere) link.of_it in
      record {
        place = record {
          whole = ap (λ n. n % 512) long;
          behind_first = omega (arith, at);
          inside = omega (arith, ends, at, inside.record_before, inside.before_limit, is.known.limit);
        };
        boot = inr (omega (arith, at), λ start none all. omega (arith, all outer.place nowhere outer.within, lies.record_inside, at));
        parts = beside_placed i link write at long;
      }

  module _ (writes : List SectorWrite) (are : AreRecordWrites base chain writes) where
    -- the write of a record
    pub record IsRecord (i : ℕ) (write : SectorWrite) : Type 0 where
      pub link : IsLink i
      pub at : write.at ≡ (placed_at link.place).ebr
      pub long : length write.bytes ≡ 512

    pub record_at : (i : ℕ) (d : SectorWrite) → i < length writes → IsRecord i (slice_index_or writes i d)
    record_at i d h =
        let in_chain : i < length chain = omega (arith, are.as_many) in
        let link = link_at i in_chain in
        let logical = slice_index_or chain i no_logical in
        let is_write = are.each i logical d (slice_get-get_or chain i no_logical in_chain) in
        record {
          link = link;
          at = ap (λ (write : SectorWrite). write.at) is_write ∙ ap (λ (one : Logical). one.ebr) (link.same no_logical);
          long = ap (λ (write : SectorWrite). length write.bytes) is_write ∙ length-ebr_sector_of (own_slot logical) (link_after base chain i);
        }

    pub all_beside : All (IsBesidePlan Mbr plan sectors) writes
    all_beside i d h = let one = record_at i d h in beside_link i one.link (slice_index_or writes i d) one.at one.long

    pub all_apart : AllPairs WritesLieApart writes
    all_apart i j d before h =
        let one = record_at i d (omega arith) in
        let other = record_at j d h in
        let one_ends = one_sector (slice_index_or writes i d) one.long in
        let other_ends = one_sector (slice_index_or writes j d) other.long in
        elim (records_apart i j before one.link other.link) [
          | inl ahead ↦ inl (omega (arith, one_ends, one.at, other.at, ahead))
          | inr behind ↦ inr (omega (arith, other_ends, one.at, other.at, behind))
        ]
