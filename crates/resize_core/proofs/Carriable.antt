-- What a job copies can be copied: it lies on both disks, and no sector is written twice.
use Rattle.std.proofs.lemmas.Bool.{cases_order}
use Rattle.std.proofs.lemmas.Bool.Decides.{Decides-eqb, nat_tests}
use Rattle.std.proofs.lemmas.List.{get_or-map, length-map}
use Rattle.std.proofs.lemmas.List.Elements.{All-map, All-append, All-cons}
use Rattle.std.proofs.lemmas.List.Sums.{fold-append}
use Rattle.std.proofs.Common.{◌≡◌, ℕ, ◌+◌, ◌^◌, ◌<◌, ◌≤◌, ◌⊎◌, inl, inr, List, [], ◌∷◌, ◌++◌, length, map, fold, min, arith, refl, sym, ap, subst, Bool, true, false, ◌||◌, if◌then◌else◌, ◌==◌, slice_index_or, All, AllPairs, suc, Option, Some, None}
use Rattle.guest_view.specs.declared.content.Content.TheVariants.{Extended as OuterContent}
use Rattle.guest_view.specs.declared.guest.GuestPart.{GuestPart}
use Rattle.guest_view.specs.Guests.{EndOnDisk, GuestView, kind_of}
use Rattle.guest_view.specs.Contents.{planned_part}
use Rattle.guest_view.proofs.Named.{pairs_append}
use Rattle.layout_plan.specs.declared.part.Fate.{Fate}
use Rattle.layout_plan.specs.declared.part.Fate.TheVariants.{Kept, Resized, Ignored, Extended as Outer}
use Rattle.layout_plan.specs.declared.part.Kind.{Kind}
use Rattle.layout_plan.specs.declared.part.Kind.TheVariants.{Mbr, Gpt}
use Rattle.layout_plan.specs.declared.part.Part.{Part}
use Rattle.layout_plan.specs.declared.part.Placed.{Placed}
use Rattle.layout_plan.specs.declared.part.Role.{Role}
use Rattle.layout_plan.specs.declared.part.Role.TheVariants.{Slot as TheSlot, Extended, Logical}
use Rattle.layout_plan.specs.Plans.{Plan, Apart, KeepApart, KeepApartAs, first_of, role_by, role_of}
use Rattle.layout_plan.specs.Source.{IsSource}
use Rattle.layout_plan.specs.Tables.{floor_of, least_disk}
use Rattle.run_copy.specs.Copies.{IsBetween, WriteApart}
use Rattle.run_copy.specs.declared.transfer.Transfer.{Transfer}
use Rattle.target_table.specs.Planned.{AreTableSectors, IsBesidePlan, KeepsOffBy, parts_to_plan}
use Rattle.target_work.specs.declared.sector_write.SectorWrite.{SectorWrite}
use Rattle.target_work.specs.Works.{IsCarriable, LiesBeside, work_of, write_end}
use Rattle.words.specs.declared.job.ResizeJob.{ResizeJob}
use Rattle.resize_core.specs.Contents.{boot_end, boot_transfer, boot_transfers, content_transfer, content_transfers, is_copied, most_boot, placed_from, transfer_to, transfers_of}
use Rattle.resize_core.specs.inside.Deciding.{AreTransfers, IsPlannedFor}
use Rattle.resize_core.proofs.Gathered.{all_gathered, found_at, pairs_gathered}

lone : {Y : Type 0} (P : Y → Type 0) (y : Y) → P y → All P (y ∷ [])
lone P y holds = All-cons P y [] holds (λ k d h. absurd (omega arith))

-- the least of a number and those of a list
least_below : (most : ℕ) (starts : List ℕ) → fold (λ least start. min least start) most starts ≤ most
least_below most [] = omega arith
least_below most (start ∷ starts) = omega (arith, least_below (min most start) starts)

least_of_all : (most : ℕ) (starts : List ℕ) → All (λ (start : ℕ). fold (λ least start. min least start) most starts ≤ start) starts
least_of_all most [] = λ k d h. absurd (omega arith)
least_of_all most (start ∷ starts) =
    All-cons (λ (one : ℕ). fold (λ least start. min least start) (min most start) starts ≤ one) start starts
    (omega (arith, least_below (min most start) starts)) (least_of_all (min most start) starts)

least_above : (floor most : ℕ) (starts : List ℕ) → floor ≤ most → All (λ (start : ℕ). floor ≤ start) starts → floor ≤ fold (λ least start. min least start) most starts
least_above floor most [] above all = above
least_above floor most (start ∷ starts) above all =
    let here : floor ≤ start = all 0 0 (omega arith) in
    least_above floor (min most start) starts (omega arith) (λ k d h. all (suc k) d (omega arith))

abbrev pub nowhere : Placed
nowhere = record { from = 0; number = 0; ebr = 0; start = 0; count = 0; fate = Kept }

no_part : GuestPart
no_part = record { number = 0; role = TheSlot; start = 0; count = 0; ebr = 0; content = OuterContent }

-- the first sector that a partition takes is its start, or comes before it
first_before : (q : Placed) → q.ebr < q.start → first_of q ≤ q.start
first_before q before = elim (q.ebr == 0) as (λ b. (if b then q.start else q.ebr) ≤ q.start) [ true ↦ omega arith | false ↦ omega (arith, before) ]

-- what is copied is no extended partition
abbrev IsPlain : Role → Type 0
IsPlain TheSlot = Unit {0}
IsPlain Logical = Unit {0}
IsPlain Extended = ⊥

plain_role : (fate : Fate) (no_record : Bool) → is_copied fate ≡ true → IsPlain (role_by fate no_record)
plain_role Kept true is = tt
plain_role Kept false is = tt
plain_role Resized true is = tt
plain_role Resized false is = tt
plain_role Ignored no_record is = absurd (cc is)
plain_role Outer no_record is = absurd (cc is)

apart_by : (one other : Role) (p q : Placed) → IsPlain one → IsPlain other → KeepApartAs one other p q → Apart p q
apart_by TheSlot TheSlot p q is is' apart = apart
apart_by TheSlot Logical p q is is' apart = apart
apart_by Logical TheSlot p q is is' apart = apart
apart_by Logical Logical p q is is' apart = apart
apart_by Extended other p q is is' apart = absurd is
apart_by TheSlot Extended p q is is' apart = absurd is'
apart_by Logical Extended p q is is' apart = absurd is'

apart_copied : (p q : Placed) → is_copied p.fate ≡ true → is_copied q.fate ≡ true → KeepApart p q → Apart p q
apart_copied p q is is' apart = apart_by (role_of p) (role_of q) p q (plain_role p.fate (p.ebr == 0) is) (plain_role q.fate (q.ebr == 0) is') apart

off_copied : (fate : Fate) (write : SectorWrite) (placed : Placed) → is_copied fate ≡ true → KeepsOffBy fate write placed
    → (write_end write ≤ placed.start) ⊎ (placed.start + placed.count ≤ write.at)
off_copied Kept write placed is off = off
off_copied Resized write placed is off = off
off_copied Ignored write placed is off = off
off_copied Outer write placed is off = absurd (cc is)

-- what is copied of a partition
pub record IsGiven (sparse : Bool) (part : GuestPart) (o : Option Placed) (t : Transfer) : Type 0 where
  pub placed : Placed
  pub found : o ≡ Some placed
  pub copied : is_copied placed.fate ≡ true
  pub is : content_transfer sparse part placed ≡ t

given_by : (sparse : Bool) (part : GuestPart) (placed : Placed) (t : Transfer) (b : Bool) → is_copied placed.fate ≡ b
    → (if b then Some (content_transfer sparse part placed) else None) ≡ Some t → IsGiven sparse part (Some placed) t
given_by sparse part placed t true copied is = record { placed = placed; found = refl; copied = copied; is = cc is }
given_by sparse part placed t false copied is = absurd (cc is)

pub given : (sparse : Bool) (part : GuestPart) (o : Option Placed) (t : Transfer) → transfer_to sparse part o ≡ Some t → IsGiven sparse part o t
given sparse part None t is = absurd (cc is)
given sparse part (Some placed) t is = given_by sparse part placed t (is_copied placed.fate) refl is

floor_some : (kind : Kind) → 1 ≤ floor_of kind
floor_some Mbr = omega arith
floor_some Gpt = omega arith

floor_low : (kind : Kind) → floor_of kind ≤ most_boot
floor_low Mbr = omega arith
floor_low Gpt = omega arith

floor_on : (kind : Kind) (sectors : ℕ) → least_disk kind ≤ sectors → floor_of kind ≤ sectors
floor_on Mbr sectors enough = omega (arith, enough)
floor_on Gpt sectors enough = omega (arith, enough)

module _ (job : ResizeJob) (guest : GuestView) (plan : Plan) (sectors : ℕ) (planned : IsPlannedFor job guest sectors plan)
    (few : guest.sectors ≤ 2 ^ 31) (room : floor_of (kind_of guest.table) ≤ guest.sectors)
    (source : IsSource (kind_of guest.table) (parts_to_plan guest)) (ends : EndOnDisk guest.sectors guest.parts) where
  abbrev kind : Kind
  kind = kind_of guest.table

  few_target : sectors ≤ 2 ^ 31
  few_target = planned.is_plan.due.room.not_too_many

  enough : floor_of kind ≤ sectors
  enough = floor_on kind sectors planned.is_plan.due.room.enough

  part_count : length (parts_to_plan guest) ≡ length guest.parts
  part_count = length-map guest.parts planned_part

  part_is : (k : ℕ) (d : GuestPart) → k < length guest.parts → slice_index_or (parts_to_plan guest) k (planned_part d) ≡ planned_part (slice_index_or guest.parts k d)
  part_is k d within = get_or-map planned_part guest.parts k d (planned_part d) within

  -- a content, by the place of what is placed
  pub record IsContentOf (part : GuestPart) (t : Transfer) : Type 0 where
    pub place : ℕ
    pub within : place < length plan.parts
    pub from : (slice_index_or plan.parts place nowhere).from ≡ part.number
    pub copied : is_copied (slice_index_or plan.parts place nowhere).fate ≡ true
    pub is : content_transfer job.sparse part (slice_index_or plan.parts place nowhere) ≡ t

  content_of : (part : GuestPart) (t : Transfer) → transfer_to job.sparse part (placed_from plan part.number) ≡ Some t → IsContentOf part t
  content_of part t is =
      let given = given job.sparse part (placed_from plan part.number) t is in
      let found = found_at (λ (placed : Placed). placed.from == part.number) plan.parts given.placed given.found in
      let at : slice_index_or plan.parts found.place nowhere ≡ given.placed = found.is nowhere in
      let From : Placed → Type 0 = λ placed. placed.from ≡ part.number in
      let Copied : Placed → Type 0 = λ placed. is_copied placed.fate ≡ true in
      let Is : Placed → Type 0 = λ placed. content_transfer job.sparse part placed ≡ t in
      record {
        place = found.place;
        within = found.within;
        from = subst From (sym at) ((Decides-eqb given.placed.from part.number).0 found.passes);
        copied = subst Copied (sym at) given.copied;
        is = subst Is (sym at) given.is;
      }

  content_between : (part : GuestPart) (t : Transfer) → part.start + part.count ≤ guest.sectors → IsContentOf part t → IsBetween guest.sectors sectors t
  content_between part t ends_here of =
      let inside = planned.inside of.place nowhere of.within in
      rw (sym of.is) (record {
        few_source = few;
        few_target = few_target;
        source = omega (arith, ends_here);
        target = omega (arith, inside.before_limit, planned.limit);
      })

  pub contents_between : All (IsBetween guest.sectors sectors) (content_transfers job.sparse plan guest.parts)
  contents_between = all_gathered (IsBetween guest.sectors sectors) (λ (part : GuestPart). transfer_to job.sparse part (placed_from plan part.number)) guest.parts
      (λ k d within t is. content_between (slice_index_or guest.parts k d) t (ends k d within) (content_of (slice_index_or guest.parts k d) t is))

  content_behind : (part : GuestPart) (t : Transfer) → IsContentOf part t → 1 ≤ t.to
  content_behind part t of =
      let inside = planned.inside of.place nowhere of.within in
      rw (sym of.is) (omega (arith, inside.record_before))

  contents_behind : All (λ (t : Transfer). 1 ≤ t.to) (content_transfers job.sparse plan guest.parts)
  contents_behind = all_gathered (λ (t : Transfer). 1 ≤ t.to) (λ (part : GuestPart). transfer_to job.sparse part (placed_from plan part.number)) guest.parts
      (λ k d within t is. content_behind (slice_index_or guest.parts k d) t (content_of (slice_index_or guest.parts k d) t is))

  write_apart : (a b : GuestPart) (p q : Placed) → p.ebr < p.start → q.ebr < q.start → Apart p q → WriteApart (content_transfer job.sparse a p) (content_transfer job.sparse b q)
  write_apart a b p q before other_before apart = elim apart [
    | inl ahead ↦ inl (omega (arith, ahead, first_before q other_before))
    | inr behind ↦ inr (omega (arith, behind, first_before p before))
  ]

  -- what is placed of an earlier partition is placed earlier
  in_order : (a b : ℕ) → a < length plan.parts → b < length plan.parts → (slice_index_or plan.parts a nowhere).from < (slice_index_or plan.parts b nowhere).from → a < b
  in_order a b within within' less = elim (cases_order a b) [
    | inl same ↦ let no : (slice_index_or plan.parts a nowhere).from ≡ (slice_index_or plan.parts b nowhere).from = ap (λ i. (slice_index_or plan.parts i nowhere).from) same in absurd (omega (arith, no, less))
    | inr apart ↦ elim apart [
      | inl before ↦ before
      | inr behind ↦ absurd (omega (arith, planned.froms.by_number b a nowhere behind within, less))
    ]
  ]

  contents_apart_at : (a b : GuestPart) (s t : Transfer) → a.number < b.number → IsContentOf a s → IsContentOf b t → WriteApart s t
  contents_apart_at a b s t less one other =
      let p : Placed = slice_index_or plan.parts one.place nowhere in
      let q : Placed = slice_index_or plan.parts other.place nowhere in
      let before : one.place < other.place = in_order one.place other.place one.within other.within (omega (arith, less, one.from, other.from)) in
      let apart : Apart p q = apart_copied p q one.copied other.copied (planned.apart one.place other.place nowhere before other.within) in
      let lie = write_apart a b p q (planned.inside one.place nowhere one.within).record_before (planned.inside other.place nowhere other.within).record_before apart in
      let First : Transfer → Type 0 = λ s'. WriteApart s' (content_transfer job.sparse b q) in
      let Second : Transfer → Type 0 = λ t'. WriteApart s t' in
      subst Second other.is (subst First one.is lie)

  numbers_rise : (i j : ℕ) (d : GuestPart) → i < j → j < length guest.parts → (slice_index_or guest.parts i d).number < (slice_index_or guest.parts j d).number
  numbers_rise i j d low high =
      let rise = source.by_number i j (planned_part d) low (omega (arith, part_count, high)) in
      let one : (slice_index_or (parts_to_plan guest) i (planned_part d)).number ≡ (slice_index_or guest.parts i d).number = ap (λ (part : Part). part.number) (part_is i d (omega arith)) in
      let other : (slice_index_or (parts_to_plan guest) j (planned_part d)).number ≡ (slice_index_or guest.parts j d).number = ap (λ (part : Part). part.number) (part_is j d high) in
      omega (arith, rise, one, other)

  contents_apart : AllPairs WriteApart (content_transfers job.sparse plan guest.parts)
  contents_apart = pairs_gathered WriteApart (λ (part : GuestPart). transfer_to job.sparse part (placed_from plan part.number)) guest.parts
      (λ i j d low high s t is is'.
      contents_apart_at (slice_index_or guest.parts i d) (slice_index_or guest.parts j d) s t (numbers_rise i j d low high)
      (content_of (slice_index_or guest.parts i d) s is) (content_of (slice_index_or guest.parts j d) t is'))

  content_beside : (write : SectorWrite) → IsBesidePlan kind plan sectors write → (part : GuestPart) (t : Transfer) → IsContentOf part t → LiesBeside write t
  content_beside write beside part t of =
      let p : Placed = slice_index_or plan.parts of.place nowhere in
      let off = off_copied p.fate write p of.copied (beside.parts of.place nowhere of.within) in
      let Is : Transfer → Type 0 = λ t'. LiesBeside write t' in
      subst Is of.is (elim off [ inl before ↦ inl before | inr behind ↦ inr (omega (arith, behind)) ])

  contents_beside : (write : SectorWrite) → IsBesidePlan kind plan sectors write → All (LiesBeside write) (content_transfers job.sparse plan guest.parts)
  contents_beside write beside = all_gathered (LiesBeside write) (λ (part : GuestPart). transfer_to job.sparse part (placed_from plan part.number)) guest.parts
      (λ k d within t is. content_beside write beside (slice_index_or guest.parts k d) t (content_of (slice_index_or guest.parts k d) t is))

  -- where the boot area ends
  abbrev part_starts : List ℕ
  part_starts = map (λ (part : GuestPart). part.start) guest.parts

  abbrev placed_starts : List ℕ
  placed_starts = map (λ (placed : Placed). placed.start) plan.parts

  part_above : (k : ℕ) (d : GuestPart) → k < length guest.parts → floor_of kind ≤ (slice_index_or guest.parts k d).start
  part_above k d within =
      let each = source.each k (planned_part d) (omega (arith, part_count, within)) in
      let start : (slice_index_or (parts_to_plan guest) k (planned_part d)).start ≡ (slice_index_or guest.parts k d).start = ap (λ (part : Part). part.start) (part_is k d within) in
      omega (arith, each.behind_table, start)

  placed_above : (k : ℕ) (d : Placed) → k < length plan.parts → floor_of kind ≤ (slice_index_or plan.parts k d).start
  placed_above k d within =
      let inside = planned.inside k d within in
      omega (arith, inside.behind_table, first_before (slice_index_or plan.parts k d) inside.record_before)

  -- what holds of a boot area's end, whether there are partitions or not
  pub record IsBootEnd (last : ℕ) : Type 0 where
    pub above : floor_of kind ≤ last
    pub on_source : last ≤ guest.sectors
    pub on_target : last ≤ sectors
    pub behind : All (λ (placed : Placed). last ≤ placed.start) plan.parts
    pub none : (last ≡ floor_of kind) ⊎ (1 ≤ length plan.parts)

  abbrev least_part : ℕ
  least_part = fold (λ least start. min least start) most_boot part_starts

  abbrev least : ℕ
  least = fold (λ least start. min least start) most_boot (part_starts ++ placed_starts)

  in_two : least ≡ fold (λ least start. min least start) least_part placed_starts
  in_two = fold-append (λ least start. min least start) most_boot part_starts placed_starts

  below_placed : (k : ℕ) (d : Placed) → k < length plan.parts → least ≤ (slice_index_or plan.parts k d).start
  below_placed k d h =
      let many : length placed_starts ≡ length plan.parts = length-map plan.parts (λ (placed : Placed). placed.start) in
      let low = least_of_all least_part placed_starts k 0 (omega arith) in
      let at : slice_index_or placed_starts k 0 ≡ (slice_index_or plan.parts k d).start = get_or-map (λ (placed : Placed). placed.start) plan.parts k d 0 h in
      omega (arith, in_two, low, at)

  below_part : (k : ℕ) (d : GuestPart) → k < length guest.parts → least ≤ (slice_index_or guest.parts k d).start
  below_part k d h =
      let many : length part_starts ≡ length guest.parts = length-map guest.parts (λ (part : GuestPart). part.start) in
      let low = least_of_all most_boot part_starts k 0 (omega arith) in
      let at : slice_index_or part_starts k 0 ≡ (slice_index_or guest.parts k d).start = get_or-map (λ (part : GuestPart). part.start) guest.parts k d 0 h in
      omega (arith, in_two, low, at, least_below least_part placed_starts)

  boot_of_some : 0 < length guest.parts → 0 < length plan.parts → IsBootEnd least
  boot_of_some some_parts some_placed = record {
    above = least_above (floor_of kind) most_boot (part_starts ++ placed_starts) (floor_low kind)
        (All-append (λ (start : ℕ). floor_of kind ≤ start) part_starts placed_starts
        (All-map (λ (start : ℕ). floor_of kind ≤ start) (λ (part : GuestPart). part.start) guest.parts part_above)
        (All-map (λ (start : ℕ). floor_of kind ≤ start) (λ (placed : Placed). placed.start) plan.parts placed_above));
    on_source = omega (arith, below_part 0 no_part some_parts, ends 0 no_part some_parts);
    on_target = omega (arith, below_placed 0 nowhere some_placed, (planned.inside 0 nowhere some_placed).before_limit, planned.limit);
    behind = below_placed;
    none = inr (omega (arith, some_placed));
  }

  boot_of_none : IsBootEnd (floor_of kind)
  boot_of_none = record { above = omega arith; on_source = room; on_target = enough; behind = placed_above; none = inl refl }

  abbrev no_partition : Bool
  no_partition = length guest.parts == 0 || length plan.parts == 0

  boot_with : (none : Bool) → no_partition ≡ none → IsBootEnd (if none then floor_of kind else least)
  boot_with true is = boot_of_none
  boot_with false is = boot_of_some (grind (arith, nat_tests)) (grind (arith, nat_tests))

  abbrev end : ℕ
  end = boot_end kind guest.parts plan

  boot_is : IsBootEnd end
  boot_is = boot_with no_partition refl

  abbrev boot : Transfer
  boot = boot_transfer kind end

  boot_between : IsBetween guest.sectors sectors boot
  boot_between = record {
    few_source = few;
    few_target = few_target;
    source = omega (arith, boot_is.on_source, boot_is.above);
    target = omega (arith, boot_is.on_target, boot_is.above);
  }

  boot_apart : (part : GuestPart) (t : Transfer) → IsContentOf part t → WriteApart t boot
  boot_apart part t of =
      let low = boot_is.behind of.place nowhere of.within in
      let Is : Transfer → Type 0 = λ t'. WriteApart t' boot in
      subst Is of.is (inr (omega (arith, low, boot_is.above)))

  boot_beside : (write : SectorWrite) → IsBesidePlan kind plan sectors write → LiesBeside write boot
  boot_beside write beside = elim beside.boot [
    | inl before ↦ inl before
    | inr behind ↦ inr (elim boot_is.none [
      | inl none ↦ omega (arith, none, behind.0)
      | inr some ↦ omega (arith, behind.1 end some boot_is.behind, boot_is.above)
    ])
  ]

  -- all of them
  transfers_with : (boots : List Transfer) → All (IsBetween guest.sectors sectors) boots → All (λ (t : Transfer). 1 ≤ t.to) boots → AllPairs WriteApart boots
      → ((part : GuestPart) (t : Transfer) → IsContentOf part t → All (WriteApart t) boots)
      → ((write : SectorWrite) → IsBesidePlan kind plan sectors write → All (LiesBeside write) boots)
      → AreTransfers guest plan sectors (content_transfers job.sparse plan guest.parts ++ boots)
  transfers_with boots between behind apart cross beside = record {
    between = All-append (IsBetween guest.sectors sectors) (content_transfers job.sparse plan guest.parts) boots contents_between between;
    behind_first = All-append (λ (t : Transfer). 1 ≤ t.to) (content_transfers job.sparse plan guest.parts) boots contents_behind behind;
    apart = pairs_append WriteApart (content_transfers job.sparse plan guest.parts) boots contents_apart apart
        (all_gathered (λ (t : Transfer). All (WriteApart t) boots) (λ (part : GuestPart). transfer_to job.sparse part (placed_from plan part.number)) guest.parts
        (λ k d within t is. cross (slice_index_or guest.parts k d) t (content_of (slice_index_or guest.parts k d) t is)));
    beside = λ write off. All-append (LiesBeside write) (content_transfers job.sparse plan guest.parts) boots (contents_beside write off) (beside write off);
  }

  with_boots : (copied : Bool) → AreTransfers guest plan sectors (content_transfers job.sparse plan guest.parts ++ boot_transfers copied kind end)
  with_boots true =
      transfers_with (boot ∷ []) (lone (IsBetween guest.sectors sectors) boot boot_between) (lone (λ (t : Transfer). 1 ≤ t.to) boot (floor_some kind))
      (λ i j d low high. absurd (omega arith)) (λ part t of. lone (WriteApart t) boot (boot_apart part t of)) (λ write off. lone (LiesBeside write) boot (boot_beside write off))
  with_boots false =
      transfers_with [] (λ k d h. absurd (omega arith)) (λ k d h. absurd (omega arith)) (λ i j d low high. absurd (omega arith))
      (λ part t of k d h. absurd (omega arith)) (λ write off k d h. absurd (omega arith))

  pub transfers : AreTransfers guest plan sectors (transfers_of job guest plan)
  transfers = with_boots job.boot

-- a disk that has a table has a sector
some_disk : (kind : Kind) (sectors : ℕ) → least_disk kind ≤ sectors → 0 < sectors
some_disk Mbr sectors enough = omega (arith, enough)
some_disk Gpt sectors enough = omega (arith, enough)

-- the work that is made of them and of the sectors of a table
pub carriable : (job : ResizeJob) (guest : GuestView) (plan : Plan) (sectors : ℕ) → IsPlannedFor job guest sectors plan
    → (transfers : List Transfer) (head first : List ℕ) (writes : List SectorWrite) → length first ≡ 512
    → AreTransfers guest plan sectors transfers → AreTableSectors guest.table plan head sectors first writes
    → IsCarriable (work_of first transfers writes guest.sectors sectors)
carriable job guest plan sectors planned copied head first writes long are table = record {
  some = some_disk (kind_of guest.table) sectors planned.is_plan.due.room.enough;
  first_long = long;
  between = are.between;
  behind_first = are.behind_first;
  apart = are.apart;
  places = λ k d h. (table.beside k d h).place;
  beside = λ k d h. are.beside (slice_index_or writes k d) (table.beside k d h);
  writes_apart = table.writes_apart;
}
