-- What is known of each partition of a plan for a GPT.
use Rattle.std.proofs.Common.{◌≡◌, ◌≢◌, ℕ, ◌+◌, ◌-◌, ◌^◌, ◌≤◌, ◌==◌, if◌then◌else◌, Bool, true, false, List, map, slice_index_or, All, AllPairs, IfSome, Option, Some, None, arith, refl, sym, ◌∙◌, ap, subst}
use Rattle.std.proofs.lemmas.Bool.{eq-eqb, eqb-true}
use Rattle.std.proofs.lemmas.List.Elements.{All-contains, All-map, All-weaker}
use Rattle.gpt_table.specs.declared.entry.Entry.{Entry}
use Rattle.gpt_table.specs.Gpt.{EntryTable}
use Rattle.guest_view.specs.declared.guest.GuestPart.{GuestPart}
use Rattle.guest_view.specs.declared.partition.Partition.{Partition}
use Rattle.guest_view.specs.declared.table.Table.{Table}
use Rattle.guest_view.specs.declared.table.Table.TheVariants.{Gpt}
use Rattle.guest_view.specs.Guests.{GuestView, kind_of}
use Rattle.guest_view.specs.Contents.{partition_of, planned_part}
use Rattle.guest_view.proofs.Bare.{of_parts}
use Rattle.guest_view.specs.Partitions.{entry_partition, named_from, partitions_of}
use Rattle.guest_view.proofs.Named.{IsNamedBy, named_each}
use Rattle.layout_plan.specs.declared.part.Fate.{Fate}
use Rattle.layout_plan.specs.declared.part.Fate.TheVariants.{Kept, Resized, Ignored, Extended as Outer}
use Rattle.layout_plan.specs.declared.part.Kind.TheVariants as kinds
use Rattle.layout_plan.specs.declared.part.Part.{Part}
use Rattle.layout_plan.specs.declared.part.Placed.{Placed}
use Rattle.layout_plan.specs.declared.part.Role.{Role}
use Rattle.layout_plan.specs.declared.part.Role.TheVariants.{Slot, Extended, Logical}
use Rattle.layout_plan.specs.declared.wish.Layout.{Layout}
use Rattle.layout_plan.specs.Layouts.{last_end}
use Rattle.layout_plan.specs.Plans.{AreNumbered, IsBehind, IsExtra, IsPlacedInside, Plan, first_of, role_by, role_of}
use Rattle.layout_plan.specs.Tables.{HasNumber, HasRoom, floor_of, limit_of}
use Rattle.target_table.specs.Planned.{IsSomePlan}
use Rattle.target_table.specs.inside.Entering.{CanBeEntered, IsEnterable, IsEnteredBeside}

-- a partition that an entry of a GPT can name, between the tables of a disk of so many sectors
pub record IsGptPlace (sectors : ℕ) (one : Placed) : Type 0 where
  pub counted : (1 ≤ one.number) × (one.number ≤ 128)
  pub slot : role_of one ≡ Slot
  pub no_record : one.ebr ≡ 0
  pub behind_table : 34 ≤ one.start
  pub some : 1 ≤ one.count
  pub before_limit : one.start + one.count ≤ sectors - 33

-- the entry of that number is used
pub record HasEntry (entries : List (Option Entry)) (number : ℕ) : Type 0 where
  pub entry : Entry
  pub from_one : 1 ≤ number
  pub is : slice_index_or entries (number - 1) None ≡ Some entry

-- all that is needed of a plan for a GPT with these entries
pub record IsGptPlan (entries : List (Option Entry)) (sectors : ℕ) (plan : Plan) : Type 0 where
  pub places : All (IsGptPlace sectors) plan.parts
  pub sources : All (λ (placed : Placed). HasEntry entries placed.from) plan.parts
  pub other_numbers : AllPairs (λ (one other : Placed). one.number ≢ other.number) plan.parts
  pub extra : IfSome plan.extra (IsGptPlace sectors)
  pub own_number : IfSome plan.extra (λ (one : Placed). All (λ (placed : Placed). placed.number ≢ one.number) plan.parts)

-- a partition whose number a GPT has is in no extended one
gpt_role : (role : Role) (number : ℕ) → HasNumber kinds.Gpt role number → role ≡ Slot
gpt_role Slot number numbered = refl
gpt_role Extended number numbered = let low : 1 ≤ number = numbered.from_first in let high : number ≤ 0 = numbered.to_last in absurd (omega (arith, low, high))
gpt_role Logical number numbered = let low : 5 ≤ number = numbered.from_first in let high : number ≤ 0 = numbered.to_last in absurd (omega (arith, low, high))

gpt_number : (role : Role) (number : ℕ) → HasNumber kinds.Gpt role number → (1 ≤ number) × (number ≤ 128)
gpt_number Slot number numbered = (numbered.from_first, numbered.to_last)
gpt_number Extended number numbered = let low : 1 ≤ number = numbered.from_first in let high : number ≤ 0 = numbered.to_last in absurd (omega (arith, low, high))
gpt_number Logical number numbered = let low : 5 ≤ number = numbered.from_first in let high : number ≤ 0 = numbered.to_last in absurd (omega (arith, low, high))

slot_has_none : (fate : Fate) (no_record : Bool) → role_by fate no_record ≡ Slot → no_record ≡ true
slot_has_none Outer no_record is = absurd (cc is)
slot_has_none Kept true is = refl
slot_has_none Kept false is = absurd (cc is)
slot_has_none Resized true is = refl
slot_has_none Resized false is = absurd (cc is)
slot_has_none Ignored true is = refl
slot_has_none Ignored false is = absurd (cc is)

pub gpt_place : (sectors limit : ℕ) (one : Placed) → limit ≡ sectors - 33 → HasNumber kinds.Gpt (role_of one) one.number → IsPlacedInside kinds.Gpt limit one → IsGptPlace sectors one
gpt_place sectors limit one limit_is numbered inside =
    let slot : role_of one ≡ Slot = gpt_role (role_of one) one.number numbered in
    let no_record : (one.ebr == 0) ≡ true = slot_has_none one.fate (one.ebr == 0) slot in
    let first : first_of one ≡ one.start = ap (λ (b : Bool). if b then one.start else one.ebr) no_record in
    let behind : 34 ≤ first_of one = inside.behind_table in
    let before : one.start + one.count ≤ limit = inside.before_limit in
    record {
      counted = gpt_number (role_of one) one.number numbered;
      slot = slot;
      no_record = eqb-true one.ebr 0 no_record;
      behind_table = omega (arith, first, behind);
      some = inside.some;
      before_limit = omega (arith, before, limit_is);
    }

-- what an entry names has the entry's number
names_entry : (entries : List (Option Entry)) (number : ℕ) (slot : Option Entry) (partition : Partition) → 1 ≤ number → slice_index_or entries (number - 1) None ≡ slot
    → entry_partition number slot ≡ Some partition → HasEntry entries partition.number
names_entry entries number None partition low is names = absurd (cc names)
names_entry entries number (Some entry) partition low is names =
    let made : Partition = record { number = number; role = Slot; start = entry.first; count = entry.last + 1 - entry.first; ebr = 0 } in
    let told : Some made ≡ Some partition = names in
    let same : made ≡ partition = cc told in
    let number_is : number ≡ partition.number = ap (λ (p : Partition). p.number) same in
    subst (HasEntry entries) number_is (record { entry = entry; from_one = low; is = is })

named_entry : (entries : List (Option Entry)) (partition : Partition) → IsNamedBy entry_partition 1 entries partition → HasEntry entries partition.number
named_entry entries partition by =
    let place : 1 + by.place - 1 ≡ by.place = omega arith in
    names_entry entries (1 + by.place) (slice_index_or entries by.place None) partition (omega arith) (ap (λ (k : ℕ). slice_index_or entries k None) place) (by.names None)

-- each number of a part that is planned is that of a used entry
numbers_used : (entries : List (Option Entry)) (parts : List GuestPart) → map partition_of parts ≡ named_from entry_partition 1 entries
    → All (HasEntry entries) (map (λ (part : Part). part.number) (map planned_part parts))
numbers_used entries parts named =
    let partitions : List Partition = named_from entry_partition 1 entries in
    All-map (HasEntry entries) (λ (part : Part). part.number) (map planned_part parts)
    (All-map (λ (part : Part). HasEntry entries part.number) planned_part parts
    (of_parts (λ (p : Partition). HasEntry entries p.number) parts partitions named
    (All-weaker (IsNamedBy entry_partition 1 entries) (λ (p : Partition). HasEntry entries p.number) (named_entry entries) partitions
    (named_each entry_partition 1 entries))))

-- what takes what is left over is a slot
extra_slot_is : (layout : Layout) (last : ℕ) (parts : List Placed) (limit : ℕ) (one : Placed) → IsExtra kinds.Gpt layout last parts limit (Some one) → role_of one ≡ Slot
extra_slot_is layout last parts limit one is =
    ap (λ (fate : Fate). role_by fate (one.ebr == 0)) is.kept ∙ ap (λ (b : Bool). role_by Kept b) (eq-eqb _ _ is.no_boot_record)

extra_place : (sectors : ℕ) (layout : Layout) (last : ℕ) (parts : List Placed) (limit : ℕ) (extra : Option Placed) → limit ≡ sectors - 33
    → IsExtra kinds.Gpt layout last parts limit extra → IfSome extra (IsBehind kinds.Gpt parts limit) → IfSome extra (IsGptPlace sectors)
extra_place sectors layout last parts limit None limit_is is behind = tt
extra_place sectors layout last parts limit (Some one) limit_is is behind =
    let Numbered : Role → Type 0 = λ role. HasNumber kinds.Gpt role one.number in
    gpt_place sectors limit one limit_is (subst Numbered (sym (extra_slot_is layout last parts limit one is)) behind.numbered) behind.inside

extra_number : (parts : List Placed) (limit : ℕ) (extra : Option Placed) → IfSome extra (IsBehind kinds.Gpt parts limit)
    → IfSome extra (λ (one : Placed). All (λ (placed : Placed). placed.number ≢ one.number) parts)
extra_number parts limit None behind = tt
extra_number parts limit (Some one) behind = behind.other_numbers

-- a plan for a guest with a GPT
pub gpt_plan : (guest : GuestView) (table : EntryTable) (sectors : ℕ) (plan : Plan) → guest.table ≡ Gpt table → map partition_of guest.parts ≡ partitions_of guest.table
    → IsSomePlan guest sectors plan → IsGptPlan table.entries sectors plan
gpt_plan guest table sectors plan table_is named some =
    let known = some.is in
    let Limit : Table → Type 0 = λ t. plan.limit ≡ limit_of (kind_of t) sectors in
    let limit_is : plan.limit ≡ sectors - 33 = subst Limit table_is known.is_plan.is_limit in
    let Numbered : Table → Type 0 = λ t. AreNumbered (kind_of t) plan.parts in
    let numbers : AreNumbered kinds.Gpt plan.parts = subst Numbered table_is known.numbers in
    let Inside : Table → Type 0 = λ t. All (IsPlacedInside (kind_of t) plan.limit) plan.parts in
    let inside : All (IsPlacedInside kinds.Gpt plan.limit) plan.parts = subst Inside table_is known.inside in
    let Behind : Table → Type 0 = λ t. IfSome plan.extra (IsBehind (kind_of t) plan.parts plan.limit) in
    let behind : IfSome plan.extra (IsBehind kinds.Gpt plan.parts plan.limit) = subst Behind table_is known.behind in
    let Named : Table → Type 0 = λ t. map partition_of guest.parts ≡ partitions_of t in
    let parts_are : map partition_of guest.parts ≡ named_from entry_partition 1 table.entries = subst Named table_is named in
    let used = numbers_used table.entries guest.parts parts_are in
    let Left : Table → Type 0 = λ t. IsExtra (kind_of t) some.layout (last_end (floor_of (kind_of t)) known.is_plan.spots) plan.parts plan.limit plan.extra in
    let left = subst Left table_is known.is_plan.is_extra in
    record {
      places = λ k d h. gpt_place sectors plan.limit (slice_index_or plan.parts k d) limit_is (numbers.each k d h) (inside k d h);
      sources = λ k d h. All-contains (HasEntry table.entries) _ (slice_index_or plan.parts k d).from used (known.froms.each k d h);
      other_numbers = numbers.other_numbers;
      extra = extra_place sectors some.layout (last_end 34 known.is_plan.spots) plan.parts plan.limit plan.extra limit_is left behind;
      own_number = extra_number plan.parts plan.limit plan.extra behind;
    }

-- its entries can be made
module _ (entries : List (Option Entry)) (sectors : ℕ) (plan : Plan) (known : IsGptPlan entries sectors plan) (few : sectors ≤ 2 ^ 31) where
  enterable : (one : Placed) → IsGptPlace sectors one → IsEnterable one
  enterable one place =
      let before = place.before_limit in
      record { counted = place.counted; some = place.some; end_named = omega (arith, before, few) }

  beside : (extra : Option Placed) → IfSome extra (IsGptPlace sectors) → IfSome extra (λ (one : Placed). All (λ (placed : Placed). placed.number ≢ one.number) plan.parts)
      → IfSome extra (IsEnteredBeside plan)
  beside None place own = tt
  beside (Some one) place own = record { enterable = enterable one place; own_number = own }

  pub can_be_entered : CanBeEntered plan
  can_be_entered = record {
    parts = λ k d h. record { from_one = (known.sources k d h).from_one; enterable = enterable (slice_index_or plan.parts k d) (known.places k d h) };
    extra = beside plan.extra known.extra known.own_number;
  }

-- the disk has room for a table, and its sectors can be named
pub gpt_room : (guest : GuestView) (table : EntryTable) (sectors : ℕ) (plan : Plan) → guest.table ≡ Gpt table → IsSomePlan guest sectors plan → HasRoom kinds.Gpt sectors
gpt_room guest table sectors plan table_is some =
    let Room : Table → Type 0 = λ t. HasRoom (kind_of t) sectors in
    subst Room table_is some.is.is_plan.due.room
