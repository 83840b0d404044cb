-- The writes in their order make the finished target.
use Rattle.std.proofs.lemmas.Bool.{cases_lt, false≢true}
use Rattle.std.proofs.lemmas.List.{length-replicate, take_all}
use Rattle.std.proofs.lemmas.List.Elements.{All-get_or}
use Rattle.std.proofs.Common.{◌≡◌, ℕ, ◌+◌, ◌*◌, ◌/◌, ◌<◌, ◌≤◌, List, length, All, arith, refl, ◌∙◌, sym, ap, cond, slice_index, inl, inr, slice_index_or, replicate, Result, Ok, Err, IfErr, OnOk, OnErr, is_ok, true, false}
use Rattle.disk_base.specs.Image.{bytes_at, with_bytes, sector, HalfWritten}
use Rattle.disk_base.proofs.Images.{bytes_behind, sector_written, sector_behind, length-with_bytes, agrees_with_bytes, byte_of_range}
use Rattle.std.proofs.lemmas.Grind.{same_number_lists}
use Rattle.disk_base.specs.declared.device.DeviceFault.{DeviceFault}
use Rattle.disk_base.specs.declared.device.DeviceFault.TheVariants.{Source, Target}
use Rattle.run_copy.specs.declared.transfer.Transfer.{Transfer}
use Rattle.run_copy.specs.Copies.{is_left_out, AreCopied, OnlyWithin}
use Rattle.target_work.specs.declared.sector_write.SectorWrite.{SectorWrite}
use Rattle.target_work.specs.Works.{HasNoTable, IsAtGate, IsBeside, IsCarriable, IsDone, IsWritePlace, LeavesNoTable, LiesBeside, StandsIn, Work}
use Rattle.target_work.specs.inside.Phases.{ArePut, IsFilled, KeepsFirst, OldOrWith, OnlyInWrites}

pub zeros_long : length {A = ℕ} (replicate 512 0) ≡ 512
zeros_long = length-replicate {A = ℕ} 512 0

-- sector 0 after a write of it
pub sector_zero : (image bytes : List ℕ) → length bytes ≡ 512 → 512 ≤ length image → sector (with_bytes image 0 bytes) 0 ≡ bytes
sector_zero image bytes long fits =
    sector_written image 0 bytes 0 0 (omega arith) (omega arith) (omega arith) ∙ take_all 512 bytes (omega arith)

-- the sectors behind it stay
pub sector_later : (image bytes : List ℕ) (k : ℕ) → length bytes ≡ 512 → 512 ≤ length image → 0 < k → sector (with_bytes image 0 bytes) k ≡ sector image k
sector_later image bytes k long fits later = sector_behind image 0 bytes k (omega arith) (omega arith)

-- a disk whose sector 0 was made zeros
pub no_table_cleared : (old cleared : List ℕ) (sectors : ℕ) → length old ≡ 512 * sectors → 0 < sectors → cleared ≡ with_bytes old 0 (replicate 512 0) → HasNoTable cleared
no_table_cleared old cleared sectors long some clears = ap (λ disk. sector disk 0) clears ∙ sector_zero old (replicate 512 0) zeros_long (omega arith)

pub keeps_first_on : (a b c : List ℕ) → KeepsFirst a b → KeepsFirst b c → KeepsFirst a c
keeps_first_on a b c r s = record { same_length = s.same_length ∙ r.same_length; first = s.first ∙ r.first }

pub keeps_first_here : (a : List ℕ) → KeepsFirst a a
keeps_first_here a = record { same_length = refl; first = refl }

-- transfers and writes leave sector 0, and fill the rest
module _ (work : Work) (carriable : IsCarriable work) where
  abbrev Behind : Transfer → Type 0
  Behind t = 1 ≤ t.to

  behind : (i : ℕ) (d : Transfer) → i < length work.transfers → Behind (slice_index_or work.transfers i d)
  behind i d h = All-get_or Behind work.transfers i d h carriable.behind_first

  place : (i : ℕ) (d : SectorWrite) → i < length work.writes → IsWritePlace work.target_sectors (slice_index_or work.writes i d)
  place i d h = All-get_or (IsWritePlace work.target_sectors) work.writes i d h carriable.places

  pub keeps_copying : (old new : List ℕ) → OnlyWithin work.transfers old new → KeepsFirst old new
  keeps_copying old new within =
      record { same_length = within.same_length; first = within.others 0 (λ i d h low. let far = behind i d h in absurd (omega (arith, far, low))) }

  pub keeps_putting : (old new : List ℕ) → OnlyInWrites work.writes old new → KeepsFirst old new
  keeps_putting old new within =
      record { same_length = within.same_length; first = within.others 0 (λ i d h low. let far = (place i d h).behind_first in absurd (omega (arith, far, low))) }

  -- a sector of a transfer lies beside each write
  beside_writes : (i : ℕ) (d : Transfer) → i < length work.transfers → (k : ℕ) → k < (slice_index_or work.transfers i d).count
      → (j : ℕ) (e : SectorWrite) → j < length work.writes → IsBeside (slice_index_or work.writes j e) ((slice_index_or work.transfers i d).to + k)
  beside_writes i d h k small j e l low =
      let write : SectorWrite = slice_index_or work.writes j e in
      let t : Transfer = slice_index_or work.transfers i d in
      let Clear : SectorWrite → Type 0 = λ w. All (LiesBeside w) work.transfers in
      let clear : LiesBeside write t = All-get_or (LiesBeside write) work.transfers i d h (All-get_or Clear work.writes j e l carriable.beside) in
      elim clear [ inl before ↦ omega (arith, before) | inr behind ↦ absurd (omega (arith, behind, low, small)) ]

  pub filled : (source old contents new : List ℕ) → AreCopied work.transfers (length work.transfers) source old contents
      → ArePut work.writes (length work.writes) contents new → IsFilled work source old new
  filled source old contents new copies puts = record {
    keeps_first = keeps_first_on old contents new
        (record { same_length = copies.same_length; first = copies.others 0 (λ i d h low. let far = behind i d h in absurd (omega (arith, far, low))) })
        (record { same_length = puts.same_length; first = puts.others 0 (λ i d h low. let far = (place i d h).behind_first in absurd (omega (arith, far, low))) });
    copied = λ i d h k small. puts.others ((slice_index_or work.transfers i d).to + k) (beside_writes i d h k small) ∙ copies.copied i d h k small;
    written = puts.written;
    others = λ k outside beside. puts.others k beside ∙ copies.others k outside;
  }

-- clearing, filling and the new sector 0 make the finished target
module _ (work : Work) (source old cleared booted new : List ℕ)
    (carriable : IsCarriable work)
    (old_long : length old ≡ 512 * work.target_sectors)
    (clears : cleared ≡ with_bytes old 0 (replicate 512 0))
    (fills : IsFilled work source cleared booted)
    (puts : new ≡ with_bytes booted 0 work.first) where
  first_long : length work.first ≡ 512
  first_long = carriable.first_long

  some : 512 ≤ length old
  some = let one = carriable.some in omega arith

  cleared_length : length cleared ≡ length old
  cleared_length = ap length clears ∙ length-with_bytes old 0 (replicate 512 0) (omega (arith, some, zeros_long))

  booted_length : length booted ≡ length old
  booted_length = fills.keeps_first.same_length ∙ cleared_length

  booted_some : 512 ≤ length booted
  booted_some = omega (arith, booted_length, some)

  new_later : (k : ℕ) → 0 < k → sector new k ≡ sector booted k
  new_later k later = ap (λ disk. sector disk k) puts ∙ sector_later booted work.first k first_long booted_some later

  cleared_later : (k : ℕ) → 0 < k → sector cleared k ≡ sector old k
  cleared_later k later = ap (λ disk. sector disk k) clears ∙ sector_later old (replicate 512 0) k (zeros_long) some later

  -- what was written behind sector 0 still stands
  still_stands : (write : SectorWrite) → 1 ≤ write.at → StandsIn booted write → StandsIn new write
  still_stands write far stands =
      ap (λ (disk : List ℕ). bytes_at disk (512 * write.at) (length write.bytes)) puts
      ∙ bytes_behind booted 0 work.first (512 * write.at) (length write.bytes) (omega (arith, first_long, far)) (omega (arith, first_long, booted_some))
      ∙ stands

  pub finished : IsDone work source old new
  finished = record {
    same_length = ap length puts ∙ length-with_bytes booted 0 work.first (omega (arith, booted_some, first_long)) ∙ booted_length;
    first_is = ap (λ disk. sector disk 0) puts ∙ sector_zero booted work.first first_long booted_some;
    copied = λ i d h k small.
        let t : Transfer = slice_index_or work.transfers i d in
        let far : 1 ≤ t.to = behind work carriable i d h in
        new_later (t.to + k) (omega arith) ∙ fills.copied i d h k small
        ∙ ap (λ (s : List ℕ). cond (is_left_out source t (k / 2048)) s (sector source (t.from + k))) (cleared_later (t.to + k) (omega arith));
    written = λ i d h. still_stands (slice_index_or work.writes i d) (place work carriable i d h).behind_first (fills.written i d h);
    others = λ k later outside beside. new_later k later ∙ fills.others k outside beside ∙ cleared_later k later;
  }

-- whichever disk failed
pub no_table_at_fault : {A : Type 0} (image : List ℕ) (r : Result A DeviceFault) → HasNoTable image → IfErr r (LeavesNoTable image)
no_table_at_fault image (Ok x) none = tt
no_table_at_fault image (Err Source) none = none
no_table_at_fault image (Err Target) none = tt

-- disks that are equal in sector 0 and behind it
same_of_first : (old new : List ℕ) → length new ≡ length old → sector new 0 ≡ sector old 0 → ((i : ℕ) → 512 ≤ i → slice_index new i ≡ slice_index old i) → new ≡ old
same_of_first old new long first behind =
    same_number_lists _ _ long (λ i h.
    elim (cases_lt i 512) [
      | inl small ↦
          sym (byte_of_range new 0 512 i i (omega arith) small) ∙ ap (λ (bytes : List ℕ). slice_index bytes i) first ∙ byte_of_range old 0 512 i i (omega arith) small
      | inr far ↦ behind i far
    ])

-- a write of sector 0 that failed left it as it was, or whole
pub old_or_with : (old new bytes : List ℕ) → length bytes ≡ 512 → 512 ≤ length old → HalfWritten 0 bytes old new → OldOrWith 0 bytes old new
old_or_with old new bytes long some half =
    let same_length : length new ≡ length old = half.outside.same_length in
    let behind : (i : ℕ) → 512 ≤ i → slice_index new i ≡ slice_index old i = λ i far. half.outside.after i (omega (arith, long)) in
    let with_length = length-with_bytes old 0 bytes (omega (arith, long, some)) in
    let written = agrees_with_bytes old 0 512 bytes (sym long) some in
    elim (half.within 0 (omega (arith, long))) [
      | inl same ↦ inl (same_of_first old new same_length same behind)
      | inr wrote ↦ inr (same_of_first (with_bytes old 0 bytes) new (same_length ∙ sym with_length)
          (wrote ∙ take_all 512 bytes (omega (arith, long)) ∙ sym (sector_zero old bytes long some))
          (λ i far. behind i far ∙ sym (written.after i far)))
    ]

-- where one thing is so at every error, and where the result is one
pub on_err : {A E P : Type 0} (r : Result A E) → P → OnErr r P
on_err (Ok x) holds = tt
on_err (Err e) holds = holds

pub at_err : {A E P : Type 0} (r : Result A E) → false ≡ is_ok r → OnErr r P → P
at_err (Ok x) is holds = absurd (false≢true is)
at_err (Err e) is holds = holds

pub at_ok : {A E P : Type 0} (r : Result A E) → true ≡ is_ok r → OnOk r P → P
at_ok (Ok x) is holds = holds
at_ok (Err e) is holds = absurd (false≢true (sym is))

-- the last write failed: there is no table, or the work is done
pub at_gate : (work : Work) (source old booted new : List ℕ) → HasNoTable booted → (new ≡ with_bytes booted 0 work.first → IsDone work source old new)
    → OldOrWith 0 work.first booted new → IsAtGate work source old new
at_gate work source old booted new none finish half = elim half [
  | inl same ↦ inr (inl (ap (λ image. sector image 0) same ∙ none))
  | inr wrote ↦ inr (inr (finish wrote))
]
