-- A disk on which a table stands as it is written is read as that table.
use Rattle.std.proofs.Common.{◌≡◌, ℕ, zero, suc, ◌+◌, ◌-◌, ◌*◌, ◌^◌, ◌<◌, ◌≤◌, Bool, true, false, List, [], ◌∷◌, ◌++◌, length, take, drop, replicate, get_or, Option, Some, None, refl, sym, ap, subst, ◌∙◌, arith, codes, append-nil, nat_lt, ◌||◌, if◌then◌else◌, length-append, length-take, le-ltb}
use Rattle.std.proofs.lemmas.List.{take_at, drop_at, drop-drop, take_all, take_more, get_or-take}
use Rattle.std.proofs.lemmas.Grind.{flat_map-append}
use Rattle.std.proofs.lemmas.Bool.{false≢true}
use Rattle.byteorder.specs.Numbers.{little_number-reads_back}
use Rattle.uuid.specs.Parts.{is_nil_bytes}
use Rattle.uuid.proofs.RoundTrips.{swap_twice}
use Rattle.disk_base.specs.Checksum.{IsCrc32}
use Rattle.disk_base.specs.Image.{bytes_at, with_bytes, sector}
use Rattle.gpt_table.proofs.Puts.{next, filled}
use Rattle.gpt_table.specs.declared.entry.Entry.{Entry}
use Rattle.disk_base.specs.Fields.{little_at}
use Rattle.gpt_table.specs.declared.header.Header.{Header}
use Rattle.gpt_table.specs.Entry.{guid_at, entry_of, used, slot_at, kept_entry, is_bad, slot_bytes}
use Rattle.gpt_table.specs.Header.{summed, header_of, header_at, IsPlacedHeader, IsValid, IsHeaderSector, header_place, array_written, array_of, start_bytes, rest_bytes, header_bytes}
use Rattle.gpt_table.specs.Gpt.{EntryTable, AreWritable, MayBeWritten, IsWritten, ReadsAs, array_bytes}

-- ---- a header

-- a header that was written for a table
made : ℕ → ℕ → ℕ → List ℕ → ℕ → ℕ → List ℕ → Header
made checksum place last disk array sum covered = record {
  signature = codes "EFI PART";
  revision = 0x10000;
  size = 92;
  checksum = checksum;
  place = place;
  first = 34;
  last = last;
  disk = disk;
  array = array;
  count = 128;
  entry_size = 128;
  array_checksum = sum;
  covered = covered;
}

same_header : (c c' p p' l l' : ℕ) (d d' : List ℕ) (a a' s s' : ℕ) (v : List ℕ) → c ≡ c' → p ≡ p' → l ≡ l' → d ≡ d' → a ≡ a' → s ≡ s' → made c p l d a s v ≡ made c' p' l' d' a' s' v
same_header c c' p p' l l' d d' a a' s s' v c-is p-is l-is d-is a-is s-is = cc

abbrev written_header : List ℕ → ℕ → Bool → ℕ → ℕ → Header
written_header disk sectors backup array checksum =
    made checksum (header_place sectors backup) (sectors - 34) disk (array_written sectors backup) array (header_bytes disk sectors backup array 0)

place_fits : (sectors : ℕ) (backup : Bool) → sectors < 2 ^ 64 → header_place sectors backup < 2 ^ 64
place_fits sectors true fits = omega arith
place_fits sectors false fits = omega arith

array_fits : (sectors : ℕ) (backup : Bool) → sectors < 2 ^ 64 → array_written sectors backup < 2 ^ 64
array_fits sectors true fits = omega arith
array_fits sectors false fits = omega arith

header_read_back : (sectors : ℕ) (backup : Bool) (disk : List ℕ) (array checksum : ℕ) → sectors < 2 ^ 64 → length disk ≡ 16 → array < 2 ^ 32 → checksum < 2 ^ 32
    → header_of (header_bytes disk sectors backup array checksum ++ replicate 420 0) ≡ written_header disk sectors backup array checksum
unfolding header_of little_at guid_at summed start_bytes rest_bytes made
header_read_back sectors backup disk array checksum fits long array-fits checksum-fits =
    same_header _ _ _ _ _ _ _ _ _ _ _ _ _
    (little_number-reads_back 4 checksum [] checksum-fits)
    (little_number-reads_back 8 (header_place sectors backup) [] (place_fits sectors backup fits))
    (little_number-reads_back 8 (sectors - 34) [] (omega arith))
    (swap_twice disk long)
    (little_number-reads_back 8 (array_written sectors backup) [] (array_fits sectors backup fits))
    (little_number-reads_back 4 array [] array-fits)

array_lies : (sectors : ℕ) (backup : Bool) → 68 ≤ sectors → array_written sectors backup + 32 ≤ sectors
array_lies sectors true some = omega arith
array_lies sectors false some = omega arith

written_placed : (sectors : ℕ) (backup : Bool) (disk : List ℕ) (array checksum : ℕ) → 68 ≤ sectors → IsCrc32 (header_bytes disk sectors backup array 0) checksum
    → IsPlacedHeader sectors (header_place sectors backup) (written_header disk sectors backup array checksum)
unfolding made
written_placed sectors backup disk array checksum some sums = record {
  sound = record { signature = refl; revision = refl; size = refl; place = refl; checksum = sums };
  shape = record { count = refl; size = refl };
  placed = record { array_inside = array_lies sectors backup some; behind_tables = omega arith; in_order = omega arith; within = omega arith };
}

-- a header that was written is placed, and of its table
pub record ReadsHeader (sectors : ℕ) (backup : Bool) (disk : List ℕ) (array : ℕ) (header : Header) : Type 0 where
  pub placed : IsPlacedHeader sectors (header_place sectors backup) header
  pub first : header.first ≡ 34
  pub last : header.last ≡ sectors - 34
  pub guid : header.disk ≡ disk
  pub array_is : header.array ≡ array_written sectors backup
  pub array_sum : header.array_checksum ≡ array

written_reads : (sectors : ℕ) (backup : Bool) (disk : List ℕ) (array checksum : ℕ) → 68 ≤ sectors → IsCrc32 (header_bytes disk sectors backup array 0) checksum
    → ReadsHeader sectors backup disk array (written_header disk sectors backup array checksum)
unfolding made
written_reads sectors backup disk array checksum some sums = record {
  placed = written_placed sectors backup disk array checksum some sums;
  first = refl;
  last = refl;
  guid = refl;
  array_is = refl;
  array_sum = refl;
}

pub header_reads : (sectors : ℕ) (backup : Bool) (disk : List ℕ) (array : ℕ) (bytes : List ℕ) → 68 ≤ sectors → sectors < 2 ^ 64 → length disk ≡ 16 → array < 2 ^ 32
    → IsHeaderSector disk sectors backup array bytes → ReadsHeader sectors backup disk array (header_of bytes)
header_reads sectors backup disk array bytes some fits long array-fits is =
    let same : header_of bytes ≡ written_header disk sectors backup array is.checksum =
    ap header_of is.bytes_are ∙ header_read_back sectors backup disk array is.checksum fits long array-fits is.sums.fits in
    subst (ReadsHeader sectors backup disk array) (sym same) (written_reads sectors backup disk array is.checksum some is.sums)

-- ---- an array

drop-step : (m n : ℕ) (xs : List ℕ) → drop (m + n) xs ≡ drop n (drop m xs)
drop-step m n xs = sym (drop-drop n m xs ∙ ap (λ (k : ℕ). drop k xs) (omega arith))

-- the place of entry `k`
slot_found : (entries : List (Option Entry)) (k : ℕ) → ((j : ℕ) → j < length entries → length (slot_bytes (get_or entries j None)) ≡ 128) → k < length entries
    → bytes_at (array_bytes entries) (128 * k) 128 ≡ slot_bytes (get_or entries k None)
slot_found [] k long lt = absurd (omega arith)
slot_found (slot ∷ entries) zero long lt = take_at (slot_bytes slot) (array_bytes entries) 128 (long 0 (omega arith))
slot_found (slot ∷ entries) (suc k) long lt =
    let here : length (slot_bytes slot) ≡ 128 = long 0 (omega arith) in
    let place : 128 * suc k ≡ 128 + 128 * k = omega arith in
    ap (λ (n : ℕ). take 128 (drop n (slot_bytes slot ++ array_bytes entries))) place
    ∙ ap (take 128) (drop-step 128 (128 * k) (slot_bytes slot ++ array_bytes entries) ∙ ap (drop (128 * k)) (drop_at (slot_bytes slot) (array_bytes entries) 128 here))
    ∙ slot_found entries k (λ j small. long (suc j) (omega arith)) (omega arith)

pub length-array_bytes : (entries : List (Option Entry)) → ((j : ℕ) → j < length entries → length (slot_bytes (get_or entries j None)) ≡ 128)
    → length (array_bytes entries) ≡ 128 * length entries
length-array_bytes [] long = refl
length-array_bytes (slot ∷ entries) long =
    let here : length (slot_bytes slot) ≡ 128 = long 0 (omega arith) in
    let rest : length (array_bytes entries) ≡ 128 * length entries = length-array_bytes entries (λ j small. long (suc j) (omega arith)) in
    omega (arith, length-append (slot_bytes slot) (array_bytes entries))

pub slots_back : (entries : List (Option Entry)) → length entries ≡ 128 → ((j : ℕ) → j < 128 → length (slot_bytes (get_or entries j None)) ≡ 128)
    → ((j : ℕ) → j < 128 → used (entry_of (slot_bytes (get_or entries j None))) ≡ kept_entry (get_or entries j None))
    → (k : ℕ) → k < 128 → slot_at (array_bytes entries) k ≡ kept_entry (get_or entries k None)
slots_back entries count long back k lt =
    ap (λ (b : List ℕ). used (entry_of b)) (slot_found entries k (λ j small. long j (omega arith)) (omega arith)) ∙ back k lt

-- one entry more
pub written_more : (image old new bytes : List ℕ) (entries : List (Option Entry)) (i : ℕ) (d : Option Entry) → length image ≡ 16384 → length entries ≡ 128 → i < 128
    → ((k : ℕ) → k < i → length (slot_bytes (get_or entries k None)) ≡ 128)
    → old ≡ with_bytes image 0 (array_bytes (take i entries)) → bytes ≡ slot_bytes (get_or entries i d) → length bytes ≡ 128 → new ≡ with_bytes old (128 * i) bytes
    → new ≡ with_bytes image 0 (array_bytes (take (i + 1) entries))
written_more image old new bytes entries i d long count lt each so_far bytes-is bytes-long put =
    let front : length (take i entries) ≡ i = length-take i entries ∙ omega arith in
    let at : length (array_bytes (take i entries)) ≡ 128 * i =
    length-array_bytes (take i entries) (λ j small.
    let less : j < i = omega arith in
    ap (λ s. length (slot_bytes s)) (get_or-take i entries j None less) ∙ each j less) ∙ ap (λ (n : ℕ). 128 * n) front in
    let more : array_bytes (take (i + 1) entries) ≡ array_bytes (take i entries) ++ bytes =
    ap array_bytes (take_more entries i d (omega arith)) ∙ flat_map-append slot_bytes (take i entries) (get_or entries i d ∷ [])
    ∙ ap (λ (l : List ℕ). array_bytes (take i entries) ++ l) (append-nil (slot_bytes (get_or entries i d)) ∙ sym bytes-is) in
    next image old new 0 (128 * i) (array_bytes (take i entries)) bytes so_far put (omega arith) (omega arith) ∙ ap (with_bytes image 0) (sym more)

-- all entries
pub written_all : (image new : List ℕ) (entries : List (Option Entry)) (i : ℕ) → length image ≡ 16384 → length entries ≡ 128 → 128 ≤ i
    → ((k : ℕ) → k < 128 → length (slot_bytes (get_or entries k None)) ≡ 128)
    → new ≡ with_bytes image 0 (array_bytes (take i entries)) → new ≡ array_bytes entries
written_all image new entries i long count all each is =
    let whole : take i entries ≡ entries = take_all i entries (omega arith) in
    filled image new (array_bytes entries) (is ∙ ap (λ l. with_bytes image 0 (array_bytes l)) whole)
    (length-array_bytes entries (λ j small. each j (omega arith)) ∙ ap (λ (n : ℕ). 128 * n) count ∙ sym long)

-- ---- a whole disk

kept_same : (slot : Option Entry) → ((entry : Entry) → slot ≡ Some entry → is_nil_bytes entry.kind ≡ false) → kept_entry slot ≡ slot
kept_same None used-kind = refl
kept_same (Some entry) used-kind = ap (λ (c : Bool). if c then None else Some entry) (used-kind entry refl)

not_bad : (sectors : ℕ) (slot : Option Entry) → ((entry : Entry) → slot ≡ Some entry → MayBeWritten sectors entry) → is_bad 34 (sectors - 34) slot ≡ false
not_bad sectors None fits = refl
not_bad sectors (Some entry) fits =
    let w = fits entry refl in
    ap (λ (c : Bool). c || nat_lt entry.first 34 || nat_lt (sectors - 34) entry.last) (le-ltb _ _ w.in_order)
    ∙ ap (λ (c : Bool). c || nat_lt (sectors - 34) entry.last) (le-ltb _ _ w.behind_tables)
    ∙ le-ltb _ _ w.before_backup

-- a written header is valid, and its array is the one that was written
valid_of : (sectors : ℕ) (backup : Bool) (image disk array : List ℕ) (sum : ℕ) → header_place sectors backup < sectors
    → ReadsHeader sectors backup disk sum (header_at image (header_place sectors backup)) → bytes_at image (512 * array_written sectors backup) 16384 ≡ array → IsCrc32 array sum
    → IsValid sectors (header_place sectors backup) image × (array_of image (header_at image (header_place sectors backup)) ≡ array)
valid_of sectors backup image disk array sum inside reads array-is sums =
    let header : Header = header_at image (header_place sectors backup) in
    let here : array_of image header ≡ array = ap (λ (n : ℕ). bytes_at image (512 * n) 16384) reads.array_is ∙ array-is in (
      record {
        inside = inside;
        placed = reads.placed;
        checksum = subst (λ (a : List ℕ). IsCrc32 a header.array_checksum) (sym here) (subst (λ (n : ℕ). IsCrc32 array n) (sym reads.array_sum) sums);
      },
      here,
    )

pub reads_as : (sectors : ℕ) (table : EntryTable) (image : List ℕ) → length table.disk ≡ 16 → length table.entries ≡ 128
    → ((k : ℕ) → k < 128 → slot_at (array_bytes table.entries) k ≡ kept_entry (get_or table.entries k None))
    → 68 ≤ sectors → sectors < 2 ^ 64 → AreWritable sectors table.entries → IsWritten sectors table image → ReadsAs sectors table image
reads_as sectors table image disk-long count back some fits writable w =
    let p = header_reads sectors false table.disk w.checksum (sector image 1) some fits disk-long w.sums.fits w.primary in
    let b = header_reads sectors true table.disk w.checksum (sector image (sectors - 1)) some fits disk-long w.sums.fits w.backup in
    let first = valid_of sectors false image table.disk (array_bytes table.entries) w.checksum (omega arith) p w.primary_array w.sums in
    let last = valid_of sectors true image table.disk (array_bytes table.entries) w.checksum (omega arith) b w.backup_array w.sums in
    let slot : (k : ℕ) → k < 128 → slot_at (array_of image (header_at image 1)) k ≡ get_or table.entries k None =
    λ k lt.
    ap (λ (a : List ℕ). slot_at a k) first.1 ∙ back k lt ∙ kept_same (get_or table.entries k None) (λ entry is. let e = writable k entry is in e.kind) in
    record {
      is_table = record {
        in_use = record { valid = first.0; primary = λ t. absurd (false≢true t) };
        disk = sym p.guid;
        entries = record {
          count = count;
          each = λ k lt. sym (slot k lt);
          none_bad = λ k lt.
              ap (λ (n : ℕ). is_bad n (header_at image 1).last (slot_at (array_of image (header_at image 1)) k)) p.first
              ∙ ap (λ (n : ℕ). is_bad 34 n (slot_at (array_of image (header_at image 1)) k)) p.last
              ∙ ap (is_bad 34 (sectors - 34)) (slot k lt)
              ∙ not_bad sectors (get_or table.entries k None) (λ entry is. writable k entry is);
        };
      };
      primary = first.0;
      backup = last.0;
    }
