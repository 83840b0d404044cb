-- Where the writes of a GPT lie, and what a disk is read as on which they stand.
use Rattle.std.proofs.Common.{◌≡◌, ℕ, ◌+◌, ◌-◌, ◌*◌, ◌%◌, ◌^◌, ◌≤◌, ◌⊎◌, Bool, true, false, List, [], ◌∷◌, ◌++◌, length, min, replicate, slice_index_or, Option, All, AllPairs, arith, refl, sym, ◌∙◌, ap, subst, inl, inr, append_assoc}
use Rattle.std.specs.List.{list_any}
use Rattle.std.proofs.lemmas.List.Elements.{All-cons, All-nil}
use Rattle.std.proofs.lemmas.List.Kept.{AllPairs-cons}
use Rattle.byteorder.specs.Endian.{little_bytes}
use Rattle.disk_base.specs.Image.{bytes_at, sector}
use Rattle.gpt_table.specs.declared.entry.Entry.{Entry}
use Rattle.gpt_table.specs.Gpt.{AreWritable, EntryTable, IsReadWhereWritten, IsWritten, array_bytes, protective_bytes}
use Rattle.gpt_table.specs.Header.{IsHeaderSector, array_written}
use Rattle.guest_view.specs.declared.table.Table.TheVariants.{Gpt}
use Rattle.layout_plan.specs.declared.part.Fate.{Fate}
use Rattle.layout_plan.specs.declared.part.Fate.TheVariants.{Kept, Resized, Ignored, Extended as Outer}
use Rattle.layout_plan.specs.declared.part.Kind.TheVariants as kinds
use Rattle.layout_plan.specs.declared.part.Placed.{Placed}
use Rattle.layout_plan.specs.Plans.{Plan}
use Rattle.mbr_table.specs.Mbr.{IsProtective}
use Rattle.mbr_table.specs.Slot.{slot_of, stands_in}
use Rattle.mbr_table.proofs.Tables.{Parts, four_parts}
use Rattle.target_work.specs.declared.sector_write.SectorWrite.{SectorWrite}
use Rattle.target_work.specs.Works.{AreStanding, StandsIn, WritesLieApart, write_end}
use Rattle.target_table.specs.Entries.{AreGptWrites, write_to}
use Rattle.target_table.specs.Planned.{IsBesidePlan, IsReadAsTable, KeepsOffBy}
use Rattle.target_table.specs.inside.Entering.{AreCopies}
use Rattle.target_table.proofs.GptPlans.{IsGptPlan}

-- ---- sector 0 leaves the disk to a GPT

pub protective_entry : ℕ → List ℕ
protective_entry sectors = (0x00 ∷ 0x00 ∷ 0x02 ∷ 0x00 ∷ 0xEE ∷ 0xFF ∷ 0xFF ∷ 0xFF ∷ []) ++ (little_bytes 4 1 ++ little_bytes 4 (min (sectors - 1) 0xFFFFFFFF))

regrouped : (h e l n z a b c sig : List ℕ) → z ≡ a ++ (b ++ (c ++ [])) → h ++ e ++ l ++ n ++ z ++ sig ≡ (h ++ ((e ++ (l ++ n)) ++ (a ++ (b ++ (c ++ []))))) ++ sig
regrouped h e l n z a b c sig z-is = rw z-is (simp append_assoc)

protective_parts : (head : List ℕ) (sectors : ℕ) → length head ≡ 446
    → Parts head (protective_entry sectors) (replicate 16 0) (replicate 16 0) (replicate 16 0) (protective_bytes head sectors)
unfolding protective_entry
protective_parts head sectors long =
    four_parts head (protective_entry sectors) (replicate 16 0) (replicate 16 0) (replicate 16 0) (protective_bytes head sectors)
    (regrouped head (0x00 ∷ 0x00 ∷ 0x02 ∷ 0x00 ∷ 0xEE ∷ 0xFF ∷ 0xFF ∷ 0xFF ∷ []) (little_bytes 4 1) (little_bytes 4 (min (sectors - 1) 0xFFFFFFFF)) (replicate 48 0)
    (replicate 16 0) (replicate 16 0) (replicate 16 0) (0x55 ∷ 0xAA ∷ []) refl)
    long refl refl refl refl

pub is_protective : (head : List ℕ) (sectors : ℕ) → length head ≡ 446 → IsProtective (protective_bytes head sectors)
unfolding protective_entry
is_protective head sectors long =
    let parts = protective_parts head sectors long in
    let bytes = protective_bytes head sectors in (
      parts.signature,
      ap (λ (e : List ℕ). list_any stands_in (slot_of e ∷ slot_of (bytes_at bytes 462 16) ∷ slot_of (bytes_at bytes 478 16) ∷ slot_of (bytes_at bytes 494 16) ∷ []))
          parts.first,
    )

-- ---- where the writes lie

module _ (table : EntryTable) (sectors : ℕ) (plan : Plan) (known : IsGptPlan table.entries sectors plan) (room : 68 ≤ sectors) where
  off_by : (fate : Fate) (write : SectorWrite) (placed : Placed) → ((write_end write ≤ placed.start) ⊎ (placed.start + placed.count ≤ write.at)) → KeepsOffBy fate write placed
  off_by Outer write placed off = tt
  off_by Kept write placed off = off
  off_by Resized write placed off = off
  off_by Ignored write placed off = off

  -- before the first sector that a partition may take
  low : (write : SectorWrite) → 1 ≤ write.at → length write.bytes % 512 ≡ 0 → write_end write ≤ 34 → IsBesidePlan kinds.Gpt plan sectors write
  low write behind whole before = record {
    place = record { whole = whole; behind_first = behind; inside = omega (arith, before, room) };
    boot = inl before;
    parts = λ k d h.
        let from = (known.places k d h).behind_table in
        off_by (slice_index_or plan.parts k d).fate write (slice_index_or plan.parts k d) (inl (omega (arith, before, from)));
  }

  -- behind the last sector that one may take
  high : (write : SectorWrite) → sectors - 33 ≤ write.at → length write.bytes % 512 ≡ 0 → write_end write ≤ sectors → IsBesidePlan kinds.Gpt plan sectors write
  high write behind whole inside = record {
    place = record { whole = whole; behind_first = omega (arith, behind, room); inside = inside };
    boot = inr (
      omega (arith, behind, room),
      λ start some all.
          let d : Placed = record { from = 0; number = 0; ebr = 0; start = 0; count = 0; fate = Kept } in
          let first : start ≤ (slice_index_or plan.parts 0 d).start = all 0 d (omega (arith, some)) in
          let before = (known.places 0 d (omega (arith, some))).before_limit in
          omega (arith, behind, first, before),
    );
    parts = λ k d h.
        let before = (known.places k d h).before_limit in
        off_by (slice_index_or plan.parts k d).fate write (slice_index_or plan.parts k d) (inr (omega (arith, before, behind)));
  }

  module _ (disk : List ℕ) (entries : List (Option Entry)) (writes : List SectorWrite)
      (copies : AreCopies (record { disk = disk; entries = entries; from_backup = false }) sectors writes) where
    abbrev target : EntryTable
    target = record { disk = disk; entries = entries; from_backup = false }

    abbrev array : List ℕ
    array = array_bytes target.entries

    abbrev backup_array : SectorWrite
    backup_array = write_to (array_written sectors true) array

    abbrev primary_array : SectorWrite
    primary_array = write_to (array_written sectors false) array

    abbrev backup : SectorWrite
    backup = copies.backup

    abbrev primary : SectorWrite
    primary = copies.primary

    abbrev listed : List SectorWrite
    listed = backup_array ∷ backup ∷ primary_array ∷ primary ∷ []

    backup_at : backup.at ≡ sectors - 1
    backup_at = copies.is_backup.place

    primary_at : primary.at ≡ 1
    primary_at = copies.is_primary.place

    array_long : length array ≡ 16384
    array_long = copies.long

    backup_long : length backup.bytes ≡ 512
    backup_long = copies.is_backup.long

    primary_long : length primary.bytes ≡ 512
    primary_long = copies.is_primary.long

    backup_array_end : write_end backup_array ≡ sectors - 1
    backup_array_end = omega (arith, array_long, room)

    backup_end : write_end backup ≡ sectors
    backup_end = omega (arith, backup_long, backup_at, room)

    primary_array_end : write_end primary_array ≡ 34
    primary_array_end = omega (arith, array_long)

    primary_end : write_end primary ≡ 2
    primary_end = omega (arith, primary_long, primary_at)

    abbrev Beside : SectorWrite → Type 0
    Beside write = IsBesidePlan kinds.Gpt plan sectors write

    pub beside : All Beside writes
    beside =
        subst (All Beside) (sym copies.writes_are)
        (All-cons Beside backup_array (backup ∷ primary_array ∷ primary ∷ []) (high backup_array (omega arith) (omega (arith, array_long)) (omega (arith, backup_array_end, room)))
        (All-cons Beside backup (primary_array ∷ primary ∷ []) (high backup (omega (arith, backup_at)) (omega (arith, backup_long)) (omega (arith, backup_end)))
        (All-cons Beside primary_array (primary ∷ []) (low primary_array (omega arith) (omega (arith, array_long)) (omega (arith, primary_array_end)))
        (All-cons Beside primary [] (low primary (omega (arith, primary_at)) (omega (arith, primary_long)) (omega (arith, primary_end))) (All-nil Beside)))))

    pub writes_apart : AllPairs WritesLieApart writes
    writes_apart =
        let after : write_end primary_array ≤ sectors - 33 = omega (arith, primary_array_end, room) in
        subst (AllPairs WritesLieApart) (sym copies.writes_are)
        (AllPairs-cons WritesLieApart backup_array (backup ∷ primary_array ∷ primary ∷ [])
        (All-cons (WritesLieApart backup_array) backup (primary_array ∷ primary ∷ []) (inl (omega (arith, backup_array_end, backup_at)))
        (All-cons (WritesLieApart backup_array) primary_array (primary ∷ []) (inr after)
        (All-cons (WritesLieApart backup_array) primary [] (inr (omega (arith, primary_end, room))) (All-nil (WritesLieApart backup_array)))))
        (AllPairs-cons WritesLieApart backup (primary_array ∷ primary ∷ [])
        (All-cons (WritesLieApart backup) primary_array (primary ∷ []) (inr (omega (arith, primary_array_end, backup_at, room)))
        (All-cons (WritesLieApart backup) primary [] (inr (omega (arith, primary_end, backup_at, room))) (All-nil (WritesLieApart backup))))
        (AllPairs-cons WritesLieApart primary_array (primary ∷ [])
        (All-cons (WritesLieApart primary_array) primary [] (inr (omega (arith, primary_end))) (All-nil (WritesLieApart primary_array)))
        (AllPairs-cons WritesLieApart primary [] (All-nil (WritesLieApart primary)) (λ i j d before within. absurd (omega (arith, before, within)))))))

    pub are_writes : AreGptWrites target sectors writes
    are_writes =
        let header : (at : ℕ) (w : SectorWrite) → w.at ≡ at → w ≡ write_to at w.bytes = λ at w is. ap (λ (n : ℕ). write_to n w.bytes) is in
        record {
          sum = copies.sum;
          sums = copies.sums;
          primary = primary.bytes;
          backup = backup.bytes;
          is_primary = copies.is_primary.is_header;
          is_backup = copies.is_backup.is_header;
          writes_are = copies.writes_are
              ∙ ap (λ (w : SectorWrite). backup_array ∷ w ∷ primary_array ∷ primary ∷ []) (header (sectors - 1) backup backup_at)
              ∙ ap (λ (w : SectorWrite). backup_array ∷ write_to (sectors - 1) backup.bytes ∷ primary_array ∷ w ∷ []) (header 1 primary primary_at);
        }

    -- ---- a disk on which they stand

    module _ (image : List ℕ) (stand : AreStanding writes (length writes) image) where
      stands : AreStanding listed 4 image
      stands =
          let Stand : List SectorWrite → Type 0 = λ ws. AreStanding ws (length ws) image in
          subst Stand copies.writes_are stand

      array_stands : (backup : Bool) → StandsIn image (write_to (array_written sectors backup) array) → bytes_at image (512 * array_written sectors backup) 16384 ≡ array
      array_stands backup is = ap (λ (n : ℕ). bytes_at image (512 * array_written sectors backup) n) (sym array_long) ∙ is

      header_stands : (w : SectorWrite) (at : ℕ) → w.at ≡ at → length w.bytes ≡ 512 → StandsIn image w → sector image at ≡ w.bytes
      header_stands w at at_is long is =
          ap (λ (k : ℕ). bytes_at image (512 * k) 512) (sym at_is) ∙ ap (λ (n : ℕ). bytes_at image (512 * w.at) n) (sym long) ∙ is

      pub are_written : IsWritten sectors target image
      are_written =
          let d : SectorWrite = primary in
          let PrimaryIs : List ℕ → Type 0 = λ bytes. IsHeaderSector target.disk sectors false copies.sum bytes in
          let BackupIs : List ℕ → Type 0 = λ bytes. IsHeaderSector target.disk sectors true copies.sum bytes in
          record {
            checksum = copies.sum;
            sums = copies.sums;
            primary = subst PrimaryIs (sym (header_stands primary 1 primary_at primary_long (stands 3 d (omega arith)))) copies.is_primary.is_header;
            primary_array = array_stands false (stands 2 d (omega arith));
            backup = subst BackupIs (sym (header_stands backup (sectors - 1) backup_at backup_long (stands 1 d (omega arith)))) copies.is_backup.is_header;
            backup_array = array_stands true (stands 0 d (omega arith));
          }

    -- it is read as the table
    pub read_as : (head first : List ℕ) → length head ≡ 446 → first ≡ protective_bytes head sectors → sectors ≤ 2 ^ 31 → AreWritable sectors entries
        → IsReadWhereWritten target → IsReadAsTable (Gpt target) sectors first writes
    read_as head first long first_is few writable reads image whole zero_is stand =
        let zero : sector image 0 ≡ protective_bytes head sectors = zero_is ∙ first_is in (
          (omega (arith, room), subst IsProtective (sym zero) (is_protective head sectors long)),
          (reads sectors image room (omega (arith, few)) writable (are_written image stand)).is_table,
        )
