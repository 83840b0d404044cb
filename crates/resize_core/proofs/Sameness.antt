-- What is copied is read on the target as on the source.
use Rattle.std.proofs.lemmas.Bool.Decides.{Decides-eqb}
use Rattle.std.proofs.lemmas.Grind.{same_number_lists}
use Rattle.std.proofs.lemmas.List.{get_or-map, get_or_default, length-map}
use Rattle.std.proofs.Common.{◌≡◌, ℕ, ◌+◌, ◌-◌, ◌*◌, ◌/◌, ◌<◌, ◌≤◌, ◌⊎◌, inl, inr, ◌&&◌, List, length, min, arith, refl, ◌∙◌, sym, ap, subst, Bool, true, false, IsTrue, if◌then◌else◌, ◌==◌, slice_index, slice_index_or, None, Some}
use Rattle.disk_base.specs.Image.{bytes_at, sector, sectors_of}
use Rattle.disk_base.proofs.Images.{byte_of_range, length-bytes_at}
use Rattle.guest_view.specs.declared.guest.GuestPart.{GuestPart}
use Rattle.guest_view.specs.declared.table.Table.{Table}
use Rattle.guest_view.specs.Guests.{GuestView, IsGuest, kind_of}
use Rattle.guest_view.specs.Contents.{planned_part}
use Rattle.guest_view.specs.Laws.{part_bytes}
use Rattle.guest_view.proofs.Staying.{contents_are_found, contents_stay, share_of}
use Rattle.layout_plan.specs.declared.part.Part.{Part}
use Rattle.layout_plan.specs.declared.part.Placed.{Placed}
use Rattle.layout_plan.specs.declared.wish.Wish.{Wish}
use Rattle.layout_plan.specs.Plans.{Plan}
use Rattle.layout_plan.specs.Wishes.{is_gone, settled}
use Rattle.layout_plan.proofs.Named.{finds, stays}
use Rattle.layout_plan.proofs.Settled.{gone_stays}
use Rattle.run_copy.specs.declared.transfer.Transfer.{Transfer}
use Rattle.run_copy.specs.Copies.{IsBetween, all_zero, due, is_left_out, piece_of}
use Rattle.run_copy.proofs.Copies.{zero_each}
use Rattle.target_table.specs.Planned.{HasSameName, KeepsNames, parts_to_plan}
use Rattle.target_work.specs.Works.{IsDone, Work}
use Rattle.words.specs.declared.job.ResizeJob.{ResizeJob}
use Rattle.resize_core.specs.Contents.{boot_end, boot_transfers, content_transfer, content_transfers, is_copied, placed_from, transfer_to}
use Rattle.resize_core.specs.Same.{IsNotLost, KeepsPart, KeepsZeros, ReadsSame}
use Rattle.resize_core.specs.inside.Deciding.{IsMade, IsPlannedFor}
use Rattle.resize_core.proofs.Carriable.{nowhere}
use Rattle.resize_core.proofs.Volumes.{AreSameRanges, volumes_keep}
use Rattle.resize_core.proofs.Gathered.{IsAmong, among_append, among_gathered, found_at}

-- a byte of a sector of zeros, and of a sector in a piece of zeros
zero_byte : (image : List ℕ) (k i : ℕ) → all_zero image ≡ true → i < 512 → 512 * k + 512 ≤ length image → slice_index (sector image k) i ≡ 0
zero_byte image k i zero small fits =
    byte_of_range image (512 * k) 512 i (512 * k + i) refl small ∙ zero_each image zero (512 * k + i) 0 (omega (arith, small, fits))

zero_in_piece : (source : List ℕ) (t : Transfer) (k i : ℕ) → all_zero (piece_of source t (k / 2048)) ≡ true → k < t.count → i < 512
    → 512 * (t.from + t.count) ≤ length source → slice_index (sector source (t.from + k)) i ≡ 0
zero_in_piece source t k i zero within small fits =
    let j : ℕ = k / 2048 in
    let n : ℕ = 512 * min 2048 (t.count - 2048 * j) in
    let p : ℕ = 512 * (k - 2048 * j) + i in
    let low : 2048 * j ≤ k = omega arith in
    let high : k < 2048 * j + 2048 = omega arith in
    let inside : p < n = omega (arith, within, small, low, high) in
    let long : length (bytes_at source (512 * (t.from + 2048 * j)) n) ≡ n = length-bytes_at source (512 * (t.from + 2048 * j)) n (omega (arith, within, fits, low)) in
    byte_of_range source (512 * (t.from + k)) 512 i (512 * (t.from + k) + i) refl small
    ∙ sym (byte_of_range source (512 * (t.from + 2048 * j)) n p (512 * (t.from + k) + i) (omega (arith, low)) inside)
    ∙ zero_each (piece_of source t j) zero p 0 (omega (arith, inside, long))

both_true : (a b : Bool) → (a && b) ≡ true → (a ≡ true) × (b ≡ true)
both_true true b is = (refl, is)
both_true false b is = absurd (cc is)

-- what is due of a content is what the source has
module _ (source old : List ℕ) (t : Transfer) (k : ℕ) (within : k < t.count) (on_source : 512 * (t.from + t.count) ≤ length source)
    (on_target : 512 * (t.to + t.count) ≤ length old) where
  zeros_are : all_zero old ≡ true → all_zero (piece_of source t (k / 2048)) ≡ true → sector old (t.to + k) ≡ sector source (t.from + k)
  zeros_are blank zero =
      let long : length (sector old (t.to + k)) ≡ 512 = length-bytes_at old (512 * (t.to + k)) 512 (omega (arith, within, on_target)) in
      let other : length (sector source (t.from + k)) ≡ 512 = length-bytes_at source (512 * (t.from + k)) 512 (omega (arith, within, on_source)) in
      same_number_lists _ _ (long ∙ sym other) (λ i h.
      zero_byte old (t.to + k) i blank (omega (arith, h, long)) (omega (arith, within, on_target))
      ∙ sym (zero_in_piece source t k i zero within (omega (arith, h, long)) on_source))

  due_by : (t.sparse ≡ false) ⊎ IsTrue (all_zero old) → (left : Bool) → is_left_out source t (k / 2048) ≡ left
      → (if left then sector old (t.to + k) else sector source (t.from + k)) ≡ sector source (t.from + k)
  due_by keeps false is = refl
  due_by keeps true is =
      let both = both_true t.sparse (all_zero (piece_of source t (k / 2048))) is in
      elim keeps [ inl written ↦ absurd (cc (written, both.0)) | inr blank ↦ zeros_are blank both.1 ]

  due_is : (t.sparse ≡ false) ⊎ IsTrue (all_zero old) → due source old t k ≡ sector source (t.from + k)
  due_is keeps = due_by keeps (is_left_out source t (k / 2048)) refl

module _ (job : ResizeJob) (guest : GuestView) (plan : Plan) (table' : Table) (head source old new : List ℕ) (work : Work)
    (planned : IsPlannedFor job guest (sectors_of old) plan) (made : IsMade job guest plan head (sectors_of old) work)
    (of_source : guest.sectors ≡ sectors_of source) (names : KeepsNames guest.table table' plan) (done : IsDone work source old new) (keeps : KeepsZeros job old)
    (is_guest : IsGuest (sectors_of source) source guest) where
  -- where they are
  between_is : (part : GuestPart) (placed : Placed) → IsAmong work.transfers (content_transfer job.sparse part placed)
      → IsBetween guest.sectors (sectors_of old) (content_transfer job.sparse part placed)
  between_is part placed among =
      let t : Transfer = content_transfer job.sparse part placed in
      let at : slice_index_or work.transfers among.place t ≡ t = among.is t in
      let Between : Transfer → Type 0 = λ one. IsBetween guest.sectors (sectors_of old) one in
      subst Between at (made.between among.place t among.within)

  -- the sectors of a content
  content_is : (part : GuestPart) (placed : Placed) → IsAmong work.transfers (content_transfer job.sparse part placed)
      → (k : ℕ) → k < min part.count placed.count → sector new (placed.start + k) ≡ sector source (part.start + k)
  content_is part placed among k within =
      let t : Transfer = content_transfer job.sparse part placed in
      let at : slice_index_or work.transfers among.place t ≡ t = among.is t in
      let small : k < t.count = within in
      let between : IsBetween guest.sectors (sectors_of old) t = between_is part placed among in
      let on_source : 512 * (t.from + t.count) ≤ length source = omega (arith, between.source, of_source) in
      let on_target : 512 * (t.to + t.count) ≤ length old = omega (arith, between.target) in
      let Copied : Transfer → Type 0 = λ one. (i : ℕ) → i < one.count → sector new (one.to + i) ≡ due source old one i in
      subst Copied at (done.copied among.place t among.within) k small ∙ due_is source old t k small on_source on_target keeps

  -- what is copied of a part is among all that is
  among_is : (k : ℕ) (d : GuestPart) → k < length guest.parts → (placed : Placed) → placed_from plan (slice_index_or guest.parts k d).number ≡ Some placed
      → is_copied placed.fate ≡ true → IsAmong work.transfers (content_transfer job.sparse (slice_index_or guest.parts k d) placed)
  among_is k d within placed found copied =
      let part : GuestPart = slice_index_or guest.parts k d in
      let t : Transfer = content_transfer job.sparse part placed in
      let gives : transfer_to job.sparse part (placed_from plan part.number) ≡ Some t = ap (λ o. transfer_to job.sparse part o) found ∙ ap (λ b. if b then Some t else None) copied in
      let among = among_gathered (λ (one : GuestPart). transfer_to job.sparse one (placed_from plan one.number)) guest.parts k d t within gives in
      let all = among_append (content_transfers job.sparse plan guest.parts) (boot_transfers job.boot (kind_of guest.table) (boot_end (kind_of guest.table) guest.parts plan)) t among in
      let Among : List Transfer → Type 0 = λ ts. IsAmong ts t in
      subst Among (sym made.transfers) all

  ranges : AreSameRanges plan source new guest.parts
  ranges k d within placed found copied =
      let part : GuestPart = slice_index_or guest.parts k d in
      let there = among_is k d within placed found copied in
      let between = between_is part placed there in
      record {
        on_source = omega (arith, between.source, of_source);
        on_new = omega (arith, between.target, done.same_length);
        sectors = content_is part placed there;
      }

  part_same : (k : ℕ) (d : GuestPart) → k < length guest.parts → KeepsPart guest.table table' plan source new (slice_index_or guest.parts k d)
  part_same k d within = λ placed found copied uncut.
      let part : GuestPart = slice_index_or guest.parts k d in
      let at = found_at (λ (one : Placed). one.from == part.number) plan.parts placed found in
      let from : placed.from ≡ part.number = (Decides-eqb placed.from part.number).0 at.passes in
      let Name : Placed → Type 0 = λ one. HasSameName guest.table table' one.from one.number in
      let named : HasSameName guest.table table' placed.from placed.number = subst Name (at.is nowhere) (names at.place nowhere at.within) in
      let From : ℕ → Type 0 = λ n. HasSameName guest.table table' n placed.number in
      let range = ranges k d within placed found copied in
      record {
        name = subst From from named;
        content = range.sectors;
        stays = contents_stay part.content part.count placed.count (part_bytes source part) (bytes_at new (512 * placed.start) (512 * placed.count))
            (contents_are_found (sectors_of source) source guest is_guest k d within) uncut
            (share_of source new part.start part.count placed.start placed.count range.on_source range.on_new range.sectors);
      }

  -- what isn't gone is placed
  placed_some : (k : ℕ) (d : GuestPart) → k < length guest.parts → IsNotLost job.wishes guest plan (slice_index_or guest.parts k d)
  placed_some k d within = λ stands.
      let part : GuestPart = slice_index_or guest.parts k d in
      let parts : List Part = parts_to_plan guest in
      let is_plan = planned.is_plan in
      let wishes : List Wish = settled is_plan.sectors job.wishes in
      let gone : is_gone wishes parts (planned_part part) ≡ false = gone_stays is_plan.sectors job.wishes parts (planned_part part) ∙ stands in
      let there = stays wishes parts (planned_part part) (k, omega (arith, within, length-map guest.parts planned_part), get_or-map planned_part guest.parts k d (planned_part part) within) gone in
      let many = is_plan.placed.as_many in
      let in_plan : there.0 < length plan.parts = omega (arith, there.1, many) in
      let each = is_plan.placed.each there.0 (planned_part part) nowhere in_plan in
      let from : (slice_index_or plan.parts there.0 nowhere).from ≡ part.number = each.from ∙ ap (λ (one : Part). one.number) there.2 in
      let placed : Placed = slice_index_or plan.parts there.0 nowhere in
      finds (λ (one : Placed). one.from == part.number) plan.parts placed (there.0, in_plan, get_or_default plan.parts there.0 placed nowhere in_plan) ((Decides-eqb placed.from part.number).1 from)

  pub reads_same : ReadsSame job.wishes guest plan table' source new
  reads_same = record { each = part_same; volumes = volumes_keep plan source new (sectors_of source) guest is_guest ranges; none_lost = placed_some }
