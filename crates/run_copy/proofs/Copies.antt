-- What copying piece by piece and transfer by transfer amounts to.
use Rattle.std.proofs.lemmas.Bool.{cases_lt, false≢true}
use Rattle.std.proofs.lemmas.Bool.Decides.{Decides-eqb}
use Rattle.std.proofs.lemmas.List.Elements.{All-cons}
use Rattle.std.proofs.lemmas.List.{get_or_default}
use Rattle.std.proofs.Common.{◌≡◌, ℕ, ◌+◌, ◌-◌, ◌*◌, ◌/◌, ◌<◌, ◌≤◌, min, suc, add-one, List, [], ◌∷◌, length, Bool, true, false, cond, ◌&&◌, ◌==◌, All, arith, refl, ◌∙◌, sym, ap, subst, inl, inr, slice_index_or, AllPairs}
use Rattle.disk_base.specs.Image.{with_bytes, sector, AgreesOutside}
use Rattle.disk_base.specs.Log.{Log}
use Rattle.disk_base.proofs.Images.{agrees_refl, bytes_outside, agrees_with_bytes, length-bytes_at, sector_written, sector_before, sector_behind, sector_of_range}
use Rattle.run_copy.specs.declared.transfer.Transfer.{Transfer}
use Rattle.run_copy.specs.Copies.{all_zero, piece_of, is_left_out, due, IsOutside, pieces_written, IsCopied, AreCopied, WritesAtMost, OnlyWithin, WriteApart}
use Rattle.run_copy.specs.inside.Puts.{put_of, writes_of}

both_of : (a b : Bool) → (a && b) ≡ true → (a ≡ true) × (b ≡ true)
both_of true b is = (refl, is)
both_of false b is = absurd (false≢true is)

-- a piece is all zero where each of its bytes is
pub zero_each : (xs : List ℕ) → all_zero xs ≡ true → All (λ (byte : ℕ). byte ≡ 0) xs
zero_each [] is = λ k d h. absurd (omega arith)
zero_each (x ∷ xs) is = let both = both_of (x == 0) (all_zero xs) is in All-cons (λ (byte : ℕ). byte ≡ 0) x xs ((Decides-eqb x 0).0 both.0) (zero_each xs both.1)

pub zero_list : (xs : List ℕ) → All (λ (byte : ℕ). byte ≡ 0) xs → all_zero xs ≡ true
zero_list [] all = refl
zero_list (x ∷ xs) all = ap (λ b. b && all_zero xs) ((Decides-eqb x 0).1 (all 0 0 (omega arith))) ∙ zero_list xs (λ k d h. all (suc k) d (omega arith))

-- what a loop over the target keeps: the source is only read, so much is done by so few writes, and the target was used as it is said
pub record Goes (reads within_count was_copied few agrees uses stops : Type 0) : Type 0 where
  pub read : reads
  pub bound : within_count
  pub copied : was_copied
  pub writes : few
  pub others : agrees
  pub used : uses
  pub may_leave : stops

-- a piece that was put, or left out, changed nothing outside its range
pub put_outside : (sparse : Bool) (at n : ℕ) (piece image new : List ℕ) → new ≡ put_of sparse at piece image → n ≡ length piece → 512 * at + n ≤ length image
    → AgreesOutside (512 * at) n image new
put_outside sparse at n piece image new is long fits =
    subst (λ (disk : List ℕ). AgreesOutside (512 * at) n image disk) (sym is)
    (elim (sparse && all_zero piece) as (λ b. AgreesOutside (512 * at) n image (cond b image (with_bytes image (512 * at) piece))) [
      | true ↦ agrees_refl (512 * at) n image
      | false ↦ agrees_with_bytes image (512 * at) n piece long fits
    ])

-- nothing is copied yet
pub none_copied : (t : Transfer) (source image : List ℕ) → IsCopied t 0 source image image
none_copied t source image = record { same_length = refl; copied = λ k h. absurd (omega arith); others = λ k h. refl }

-- one more piece: what it put, or left out, is due there
module _ (t : Transfer) (j : ℕ) (source old mid new : List ℕ)
    (so_far : IsCopied t (2048 * j) source old mid)
    (put : new ≡ put_of t.sparse (t.to + 2048 * j) (piece_of source t j) mid)
    (some : 2048 * j < t.count)
    (source_fits : 512 * (t.from + t.count) ≤ length source)
    (target_fits : 512 * (t.to + t.count) ≤ length old) where
  abbrev n : ℕ
  n = min 2048 (t.count - 2048 * j)

  abbrev piece : List ℕ
  piece = piece_of source t j

  long : length piece ≡ 512 * n
  long = length-bytes_at source (512 * (t.from + 2048 * j)) (512 * n) (omega arith)

  fits : 512 * (t.to + 2048 * j) + length piece ≤ length mid
  fits = omega (arith, so_far.same_length, long)

  -- by whether it is left out
  module _ (left_out : Bool) (is : is_left_out source t j ≡ left_out) where
    new_is : new ≡ cond left_out mid (with_bytes mid (512 * (t.to + 2048 * j)) piece)
    new_is = put ∙ ap (λ (b : Bool). cond b mid (with_bytes mid (512 * (t.to + 2048 * j)) piece)) is

  in_piece : (k : ℕ) → 2048 * j ≤ k → k < 2048 * j + n → k / 2048 ≡ j
  in_piece k low high = omega arith

  due_is : (k : ℕ) (left_out : Bool) → is_left_out source t j ≡ left_out → k / 2048 ≡ j
      → due source old t k ≡ cond left_out (sector old (t.to + k)) (sector source (t.from + k))
  due_is k left_out is at =
      ap (λ (i : ℕ). cond (is_left_out source t i) (sector old (t.to + k)) (sector source (t.from + k))) at
      ∙ ap (λ (b : Bool). cond b (sector old (t.to + k)) (sector source (t.from + k))) is

  -- a sector of the piece
  here : (k : ℕ) → 2048 * j ≤ k → k < 2048 * j + n → (left_out : Bool) → is_left_out source t j ≡ left_out → sector new (t.to + k) ≡ due source old t k
  here k low high true is =
      ap (λ (disk : List ℕ). sector disk (t.to + k)) (new_is true is) ∙ so_far.others (t.to + k) (λ above. omega arith) ∙ sym (due_is k true is (in_piece k low high))
  here k low high false is =
      ap (λ (disk : List ℕ). sector disk (t.to + k)) (new_is false is)
      ∙ sector_written mid (t.to + 2048 * j) piece (t.to + k) (k - 2048 * j) (omega arith) (omega (arith, long)) fits
      ∙ sector_of_range source (t.from + 2048 * j) (512 * n) (t.from + k) (k - 2048 * j) (omega arith) (omega arith) (omega arith)
      ∙ sym (due_is k false is (in_piece k low high))

  -- a sector outside of it
  before : (k : ℕ) → k < t.to + 2048 * j → (left_out : Bool) → is_left_out source t j ≡ left_out → sector new k ≡ sector mid k
  before k small true is = ap (λ (disk : List ℕ). sector disk k) (new_is true is)
  before k small false is = ap (λ (disk : List ℕ). sector disk k) (new_is false is) ∙ sector_before mid (t.to + 2048 * j) piece k small fits

  behind : (k : ℕ) → t.to + 2048 * j + n ≤ k → (left_out : Bool) → is_left_out source t j ≡ left_out → sector new k ≡ sector mid k
  behind k far true is = ap (λ (disk : List ℕ). sector disk k) (new_is true is)
  behind k far false is = ap (λ (disk : List ℕ). sector disk k) (new_is false is) ∙ sector_behind mid (t.to + 2048 * j) piece k (omega (arith, long)) fits

  piece_copied : (k : ℕ) → k < 2048 * j + n → sector new (t.to + k) ≡ due source old t k
  piece_copied k small = elim (cases_lt k (2048 * j)) [
    | inl earlier ↦ before (t.to + k) (omega arith) (is_left_out source t j) refl ∙ so_far.copied k earlier
    | inr now ↦ here k now small (is_left_out source t j) refl
  ]

  piece_others : (k : ℕ) → IsOutside t (2048 * j + n) k → sector new k ≡ sector old k
  piece_others k outside = elim (cases_lt k (t.to + 2048 * j)) [
    | inl low ↦ before k low (is_left_out source t j) refl ∙ so_far.others k (λ above. let far = outside above in omega arith)
    | inr high ↦ let far : t.to + (2048 * j + n) ≤ k = outside (omega arith) in
        behind k (omega arith) (is_left_out source t j) refl ∙ so_far.others k (λ above. omega arith)
  ]

  pub piece_more : IsCopied t (2048 * j + n) source old new
  piece_more = record {
    same_length = (put_outside t.sparse (t.to + 2048 * j) (512 * n) piece mid new put (sym long) (omega (arith, long, fits))).same_length ∙ so_far.same_length;
    copied = piece_copied;
    others = piece_others;
  }

-- one more piece takes one write more, or none
pub writes_more : (source : List ℕ) (t : Transfer) (j : ℕ) (old mid new : Log)
    → WritesAtMost (pieces_written source t j) old mid → WritesAtMost (writes_of t.sparse (piece_of source t j)) mid new
    → WritesAtMost (pieces_written source t (j + 1)) old new
writes_more source t j old mid new so_far now = rw add-one (omega arith)

-- what stands for a transfer where there is none
abbrev pub nothing : Transfer
nothing = record { from = 0; to = 0; count = 0; sparse = false }

-- no transfer is made yet
pub no_transfers : (ts : List Transfer) (source image : List ℕ) → AreCopied ts 0 source image image
no_transfers ts source image = record { same_length = refl; copied = λ i d h. absurd (omega arith); others = λ k h. refl }

-- one more transfer, to sectors that none of the earlier ones writes
module _ (ts : List Transfer) (index : ℕ) (e : Transfer) (source old mid new : List ℕ)
    (so_far : AreCopied ts index source old mid)
    (here : IsCopied (slice_index_or ts index e) (slice_index_or ts index e).count source mid new)
    (apart : AllPairs WriteApart ts)
    (within : index < length ts) where
  abbrev t : Transfer
  t = slice_index_or ts index e

  earlier_stays : (i : ℕ) (d : Transfer) → i < index → (k : ℕ) → k < (slice_index_or ts i d).count
      → sector new ((slice_index_or ts i d).to + k) ≡ sector mid ((slice_index_or ts i d).to + k)
  earlier_stays i d low k small =
      let same : slice_index_or ts index d ≡ t = get_or_default ts index d e within in
      let Clear : Transfer → Type 0 = λ x. WriteApart (slice_index_or ts i d) x in
      let clear : WriteApart (slice_index_or ts i d) t = subst Clear same (apart i index d low within) in
      here.others ((slice_index_or ts i d).to + k) (λ above. elim clear [ inl before ↦ absurd (omega arith) | inr behind ↦ omega arith ])

  abbrev WasCopied : Transfer → Type 0
  WasCopied x = (k : ℕ) → k < x.count → sector new (x.to + k) ≡ due source old x k

  -- what is due here is due by the first disk too
  still_due : (k : ℕ) → k < t.count → due source mid t k ≡ due source old t k
  still_due k small = ap (λ (s : List ℕ). cond (is_left_out source t (k / 2048)) s (sector source (t.from + k)))
      (so_far.others (t.to + k) (λ i d low above.
      let same : slice_index_or ts index d ≡ t = get_or_default ts index d e within in
      let Clear : Transfer → Type 0 = λ x. WriteApart (slice_index_or ts i d) x in
      let clear : WriteApart (slice_index_or ts i d) t = subst Clear same (apart i index d low within) in
      elim clear [ inl before ↦ omega arith | inr behind ↦ absurd (omega arith) ]))

  each_copied : (i : ℕ) (d : Transfer) → i < index + 1 → WasCopied (slice_index_or ts i d)
  each_copied i d h = elim (cases_lt i index) [
    | inl low ↦ λ k small. earlier_stays i d low k small ∙ so_far.copied i d low k small
    | inr high ↦
        let at : i ≡ index = omega arith in
        let same : slice_index_or ts i d ≡ t = ap (λ j. slice_index_or ts j d) at ∙ get_or_default ts index d e within in
        subst WasCopied (sym same) (λ k small. here.copied k small ∙ still_due k small)
  ]

  pub transfer_more : AreCopied ts (index + 1) source old new
  transfer_more = record {
    same_length = here.same_length ∙ so_far.same_length;
    copied = each_copied;
    others = λ k outside. here.others k (outside index e (omega arith)) ∙ so_far.others k (λ i d h. outside i d (omega arith));
  }

-- a transfer that was begun changed nothing outside its range
pub begun_outside : (t : Transfer) (old new : List ℕ) → AgreesOutside (512 * t.to) (512 * t.count) old new
    → (k : ℕ) → IsOutside t t.count k → sector new k ≡ sector old k
begun_outside t old new agrees k outside = bytes_outside old new (512 * t.to) (512 * t.count) (512 * k) 512 agrees
    (elim (cases_lt k t.to) [ inl before ↦ inl (omega arith) | inr behind ↦ let far : t.to + t.count ≤ k = outside behind in inr (omega arith) ])

-- transfers that were made, or made and one begun, changed nothing outside of all transfers
pub made_within : (ts : List Transfer) (n : ℕ) (source old new : List ℕ) → n ≤ length ts → AreCopied ts n source old new → OnlyWithin ts old new
made_within ts n source old new some made = record { same_length = made.same_length; others = λ k outside. made.others k (λ i d h. outside i d (omega arith)) }

pub begun_within : (ts : List Transfer) (n : ℕ) (e : Transfer) (old mid new : List ℕ) → n < length ts → OnlyWithin ts old mid
    → AgreesOutside (512 * (slice_index_or ts n e).to) (512 * (slice_index_or ts n e).count) mid new → OnlyWithin ts old new
begun_within ts n e old mid new some made begun = record {
  same_length = begun.same_length ∙ made.same_length;
  others = λ k outside. begun_outside (slice_index_or ts n e) mid new begun k (outside n e some) ∙ made.others k outside;
}

-- what was begun of a transfer changed nothing outside of all transfers
pub run_within : (ts : List Transfer) (n : ℕ) (e : Transfer) (old new : List ℕ) → n < length ts
    → AgreesOutside (512 * (slice_index_or ts n e).to) (512 * (slice_index_or ts n e).count) old new → OnlyWithin ts old new
run_within ts n e old new some begun = record {
  same_length = begun.same_length;
  others = λ k outside. begun_outside (slice_index_or ts n e) old new begun k (outside n e some);
}

pub only_within_on : (ts : List Transfer) (a b c : List ℕ) → OnlyWithin ts a b → OnlyWithin ts b c → OnlyWithin ts a c
only_within_on ts a b c r s = record { same_length = s.same_length ∙ r.same_length; others = λ k outside. s.others k outside ∙ r.others k outside }

pub only_within_here : (ts : List Transfer) (a : List ℕ) → OnlyWithin ts a a
only_within_here ts a = record { same_length = refl; others = λ k outside. refl }

-- agreement outside a range is agreement outside a greater one
pub agrees_wider : (from n at m : ℕ) (old new : List ℕ) → at ≤ from → from + n ≤ at + m → AgreesOutside from n old new → AgreesOutside at m old new
agrees_wider from n at m old new low high agrees =
    record { same_length = agrees.same_length; before = λ i h. agrees.before i (omega arith); after = λ i h. agrees.after i (omega arith) }
