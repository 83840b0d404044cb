-- Writes that are made one after the other.
use Rattle.std.proofs.lemmas.Bool.{cases_lt}
use Rattle.std.proofs.lemmas.List.{get_or_default}
use Rattle.std.proofs.lemmas.List.Elements.{All-get_or}
use Rattle.std.proofs.Common.{◌≡◌, ℕ, ◌+◌, ◌*◌, ◌%◌, ◌<◌, ◌≤◌, List, length, arith, refl, ◌∙◌, sym, ap, subst, inl, inr, slice_index_or, All, AllPairs}
use Rattle.disk_base.specs.Image.{bytes_at, with_bytes, sector, AgreesOutside}
use Rattle.disk_base.proofs.Images.{agrees_with_bytes, bytes_of_write, bytes_outside}
use Rattle.target_work.specs.declared.sector_write.SectorWrite.{SectorWrite}
use Rattle.target_work.specs.Works.{IsBeside, IsWritePlace, StandsIn, WritesLieApart, write_end}
use Rattle.target_work.specs.inside.Phases.{ArePut, OnlyInWrites}

-- what the loop over the writes keeps
pub record Puts (within_count was_put others_stay uses stops : Type 0) : Type 0 where
  pub bound : within_count
  pub put : was_put
  pub within : others_stay
  pub used : uses
  pub may_leave : stops

-- nothing is written yet
pub none_put : (writes : List SectorWrite) (image : List ℕ) → ArePut writes 0 image image
none_put writes image = record { same_length = refl; written = λ i d h. absurd (omega arith); others = λ k h. refl }

-- what was made of them changed nothing beside all writes
pub put_within : (writes : List SectorWrite) (n : ℕ) (old new : List ℕ) → n ≤ length writes → ArePut writes n old new → OnlyInWrites writes old new
put_within writes n old new some made = record { same_length = made.same_length; others = λ k beside. made.others k (λ i d h. beside i d (omega arith)) }

-- a write that was begun changed nothing beside it
pub begun_beside : (write : SectorWrite) (old new : List ℕ) → length write.bytes % 512 ≡ 0 → AgreesOutside (512 * write.at) (length write.bytes) old new
    → (k : ℕ) → IsBeside write k → sector new k ≡ sector old k
begun_beside write old new whole agrees k beside = bytes_outside old new (512 * write.at) (length write.bytes) (512 * k) 512 agrees
    (elim (cases_lt k write.at) [
      | inl before ↦ inl (omega arith)
      | inr behind ↦ let far : write_end write ≤ k = beside behind in inr (omega (arith, whole))
    ])

-- one more write, to sectors that none of the earlier ones wrote
module _ (writes : List SectorWrite) (index : ℕ) (e : SectorWrite) (sectors : ℕ)
    (places : All (IsWritePlace sectors) writes)
    (within : index < length writes) where
  abbrev here : SectorWrite
  here = slice_index_or writes index e

  place : IsWritePlace sectors here
  place = All-get_or (IsWritePlace sectors) writes index e within places

  -- what was begun of it changed nothing beside all writes
  pub write_within : (old new : List ℕ) → AgreesOutside (512 * here.at) (length here.bytes) old new → OnlyInWrites writes old new
  write_within old new agrees = record {
    same_length = agrees.same_length;
    others = λ k beside. begun_beside here old new place.whole agrees k (beside index e within);
  }

  module _ (old mid new : List ℕ)
      (so_far : ArePut writes index old mid)
      (puts : new ≡ with_bytes mid (512 * here.at) here.bytes)
      (long : length old ≡ 512 * sectors)
      (apart : AllPairs WritesLieApart writes) where
    fits : 512 * here.at + length here.bytes ≤ length mid
    fits = let whole = place.whole in let inside = place.inside in let same = so_far.same_length in omega (arith, whole, inside, long, same)

    agrees : AgreesOutside (512 * here.at) (length here.bytes) mid new
    agrees =
        let Agrees : List ℕ → Type 0 = λ image. AgreesOutside (512 * here.at) (length here.bytes) mid image in
        subst Agrees (sym puts) (agrees_with_bytes mid (512 * here.at) (length here.bytes) here.bytes refl fits)

    stands_here : StandsIn new here
    stands_here = ap (λ (image : List ℕ). bytes_at image (512 * here.at) (length here.bytes)) puts
        ∙ bytes_of_write mid (512 * here.at) (length here.bytes) here.bytes refl fits

    earlier_stands : (i : ℕ) (d : SectorWrite) → i < index → StandsIn new (slice_index_or writes i d)
    earlier_stands i d low =
        let same : slice_index_or writes index d ≡ here = get_or_default writes index d e within in
        let Clear : SectorWrite → Type 0 = λ x. WritesLieApart (slice_index_or writes i d) x in
        let clear : WritesLieApart (slice_index_or writes i d) here = subst Clear same (apart i index d low within) in
        let there : IsWritePlace sectors (slice_index_or writes i d) = All-get_or (IsWritePlace sectors) writes i d (omega arith) places in
        let there_whole = there.whole in
        let here_whole = place.whole in
        bytes_outside mid new (512 * here.at) (length here.bytes) (512 * (slice_index_or writes i d).at) (length (slice_index_or writes i d).bytes) agrees
        (elim clear [ inl before ↦ inl (omega (arith, there_whole)) | inr behind ↦ inr (omega (arith, here_whole)) ])
        ∙ so_far.written i d low

    each_stands : (i : ℕ) (d : SectorWrite) → i < index + 1 → StandsIn new (slice_index_or writes i d)
    each_stands i d h = elim (cases_lt i index) [
      | inl low ↦ earlier_stands i d low
      | inr high ↦
          let at : i ≡ index = omega arith in
          let same : slice_index_or writes i d ≡ here = ap (λ j. slice_index_or writes j d) at ∙ get_or_default writes index d e within in
          let Stands : SectorWrite → Type 0 = λ x. StandsIn new x in
          subst Stands (sym same) stands_here
    ]

    pub put_more : ArePut writes (index + 1) old new
    put_more = record {
      same_length = agrees.same_length ∙ so_far.same_length;
      written = each_stands;
      others = λ k beside. begun_beside here mid new place.whole agrees k (beside index e (omega arith)) ∙ so_far.others k (λ i d h. beside i d (omega arith));
    }

-- the same, where the write and its bytes have names of their own
module _ (writes : List SectorWrite) (index : ℕ) (piece : SectorWrite) (bytes : List ℕ) (sectors : ℕ)
    (is : piece ≡ slice_index_or writes index piece)
    (bytes_are : bytes ≡ piece.bytes)
    (places : All (IsWritePlace sectors) writes)
    (within : index < length writes) where
  pub piece_within : (old new : List ℕ) → AgreesOutside (512 * piece.at) (length bytes) old new → OnlyInWrites writes old new
  piece_within old new agrees =
      let Of : List ℕ → Type 0 = λ bs. AgreesOutside (512 * piece.at) (length bs) old new in
      let At : SectorWrite → Type 0 = λ w. AgreesOutside (512 * w.at) (length w.bytes) old new in
      write_within writes index piece sectors places within old new (subst At is (subst Of bytes_are agrees))

  pub piece_more : (old mid new : List ℕ) → ArePut writes index old mid → new ≡ with_bytes mid (512 * piece.at) bytes → length old ≡ 512 * sectors
      → AllPairs WritesLieApart writes → ArePut writes (index + 1) old new
  piece_more old mid new so_far puts long apart =
      let Of : List ℕ → Type 0 = λ bs. new ≡ with_bytes mid (512 * piece.at) bs in
      let At : SectorWrite → Type 0 = λ w. new ≡ with_bytes mid (512 * w.at) w.bytes in
      put_more writes index piece sectors places within old mid new so_far (subst At is (subst Of bytes_are puts)) long apart

pub only_in_writes_on : (writes : List SectorWrite) (a b c : List ℕ) → OnlyInWrites writes a b → OnlyInWrites writes b c → OnlyInWrites writes a c
only_in_writes_on writes a b c r s = record { same_length = s.same_length ∙ r.same_length; others = λ k beside. s.others k beside ∙ r.others k beside }

pub only_in_writes_here : (writes : List SectorWrite) (a : List ℕ) → OnlyInWrites writes a a
only_in_writes_here writes a = record { same_length = refl; others = λ k beside. refl }
