-- The records of a chain, written one after the other.
use Rattle.std.proofs.Common.{◌≡◌, ℕ, ◌+◌, ◌<◌, List, [], ◌∷◌, ◌++◌, length, slice_index_or, refl, sym, ◌∙◌, ap, inl, inr, arith}
use Rattle.std.proofs.lemmas.Bool.{cases_lt}
use Rattle.std.proofs.lemmas.List.{get_or_append_left, get_or_push, length_push}
use Rattle.std.proofs.lemmas.Option.{get_or_from_slice_get, slice_get_within}
use Rattle.mbr_table.specs.declared.slot.Logical.{Logical}
use Rattle.target_work.specs.declared.sector_write.SectorWrite.{SectorWrite}
use Rattle.target_table.specs.Slots.{AreRecordWrites, no_logical, record_write}

pub record AreRecordsSoFar (base : ℕ) (logicals : List Logical) (n : ℕ) (writes : List SectorWrite) : Type 0 where
  pub as_many : length writes ≡ n
  pub each : (k : ℕ) (d : SectorWrite) → k < n → slice_index_or writes k d ≡ record_write base logicals k (slice_index_or logicals k no_logical)

pub no_records : (base : ℕ) (logicals : List Logical) → AreRecordsSoFar base logicals 0 []
no_records base logicals = record { as_many = refl; each = λ k d h. absurd (omega arith) }

pub one_record_more : (base : ℕ) (logicals : List Logical) (n : ℕ) (writes : List SectorWrite) (write : SectorWrite) → AreRecordsSoFar base logicals n writes
    → write ≡ record_write base logicals n (slice_index_or logicals n no_logical) → AreRecordsSoFar base logicals (n + 1) (writes ++ write ∷ [])
one_record_more base logicals n writes write so_far is = record {
  as_many = omega (arith, length_push writes write, so_far.as_many);
  each = λ k d h. elim (cases_lt k n) [
    | inl low ↦ get_or_append_left writes (write ∷ []) d k (omega (arith, so_far.as_many)) ∙ so_far.each k d low
    | inr high ↦
        let last : k ≡ n = omega arith in
        get_or_push writes write d k (omega (arith, so_far.as_many, last)) ∙ is ∙ ap (λ i. record_write base logicals i (slice_index_or logicals i no_logical)) (sym last)
  ];
}

pub all_records : (base : ℕ) (logicals : List Logical) (n : ℕ) (writes : List SectorWrite) → length logicals ≡ n → AreRecordsSoFar base logicals n writes → AreRecordWrites base logicals writes
all_records base logicals n writes long are = record {
  as_many = omega (arith, long, are.as_many);
  each = λ i logical d here.
      are.each i d (omega (arith, long, slice_get_within logicals i logical here)) ∙ ap (record_write base logicals i) (get_or_from_slice_get logicals i logical no_logical here);
}
