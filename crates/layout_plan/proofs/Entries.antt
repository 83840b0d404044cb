-- The entries of a full GPT table, by which the tests try the planner.
use Rattle.std.proofs.Common.{◌≡◌, ℕ, ◌+◌, ◌*◌, ◌<◌, ◌≤◌, false, List, [], ◌∷◌, ◌++◌, length, length-append, slice_index_or, refl, ap, inl, inr, arith}
use Rattle.std.proofs.lemmas.Bool.{both_ways, cases_lt}
use Rattle.std.proofs.lemmas.Grind.{common_steps}
use Rattle.layout_plan.specs.declared.part.Kind.TheVariants.{Gpt}
use Rattle.layout_plan.specs.declared.part.Part.{Part}
use Rattle.layout_plan.specs.declared.part.Role.TheVariants.{Slot}
use Rattle.layout_plan.specs.Roles.{is_extended_role, is_logical}
use Rattle.layout_plan.specs.Source.{IsSource}
use Rattle.layout_plan.specs.Tables.{first_number, last_number}

-- the entry at a place
pub record IsEntry (place : ℕ) (part : Part) : Type 0 where
  pub number : part.number ≡ place + 1
  pub slot : part.role ≡ Slot
  pub start : part.start ≡ 2048 * (place + 1)
  pub some : 1 ≤ part.count
  pub few : part.count ≤ 2048

pub record AreEntries (n : ℕ) (parts : List Part) : Type 0 where
  pub as_many : length parts ≡ n
  pub each : (k : ℕ) (d : Part) → k < n → IsEntry k (slice_index_or parts k d)

at_end : (parts : List Part) (one d : Part) (n : ℕ) → length parts ≡ n → slice_index_or (parts ++ one ∷ []) n d ≡ one
at_end parts one d n long = grind (arith, common_steps)

below_end : (parts : List Part) (one d : Part) (n k : ℕ) → length parts ≡ n → k < n → slice_index_or (parts ++ one ∷ []) k d ≡ slice_index_or parts k d
below_end parts one d n k long within = grind (arith, common_steps)

pub entries_more : (n : ℕ) (parts : List Part) (one : Part) → AreEntries n parts → IsEntry n one → AreEntries (n + 1) (parts ++ one ∷ [])
entries_more n parts one done is_one = record {
  as_many = omega (arith, length-append parts (one ∷ []), done.as_many);
  each = λ k d within. elim (cases_lt k n) [
    | inl before ↦
        let same : slice_index_or (parts ++ one ∷ []) k d ≡ slice_index_or parts k d = below_end parts one d n k done.as_many before in
        rw same (done.each k d before)
    | inr here ↦
        let place : k ≡ n = omega arith in
        let last : slice_index_or (parts ++ one ∷ []) n d ≡ one = at_end parts one d n done.as_many in
        rw (place, last) is_one
  ];
}

pub are_source : (n : ℕ) (parts : List Part) → AreEntries n parts → n ≤ 128 → IsSource Gpt parts
are_source n parts are few = record {
  each = λ k d within.
      let is = are.each k d (omega (arith, are.as_many)) in
      let first : first_number (slice_index_or parts k d).role ≡ 1 = rw is.slot refl in
      let last : last_number Gpt (slice_index_or parts k d).role ≡ 128 = rw is.slot refl in
      record {
        numbered = record { from_first = omega (arith, first, is.number); to_last = omega (arith, last, is.number, are.as_many) };
        behind_table = omega (arith, is.start);
        some = is.some;
        named = omega (arith, is.start, is.few, are.as_many);
      };
  by_number = λ i j d before within.
      let low = are.each i d (omega (arith, are.as_many)) in
      let high = are.each j d (omega (arith, are.as_many)) in
      omega (arith, low.number, high.number);
  other_starts = λ i j d before within _ same.
      let low = are.each i d (omega (arith, are.as_many)) in
      let high = are.each j d (omega (arith, are.as_many)) in
      omega (arith, low.start, high.start, same);
  one_extended = λ i j d before within extended.
      let high = are.each j d (omega (arith, are.as_many)) in
      ap is_extended_role high.slot;
  inside = λ k d within logical.
      let is = are.each k d (omega (arith, are.as_many)) in
      let plain : is_logical (slice_index_or parts k d).role ≡ false = ap is_logical is.slot in
      absurd (both_ways _ plain logical);
}
