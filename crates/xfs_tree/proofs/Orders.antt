-- The order of records, one after the other.
use Rattle.std.proofs.Common.{◌≡◌, ℕ, ◌+◌, ◌-◌, ◌<◌, ◌≤◌, true, false, List, [], ◌∷◌, ◌++◌, length, get_or, map, ◌⊎◌, inl, inr, sym, ap, ◌∙◌, arith, length-append, append_assoc, drop}
use Rattle.std.specs.List.{range_with_len}
use Rattle.std.proofs.lemmas.Bool.{cases_lt}
use Rattle.std.proofs.lemmas.List.{get_or_append_left, get_or-append-add}
use Rattle.std.proofs.Math.Seq.{get_or-append_seam}
use Rattle.std.proofs.lemmas.List.FromFn.{length-map-range_with_len, get_or-map-range_with_len}
use Rattle.xfs_tree.specs.Form.{Form}
use Rattle.xfs_tree.specs.Block.{count_in, record_at, records_spelt}
use Rattle.xfs_tree.specs.inside.Reading.{IsOutBehind}
use Rattle.xfs_tree.specs.Tree.{AreInOrder, IsBeforeNext}
use Rattle.xfs_tree.proofs.Blocks.{first_of}

in_order_at : {R : Type 0} (form : Form R) (xs : List R) (r : R) (k : ℕ) → AreInOrder form xs → (0 < length xs → (d : R) → form.before (get_or xs (length xs - 1) d) r ≡ true)
    → k + 1 < length (xs ++ r ∷ []) → ((k + 1 < length xs) ⊎ (length xs ≤ k + 1)) → IsBeforeNext form (xs ++ r ∷ []) k
in_order_at form xs r k order last lt (inl inside) =
    λ d.
    ap (λ p. form.before p (get_or (xs ++ r ∷ []) (k + 1) d)) (get_or_append_left xs (r ∷ []) d k (omega arith))
    ∙ ap (λ q. form.before (get_or xs k d) q) (get_or_append_left xs (r ∷ []) d (k + 1) inside)
    ∙ order k inside d
in_order_at {R} form xs r k order last lt (inr end) =
    let is : k + 1 ≡ length xs = omega (arith, length-append xs (r ∷ [])) in
    let before : k ≡ length xs - 1 = omega arith in
    λ d.
    ap (λ p. form.before p (get_or (xs ++ r ∷ []) (k + 1) d)) (get_or_append_left xs (r ∷ []) d k (omega arith) ∙ ap (λ (n : ℕ). get_or xs n d) before)
    ∙ ap (λ q. form.before (get_or xs (length xs - 1) d) q) (ap (λ (n : ℕ). get_or (xs ++ r ∷ []) n d) is ∙ get_or-append_seam xs r [] d)
    ∙ last (omega arith) d

-- one more record that follows the last
pub in_order_more : {R : Type 0} (form : Form R) (xs : List R) (r : R) → AreInOrder form xs → (0 < length xs → (d : R) → form.before (get_or xs (length xs - 1) d) r ≡ true)
    → AreInOrder form (xs ++ r ∷ [])
in_order_more form xs r order last = λ k lt. in_order_at form xs r k order last lt (cases_lt (k + 1) (length xs))

-- record `i` of a leaf that doesn't follow the last one
pub out_behind : {R : Type 0} (form : Form R) (before xs : List R) (bytes : List ℕ) (i : ℕ) (r : R) → i < count_in bytes → r ≡ record_at form bytes i
    → xs ≡ before ++ map (record_at form bytes) (range_with_len 0 i) → 0 < length xs → ((d : R) → form.before (get_or xs (length xs - 1) d) r ≡ false)
    → IsOutBehind form before (before ++ records_spelt form bytes)
out_behind {R} form before xs bytes i r lt is so-far some unordered =
    let f : ℕ → R = record_at form bytes in
    let made : List R = map f (range_with_len 0 i) in
    let rest : List R = drop i (records_spelt form bytes) in
    let long : length xs ≡ length before + i = ap length so-far ∙ length-append before made ∙ ap (λ (n : ℕ). length before + n) (length-map-range_with_len f 0 i) in
    let whole : before ++ records_spelt form bytes ≡ xs ++ rest =
    ap (λ l. before ++ l) (first_of f (count_in bytes) i (omega arith)) ∙ sym (append_assoc before made rest) ∙ ap (λ l. l ++ rest) (sym so-far) in
    let back : length xs - 1 + 1 ≡ length before + i = omega arith in
    let last : (d : R) → get_or (before ++ records_spelt form bytes) (length xs - 1) d ≡ get_or xs (length xs - 1) d =
    λ d. ap (λ l. get_or l (length xs - 1) d) whole ∙ get_or_append_left xs rest d (length xs - 1) (omega arith) in
    let next : (d : R) → get_or (before ++ records_spelt form bytes) (length xs - 1 + 1) d ≡ r =
    λ d. ap (λ (n : ℕ). get_or (before ++ records_spelt form bytes) n d) back ∙ get_or-append-add before (records_spelt form bytes) i d ∙ get_or-map-range_with_len f 0 (count_in bytes) i i d lt (omega arith) ∙ sym is in
    record {
      place = length xs - 1;
      behind = omega arith;
      two = omega (arith, length-append before (records_spelt form bytes), length-map-range_with_len f 0 (count_in bytes));
      unordered = λ d. ap (λ p. form.before p (get_or (before ++ records_spelt form bytes) (length xs - 1 + 1) d)) (last d) ∙ ap (λ q. form.before (get_or xs (length xs - 1) d) q) (next d) ∙ unordered d;
    }
