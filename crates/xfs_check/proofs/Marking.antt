-- Lists of marks, none of which is set.
use Rattle.std.proofs.Common.{◌≡◌, ℕ, suc, zero, ◌/◌, ◌%◌, ◌<◌, ◌≤◌, false, List, [], length, map, replicate, inl, inr, refl, ap, ◌∙◌, arith, IsTrue}
use Rattle.std.specs.Prelude.{Bool, slice_index_or}
use Rattle.std.specs.List.{range_with_len}
use Rattle.std.proofs.lemmas.Bool.{and_from, cases_lt, lt-ltb}
use Rattle.std.proofs.lemmas.List.{get_or_past, length-replicate}
use Rattle.std.proofs.lemmas.List.FromFn.{get_or-map-range_with_len, length-map-range_with_len}
use Rattle.xfs_check.specs.inside.Claiming.{admitted_in, claimed_in}
use Rattle.xfs_super.proofs.Lying.{block_has_group}
use Rattle.xfs_super.specs.Geometry.{AreGroups, Geometry, group_len}

abbrev pub group_marks : Geometry → ℕ → List Bool
group_marks geo group = replicate (group_len geo group) false

abbrev pub all_marks : Geometry → ℕ → List (List Bool)
all_marks geo n = map (group_marks geo) (range_with_len 0 n)

none_set : (n b : ℕ) → slice_index_or (replicate n false) b false ≡ false
none_set zero b = refl
none_set (suc n) zero = refl
none_set (suc n) (suc b) = none_set n b

pub none_marked : (geo : Geometry) (n g b : ℕ) → claimed_in (all_marks geo n) g b ≡ false
none_marked geo n g b = elim (cases_lt g n) [
  | inl lt ↦ ap (λ (l : List Bool). slice_index_or l b false) (get_or-map-range_with_len (group_marks geo) 0 n g g [] lt (omega arith)) ∙ none_set (group_len geo g) b
  | inr le ↦
      let long : length (all_marks geo n) ≤ g = omega (arith, le, length-map-range_with_len (group_marks geo) 0 n) in
      ap (λ (l : List Bool). slice_index_or l b false) (get_or_past (all_marks geo n) g [] long)
]

pub all_admitted : (geo : Geometry) (n : ℕ) → AreGroups geo.dblocks geo.agblocks geo.agcount geo.agblklog → n < geo.dblocks → IsTrue (admitted_in (all_marks geo geo.agcount) (n / geo.agblocks) (n % geo.agblocks))
all_admitted geo n groups inside =
    let place = block_has_group geo.dblocks geo.agblocks geo.agcount geo.agblklog n groups inside in
    let g : ℕ = n / geo.agblocks in
    let long : length (all_marks geo geo.agcount) ≡ geo.agcount = length-map-range_with_len (group_marks geo) 0 geo.agcount in
    let here : slice_index_or (all_marks geo geo.agcount) g [] ≡ group_marks geo g = get_or-map-range_with_len (group_marks geo) 0 geo.agcount g g [] place.0 (omega arith) in
    let many : length (slice_index_or (all_marks geo geo.agcount) g []) ≡ group_len geo g = ap (λ (l : List Bool). length l) here ∙ length-replicate (group_len geo g) false in
    let one : g < length (all_marks geo geo.agcount) = omega (arith, long, place.0) in
    let two : n % geo.agblocks < length (slice_index_or (all_marks geo geo.agcount) g []) = omega (arith, many, place.1) in
    and_from _ _ (lt-ltb _ _ one) (lt-ltb _ _ two)
