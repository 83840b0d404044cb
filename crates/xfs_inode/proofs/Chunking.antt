-- The inodes and the blocks of a chunk lie in its group.
use Rattle.std.proofs.Common.{◌≡◌, ℕ, ◌+◌, ◌*◌, ◌/◌, ◌%◌, ◌^◌, ◌<◌, ◌≤◌, IsTrue, ◌⊎◌, inl, inr, sym, subst, arith}
use Rattle.std.proofs.lemmas.Bool.{cases_lt, leb-true}
use Rattle.std.proofs.lemmas.Nat.{mul-le}
use Rattle.std.proofs.Math.Pow.{pow_mono}
use Rattle.xfs_super.proofs.Lying.{group_lies_inside}
use Rattle.xfs_super.specs.Geometry.{Geometry, blocks_in_group, AreGroups}
use Rattle.xfs_tree.specs.Records.{chunk_inside}

-- the number that a group's inodes count from
pub base_small : (group n : ℕ) → group < 2 ^ 32 → n ≤ 31 → group * 2 ^ n ≤ 2 ^ 63
base_small group n g h =
    let few : 2 ^ n ≤ 2 ^ 31 = pow_mono h in
    let bound : group * 2 ^ n ≤ 2 ^ 32 * 2 ^ 31 = mul-le group (2 ^ n) (2 ^ 32) (2 ^ 31) (omega arith) few in
    omega arith

four : (k : ℕ) → k ≤ 3 → (k ≡ 0) ⊎ ((k ≡ 1) ⊎ ((k ≡ 2) ⊎ (k ≡ 3)))
four k h = elim (cases_lt k 1) [
  | inl a ↦ inl (omega arith)
  | inr a ↦ elim (cases_lt k 2) [
    | inl b ↦ inr (inl (omega arith))
    | inr b ↦ elim (cases_lt k 3) [ inl d ↦ inr (inr (inl (omega arith))) | inr d ↦ inr (inr (inr (omega arith))) ]
  ]
]

abbrev LiesBelow : ℕ → ℕ → ℕ → ℕ → Type 0
LiesBelow start len j k = start % 2 ^ k ≡ 0 → start + 64 ≤ len * 2 ^ k → j < 64 / 2 ^ k → start / 2 ^ k + j < len

below_one : (start len j : ℕ) → LiesBelow start len j 0
below_one start len j a b c = omega arith

below_two : (start len j : ℕ) → LiesBelow start len j 1
below_two start len j a b c = omega arith

below_four : (start len j : ℕ) → LiesBelow start len j 2
below_four start len j a b c = omega arith

below_eight : (start len j : ℕ) → LiesBelow start len j 3
below_eight start len j a b c = omega arith

lies_below : (start len j k : ℕ) → k ≤ 3 → LiesBelow start len j k
lies_below start len j k few = elim (four k few) [
  | inl zero_is ↦ subst (LiesBelow start len j) (sym zero_is) (below_one start len j)
  | inr more ↦ elim more [
    | inl one_is ↦ subst (LiesBelow start len j) (sym one_is) (below_two start len j)
    | inr larger ↦ elim larger [
      | inl two_is ↦ subst (LiesBelow start len j) (sym two_is) (below_four start len j)
      | inr three_is ↦ subst (LiesBelow start len j) (sym three_is) (below_eight start len j)
    ]
  ]
]

pub block_of_chunk : (geo : Geometry) (group start j : ℕ) → AreGroups geo.dblocks geo.agblocks geo.agcount geo.agblklog → group < geo.agcount → geo.inopblog ≤ 3 → IsTrue (chunk_inside geo group start) → start % 2 ^ geo.inopblog ≡ 0 → j < 64 / 2 ^ geo.inopblog
    → group * geo.agblocks + start / 2 ^ geo.inopblog + j + 1 ≤ geo.dblocks
block_of_chunk geo group start j g inside few lies aligned lt =
    let len : ℕ = blocks_in_group geo.dblocks geo.agblocks group in
    let whole : group * geo.agblocks + len ≤ geo.dblocks = group_lies_inside geo.dblocks geo.agblocks geo.agcount geo.agblklog group g inside in
    let ends : start + 64 ≤ len * 2 ^ geo.inopblog = leb-true (start + 64) (len * 2 ^ geo.inopblog) lies in
    let below : start / 2 ^ geo.inopblog + j < len = lies_below start len j geo.inopblog few aligned ends lt in
    omega arith
