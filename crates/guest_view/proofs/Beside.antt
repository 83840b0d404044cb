-- The partitions of a table that aren't extended lie apart.
use Rattle.std.proofs.lemmas.Bool.{cases_lt, false≢true}
use Rattle.std.proofs.lemmas.Bool.Decides.{nat_tests}
use Rattle.std.proofs.Common.{◌≡◌, ℕ, ◌+◌, ◌<◌, ◌≤◌, ◌⊎◌, inl, inr, List, length, arith, refl, sym, subst, ◌∙◌, ap, Bool, true, false, ◌||◌, IsTrue, Some, find, All, AllPairs}
use Rattle.disk_base.specs.Run.{AreApart}
use Rattle.layout_plan.specs.declared.part.Kind.{Kind}
use Rattle.layout_plan.specs.declared.part.Role.{Role}
use Rattle.layout_plan.specs.declared.part.Role.TheVariants.{Slot as InSlot, Extended, Logical as InChain}
use Rattle.layout_plan.specs.Roles.{is_extended_role}
use Rattle.mbr_table.specs.declared.slot.Slot.{Slot}
use Rattle.mbr_table.specs.Slot.{holds_extended}
use Rattle.guest_view.specs.declared.partition.Partition.{Partition}
use Rattle.guest_view.specs.Contents.{run_of_partition}
use Rattle.guest_view.specs.inside.Sound.{LieBeside, RunsApart}
use Rattle.guest_view.specs.Partitions.{HasNoClash, clashes_by, holds_sector, meets, no_partition, partition_at}
use Rattle.guest_view.proofs.Sources.{ByRole, IsKnown, StandsIn, pairs_at}

no_meet : (p q : Partition) → (IsTrue (meets p q) → ⊥) → RunsApart p q
no_meet p q none =
    elim (cases_lt p.start (q.start + q.count)) [
      | inl a ↦ elim (cases_lt q.start (p.start + p.count)) [
        | inl b ↦ let both : meets p q ≡ true = grind (arith, a, b, nat_tests) in absurd (none both)
        | inr b ↦ inl b
      ]
      | inr a ↦ inr a
    ]

turn : (p q : Partition) → RunsApart p q → RunsApart q p
turn p q (inl a) = inr a
turn p q (inr a) = inl a

-- what lies apart from a run lies apart from what lies in it
within_other : (p outer q : Partition) → outer.start ≤ q.start → q.start + q.count ≤ outer.start + outer.count → RunsApart p outer → RunsApart p q
within_other p outer q from to (inl a) = inl (omega (arith, a, from))
within_other p outer q from to (inr a) = inr (omega (arith, a, to))

first_of : (a b c : Bool) → ((a || b || c) ≡ true → ⊥) → a ≡ true → ⊥
first_of true b c none is = none is
first_of false b c none is = false≢true is

module _ (kind : Kind) (sectors : ℕ) (slots : List Slot) (ps : List Partition) (known : All (IsKnown kind sectors slots) ps)
    (apart : HasNoClash ps) (stands : (e : Slot) → find holds_extended slots ≡ Some e → StandsIn ps e) where
  -- what is known of two partitions that don't clash, by their roles
  no_clash : (i j : ℕ) (r s : Role) → i < j → j < length ps → (partition_at ps i).role ≡ r → (partition_at ps j).role ≡ s
      → IsTrue (clashes_by r s (partition_at ps i) (partition_at ps j)) → ⊥
  no_clash i j r s low high a b =
      let p = partition_at ps i in
      let q = partition_at ps j in
      subst (λ (x : Role). IsTrue (clashes_by r x p q) → ⊥) b (subst (λ (x : Role). IsTrue (clashes_by x q.role p q) → ⊥) a (apart i j low high))

  -- a slot and the extended one
  beside_extended : (i k : ℕ) → i < length ps → k < length ps → (partition_at ps i).role ≡ InSlot → (partition_at ps k).role ≡ Extended
      → RunsApart (partition_at ps i) (partition_at ps k)
  beside_extended i k i_in k_in a b =
      elim (cases_lt i k) [
        | inl less ↦ no_meet (partition_at ps i) (partition_at ps k) (no_clash i k InSlot Extended less k_in a b)
        | inr more ↦ elim (cases_lt k i) [
          | inl less ↦ turn (partition_at ps k) (partition_at ps i) (no_meet (partition_at ps k) (partition_at ps i) (no_clash k i Extended InSlot less i_in b a))
          | inr other ↦
              let same : i ≡ k = omega (arith, more, other) in
              let roles : InSlot ≡ Extended = sym a ∙ ap (λ (n : ℕ). (partition_at ps n).role) same ∙ b in
              absurd (cc roles)
        ]
      ]

  -- a slot and a logical one, which lies in the extended one
  beside_logical : (i j : ℕ) → i < length ps → j < length ps → (partition_at ps i).role ≡ InSlot → (partition_at ps j).role ≡ InChain
      → RunsApart (partition_at ps i) (partition_at ps j)
  beside_logical i j i_in j_in a b =
      let q = partition_at ps j in
      let by : ByRole slots InChain q = subst (λ (r : Role). ByRole slots r q) b (known j no_partition j_in).by_role in
      let at = stands by.0 by.1 in
      let outer = partition_at ps at.place in
      within_other (partition_at ps i) outer q (omega (arith, at.start, by.2)) (omega (arith, at.start, at.count, by.3))
      (beside_extended i at.place i_in at.within a at.role)

  beside_by : (i j : ℕ) (r s : Role) → i < j → j < length ps → (partition_at ps i).role ≡ r → (partition_at ps j).role ≡ s
      → is_extended_role r ≡ false → is_extended_role s ≡ false → RunsApart (partition_at ps i) (partition_at ps j)
  beside_by i j InSlot InSlot low high a b one other = no_meet (partition_at ps i) (partition_at ps j) (no_clash i j InSlot InSlot low high a b)
  beside_by i j InSlot InChain low high a b one other = beside_logical i j (omega (arith, low, high)) high a b
  beside_by i j InChain InSlot low high a b one other =
      turn (partition_at ps j) (partition_at ps i) (beside_logical j i high (omega (arith, low, high)) b a)
  beside_by i j InChain InChain low high a b one other =
      let p = partition_at ps i in
      let q = partition_at ps j in
      no_meet p q (first_of (meets p q) (holds_sector p q.ebr) (holds_sector q p.ebr) (no_clash i j InChain InChain low high a b))
  beside_by i j Extended s low high a b one other = absurd (false≢true (sym one))
  beside_by i j InSlot Extended low high a b one other = absurd (false≢true (sym other))
  beside_by i j InChain Extended low high a b one other = absurd (false≢true (sym other))

  beside_at : (i j : ℕ) → i < j → j < length ps → LieBeside (partition_at ps i) (partition_at ps j)
  beside_at i j low high one other =
      let p = partition_at ps i in
      let q = partition_at ps j in
      beside_by i j p.role q.role low high refl refl one other

  pub lie_beside : AllPairs LieBeside ps
  lie_beside = pairs_at LieBeside ps beside_at
