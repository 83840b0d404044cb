-- The partitions of a sound table are those of a source that a plan can take.
use Rattle.std.proofs.lemmas.Bool.{false≢true}
use Rattle.std.proofs.lemmas.Bool.Decides.{nat_tests}
use Rattle.std.proofs.lemmas.List.{get_or_default}
use Rattle.std.proofs.lemmas.List.Elements.{All-map, All-weaker}
use Rattle.std.proofs.Common.{◌≡◌, ◌≢◌, ℕ, zero, suc, ◌+◌, ◌^◌, ◌<◌, ◌≤◌, List, [], ◌∷◌, length, map, arith, refl, sym, subst, ◌∙◌, ap, Bool, true, false, ◌&&◌, ◌||◌, nat_lt, IsTrue, slice_index_or, Some, find, All, AllPairs}
use Rattle.layout_plan.specs.declared.part.Kind.{Kind}
use Rattle.layout_plan.specs.declared.part.Part.{Part}
use Rattle.layout_plan.specs.declared.part.Role.{Role}
use Rattle.layout_plan.specs.declared.part.Role.TheVariants.{Slot as InSlot, Extended, Logical as InChain}
use Rattle.layout_plan.specs.Roles.{is_extended_role, is_logical}
use Rattle.layout_plan.specs.Source.{IsPart, IsSource, StartApart, opens_before}
use Rattle.layout_plan.specs.Tables.{HasNumber, floor_of}
use Rattle.mbr_table.specs.declared.slot.Slot.{Slot}
use Rattle.mbr_table.specs.Slot.{holds_extended}
use Rattle.guest_view.specs.declared.partition.Partition.{Partition}
use Rattle.guest_view.specs.inside.Sound.{Rises}
use Rattle.guest_view.specs.Partitions.{HasNoClash, clashes_by, meets, no_partition, partition_at}
use Rattle.guest_view.proofs.Named.{pairs_map}

-- what is known by the role: where the extended slot starts, and that logical ones lie in it, behind its start
abbrev pub ByRole : List Slot → Role → Partition → Type 0
ByRole slots InSlot p = Unit {0}
ByRole slots Extended p = (e : Slot) × (find holds_extended slots ≡ Some e) × (p.start ≡ e.start)
ByRole slots InChain p = (e : Slot) × (find holds_extended slots ≡ Some e) × (e.start < p.start) × (p.start + p.count ≤ e.start + e.count)

-- what is known of a partition of a sound table; a GPT has no slots
pub record IsKnown (kind : Kind) (sectors : ℕ) (slots : List Slot) (p : Partition) : Type 0 where
  pub numbered : HasNumber kind p.role p.number
  pub behind : floor_of kind ≤ p.start
  pub some : 1 ≤ p.count
  pub ends : p.start + p.count ≤ sectors
  pub by_role : ByRole slots p.role p

-- a partition as a plan takes it, whatever it holds
abbrev pub bare : Partition → Part
bare p = record { number = p.number; role = p.role; start = p.start; count = p.count; content = p.count }

-- two that don't clash start apart where one is extended
meets_at_start : (p q : Partition) → p.start ≡ q.start → 1 ≤ p.count → 1 ≤ q.count → meets p q ≡ true
meets_at_start p q same p_some q_some =
    let a : p.start < q.start + q.count = omega (arith, same) in
    let b : q.start < p.start + p.count = omega (arith, same) in
    grind (arith, a, b, nat_tests)

apart_by : (slots : List Slot) (r s : Role) (p q : Partition) → ByRole slots r p → ByRole slots s q → 1 ≤ p.count → 1 ≤ q.count
    → (IsTrue (clashes_by r s p q) → ⊥) → (is_extended_role r || is_extended_role s) ≡ true → p.start ≢ q.start
apart_by slots InSlot InSlot p q a b p_some q_some none is = λ same. false≢true is
apart_by slots InSlot InChain p q a b p_some q_some none is = λ same. false≢true is
apart_by slots InChain InSlot p q a b p_some q_some none is = λ same. false≢true is
apart_by slots InChain InChain p q a b p_some q_some none is = λ same. false≢true is
apart_by slots InSlot Extended p q a b p_some q_some none is = λ same. none (meets_at_start p q same p_some q_some)
apart_by slots Extended InSlot p q a b p_some q_some none is = λ same. none (meets_at_start p q same p_some q_some)
apart_by slots Extended Extended p q a b p_some q_some none is = λ same. none (meets_at_start p q same p_some q_some)
apart_by slots Extended InChain p q a b p_some q_some none is = λ same.
    let one : a.0 ≡ b.0 = let e : Some a.0 ≡ Some b.0 = sym a.1 ∙ b.1 in cc in
    let starts : a.0.start ≡ b.0.start = ap (λ (e : Slot). e.start) one in
    omega (arith, same, starts, a.2, b.2)
apart_by slots InChain Extended p q a b p_some q_some none is = λ same.
    let one : a.0 ≡ b.0 = let e : Some a.0 ≡ Some b.0 = sym a.1 ∙ b.1 in cc in
    let starts : a.0.start ≡ b.0.start = ap (λ (e : Slot). e.start) one in
    omega (arith, same, starts, a.2, b.2)

one_by : (slots : List Slot) (r s : Role) (p q : Partition) → ByRole slots r p → ByRole slots s q → 1 ≤ p.count → 1 ≤ q.count
    → (IsTrue (clashes_by r s p q) → ⊥) → is_extended_role r ≡ true → is_extended_role s ≡ false
one_by slots r InSlot p q a b p_some q_some none is = refl
one_by slots r InChain p q a b p_some q_some none is = refl
one_by slots InSlot Extended p q a b p_some q_some none is = absurd (false≢true is)
one_by slots InChain Extended p q a b p_some q_some none is = absurd (false≢true is)
one_by slots Extended Extended p q a b p_some q_some none is =
    let one : a.0 ≡ b.0 = let e : Some a.0 ≡ Some b.0 = sym a.1 ∙ b.1 in cc in
    let starts : a.0.start ≡ b.0.start = ap (λ (e : Slot). e.start) one in
    let same : p.start ≡ q.start = omega (arith, starts, a.2, b.2) in
    absurd (none (meets_at_start p q same p_some q_some))

-- an extended partition of a list opens before each sector behind its start
or_later : (b c : Bool) → c ≡ true → (b || c) ≡ true
or_later true c is = refl
or_later false c is = is

opens : (ps : List Partition) (sector k : ℕ) → k < length ps → (is_extended_role (partition_at ps k).role && nat_lt (partition_at ps k).start sector) ≡ true
    → opens_before (map bare ps) sector ≡ true
opens [] sector k lt is = absurd (omega arith)
opens (p ∷ ps) sector zero lt is = ap (λ b. b || opens_before (map bare ps) sector) is
opens (p ∷ ps) sector (suc k) lt is = or_later (is_extended_role p.role && nat_lt p.start sector) (opens_before (map bare ps) sector) (opens ps sector k (omega arith) is)

-- where the extended partition of the slots stands in a list
pub record StandsIn (ps : List Partition) (extended : Slot) : Type 0 where
  pub place : ℕ
  pub within : place < length ps
  pub role : (partition_at ps place).role ≡ Extended
  pub start : (partition_at ps place).start ≡ extended.start
  pub count : (partition_at ps place).count ≡ extended.count

opens_with : (ps : List Partition) (e : Slot) (sector : ℕ) → StandsIn ps e → e.start < sector → opens_before (map bare ps) sector ≡ true
opens_with ps e sector at lt =
    let role : is_extended_role (partition_at ps at.place).role ≡ true = ap is_extended_role at.role in
    let before : (partition_at ps at.place).start < sector = omega (arith, at.start, lt) in
    let test : nat_lt (partition_at ps at.place).start sector ≡ true = grind (arith, before, nat_tests) in
    opens ps sector at.place at.within (ap (λ b. b && nat_lt (partition_at ps at.place).start sector) role ∙ test)

inside_by : (slots : List Slot) (ps : List Partition) (r : Role) (p : Partition) → ((e : Slot) → find holds_extended slots ≡ Some e → StandsIn ps e) → ByRole slots r p
    → is_logical r ≡ true → opens_before (map bare ps) p.start ≡ true
inside_by slots ps InSlot p stands by is = absurd (false≢true is)
inside_by slots ps Extended p stands by is = absurd (false≢true is)
inside_by slots ps InChain p stands by is = opens_with ps by.0 p.start (stands by.0 by.1) by.2

-- the pair at two places, by any default
pub pairs_at : (R : Partition → Partition → Type 0) (ps : List Partition) → ((i j : ℕ) → i < j → j < length ps → R (partition_at ps i) (partition_at ps j)) → AllPairs R ps
pairs_at R ps h i j d low high =
    let one : slice_index_or ps i no_partition ≡ slice_index_or ps i d = get_or_default ps i no_partition d (omega (arith, low, high)) in
    let other : slice_index_or ps j no_partition ≡ slice_index_or ps j d = get_or_default ps j no_partition d high in
    let First : Partition → Type 0 = λ p. R p (slice_index_or ps j d) in
    let Second : Partition → Type 0 = λ q. R (slice_index_or ps i no_partition) q in
    subst First one (subst Second other (h i j low high))

module _ (kind : Kind) (sectors : ℕ) (slots : List Slot) (ps : List Partition) (few : sectors ≤ 2 ^ 31) (known : All (IsKnown kind sectors slots) ps)
    (rising : AllPairs Rises ps) (apart : HasNoClash ps) (stands : (e : Slot) → find holds_extended slots ≡ Some e → StandsIn ps e) where
  is_part : (p : Partition) → IsKnown kind sectors slots p → IsPart kind (bare p)
  is_part p is = record { numbered = is.numbered; behind_table = is.behind; some = is.some; named = omega (arith, is.ends, few) }

  known_at : (k : ℕ) → k < length ps → IsKnown kind sectors slots (partition_at ps k)
  known_at k lt = known k no_partition lt

  start_apart : (i j : ℕ) → i < j → j < length ps → StartApart (bare (partition_at ps i)) (bare (partition_at ps j))
  start_apart i j low high is =
      let one = known_at i (omega (arith, low, high)) in
      let other = known_at j high in
      apart_by slots (partition_at ps i).role (partition_at ps j).role (partition_at ps i) (partition_at ps j) one.by_role other.by_role one.some other.some (apart i j low high) is

  one_extended : (i j : ℕ) → i < j → j < length ps → is_extended_role (partition_at ps i).role ≡ true → is_extended_role (partition_at ps j).role ≡ false
  one_extended i j low high is =
      let one = known_at i (omega (arith, low, high)) in
      let other = known_at j high in
      one_by slots (partition_at ps i).role (partition_at ps j).role (partition_at ps i) (partition_at ps j) one.by_role other.by_role one.some other.some (apart i j low high) is

  abbrev pub PairOf : (Part → Part → Type 0) → Partition → Partition → Type 0
  PairOf R p q = R (bare p) (bare q)

  twice : (R : Part → Part → Type 0) → AllPairs (PairOf R) ps → AllPairs R (map bare ps)
  twice R h = pairs_map R bare ps h

  once : (P : Part → Type 0) → All (λ p. P (bare p)) ps → All P (map bare ps)
  once P h = All-map P bare ps h

  pub is_source : IsSource kind (map bare ps)
  is_source = record {
    each = once (IsPart kind) (All-weaker (IsKnown kind sectors slots) (λ p. IsPart kind (bare p)) is_part ps known);
    by_number = twice (λ (before after : Part). before.number < after.number) rising;
    other_starts = twice StartApart (pairs_at (PairOf StartApart) ps start_apart);
    one_extended =
        twice (λ (one other : Part). is_extended_role one.role ≡ true → is_extended_role other.role ≡ false)
        (pairs_at (PairOf (λ (one other : Part). is_extended_role one.role ≡ true → is_extended_role other.role ≡ false)) ps one_extended);
    inside =
        once (λ (part : Part). is_logical part.role ≡ true → opens_before (map bare ps) part.start ≡ true)
        (All-weaker (IsKnown kind sectors slots) (λ p. is_logical p.role ≡ true → opens_before (map bare ps) p.start ≡ true)
        (λ p is. inside_by slots ps p.role p stands is.by_role) ps known);
  }
