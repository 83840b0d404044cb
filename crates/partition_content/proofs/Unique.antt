-- A partition holds one thing: reading an area passes one test after the other, and each fault stands where it stops.
use Rattle.std.proofs.Common.{◌≡◌, ◌≢◌, ℕ, zero, suc, ◌<◌, ◌≤◌, ◌⊎◌, List, Option, None, Some, inl, inr, refl, sym, ap, subst, ◌∙◌, arith}
use Rattle.std.proofs.lemmas.Bool.{cases_lt}
use Rattle.disk_base.specs.Image.{bytes_at}
use Rattle.lvm_group.specs.declared.fault.GroupFault.TheVariants.{Members}
use Rattle.lvm_label.proofs.Labels.{one_label}
use Rattle.lvm_label.proofs.Rings.{ring_or_fault}
use Rattle.lvm_label.specs.Ring.{HasRingFault, HasRingFaultBy, IsAreaHeader, IsAreaPlaced, IsRing, IsRingBy, IsTextIgnored, IsTextPlaced, IsTextSound, NamesNoText, RingArea, area_header, place_of_area}
use Rattle.lvm_label.specs.declared.fault.RingFault.{RingFault}
use Rattle.lvm_label.specs.declared.fault.RingFault.TheVariants as faults
use Rattle.lvm_label.specs.declared.label.Label.{Label}
use Rattle.volume_content.proofs.Alike.{is_alike}
use Rattle.volume_content.specs.Laws.{IsAlike}
use Rattle.volume_content.specs.declared.content.Inner.{Inner}
use Rattle.volume_content.specs.declared.content.Inner.TheVariants.{Unread}
use Rattle.volume_content.specs.declared.content.Why.{Why}
use Rattle.volume_content.specs.declared.content.Why.TheVariants as why
use Rattle.partition_content.specs.Found.{HasLabel, HasOneText, HasOtherText, IsAreaUnread, IsFoundIn, IsPhysicalUnread, IsSecondRing, IsSecondUnread, IsUnreadWith, why_of_ring}
use Rattle.partition_content.specs.Laws.{IsAlikeFound, OneFind}
use Rattle.partition_content.specs.declared.found.Found.{Found}
use Rattle.partition_content.specs.declared.found.Found.TheVariants as found
use Rattle.partition_content.specs.declared.found.Physical.{Physical}

-- ---- an area

module _ (sectors : ℕ) (image : List ℕ) (start length : ℕ) where
  abbrev header : List ℕ
  header = area_header image start

  -- the tests in their order
  abbrev Step : ℕ → Type 0
  Step zero = IsAreaPlaced sectors start length
  Step (suc zero) = IsAreaHeader start length header
  Step (suc (suc zero)) = IsTextIgnored header → ⊥
  Step (suc (suc (suc zero))) = NamesNoText header → ⊥
  Step (suc (suc (suc (suc zero)))) = IsTextPlaced length header
  Step (suc (suc (suc (suc (suc zero))))) = IsTextSound header (bytes_at image start length)
  Step (suc (suc (suc (suc (suc (suc n)))))) = ⊥

  abbrev PassedArea : ℕ → Type 0
  PassedArea zero = Unit {0}
  PassedArea (suc k) = PassedArea k × Step k

  abbrev fault_at : ℕ → RingFault
  fault_at zero = faults.Place
  fault_at (suc zero) = faults.Header
  fault_at (suc (suc zero)) = faults.Ignored
  fault_at (suc (suc (suc zero))) = faults.Empty
  fault_at (suc (suc (suc (suc zero)))) = faults.Place
  fault_at (suc (suc (suc (suc (suc n))))) = faults.Checksum

  record StopsArea (fault : RingFault) : Type 0 where
    pub stage : ℕ
    pub passed : PassedArea stage
    pub ends : Step stage → ⊥
    pub is_fault : fault ≡ fault_at stage

  stop_area : (fault : RingFault) → (fault ≡ faults.Device → ⊥) → (fault ≡ faults.Memory → ⊥) → HasRingFault sectors image start length fault → StopsArea fault
  stop_area faults.Place d m (inl out) = record { stage = 0; passed = tt; ends = out; is_fault = refl }
  stop_area faults.Place d m (inr has) = record { stage = 4; passed = ((((tt, has.0), has.1.0), has.1.1), has.1.2); ends = has.1.3; is_fault = refl }
  stop_area faults.Header d m has = record { stage = 1; passed = (tt, has.0); ends = has.1; is_fault = refl }
  stop_area faults.Ignored d m has = record { stage = 2; passed = ((tt, has.0), has.1.0); ends = λ not. not has.1.1; is_fault = refl }
  stop_area faults.Empty d m has = record { stage = 3; passed = (((tt, has.0), has.1.0), has.1.1); ends = λ not. not has.1.2; is_fault = refl }
  stop_area faults.Checksum d m has = record {
    stage = 5;
    passed = (((((tt, has.placed), has.names.is_header), has.names.not_ignored), has.names.not_empty), has.names.placed);
    ends = has.unsound;
    is_fault = refl;
  }
  stop_area faults.Device d m has = absurd (d refl)
  stop_area faults.Memory d m has = absurd (m refl)

  below : (m k : ℕ) → k ≤ m → PassedArea m → PassedArea k
  below zero k low passed =
      let none : zero ≡ k = omega (arith, low) in
      subst PassedArea none passed
  below (suc m) k low passed =
      elim (cases_lt k (suc m)) [
        | inl before ↦ below m k (omega (arith, before)) passed.0
        | inr here ↦
            let same : suc m ≡ k = omega (arith, low, here) in
            subst PassedArea same passed
      ]

  one_stage : (j k : ℕ) → PassedArea j → (Step j → ⊥) → PassedArea k → (Step k → ⊥) → j ≡ k
  one_stage j k passed ends passed' ends' =
      elim (cases_lt j k) [
        | inl before ↦
            let more : PassedArea (suc j) = below k (suc j) (omega (arith, before)) passed' in
            absurd (ends more.1)
        | inr not_before ↦ elim (cases_lt k j) [
          | inl before ↦
              let more : PassedArea (suc k) = below j (suc k) (omega (arith, before)) passed in
              absurd (ends' more.1)
          | inr not_behind ↦ omega (arith, not_before, not_behind)
        ]
      ]

  one_fault : (a b : RingFault) → (a ≡ faults.Device → ⊥) → (a ≡ faults.Memory → ⊥) → (b ≡ faults.Device → ⊥) → (b ≡ faults.Memory → ⊥)
      → HasRingFault sectors image start length a → HasRingFault sectors image start length b → a ≡ b
  one_fault a b a-device a-memory b-device b-memory a-has b-has =
      let s : StopsArea a = stop_area a a-device a-memory a-has in
      let t : StopsArea b = stop_area b b-device b-memory b-has in
      s.is_fault ∙ ap fault_at (one_stage s.stage t.stage s.passed s.ends t.passed t.ends) ∙ sym t.is_fault

-- ---- a physical volume

module _ (sectors : ℕ) (image : List ℕ) (label : Label) where
  one_ring : (area : ℕ) (a b : RingArea) → IsRingBy sectors image label area a → IsRingBy sectors image label area b → a ≡ b
  one_ring area a b is is' = is.ring_is ∙ sym is'.ring_is

  one_cause : (area : ℕ) (a b : Why) → IsAreaUnread sectors image label area a → IsAreaUnread sectors image label area b → a ≡ b
  one_cause area a b is is' =
      is.cause_is
      ∙ ap why_of_ring (one_fault sectors image (place_of_area label area).0 (place_of_area label area).1 is.fault is'.fault is.known.0 is.known.1 is'.known.0 is'.known.1 is.has is'.has)
      ∙ sym is'.cause_is

  no_cause : (area : ℕ) (ring : RingArea) (cause : Why) → IsRingBy sectors image label area ring → IsAreaUnread sectors image label area cause → ⊥
  no_cause area ring cause is un = ring_or_fault sectors image (place_of_area label area).0 (place_of_area label area).1 ring un.fault un.known.0 un.known.1 is un.has

  one_second_cause : (a b : Why) → IsSecondUnread sectors image label a → IsSecondUnread sectors image label b → a ≡ b
  one_second_cause a b p q = elim p.second [
    | inl u ↦ elim q.second [ inl v ↦ one_cause 1 a b u v | inr v ↦ let other = v.0 in absurd (no_cause 1 other.ring a other.is_ring u) ]
    | inr u ↦ elim q.second [ inl v ↦ let other = u.0 in absurd (no_cause 1 other.ring b other.is_ring v) | inr v ↦ u.1 ∙ sym v.1 ]
  ]

  one_physical_cause : (a b : Why) → IsPhysicalUnread sectors image label a → IsPhysicalUnread sectors image label b → a ≡ b
  one_physical_cause a b (inl p) (inl q) = p.1 ∙ sym q.1
  one_physical_cause a b (inl p) (inr q) = absurd (p.0 q.0)
  one_physical_cause a b (inr p) (inl q) = absurd (q.0 p.0)
  one_physical_cause a b (inr p) (inr q) = elim p.1 [
    | inl u ↦ elim q.1 [ inl v ↦ one_cause 0 a b u v | inr v ↦ absurd (no_cause 0 v.first a v.is_ring u) ]
    | inr u ↦ elim q.1 [ inl v ↦ absurd (no_cause 0 u.first b u.is_ring v) | inr v ↦ one_second_cause a b u v ]
  ]

  no_second_cause : (first : RingArea) (second : Option RingArea) (cause : Why) → IsRingBy sectors image label 0 first → IsSecondRing sectors image label first second
      → IsSecondUnread sectors image label cause → ⊥
  no_second_cause first None cause is_first is un = omega (arith, is, un.two)
  no_second_cause first (Some ring) cause is_first is un = elim un.second [
    | inl u ↦ no_cause 1 ring cause is.is_ring u
    | inr v ↦
        let other = v.0 in
        other.differs (
        ap (λ (r : RingArea). r.text) (one_ring 1 other.ring ring other.is_ring is.is_ring)
        ∙ is.same
        ∙ sym (ap (λ (r : RingArea). r.text) (one_ring 0 un.first first un.is_ring is_first))
        )
  ]

  no_physical_cause : (physical : Physical) (cause : Why) → HasOneText sectors image label physical → IsPhysicalUnread sectors image label cause → ⊥
  no_physical_cause physical cause is (inl p) = p.0 is.few
  no_physical_cause physical cause is (inr p) = elim p.1 [
    | inl u ↦ no_cause 0 physical.first cause is.first u
    | inr u ↦ no_second_cause physical.first physical.second cause is.first is.second u
  ]

  one_second : (first first' : RingArea) (a b : Option RingArea) → IsSecondRing sectors image label first a → IsSecondRing sectors image label first' b → a ≡ b
  one_second first first' None None is is' = refl
  one_second first first' None (Some ring) is is' = absurd (omega (arith, is, is'.two))
  one_second first first' (Some ring) None is is' = absurd (omega (arith, is.two, is'))
  one_second first first' (Some ring) (Some ring') is is' = ap Some (one_ring 1 ring ring' is.is_ring is'.is_ring)

  one_physical : (a b : Physical) → HasOneText sectors image label a → HasOneText sectors image label b → a ≡ b
  one_physical a b is is' =
      let made : Label → RingArea → Option RingArea → Physical = λ l f s. record { label = l; first = f; second = s } in
      ap (λ (l : Label). made l a.first a.second) (is.label_is ∙ sym is'.label_is)
      ∙ ap (λ (f : RingArea). made b.label f a.second) (one_ring 0 a.first b.first is.first is'.first)
      ∙ ap (made b.label b.first) (one_second a.first b.first a.second b.second is.second is'.second)

-- ---- what is found

same_label : (sectors : ℕ) (image : List ℕ) (a b : Option Label) → HasLabel sectors image a → HasLabel sectors image b → a ≡ b
same_label sectors image None None is is' = refl
same_label sectors image None (Some label) is is' = one_label (bytes_at image 0 2048) None (Some label) (is is'.0) is'.1
same_label sectors image (Some label) None is is' = one_label (bytes_at image 0 2048) (Some label) None is.1 (is' is.0)
same_label sectors image (Some label) (Some label') is is' = one_label (bytes_at image 0 2048) (Some label) (Some label') is.1 is'.1

some_is : (a b : Label) → Some a ≡ Some b → a ≡ b
some_is a b is = cc is

label_or_none : (sectors : ℕ) (image : List ℕ) (label : Label) → HasLabel sectors image None → HasLabel sectors image (Some label) → ⊥
label_or_none sectors image label none is = cc (same_label sectors image None (Some label) none is)

physical_unread : (sectors : ℕ) (image : List ℕ) (physical : Physical) (inner : Inner) → HasLabel sectors image (Some physical.label) → HasOneText sectors image physical.label physical
    → IsUnreadWith sectors image inner → ⊥
physical_unread sectors image physical inner labelled is un =
    let same : un.label ≡ physical.label = some_is un.label physical.label (same_label sectors image (Some un.label) (Some physical.label) un.labelled labelled) in
    no_physical_cause sectors image physical.label physical un.cause is (subst (λ (l : Label). IsPhysicalUnread sectors image l un.cause) same un.unread)

alike_self : (cause : Why) → IsAlike (Unread cause) (Unread cause)
alike_self why.Other = refl
alike_self why.NoGroup = refl
alike_self (why.Xfs reason) = tt
alike_self why.Swap = refl
alike_self (why.Ring fault) = refl
alike_self (why.Text fault) = refl
alike_self (why.Group fault) = refl

unread_alike : (one other : Why) → other ≡ one → IsAlike (Unread one) (Unread other)
unread_alike one other same = subst (λ (w : Why). IsAlike (Unread one) (Unread w)) (sym same) (alike_self one)

both_unread : (sectors : ℕ) (image : List ℕ) (one other : Inner) → IsUnreadWith sectors image one → IsUnreadWith sectors image other → IsAlike one other
both_unread sectors image one other is is' =
    let same : is'.label ≡ is.label = some_is is'.label is.label (same_label sectors image (Some is'.label) (Some is.label) is'.labelled is.labelled) in
    let cause : is'.cause ≡ is.cause =
    one_physical_cause sectors image is.label is'.cause is.cause (subst (λ (l : Label). IsPhysicalUnread sectors image l is'.cause) same is'.unread) is.unread in
    subst (λ (i : Inner). IsAlike i other) (sym is.inner_is)
    (subst (λ (i : Inner). IsAlike (Unread is.cause) i) (sym is'.inner_is) (unread_alike is.cause is'.cause cause))

pub one_find : OneFind
one_find sectors image (found.Physical a) (found.Physical b) is is' =
    let same : b.label ≡ a.label = some_is b.label a.label (same_label sectors image (Some b.label) (Some a.label) is'.0 is.0) in
    ap found.Physical (one_physical sectors image a.label b a (subst (λ (l : Label). HasOneText sectors image l b) same is'.1) is.1)
one_find sectors image (found.Physical a) (found.Inner inner) is (inl alone) = absurd (label_or_none sectors image a.label alone.0 is.0)
one_find sectors image (found.Physical a) (found.Inner inner) is (inr un) = absurd (physical_unread sectors image a inner is.0 is.1 un)
one_find sectors image (found.Inner inner) (found.Physical b) (inl alone) is' = absurd (label_or_none sectors image b.label alone.0 is'.0)
one_find sectors image (found.Inner inner) (found.Physical b) (inr un) is' = absurd (physical_unread sectors image b inner is'.0 is'.1 un)
one_find sectors image (found.Inner one) (found.Inner other) (inl alone) (inl alone') = is_alike sectors image one other alone.1 alone'.1
one_find sectors image (found.Inner one) (found.Inner other) (inl alone) (inr un) = absurd (label_or_none sectors image un.label alone.0 un.labelled)
one_find sectors image (found.Inner one) (found.Inner other) (inr un) (inl alone) = absurd (label_or_none sectors image un.label alone.0 un.labelled)
one_find sectors image (found.Inner one) (found.Inner other) (inr un) (inr un') = both_unread sectors image one other un un'
