-- One partition behind another: it takes sectors behind it, at one place alone, which rises with what is before it.
use Rattle.std.proofs.Common.{◌≡◌, ◌≢◌, ℕ, ◌+◌, ◌*◌, ◌<◌, ◌≤◌, ◌==◌, true, false, if◌then◌else◌, refl, sym, ◌∙◌, ap, subst, arith}
use Rattle.std.proofs.lemmas.Bool.{ne_eqb}
use Rattle.layout_plan.specs.declared.line.Spot.{Spot}
use Rattle.layout_plan.specs.declared.part.Role.{Role}
use Rattle.layout_plan.specs.declared.part.Role.TheVariants.{Slot, Extended, Logical}
use Rattle.layout_plan.specs.Alignment.{IsNext}
use Rattle.layout_plan.specs.Layouts.{IsRecordPlace, Stands, StandsBehind, StandsFirst, end_from}
use Rattle.layout_plan.specs.Roles.{is_logical}
use Rattle.layout_plan.proofs.Next.{next_rises, next_unique, some_next}

-- the first sector that a spot takes: that of its boot record, where it has one
abbrev pub first_sector : Spot → ℕ
first_sector spot = if spot.ebr == 0 then spot.start else spot.ebr

-- the spot of a partition of that role and length takes sectors from behind on
pub record IsPast (behind : ℕ) (role : Role) (count : ℕ) (spot : Spot) : Type 0 where
  pub from : behind ≤ first_sector spot
  pub to : first_sector spot ≤ spot.start
  pub record_before : spot.ebr < spot.start
  pub no_record : is_logical role ≡ false → spot.ebr ≡ 0
  pub some_record : is_logical role ≡ true → spot.ebr ≢ 0
  pub ends : spot.end ≡ end_from role count spot.start

-- a spot without a boot record
bare_past : (behind : ℕ) (role : Role) (count : ℕ) (spot : Spot) → 1 ≤ behind → is_logical role ≡ false → spot.ebr ≡ 0 → behind ≤ spot.start
    → spot.end ≡ end_from role count spot.start → IsPast behind role count spot
bare_past behind role count spot some plain none after ends =
    let first : first_sector spot ≡ spot.start = rw none in
    record {
      from = omega arith;
      to = omega arith;
      record_before = omega arith;
      no_record = λ _. none;
      some_record = λ logical. absurd (cc (plain, logical));
      ends = ends;
    }

record_past : (align : ℕ) (before : Role) (behind ebr : ℕ) → IsRecordPlace align before behind ebr → behind ≤ ebr
record_past align Slot behind ebr place = place.above
record_past align Extended behind ebr place = omega arith
record_past align Logical behind ebr place = place.above

pub stands_past : (align : ℕ) (before : Role) (behind : ℕ) (role : Role) (count : ℕ) (spot : Spot) → 1 ≤ behind → Stands align before behind role count spot → IsPast behind role count spot
stands_past align before behind Slot count spot some x = bare_past behind Slot count spot some refl x.no_record x.starts.above x.ends
stands_past align before behind Extended count spot some x = bare_past behind Extended count spot some refl x.no_record x.starts.above x.ends
stands_past align before behind Logical count spot some x =
    let after = record_past align before behind spot.ebr x.record_place in
    let next : spot.ebr + 1 ≤ spot.start = x.starts.above in
    let other : spot.ebr ≢ 0 = omega arith in
    let first : first_sector spot ≡ spot.ebr = rw (ne_eqb spot.ebr 0 other) in
    record {
      from = omega arith;
      to = omega arith;
      record_before = omega arith;
      no_record = λ plain. absurd (cc plain);
      some_record = λ _. other;
      ends = x.ends;
    }

-- the first one takes sectors from begin on
pub first_past : (begin : ℕ) (role : Role) (count : ℕ) (spot : Spot) → 1 ≤ begin → is_logical role ≡ false → StandsFirst begin role count spot → IsPast begin role count spot
first_past begin role count spot some plain x = bare_past begin role count spot some plain x.no_record (omega (arith, x.starts)) x.ends

abbrev spot_by : ℕ → ℕ → ℕ → Spot
spot_by ebr start end = record { ebr = ebr; start = start; end = end }

pub same_spot : (p q : Spot) → p.ebr ≡ q.ebr → p.start ≡ q.start → p.end ≡ q.end → p ≡ q
same_spot p q a b c =
    let made : spot_by p.ebr p.start p.end ≡ spot_by q.ebr q.start q.end = rw (a, b, c) in made

one_bare : (align behind : ℕ) (role : Role) (count : ℕ) (p q : Spot) → StandsBehind align behind role count p → StandsBehind align behind role count q → p ≡ q
one_bare align behind role count p q x y =
    let starts : p.start ≡ q.start = next_unique align behind p.start q.start x.starts y.starts in
    same_spot p q (x.no_record ∙ sym y.no_record) starts (x.ends ∙ ap (end_from role count) starts ∙ sym y.ends)

one_record : (align : ℕ) (before : Role) (behind a b : ℕ) → IsRecordPlace align before behind a → IsRecordPlace align before behind b → a ≡ b
one_record align Slot behind a b x y = next_unique align behind a b x y
one_record align Extended behind a b x y = x ∙ sym y
one_record align Logical behind a b x y = next_unique align behind a b x y

pub one_stand : (align : ℕ) (before : Role) (behind : ℕ) (role : Role) (count : ℕ) (p q : Spot) → Stands align before behind role count p → Stands align before behind role count q → p ≡ q
one_stand align before behind Slot count p q x y = one_bare align behind Slot count p q x y
one_stand align before behind Extended count p q x y = one_bare align behind Extended count p q x y
one_stand align before behind Logical count p q x y =
    let records : p.ebr ≡ q.ebr = one_record align before behind p.ebr q.ebr x.record_place y.record_place in
    let Next : ℕ → Type 0 = λ ebr. IsNext align (ebr + 1) p.start in
    let starts : p.start ≡ q.start = next_unique align (q.ebr + 1) p.start q.start (subst Next records x.starts) y.starts in
    same_spot p q records starts (x.ends ∙ ap (λ (start : ℕ). start + count) starts ∙ sym y.ends)

pub one_first : (begin : ℕ) (role : Role) (count : ℕ) (p q : Spot) → StandsFirst begin role count p → StandsFirst begin role count q → p ≡ q
one_first begin role count p q x y =
    let starts : p.start ≡ q.start = x.starts ∙ sym y.starts in
    same_spot p q (x.no_record ∙ sym y.no_record) starts (x.ends ∙ ap (end_from role count) starts ∙ sym y.ends)

some_bare : (align behind : ℕ) (role : Role) (count : ℕ) → 0 < align → (spot : Spot) × StandsBehind align behind role count spot
some_bare align behind role count some =
    let next = some_next align behind some in
    (spot_by 0 next.0 (end_from role count next.0), record { no_record = refl; starts = next.1; ends = refl })

some_record : (align : ℕ) (before : Role) (behind : ℕ) → 0 < align → (ebr : ℕ) × IsRecordPlace align before behind ebr
some_record align Slot behind some = some_next align behind some
some_record align Extended behind some = (behind, refl)
some_record align Logical behind some = some_next align behind some

pub some_stand : (align : ℕ) (before : Role) (behind : ℕ) (role : Role) (count : ℕ) → 0 < align → (spot : Spot) × Stands align before behind role count spot
some_stand align before behind Slot count some = some_bare align behind Slot count some
some_stand align before behind Extended count some = some_bare align behind Extended count some
some_stand align before behind Logical count some =
    let place = some_record align before behind some in
    let next = some_next align (place.0 + 1) some in
    (spot_by place.0 next.0 (next.0 + count), record { record_place = place.1; starts = next.1; ends = refl })

pub some_first : (begin : ℕ) (role : Role) (count : ℕ) → (spot : Spot) × StandsFirst begin role count spot
some_first begin role count = (spot_by 0 begin (end_from role count begin), record { no_record = refl; starts = refl; ends = refl })

end_rises : (role : Role) (a b c d : ℕ) → a ≤ b → c ≤ d → end_from role a c ≤ end_from role b d
end_rises Slot a b c d x y = omega arith
end_rises Extended a b c d x y = omega arith
end_rises Logical a b c d x y = omega arith

record_rises : (align : ℕ) (before : Role) (m n a b : ℕ) → m ≤ n → IsRecordPlace align before m a → IsRecordPlace align before n b → a ≤ b
record_rises align Slot m n a b less x y = next_rises align m n a b less x y
record_rises align Extended m n a b less x y = omega arith
record_rises align Logical m n a b less x y = next_rises align m n a b less x y

-- the further on what is before it ends, and the longer it is, the further on it ends
pub stand_rises : (align : ℕ) (before : Role) (m n : ℕ) (role : Role) (low high : ℕ) (p q : Spot) → m ≤ n → low ≤ high
    → Stands align before m role low p → Stands align before n role high q → p.end ≤ q.end
stand_rises align before m n Slot low high p q less longer x y =
    let start = next_rises align m n p.start q.start less x.starts y.starts in
    omega (arith, x.ends, y.ends)
stand_rises align before m n Extended low high p q less longer x y =
    let start = next_rises align m n p.start q.start less x.starts y.starts in
    omega (arith, x.ends, y.ends)
stand_rises align before m n Logical low high p q less longer x y =
    let places = record_rises align before m n p.ebr q.ebr less x.record_place y.record_place in
    let start = next_rises align (p.ebr + 1) (q.ebr + 1) p.start q.start (omega arith) x.starts y.starts in
    omega (arith, x.ends, y.ends)

pub first_rises : (begin : ℕ) (role : Role) (low high : ℕ) (p q : Spot) → low ≤ high → StandsFirst begin role low p → StandsFirst begin role high q → p.end ≤ q.end
first_rises begin role low high p q longer x y = omega (arith, x.ends, y.ends, end_rises role low high p.start q.start longer (omega (arith, x.starts, y.starts)))

record_near : (align : ℕ) (before : Role) (behind ebr : ℕ) → IsRecordPlace align before behind ebr → 0 < align → ebr < behind + align
record_near align Slot behind ebr x some = x.least
record_near align Extended behind ebr x some = omega arith
record_near align Logical behind ebr x some = x.least

-- it ends not far behind
pub stand_near : (align : ℕ) (before : Role) (behind : ℕ) (role : Role) (count : ℕ) (spot : Spot) → 0 < align → Stands align before behind role count spot
    → spot.end < behind + (2 * align + count + 1)
stand_near align before behind Slot count spot some x = omega (arith, x.starts.least, x.ends)
stand_near align before behind Extended count spot some x = omega (arith, x.starts.least, x.ends)
stand_near align before behind Logical count spot some x = omega (arith, x.starts.least, x.ends, record_near align before behind spot.ebr x.record_place some)

pub first_near : (begin : ℕ) (role : Role) (count : ℕ) (spot : Spot) → StandsFirst begin role count spot → spot.end ≤ begin + count
first_near begin Slot count spot x = omega (arith, x.starts, x.ends)
first_near begin Extended count spot x = omega (arith, x.starts, x.ends)
first_near begin Logical count spot x = omega (arith, x.starts, x.ends)
