-- The physical volumes of a group by number, and the partitions that were found for them.
use Rattle.std.proofs.Common.{◌≡◌, ℕ, zero, suc, ◌+◌, ◌*◌, ◌<◌, ◌≤◌, Bool, true, false, List, [], ◌∷◌, ◌++◌, length, refl, sym, ap, subst, ◌∙◌, arith, slice_index_or}
use Rattle.std.specs.Prelude.{Option, Some, None, if◌then◌else◌, ◌&&◌, ◌||◌, not, ◌==◌, nat_le, Contains, cond, ◌≢◌, All, AllPairs, slice_get}
use Rattle.std.specs.List.{list_all, count_by}
use Rattle.std.specs.Str.{bytes_eq}
use Rattle.std.proofs.lemmas.Bool.{and_parts, eq-eqb, eqb-true, leb-true, ne_eqb}
use Rattle.std.proofs.lemmas.Slice.Eq.{bytes_eq-Decides}
use Rattle.std.proofs.lemmas.List.Elements.{All-contains, Contains-append_right}
use Rattle.std.proofs.lemmas.List.Sums.{AllPass-from_list_all, sum_by-cons}
use Rattle.lvm_group.specs.declared.types.Member.{Member}
use Rattle.lvm_group.specs.declared.types.PhysicalVolume.{PhysicalVolume}
use Rattle.lvm_group.specs.Judged.{all_fit, extents_from, fits, is_found, is_of}
use Rattle.lvm_group.specs.Order.{found_for, in_order, with_found}
use Rattle.lvm_group.specs.Volumes.{device_sectors, start_from}

pub no_volume : PhysicalVolume
no_volume = record { name = []; id = []; size = 0; start = 0; count = 0 }

pub slice_get_inside : (ps : List PhysicalVolume) (k : ℕ) (d : PhysicalVolume) → k < length ps → slice_get ps k ≡ Some (slice_index_or ps k d)
slice_get_inside [] k d inside = absurd (omega (arith, inside))
slice_get_inside (p ∷ ps) zero d inside = refl
slice_get_inside (p ∷ ps) (suc k) d inside = slice_get_inside ps k d (omega (arith, inside))

pub extents_at : (ps : List PhysicalVolume) (n m k : ℕ) (d : PhysicalVolume) → m ≡ n + k → k < length ps → extents_from n m ps ≡ (slice_index_or ps k d).count
extents_at [] n m k d is inside = absurd (omega (arith, inside))
extents_at (p ∷ ps) n m zero d is inside = ap (λ (b : Bool). if b then p.count else extents_from (suc n) m ps) (eq-eqb n m (omega (arith, is)))
extents_at (p ∷ ps) n m (suc k) d is inside =
    ap (λ (b : Bool). if b then p.count else extents_from (suc n) m ps) (ne_eqb n m (λ (e : n ≡ m). omega (arith, is, e))) ∙ extents_at ps (suc n) m k d (omega (arith, is)) (omega (arith, inside))

pub extents_past : (ps : List PhysicalVolume) (n m k : ℕ) → m ≡ n + k → length ps ≤ k → extents_from n m ps ≡ 0
extents_past [] n m k is past = refl
extents_past (p ∷ ps) n m zero is past = absurd (omega (arith, past))
extents_past (p ∷ ps) n m (suc k) is past =
    ap (λ (b : Bool). if b then p.count else extents_from (suc n) m ps) (ne_eqb n m (λ (e : n ≡ m). omega (arith, is, e))) ∙ extents_past ps (suc n) m k (omega (arith, is)) (omega (arith, past))

pub start_at : (ps : List PhysicalVolume) (n m k : ℕ) (d : PhysicalVolume) → m ≡ n + k → k < length ps → start_from n m ps ≡ (slice_index_or ps k d).start
start_at [] n m k d is inside = absurd (omega (arith, inside))
start_at (p ∷ ps) n m zero d is inside = ap (λ (b : Bool). if b then p.start else start_from (suc n) m ps) (eq-eqb n m (omega (arith, is)))
start_at (p ∷ ps) n m (suc k) d is inside =
    ap (λ (b : Bool). if b then p.start else start_from (suc n) m ps) (ne_eqb n m (λ (e : n ≡ m). omega (arith, is, e))) ∙ start_at ps (suc n) m k d (omega (arith, is)) (omega (arith, inside))

-- ---- what was found for them

-- the partition of a physical volume
pub record IsFoundFor (ms : List Member) (p : PhysicalVolume) (m : Member) : Type 0 where
  pub own : is_of p m ≡ true
  pub among : Contains ms m

record Finds (ms : List Member) (p : PhysicalVolume) : Type 0 where
  member : Member
  found : found_for p ms ≡ Some member
  is_found_for : IsFoundFor ms p member

finds : (p : PhysicalVolume) (ms : List Member) → 0 < count_by (λ m. is_of p m) ms → Finds ms p
finds p [] some = absurd (omega (arith, some))
finds p (m ∷ ms) some = by (is_of p m) refl (finds p ms) (subst (λ (n : ℕ). 0 < n) (sum_by-cons (λ (x : Member). cond (is_of p x) 1 0) m ms) some)
  where
    by : (b : Bool) → is_of p m ≡ b → (0 < count_by (λ m. is_of p m) ms → Finds ms p) → 0 < cond b 1 0 + count_by (λ m. is_of p m) ms → Finds (m ∷ ms) p
    by true is ih some = record {
      member = m;
      found = ap (λ (b : Bool). if b then Some m else found_for p ms) is;
      is_found_for = record { own = is; among = (0, omega arith, refl) };
    }
    by false is ih some =
        let later : Finds ms p = ih (omega (arith, some)) in
        record {
          member = later.member;
          found = ap (λ (b : Bool). if b then Some m else found_for p ms) is ∙ later.found;
          is_found_for = record { own = later.is_found_for.own; among = Contains-append_right (m ∷ []) ms later.member later.is_found_for.among };
        }

count_found : (ps : List PhysicalVolume) (ms : List Member) (p : PhysicalVolume) → is_found ps ms p ≡ true → 0 < count_by (λ m. is_of p m) ms
unfolding is_found
count_found ps ms p is =
    omega (arith, eqb-true (count_by (λ m. is_of p m) ms) 1 (and_parts (count_by (λ m. is_of p m) ms == 1) (count_by (λ q. bytes_eq q.id p.id) ps == 1) is).0)

-- each physical volume has the partition at its place
pub record AreAligned (ms : List Member) (ps : List PhysicalVolume) (found : List Member) : Type 0 where
  pub long : length found ≡ length ps
  pub each : (k : ℕ) (p : PhysicalVolume) (m : Member) → k < length ps → IsFoundFor ms (slice_index_or ps k p) (slice_index_or found k m)

pub aligned : (ms : List Member) (ps qs : List PhysicalVolume) → list_all (is_found ps ms) qs ≡ true → AreAligned ms qs (in_order ms qs)
aligned ms ps [] all = record { long = refl; each = λ k p m inside. absurd (omega (arith, inside)) }
aligned ms ps (q ∷ qs) all =
    let here : Finds ms q = finds q ms (count_found ps ms q (and_parts (is_found ps ms q) (list_all (is_found ps ms) qs) all).0) in
    let later : AreAligned ms qs (in_order ms qs) = aligned ms ps qs (and_parts (is_found ps ms q) (list_all (is_found ps ms) qs) all).1 in
    subst (AreAligned ms (q ∷ qs)) (ap (λ (o : Option Member). with_found o (in_order ms qs)) (sym here.found)) (first here later)
  where
    first : (here : Finds ms q) → AreAligned ms qs (in_order ms qs) → AreAligned ms (q ∷ qs) (here.member ∷ in_order ms qs)
    first here later = record { long = ap suc later.long; each = each }
      where
        each : (k : ℕ) (p : PhysicalVolume) (m : Member) → k < length (q ∷ qs) → IsFoundFor ms (slice_index_or (q ∷ qs) k p) (slice_index_or (here.member ∷ in_order ms qs) k m)
        each zero p m inside = here.is_found_for
        each (suc k) p m inside = later.each k p m (omega (arith, inside))

-- where a physical volume was found, its extents end within the partition
-- what a physical volume has fits the partition that was found for it
fits_both : (ms : List Member) (extent : ℕ) (p : PhysicalVolume) (m : Member) → IsFoundFor ms p m → list_all (fits extent p) ms ≡ true
    → (p.size ≤ m.sectors) × (p.start + p.count * extent ≤ m.sectors)
fits_both ms extent p m is fit =
    let one : fits extent p m ≡ true = All-contains (λ (x : Member). fits extent p x ≡ true) ms m (AllPass-from_list_all (fits extent p) ms fit) is.among in
    let known : (not true || nat_le p.size m.sectors && nat_le (p.start + p.count * extent) m.sectors) ≡ true = subst (λ (b : Bool). (not b || nat_le p.size m.sectors && nat_le (p.start + p.count * extent) m.sectors) ≡ true) is.own one in
    let both : (nat_le p.size m.sectors ≡ true) × (nat_le (p.start + p.count * extent) m.sectors ≡ true) = and_parts (nat_le p.size m.sectors) (nat_le (p.start + p.count * extent) m.sectors) known in
    (leb-true p.size m.sectors both.0, leb-true (p.start + p.count * extent) m.sectors both.1)

pub device_fits : (ms : List Member) (extent : ℕ) (ps : List PhysicalVolume) (k : ℕ) (m : Member) → all_fit extent ms ps ≡ true → k < length ps
    → IsFoundFor ms (slice_index_or ps k no_volume) m → device_sectors extent (slice_get ps k) ≤ m.sectors
device_fits ms extent ps k m all inside found =
    let both : ((slice_index_or ps k no_volume).size ≤ m.sectors) × ((slice_index_or ps k no_volume).start + (slice_index_or ps k no_volume).count * extent ≤ m.sectors) =
    fits_both ms extent (slice_index_or ps k no_volume) m found (AllPass-from_list_all (λ p. list_all (fits extent p) ms) ps all k no_volume inside) in
    subst (λ (o : Option PhysicalVolume). device_sectors extent o ≤ m.sectors) (sym (slice_get_inside ps k no_volume inside)) (omega (arith, both.0, both.1))

pub fits_found : (ms : List Member) (extent : ℕ) (ps : List PhysicalVolume) (k : ℕ) (d : PhysicalVolume) (m : Member) → all_fit extent ms ps ≡ true → k < length ps
    → IsFoundFor ms (slice_index_or ps k d) m → (slice_index_or ps k d).start + (slice_index_or ps k d).count * extent ≤ m.sectors
fits_found ms extent ps k d m all inside found =
    (fits_both ms extent (slice_index_or ps k d) m found (AllPass-from_list_all (λ p. list_all (fits extent p) ms) ps all k d inside)).1

-- ---- no two are one

one_counts : {A : Type 0} (test : A → Bool) (xs : List A) (j : ℕ) (d : A) → j < length xs → test (slice_index_or xs j d) ≡ true → 1 ≤ count_by test xs
one_counts {A} test [] j d inside is = absurd (omega (arith, inside))
one_counts {A} test (x ∷ xs) zero d inside is =
    let step : count_by test (x ∷ xs) ≡ cond (test x) 1 0 + count_by test xs = sum_by-cons (λ (y : A). cond (test y) 1 0) x xs in
    let here : ◌≡◌ {A = ℕ} (cond (test x) 1 0) 1 = ap (λ (b : Bool). cond b 1 0) is in
    omega (arith, step, here)
one_counts {A} test (x ∷ xs) (suc j) d inside is =
    let step : count_by test (x ∷ xs) ≡ cond (test x) 1 0 + count_by test xs = sum_by-cons (λ (y : A). cond (test y) 1 0) x xs in
    omega (arith, step, one_counts test xs j d (omega (arith, inside)) is)

two_count : {A : Type 0} (test : A → Bool) (xs : List A) (i j : ℕ) (d : A) → i < j → j < length xs → test (slice_index_or xs i d) ≡ true → test (slice_index_or xs j d) ≡ true
    → 2 ≤ count_by test xs
two_count {A} test [] i j d before inside first second = absurd (omega (arith, inside))
two_count {A} test (x ∷ xs) i zero d before inside first second = absurd (omega (arith, before))
two_count {A} test (x ∷ xs) zero (suc j) d before inside first second =
    let step : count_by test (x ∷ xs) ≡ cond (test x) 1 0 + count_by test xs = sum_by-cons (λ (y : A). cond (test y) 1 0) x xs in
    let here : ◌≡◌ {A = ℕ} (cond (test x) 1 0) 1 = ap (λ (b : Bool). cond b 1 0) first in
    omega (arith, step, here, one_counts test xs j d (omega (arith, inside)) second)
two_count {A} test (x ∷ xs) (suc i) (suc j) d before inside first second =
    let step : count_by test (x ∷ xs) ≡ cond (test x) 1 0 + count_by test xs = sum_by-cons (λ (y : A). cond (test y) 1 0) x xs in
    omega (arith, step, two_count test xs i j d (omega (arith, before)) (omega (arith, inside)) first second)

count_named : (ps : List PhysicalVolume) (ms : List Member) (p : PhysicalVolume) → is_found ps ms p ≡ true → count_by (λ q. bytes_eq q.id p.id) ps ≡ 1
unfolding is_found
count_named ps ms p is =
    eqb-true (count_by (λ q. bytes_eq q.id p.id) ps) 1 (and_parts (count_by (λ m. is_of p m) ms == 1) (count_by (λ q. bytes_eq q.id p.id) ps == 1) is).1

same_bytes : (xs ys : List ℕ) → bytes_eq xs ys ≡ true → xs ≡ ys
same_bytes xs ys e = (bytes_eq-Decides xs ys).0 e

itself : (xs : List ℕ) → bytes_eq xs xs ≡ true
itself xs = (bytes_eq-Decides xs xs).1 refl

pub members_differ : (ms : List Member) (ps : List PhysicalVolume) → list_all (is_found ps ms) ps ≡ true → AllPairs (λ (a b : Member). a ≢ b) (in_order ms ps)
members_differ ms ps all = λ i j d before inside same.
    let placed : AreAligned ms ps (in_order ms ps) = aligned ms ps ps all in
    let in_j : j < length ps = omega (arith, inside, placed.long) in
    let in_i : i < length ps = omega (arith, before, in_j) in
    let first : IsFoundFor ms (slice_index_or ps i no_volume) (slice_index_or (in_order ms ps) i d) = placed.each i no_volume d in_i in
    let second : IsFoundFor ms (slice_index_or ps j no_volume) (slice_index_or (in_order ms ps) j d) = placed.each j no_volume d in_j in
    let own : (slice_index_or ps i no_volume).id ≡ (slice_index_or (in_order ms ps) i d).label.id = same_bytes _ _ first.own in
    let other : (slice_index_or ps j no_volume).id ≡ (slice_index_or (in_order ms ps) j d).label.id = same_bytes _ _ second.own in
    let ids : (slice_index_or ps j no_volume).id ≡ (slice_index_or ps i no_volume).id = other ∙ ap (λ (m : Member). m.label.id) (sym same) ∙ sym own in
    let two : 2 ≤ count_by (λ q. bytes_eq q.id (slice_index_or ps i no_volume).id) ps =
    two_count (λ (q : PhysicalVolume). bytes_eq q.id (slice_index_or ps i no_volume).id) ps i j no_volume before in_j (itself (slice_index_or ps i no_volume).id)
    (ap (λ (xs : List ℕ). bytes_eq xs (slice_index_or ps i no_volume).id) ids ∙ itself (slice_index_or ps i no_volume).id) in
    absurd (omega (arith, two, count_named ps ms (slice_index_or ps i no_volume) (AllPass-from_list_all (is_found ps ms) ps all i no_volume in_i)))

pub members_found : (ms : List Member) (ps : List PhysicalVolume) → list_all (is_found ps ms) ps ≡ true → All (Contains ms) (in_order ms ps)
members_found ms ps all = λ k d inside.
    let placed : AreAligned ms ps (in_order ms ps) = aligned ms ps ps all in
    (placed.each k no_volume d (omega (arith, inside, placed.long))).among
