-- Members of a group, and the partitions that they are.
use Rattle.std.proofs.Common.{◌≡◌, ℕ, zero, suc, ◌+◌, ◌<◌, ◌≤◌, ◌⊎◌, inl, inr, Bool, true, false, List, [], ◌∷◌, ◌++◌, length, map, drop, take, refl, sym, ap, subst, ◌∙◌, arith, slice_index_or}
use Rattle.std.specs.Prelude.{◌≢◌, Option, Some, None, if◌then◌else◌, ◌==◌, All, AllPairs, Contains, slice_get}
use Rattle.std.specs.Str.{bytes_eq}
use Rattle.std.proofs.lemmas.Bool.{cases_order, eq-eqb, ne_eqb}
use Rattle.std.proofs.lemmas.List.{drop_more, map_more}
use Rattle.std.proofs.lemmas.List.Elements.{All-head, All-map, All-tail, All-weaker}
use Rattle.std.proofs.lemmas.Option.{get_or_from_slice_get}
use Rattle.disk_base.specs.Run.{AreApart, IsWithin, run_of}
use Rattle.disk_base.specs.declared.run.Run.{Run}
use Rattle.group_runs.proofs.Lying.{pairs_map}
use Rattle.group_runs.specs.Places.{AreMemberRuns}
use Rattle.lvm_group.specs.Volumes.{device_sectors}
use Rattle.lvm_group.specs.declared.types.Member.{Member}
use Rattle.lvm_group.specs.declared.types.PhysicalVolume.{PhysicalVolume}
use Rattle.partition_content.specs.declared.found.Found.{Found}
use Rattle.partition_content.specs.declared.found.Found.TheVariants.{Physical as IsPhysical, Inner as IsAlone}
use Rattle.partition_content.specs.declared.found.Physical.{Physical}
use Rattle.volume_content.specs.declared.content.Inner.TheVariants.{Unread}
use Rattle.volume_content.specs.declared.content.Why.TheVariants.{Other}
use Rattle.group_content.specs.Grouped.{AreApartIn, HaveTwoNumbers, LieApart, device_from, member_before, member_of, member_runs, members_with, run_numbered}
use Rattle.group_content.specs.declared.types.FoundPartition.{FoundPartition}

-- ---- steps of loops

slice_inside : {A : Type 0} (xs : List A) (n : ℕ) (x : A) → slice_get xs n ≡ Some x → n < length xs
slice_inside {A} [] n x is = absurd (cc is)
slice_inside {A} (y ∷ xs) zero x is = omega arith
slice_inside {A} (y ∷ xs) (suc n) x is = let later : n < length xs = slice_inside xs n x is in omega (arith, later)

pub drop_item : {A : Type 0} (xs : List A) (n : ℕ) (x : A) → slice_get xs n ≡ Some x → drop n xs ≡ x ∷ drop (n + 1) xs
drop_item {A} xs n x is = drop_more xs n x (slice_inside xs n x is) ∙ ap (λ (y : A). y ∷ drop (n + 1) xs) (get_or_from_slice_get xs n x x is)

pub device_here : (ms : List Member) (physicals : List PhysicalVolume) (extent number n : ℕ) (m : Member) → slice_get ms n ≡ Some m → m.part ≡ number
    → device_from n extent number (drop n ms) physicals ≡ device_sectors extent (slice_get physicals n)
device_here ms physicals extent number n m is here =
    ap (λ (xs : List Member). device_from n extent number xs physicals) (drop_item ms n m is)
    ∙ ap (λ (b : Bool). if b then device_sectors extent (slice_get physicals n) else device_from (suc n) extent number (drop (n + 1) ms) physicals) (eq-eqb m.part number here)

pub device_later : (ms : List Member) (physicals : List PhysicalVolume) (extent number n : ℕ) (m : Member) → slice_get ms n ≡ Some m → (m.part ≡ number → ⊥)
    → device_from (n + 1) extent number (drop (n + 1) ms) physicals ≡ device_from n extent number (drop n ms) physicals
device_later ms physicals extent number n m is other =
    let more : n + 1 ≡ suc n = omega arith in
    ap (λ (k : ℕ). device_from k extent number (drop (n + 1) ms) physicals) more
    ∙ sym (ap (λ (xs : List Member). device_from n extent number xs physicals) (drop_item ms n m is)
    ∙ ap (λ (b : Bool). if b then device_sectors extent (slice_get physicals n) else device_from (suc n) extent number (drop (n + 1) ms) physicals) (ne_eqb m.part number other))

pub one_run_more : (partitions : List FoundPartition) (ms : List Member) (n : ℕ) (m : Member) → slice_get ms n ≡ Some m
    → member_runs partitions (take (n + 1) ms) ≡ member_runs partitions (take n ms) ++ run_numbered m.part partitions ∷ []
one_run_more partitions ms n m is =
    map_more (λ (x : Member). run_numbered x.part partitions) ms n m (slice_inside ms n m is)
    ∙ ap (λ (x : Member). member_runs partitions (take n ms) ++ run_numbered x.part partitions ∷ []) (get_or_from_slice_get ms n m m is)

-- ---- the partition that a member is

pub no_one : FoundPartition
no_one = record { number = 0; run = run_of 0 0; found = IsAlone (Unread Other) }

pub record IsOwn (partitions : List FoundPartition) (m : Member) : Type 0 where
  pub k : ℕ
  pub inside : k < length partitions
  pub physical : Physical
  pub found : (slice_index_or partitions k no_one).found ≡ IsPhysical physical
  pub same : m ≡ member_of (slice_index_or partitions k no_one) physical

behind : (p : FoundPartition) (partitions : List FoundPartition) (m : Member) → IsOwn partitions m → IsOwn (p ∷ partitions) m
behind p partitions m own = record { k = suc own.k; inside = omega (arith, own.inside); physical = own.physical; found = own.found; same = own.same }

pub own_member : (text : List ℕ) (partitions : List FoundPartition) (m : Member) → Contains (members_with text partitions) m → IsOwn partitions m
own_member text [] m among = absurd (omega (arith, among.1))
own_member text (p ∷ partitions) m among = by (own_member text partitions m) p.found refl among
  where
    at : (Contains (members_with text partitions) m → IsOwn partitions m) → (physical : Physical) → p.found ≡ IsPhysical physical
        → (k : ℕ) → k < length (member_of p physical ∷ members_with text partitions) → slice_index_or (member_of p physical ∷ members_with text partitions) k m ≡ m → IsOwn (p ∷ partitions) m
    at ih physical is zero inside e = record { k = zero; inside = omega arith; physical = physical; found = is; same = sym e }
    at ih physical is (suc k) inside e = behind p partitions m (ih (k, omega (arith, inside), e))

    by_text : (Contains (members_with text partitions) m → IsOwn partitions m) → (physical : Physical) → p.found ≡ IsPhysical physical → (b : Bool)
        → Contains (if b then member_of p physical ∷ members_with text partitions else members_with text partitions) m → IsOwn (p ∷ partitions) m
    by_text ih physical is true among = at ih physical is among.0 among.1 among.2
    by_text ih physical is false among = behind p partitions m (ih among)

    by : (Contains (members_with text partitions) m → IsOwn partitions m) → (found : Found) → p.found ≡ found
        → Contains (member_before text p found (members_with text partitions)) m → IsOwn (p ∷ partitions) m
    by ih (IsPhysical physical) is among = by_text ih physical is (bytes_eq physical.first.text text) among
    by ih (IsAlone inner) is among = behind p partitions m (ih among)

numbers_behind : (p : FoundPartition) (partitions : List FoundPartition) → AllPairs HaveTwoNumbers (p ∷ partitions) → AllPairs HaveTwoNumbers partitions
numbers_behind p partitions two = λ i j d before inside. two (suc i) (suc j) d (omega (arith, before)) (omega (arith, inside))

pub run_at : (partitions : List FoundPartition) (k : ℕ) → AllPairs HaveTwoNumbers partitions → k < length partitions
    → run_numbered (slice_index_or partitions k no_one).number partitions ≡ (slice_index_or partitions k no_one).run
run_at [] k two inside = absurd (omega (arith, inside))
run_at (p ∷ partitions) zero two inside = ap (λ (b : Bool). if b then p.run else run_numbered p.number partitions) (eq-eqb p.number p.number refl)
run_at (p ∷ partitions) (suc k) two inside =
    let number : ℕ = (slice_index_or partitions k no_one).number in
    ap (λ (b : Bool). if b then p.run else run_numbered (slice_index_or partitions k no_one).number partitions)
    (ne_eqb p.number (slice_index_or partitions k no_one).number (two zero (suc k) no_one (omega arith) inside))
    ∙ run_at partitions k (numbers_behind p partitions two) (omega (arith, inside))

pub own_run : (partitions : List FoundPartition) (m : Member) → AllPairs HaveTwoNumbers partitions → (own : IsOwn partitions m)
    → run_numbered m.part partitions ≡ (slice_index_or partitions own.k no_one).run
own_run partitions m two own = ap (λ (x : Member). run_numbered x.part partitions) own.same ∙ run_at partitions own.k two own.inside

own_sectors : (partitions : List FoundPartition) (m : Member) → AllPairs HaveTwoNumbers partitions → IsOwn partitions m → (run_numbered m.part partitions).count ≡ m.sectors
own_sectors partitions m two own = ap (λ (run : Run). run.count) (own_run partitions m two own) ∙ sym (ap (λ (x : Member). x.sectors) own.same)

pub are_member_runs : (partitions : List FoundPartition) (ms : List Member) → AllPairs HaveTwoNumbers partitions → All (IsOwn partitions) ms → AreMemberRuns ms (member_runs partitions ms)
are_member_runs partitions [] two own = refl
are_member_runs partitions (m ∷ ms) two own =
    ap (λ (n : ℕ). n ∷ map (λ (run : Run). run.count) (member_runs partitions ms)) (own_sectors partitions m two (All-head (IsOwn partitions) m ms own))
    ∙ ap (λ (ns : List ℕ). m.sectors ∷ ns) (are_member_runs partitions ms two (All-tail (IsOwn partitions) m ms own))

pub members_within : (size : ℕ) (partitions : List FoundPartition) (ms : List Member) → All (λ (p : FoundPartition). IsWithin size p.run) partitions
    → AllPairs HaveTwoNumbers partitions → All (IsOwn partitions) ms → All (IsWithin size) (member_runs partitions ms)
members_within size partitions ms within two own =
    All-map (IsWithin size) (λ (m : Member). run_numbered m.part partitions) ms
    (All-weaker (IsOwn partitions) (λ (m : Member). IsWithin size (run_numbered m.part partitions))
    (λ (m : Member) (o : IsOwn partitions m). subst (IsWithin size) (sym (own_run partitions m two o)) (within o.k no_one o.inside)) ms own)

-- ---- members lie apart

abbrev physical_in : Physical → Found → Physical
physical_in d (IsPhysical physical) = physical
physical_in d (IsAlone inner) = d

apart_found : (one other : Run) (f f' : Found) (physical physical' : Physical) → f ≡ IsPhysical physical → f' ≡ IsPhysical physical' → AreApartIn one other f f' → AreApart one other
apart_found one other (IsPhysical p) (IsPhysical p') physical physical' is is' apart = apart
apart_found one other (IsPhysical p) (IsAlone inner) physical physical' is is' apart = absurd (cc is')
apart_found one other (IsAlone inner) f' physical physical' is is' apart = absurd (cc is)

turned : (one other : Run) → AreApart one other → AreApart other one
turned one other (inl before) = inr before
turned one other (inr before) = inl before

pub one_member : (partitions : List FoundPartition) (a b : Member) (own : IsOwn partitions a) (other : IsOwn partitions b) → own.k ≡ other.k → a ≡ b
one_member partitions a b own other e =
    let physicals : own.physical ≡ other.physical =
    ap (physical_in own.physical) (sym own.found ∙ ap (λ (k : ℕ). (slice_index_or partitions k no_one).found) e ∙ other.found) in
    own.same ∙ ap (λ (k : ℕ). member_of (slice_index_or partitions k no_one) own.physical) e
    ∙ ap (member_of (slice_index_or partitions other.k no_one)) physicals ∙ sym other.same

two_apart : (partitions : List FoundPartition) (a b : Member) → AllPairs LieApart partitions → (own : IsOwn partitions a) (other : IsOwn partitions b) → a ≢ b
    → AreApart (slice_index_or partitions own.k no_one).run (slice_index_or partitions other.k no_one).run
two_apart partitions a b apart own other differ = by (cases_order own.k other.k)
  where
    by : (own.k ≡ other.k) ⊎ ((own.k < other.k) ⊎ (other.k < own.k)) → AreApart (slice_index_or partitions own.k no_one).run (slice_index_or partitions other.k no_one).run
    by (inl e) = absurd (differ (one_member partitions a b own other e))
    by (inr (inl before)) =
        apart_found (slice_index_or partitions own.k no_one).run (slice_index_or partitions other.k no_one).run (slice_index_or partitions own.k no_one).found (slice_index_or partitions other.k no_one).found
        own.physical other.physical own.found other.found (apart own.k other.k no_one before other.inside)
    by (inr (inr after)) =
        turned (slice_index_or partitions other.k no_one).run (slice_index_or partitions own.k no_one).run
        (apart_found (slice_index_or partitions other.k no_one).run (slice_index_or partitions own.k no_one).run (slice_index_or partitions other.k no_one).found (slice_index_or partitions own.k no_one).found
        other.physical own.physical other.found own.found (apart other.k own.k no_one after own.inside))

runs_apart : (partitions : List FoundPartition) (a b : Member) → AllPairs LieApart partitions → AllPairs HaveTwoNumbers partitions → IsOwn partitions a → IsOwn partitions b → a ≢ b
    → AreApart (run_numbered a.part partitions) (run_numbered b.part partitions)
runs_apart partitions a b apart two own other differ =
    subst (λ (run : Run). AreApart run (run_numbered b.part partitions)) (sym (own_run partitions a two own))
    (subst (AreApart (slice_index_or partitions own.k no_one).run) (sym (own_run partitions b two other)) (two_apart partitions a b apart own other differ))

pub members_apart : (partitions : List FoundPartition) (ms : List Member) → AllPairs LieApart partitions → AllPairs HaveTwoNumbers partitions → All (IsOwn partitions) ms
    → AllPairs (λ (a b : Member). a ≢ b) ms → AllPairs AreApart (member_runs partitions ms)
members_apart partitions ms apart two own differ =
    pairs_map AreApart (λ (m : Member). run_numbered m.part partitions) ms
    (λ i j d before inside. runs_apart partitions (slice_index_or ms i d) (slice_index_or ms j d) apart two (own i d (omega (arith, before, inside))) (own j d inside) (differ i j d before inside))
