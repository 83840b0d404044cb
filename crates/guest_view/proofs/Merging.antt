-- What was found of the partitions of a disk, and the partitions with what they hold.
use Rattle.std.proofs.Common.{◌≡◌, ◌≢◌, ℕ, zero, suc, ◌+◌, ◌-◌, ◌^◌, ◌<◌, ◌≤◌, List, [], ◌∷◌, ◌++◌, length, map, take, drop, arith, refl, sym, subst, ◌∙◌, ap, Bool, true, false, slice_index_or, All, AllPairs}
use Rattle.std.proofs.lemmas.List.{append_assoc, append-nil, drop_more, take_more}
use Rattle.std.proofs.lemmas.List.Elements.{All-cons, All-nil}
use Rattle.std.proofs.lemmas.List.Kept.{AllPairs-cons}
use Rattle.std.proofs.lemmas.Slice.Zip.{all_zipped_more}
use Rattle.std.specs.List.{AllZip}
use Rattle.disk_base.specs.Run.{AreApart, IsWithin}
use Rattle.disk_base.specs.declared.run.Run.{Run}
use Rattle.group_content.specs.Grouped.{AreApartIn, HaveTwoNumbers, LieApart}
use Rattle.group_content.specs.Standing.{StandingFits}
use Rattle.group_content.specs.declared.types.FoundPartition.{FoundPartition}
use Rattle.group_content.specs.declared.types.Standing.{Standing}
use Rattle.group_content.specs.declared.types.Standing.TheVariants as standing
use Rattle.layout_plan.specs.declared.part.Role.{Role}
use Rattle.layout_plan.specs.declared.part.Role.TheVariants.{Slot as InSlot, Extended, Logical as InChain}
use Rattle.layout_plan.specs.Roles.{is_extended_role}
use Rattle.partition_content.specs.Found.{FoundFits}
use Rattle.partition_content.specs.declared.found.Found.{Found}
use Rattle.partition_content.specs.declared.found.Found.TheVariants.{Physical as IsPhysical, Inner as IsAlone}
use Rattle.partition_content.specs.declared.found.Physical.{Physical}
use Rattle.volume_content.specs.declared.content.Inner.{Inner}
use Rattle.volume_content.specs.declared.content.Inner.TheVariants as inner
use Rattle.guest_view.specs.declared.guest.GuestPart.{GuestPart}
use Rattle.guest_view.specs.declared.partition.Partition.{Partition}
use Rattle.guest_view.specs.Contents.{ContentFits, PartFits, content_by, content_of_found, part_with, partition_of, parts_with, run_of_partition}
use Rattle.guest_view.specs.inside.Holding.{IsNextContent}
use Rattle.guest_view.specs.inside.Sound.{EndsOn, LieBeside, Rises, StandFor, StandsFor}

-- ---- two lists, place by place

module _ {A B : Type 0} (S : A → B → Type 0) where
  pub zip_all : (P : A → Type 0) (Q : B → Type 0) → ((a : A) (b : B) → S a b → P a → Q b) → (xs : List A) (ys : List B) → AllZip S xs ys → All P xs → All Q ys
  zip_all P Q f [] [] zip all = All-nil Q
  zip_all P Q f [] (y ∷ ys) zip all = absurd zip
  zip_all P Q f (x ∷ xs) [] zip all = absurd zip
  zip_all P Q f (x ∷ xs) (y ∷ ys) zip all =
      All-cons Q y ys (f x y zip.0 (all 0 x (omega arith))) (zip_all P Q f xs ys zip.1 (λ k d lt. all (suc k) d (omega (arith, lt))))

  pub zip_pairs : (R : A → A → Type 0) (T : B → B → Type 0) → ((a a' : A) (b b' : B) → S a b → S a' b' → R a a' → T b b')
      → (xs : List A) (ys : List B) → AllZip S xs ys → AllPairs R xs → AllPairs T ys
  zip_pairs R T f [] [] zip pairs = λ i j d low high. absurd (omega arith)
  zip_pairs R T f [] (y ∷ ys) zip pairs = absurd zip
  zip_pairs R T f (x ∷ xs) [] zip pairs = absurd zip
  zip_pairs R T f (x ∷ xs) (y ∷ ys) zip pairs =
      AllPairs-cons T y ys
      (zip_all (R x) (T y) (λ a b s r. f x a y b zip.0 s r) xs ys zip.1 (λ k d lt. pairs 0 (suc k) d (omega arith) (omega (arith, lt))))
      (zip_pairs R T f xs ys zip.1 (λ i j d low high. pairs (suc i) (suc j) d (omega (arith, low)) (omega (arith, high))))

  -- one more, as at a step of a loop
  pub zip_more : (xs : List A) (ys more : List B) (i : ℕ) (y : B) (d : A) → i < length xs → more ≡ ys ++ y ∷ [] → AllZip S (take i xs) ys
      → S (slice_index_or xs i d) y → AllZip S (take (i + 1) xs) more
  zip_more xs ys more i y d lt is zip one =
      subst (λ (l : List A). AllZip S l more) (sym (take_more xs i d lt))
      (subst (AllZip S (take i xs ++ slice_index_or xs i d ∷ [])) (sym is) (all_zipped_more S (take i xs) ys (slice_index_or xs i d) y zip one))

-- ---- what was found is where the partitions are

abbrev IsPhysicalFound : Found → Type 0
IsPhysicalFound (IsPhysical physical) = Unit {0}
IsPhysicalFound (IsAlone inner) = ⊥

not_extended : (p : Partition) (one : FoundPartition) (r : Role) → p.role ≡ r → StandsFor p one → IsPhysicalFound one.found → is_extended_role r ≡ false
not_extended p one InSlot is stands physical = refl
not_extended p one InChain is stands physical = refl
not_extended p one Extended is stands physical = absurd (subst IsPhysicalFound (stands.alone is) physical)

apart_in : (run run' : Run) (f g : Found) → (IsPhysicalFound f → IsPhysicalFound g → AreApart run run') → AreApartIn run run' f g
apart_in run run' (IsPhysical x) (IsPhysical y) h = h tt tt
apart_in run run' (IsPhysical x) (IsAlone y) h = tt
apart_in run run' (IsAlone x) g h = tt

found_apart : (p q : Partition) (one other : FoundPartition) → StandsFor p one → StandsFor q other → LieBeside p q → LieApart one other
found_apart p q one other a b beside =
    apart_in one.run other.run one.found other.found
    (λ x y.
    let there : AreApart (run_of_partition p) (run_of_partition q) = beside (not_extended p one p.role refl a x) (not_extended q other q.role refl b y) in
    subst (λ (r : Run). AreApart r other.run) (sym a.run) (subst (AreApart (run_of_partition p)) (sym b.run) there))

pub all_apart : (ps : List Partition) (found : List FoundPartition) → StandFor ps found → AllPairs LieBeside ps → AllPairs LieApart found
all_apart ps found = zip_pairs StandsFor LieBeside LieApart found_apart ps found

pub all_numbered : (ps : List Partition) (found : List FoundPartition) → StandFor ps found → AllPairs Rises ps → AllPairs HaveTwoNumbers found
all_numbered ps found =
    zip_pairs StandsFor Rises HaveTwoNumbers (λ p q one other a b rises. λ (same : one.number ≡ other.number). absurd (omega (arith, same, a.number, b.number, rises))) ps found

pub all_within : (sectors : ℕ) (ps : List Partition) (found : List FoundPartition) → StandFor ps found → All (EndsOn sectors) ps
    → All (λ (one : FoundPartition). IsWithin sectors one.run) found
all_within sectors ps found =
    zip_all StandsFor (EndsOn sectors) (λ (one : FoundPartition). IsWithin sectors one.run)
    (λ p one a ends. subst (IsWithin sectors) (sym a.run) ends) ps found

-- ---- the partitions with what they hold

pub same_partitions : (ps : List Partition) (found : List FoundPartition) (standings : List Standing) → length found ≡ length ps → length standings ≡ length ps
    → map partition_of (parts_with ps found standings) ≡ ps
same_partitions [] found standings a b = refl
same_partitions (p ∷ ps) [] standings a b = absurd (omega (arith, a))
same_partitions (p ∷ ps) (one ∷ found) [] a b = absurd (omega (arith, b))
same_partitions (p ∷ ps) (one ∷ found) (s ∷ standings) a b =
    ap (λ (l : List Partition). p ∷ l) (same_partitions ps found standings (omega (arith, a)) (omega (arith, b)))

fits_found : (n : ℕ) (found : Found) (s : Standing) → FoundFits n found → StandingFits s → ContentFits n (content_of_found found s)
fits_found n (IsAlone (inner.Xfs volume)) s fits more = fits
fits_found n (IsAlone (inner.Swap swap)) s fits more = fits
fits_found n (IsAlone (inner.Unread why)) s fits more = tt
fits_found n (IsPhysical physical) standing.Alone fits more = tt
fits_found n (IsPhysical physical) (standing.Holder membership group) fits more = (fits, more)
fits_found n (IsPhysical physical) (standing.Member membership) fits more = fits
fits_found n (IsPhysical physical) (standing.Unread why) fits more = tt

fits_by : (n : ℕ) (r : Role) (found : Found) (s : Standing) → FoundFits n found → StandingFits s → ContentFits n (content_by r found s)
fits_by n Extended found s fits more = tt
fits_by n InSlot found s fits more = fits_found n found s fits more
fits_by n InChain found s fits more = fits_found n found s fits more

pub all_fit : (size : ℕ) → size ≤ 2 ^ 31 → (ps : List Partition) (found : List FoundPartition) (standings : List Standing) → All (EndsOn size) ps → StandFor ps found
    → All StandingFits standings → All PartFits (parts_with ps found standings)
all_fit size few [] found standings ends stand fits = All-nil PartFits
all_fit size few (p ∷ ps) [] standings ends stand fits = All-nil PartFits
all_fit size few (p ∷ ps) (one ∷ found) [] ends stand fits = All-nil PartFits
all_fit size few (p ∷ ps) (one ∷ found) (s ∷ standings) ends stand fits =
    let here : p.start + p.count ≤ size = ends 0 p (omega arith) in
    All-cons PartFits (part_with p (content_by p.role one.found s)) (parts_with ps found standings)
    (omega (arith, here, few), fits_by p.count p.role one.found s stand.0.fits (fits 0 s (omega arith)))
    (all_fit size few ps found standings (λ k d lt. ends (suc k) d (omega (arith, lt))) stand.1 (λ k d lt. fits (suc k) d (omega (arith, lt))))

-- one more, as at a step of the loop
pub held_more : (ps : List Partition) (i : ℕ) (d : Partition) (found found' : List FoundPartition) (standings standings' : List Standing)
    (parts parts' total : List GuestPart) (part : GuestPart) → i < length ps
    → (next : IsNextContent (slice_index_or ps i d).role found found' standings standings' part.content)
    → part ≡ part_with (slice_index_or ps i d) part.content → parts' ≡ parts ++ part ∷ []
    → parts ++ parts_with (drop i ps) found standings ≡ total → parts' ++ parts_with (drop (i + 1) ps) found' standings' ≡ total
held_more ps i d found found' standings standings' parts parts' total part lt next is more before =
    let p = slice_index_or ps i d in
    let rest = parts_with (drop (i + 1) ps) found' standings' in
    let whole : part_with p (content_by p.role next.one.found next.standing) ≡ part = ap (part_with p) (sym next.content_is) ∙ sym is in
    let split : parts_with (drop i ps) found standings ≡ part ∷ rest =
    ap (λ (l : List Partition). parts_with l found standings) (drop_more ps i d lt)
    ∙ ap (λ (l : List FoundPartition). parts_with (p ∷ drop (i + 1) ps) l standings) next.found_is
    ∙ ap (λ (l : List Standing). parts_with (p ∷ drop (i + 1) ps) (next.one ∷ found') l) next.standings_are
    ∙ ap (λ (g : GuestPart). g ∷ rest) whole in
    ap (λ (l : List GuestPart). l ++ rest) more ∙ append_assoc parts (part ∷ []) rest ∙ ap (λ (l : List GuestPart). parts ++ l) (sym split) ∙ before

-- no partition more
pub held_end : (ps : List Partition) (i : ℕ) (found : List FoundPartition) (standings : List Standing) (parts total : List GuestPart) → drop i ps ≡ []
    → parts ++ parts_with (drop i ps) found standings ≡ total → parts ≡ total
held_end ps i found standings parts total none before =
    sym (append-nil parts) ∙ ap (λ (l : List Partition). parts ++ parts_with l found standings) (sym none) ∙ before
