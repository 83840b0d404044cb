-- What a partition is, by the first with its text.
use Rattle.std.proofs.Common.{◌≡◌, ℕ, zero, suc, ◌+◌, ◌<◌, ◌≤◌, ◌⊎◌, inl, inr, List, [], ◌∷◌, ◌++◌, length, refl, sym, ap, subst, ◌∙◌, arith, slice_index_or}
use Rattle.std.specs.Prelude.{◌≢◌, true, AllPairs}
use Rattle.std.proofs.lemmas.Bool.{false≢true}
use Rattle.std.proofs.lemmas.Slice.Eq.{bytes_eq-Decides}
use Rattle.partition_content.specs.declared.found.Found.{Found}
use Rattle.partition_content.specs.declared.found.Found.TheVariants.{Physical as IsPhysical, Inner as IsAlone}
use Rattle.partition_content.specs.declared.found.Physical.{Physical}
use Rattle.std.proofs.lemmas.Bool.{cases_lt}
use Rattle.lvm_group.specs.declared.group.Group.{Group}
use Rattle.volume_content.specs.declared.content.Why.{Why}
use Rattle.volume_content.specs.declared.content.Why.TheVariants as why
use Rattle.std.proofs.lemmas.List.{get_or_append_left, get_or_at, get_or_default, length_push}
use Rattle.group_content.specs.Grouped.{AreInPlace, HaveTwoNumbers, device_of, first_part, has_text, members_with}
use Rattle.group_content.specs.Standing.{IsGroupOf, IsStanding, IsStandingBy, IsStandingOf, MakeNoGroup}
use Rattle.group_content.specs.declared.types.FoundPartition.{FoundPartition}
use Rattle.group_content.specs.declared.types.GroupContent.{GroupContent}
use Rattle.group_content.specs.declared.types.Membership.{Membership}
use Rattle.group_content.specs.declared.types.Standing.{Standing}
use Rattle.group_content.specs.declared.types.Standing.TheVariants.{Alone, Holder, Member, Unread}
use Rattle.group_content.specs.inside.Firsts.{AreStandingsOf, HasTextAt, IsHeldBy, IsSeenFrom}

pub seen_holder : (number : ℕ) (membership later : Membership) (content : GroupContent) → later.holder ≡ membership.holder → later.device ≡ device_of content.group number
    → IsSeenFrom number (Holder membership content) (Member later)
seen_holder number membership later content holder device = λ partitions text is other. record {
  group = content.group;
  is = record { is_group = is.is.is_group; holder = holder ∙ is.is.holder; device = device };
  later = λ (e : later.holder ≡ number). other (sym is.is.holder ∙ sym holder ∙ e);
}

pub seen_unread : (number : ℕ) (cause : Why) → IsSeenFrom number (Unread cause) (Unread cause)
seen_unread number cause = λ partitions text is other. is

pub seen_member : (number : ℕ) (membership : Membership) (later : Standing) → IsSeenFrom number (Member membership) later
seen_member number membership later = λ partitions text is other. absurd (is.later is.is.holder)

pub seen_alone : (number : ℕ) (later : Standing) → IsSeenFrom number Alone later
seen_alone number later = λ partitions text is other. absurd is

pub held : (partitions : List FoundPartition) (number : ℕ) (content : GroupContent) (membership : Membership) → membership.holder ≡ number
    → membership.device ≡ device_of content.group number → AreInPlace partitions content → IsHeldBy partitions number content.group (Holder membership content)
held partitions number content membership holder device place = λ text is first. record {
  is = record { is_group = is; holder = holder ∙ sym first; device = device };
  first = holder;
  in_place = place;
}

-- one more is known
pub one_more_known : (partitions : List FoundPartition) (standings more : List Standing) (standing : Standing) → more ≡ standings ++ standing ∷ []
    → AreStandingsOf partitions standings → ((d : FoundPartition) → IsStanding partitions (slice_index_or partitions (length standings) d) standing) → AreStandingsOf partitions more
one_more_known partitions standings more standing is known next = subst (AreStandingsOf partitions) (sym is) (record { each = each })
  where
    by : (k : ℕ) (p : FoundPartition) (s : Standing) → (k < length standings) ⊎ (length standings ≤ k) → k < length (standings ++ standing ∷ [])
        → IsStanding partitions (slice_index_or partitions k p) (slice_index_or (standings ++ standing ∷ []) k s)
    by k p s (inl before) inside =
        subst (IsStanding partitions (slice_index_or partitions k p)) (sym (get_or_append_left standings (standing ∷ []) s k before)) (known.each k p s before)
    by k p s (inr past) inside =
        let last : k ≡ length standings = omega (arith, past, inside, length_push standings standing) in
        subst (λ (n : ℕ). IsStanding partitions (slice_index_or partitions n p) (slice_index_or (standings ++ standing ∷ []) n s)) (sym last)
        (subst (IsStanding partitions (slice_index_or partitions (length standings) p)) (sym (get_or_at standings standing [] s (length standings) refl)) (next p))

    each : (k : ℕ) (p : FoundPartition) (s : Standing) → k < length (standings ++ standing ∷ [])
        → IsStanding partitions (slice_index_or partitions k p) (slice_index_or (standings ++ standing ∷ []) k s)
    each k p s inside = by k p s (cases_lt k (length standings)) inside

-- what has the text stands by it
stands_by : (partitions : List FoundPartition) (text : List ℕ) (number : ℕ) (found : Found) (standing : Standing) → has_text text found ≡ true
    → IsStandingOf partitions number found standing → IsStandingBy partitions text number standing
stands_by partitions text number (IsPhysical physical) standing has is =
    subst (λ (t : List ℕ). IsStandingBy partitions t number standing) ((bytes_eq-Decides physical.first.text text).0 has) is
stands_by partitions text number (IsAlone inner) standing has is = absurd (false≢true has)

-- what is seen from a later partition with the text of the first one
pub later_is : (partitions : List FoundPartition) (known : List Standing) (first : ℕ) (text : List ℕ) (physical : Physical) (p : FoundPartition) (s later : Standing)
    → AllPairs HaveTwoNumbers partitions → AreStandingsOf partitions known → length known < length partitions → first < length known → HasTextAt text partitions first
    → ((d : FoundPartition) → (slice_index_or partitions first d).number ≡ first_part (members_with text partitions))
    → p ≡ slice_index_or partitions (length known) p → p.found ≡ IsPhysical physical → text ≡ physical.first.text → s ≡ slice_index_or known first s
    → IsSeenFrom p.number s later → (d : FoundPartition) → IsStanding partitions (slice_index_or partitions (length known) d) later
later_is partitions known first text physical p s later two known_are more before has number at is_physical text_is at_first seen d =
    let q : FoundPartition = slice_index_or partitions first p in
    let first_is : IsStanding partitions (slice_index_or partitions first p) s = subst (IsStanding partitions (slice_index_or partitions first p)) (sym at_first) (known_are.each first p s before) in
    let by_text : IsStandingBy partitions text (slice_index_or partitions first p).number s =
    stands_by partitions text (slice_index_or partitions first p).number (slice_index_or partitions first p).found s (has p) first_is in
    let by_first : IsStandingBy partitions text (first_part (members_with text partitions)) s = subst (λ (n : ℕ). IsStandingBy partitions text n s) (number p) by_text in
    let differ : first_part (members_with text partitions) ≡ p.number → ⊥ =
    λ (e : first_part (members_with text partitions) ≡ p.number). two first (length known) p before more (number p ∙ e ∙ ap (λ (x : FoundPartition). x.number) at) in
    let own : IsStandingBy partitions text p.number later = seen partitions text by_first differ in
    let here : IsStanding partitions p later =
    subst (λ (f : Found). IsStandingOf partitions p.number f later) (sym is_physical) (subst (λ (t : List ℕ). IsStandingBy partitions t p.number later) text_is own) in
    subst (λ (x : FoundPartition). IsStanding partitions x later) (at ∙ get_or_default partitions (length known) p d more) here
