-- Places that follow one another as the records of a chain name them: one more, the same ones twice, and what stands against them.
use Rattle.std.proofs.Common.{◌≡◌, ◌≢◌, ℕ, zero, suc, ◌+◌, ◌<◌, ◌≤◌, inl, inr, None, Some, List, [], ◌∷◌, ◌++◌, length, slice_index, Contains, refl, sym, ap, ◌∙◌, subst, arith}
use Rattle.std.specs.List.{cons_option}
use Rattle.std.proofs.lemmas.Bool.{cases_lt}
use Rattle.std.proofs.lemmas.List.{length_push, get_or_at, get_or_append_left, get_or_default, ext_get_or}
use Rattle.std.proofs.lemmas.List.Elements.{filter_map-append}
use Rattle.std.proofs.lemmas.List.Quantifiers.{all_pairs_push}
use Rattle.disk_base.specs.Image.{sector}
use Rattle.mbr_table.specs.declared.slot.Slot.{Slot}
use Rattle.mbr_table.specs.Chain.{next_of, logical_of, due_at, logicals_at, IsGoodRecord, IsBeginning, IsChain, LeadsTo, IsBadNext, IsOneTooMany, ComesToBad, ComesTooFar}

-- what is due depends on the places before it alone
pub due_before : (image : List ℕ) (extended : Slot) (places rest : List ℕ) (i : ℕ) → i ≤ length places
    → due_at image extended (places ++ rest) i ≡ due_at image extended places i
due_before image extended places rest zero le = refl
due_before image extended places rest (suc i) le =
    ap (λ (at : ℕ). next_of extended.start (sector image at)) (get_or_append_left places rest 0 i (omega arith))

-- a place behind others is found at their length
at_end : (places : List ℕ) (at i : ℕ) → i ≡ length places → slice_index (places ++ at ∷ []) i ≡ at
at_end places at i is = get_or_at places at [] 0 i (sym is)

-- no records are a beginning
pub none_begin : (image : List ℕ) (extended : Slot) → IsBeginning image extended []
none_begin image extended = record {
  following = λ i lt. absurd (omega arith);
  distinct = λ i j d before lt. absurd (omega arith);
  few = omega arith;
  sound = λ i lt. absurd (omega arith);
}

-- a good record at the place that is due, which did not come before, is one more of a beginning
pub one_more : (image : List ℕ) (extended : Slot) (places : List ℕ) (at : ℕ) → LeadsTo image extended places at → length places < 60
    → (Contains places at → ⊥) → IsGoodRecord extended at (sector image at) → IsBeginning image extended (places ++ at ∷ [])
one_more image extended places at leads few new good =
    let long : length (places ++ at ∷ []) ≡ length places + 1 = length_push places at in
    record {
      following = λ i lt. elim (cases_lt i (length places)) [
        | inl below ↦
            due_before image extended places (at ∷ []) i (omega arith) ∙ leads.begins.following i below
            ∙ ap Some (sym (get_or_append_left places (at ∷ []) 0 i below))
        | inr above ↦
            let is : i ≡ length places = omega arith in
            due_before image extended places (at ∷ []) i (omega arith) ∙ ap (due_at image extended places) is ∙ leads.due
            ∙ ap Some (sym (at_end places at i is))
      ];
      distinct = all_pairs_push (λ x y. x ≢ y) places at leads.begins.distinct (λ k d lt same. new (k, lt, get_or_default places k at d lt ∙ same));
      few = omega arith;
      sound = λ i lt. elim (cases_lt i (length places)) [
        | inl below ↦
            let same : slice_index places i ≡ slice_index (places ++ at ∷ []) i = sym (get_or_append_left places (at ∷ []) 0 i below) in
            subst (λ (p : ℕ). IsGoodRecord extended p (sector image p)) same (leads.begins.sound i below)
        | inr above ↦
            let same : at ≡ slice_index (places ++ at ∷ []) i = sym (at_end places at i (omega arith)) in
            subst (λ (p : ℕ). IsGoodRecord extended p (sector image p)) same good
      ];
    }

-- and its logical partition is one more, if it has one
pub logicals_more : (image places : List ℕ) (at : ℕ)
    → logicals_at image (places ++ at ∷ []) ≡ logicals_at image places ++ cons_option (logical_of at (sector image at)) []
logicals_more image places at = filter_map-append (λ (p : ℕ). logical_of p (sector image p)) places (at ∷ [])

-- two beginnings have the same places as far as both go
pub same_places : (image : List ℕ) (extended : Slot) (a b : List ℕ) → IsBeginning image extended a → IsBeginning image extended b
    → (i : ℕ) → i < length a → i < length b → slice_index a i ≡ slice_index b i
same_places image extended a b a-is b-is zero in-a in-b =
    let first : Some extended.start ≡ Some (slice_index a 0) = a-is.following 0 in-a in
    let second : Some extended.start ≡ Some (slice_index b 0) = b-is.following 0 in-b in
    cc
same_places image extended a b a-is b-is (suc i) in-a in-b =
    let before : slice_index a i ≡ slice_index b i = same_places image extended a b a-is b-is i (omega arith) (omega arith) in
    let first : next_of extended.start (sector image (slice_index a i)) ≡ Some (slice_index a (suc i)) = a-is.following (suc i) in-a in
    let second : next_of extended.start (sector image (slice_index b i)) ≡ Some (slice_index b (suc i)) = b-is.following (suc i) in-b in
    let same : next_of extended.start (sector image (slice_index a i)) ≡ next_of extended.start (sector image (slice_index b i)) =
    ap (λ (p : ℕ). next_of extended.start (sector image p)) before in
    cc

-- so they have the same place due
pub same_due : (image : List ℕ) (extended : Slot) (a b : List ℕ) → IsBeginning image extended a → IsBeginning image extended b
    → (i : ℕ) → i ≤ length a → i ≤ length b → due_at image extended a i ≡ due_at image extended b i
same_due image extended a b a-is b-is zero in-a in-b = refl
same_due image extended a b a-is b-is (suc i) in-a in-b =
    ap (λ (p : ℕ). next_of extended.start (sector image p)) (same_places image extended a b a-is b-is i (omega arith) (omega arith))

-- a beginning is not longer than a chain
pub not_longer : (image : List ℕ) (extended : Slot) (chain places : List ℕ) → IsChain image extended chain → IsBeginning image extended places
    → length places ≤ length chain
not_longer image extended chain places is begins =
    elim (cases_lt (length chain) (length places)) [
      | inl longer ↦
          let due : due_at image extended places (length chain) ≡ Some (slice_index places (length chain)) = begins.following (length chain) longer in
          let same : due_at image extended chain (length chain) ≡ due_at image extended places (length chain) =
          same_due image extended chain places is.begins begins (length chain) (omega arith) (omega arith) in
          let ends = is.ends in
          absurd cc
      | inr le ↦ le
    ]

-- an extended partition has one chain
pub one_chain_at_most : (image : List ℕ) (extended : Slot) (one other : List ℕ) → IsChain image extended one → IsChain image extended other → other ≡ one
one_chain_at_most image extended one other one-is other-is =
    let le : length other ≤ length one = not_longer image extended one other one-is other-is.begins in
    let ge : length one ≤ length other = not_longer image extended other one other-is one-is.begins in
    ext_get_or 0 other one (omega arith) (λ i lt. same_places image extended other one other-is.begins one-is.begins i lt (omega arith))

-- a longer beginning goes on with the place that is due
place_behind : (image : List ℕ) (extended : Slot) (places longer : List ℕ) (at : ℕ) → LeadsTo image extended places at → IsBeginning image extended longer
    → length places < length longer → slice_index longer (length places) ≡ at
place_behind image extended places longer at leads begins shorter =
    let here : due_at image extended longer (length places) ≡ Some (slice_index longer (length places)) = begins.following (length places) shorter in
    let same : due_at image extended longer (length places) ≡ due_at image extended places (length places) =
    same_due image extended longer places begins leads.begins (length places) (omega arith) (omega arith) in
    let due = leads.due in
    cc

-- no beginning goes on behind a bad record
bad_ends : (image : List ℕ) (extended : Slot) (places longer : List ℕ) (at : ℕ) → LeadsTo image extended places at → IsBadNext image extended places at
    → IsBeginning image extended longer → length places < length longer → ⊥
bad_ends image extended places longer at leads bad begins shorter =
    let place : slice_index longer (length places) ≡ at = place_behind image extended places longer at leads begins shorter in
    let good : IsGoodRecord extended at (sector image at) =
    subst (λ (p : ℕ). IsGoodRecord extended p (sector image p)) place (begins.sound (length places) shorter) in
    elim bad [
      | inl outside ↦ outside good.inside
      | inr (inl came) ↦
          let k : ℕ = came.0 in
          let before : slice_index places k ≡ slice_index longer k =
          same_places image extended places longer leads.begins begins k came.1 (omega (arith, shorter, came.1)) in
          let here : slice_index places k ≡ at = get_or_default places k 0 at came.1 ∙ came.2 in
          begins.distinct k (length places) 0 came.1 shorter (sym before ∙ here ∙ sym place)
      | inr (inr none) ↦ none.1 good
    ]

-- nor behind the 60th
too_far_ends : (image : List ℕ) (extended : Slot) (places longer : List ℕ) (at : ℕ) → IsOneTooMany extended places at → IsBeginning image extended longer
    → length places < length longer → ⊥
too_far_ends image extended places longer at many begins shorter = omega (arith, shorter, many.sixty, begins.few)

-- a chain goes on behind a place that is due
goes_on : (image : List ℕ) (extended : Slot) (chain places : List ℕ) (at : ℕ) → IsChain image extended chain → LeadsTo image extended places at
    → length places < length chain
goes_on image extended chain places at is leads =
    let le : length places ≤ length chain = not_longer image extended chain places is leads.begins in
    let same : due_at image extended chain (length places) ≡ due_at image extended places (length places) =
    same_due image extended chain places is.begins leads.begins (length places) le (omega arith) in
    let due = leads.due in
    elim (cases_lt (length places) (length chain)) [
      | inl shorter ↦ shorter
      | inr ge ↦
          let ends : due_at image extended chain (length places) ≡ None =
          ap (due_at image extended chain) (omega arith) ∙ is.ends in
          absurd cc
    ]

-- where there is a chain, it does not come to a bad record
pub none_bad : (image : List ℕ) (extended : Slot) (chain : List ℕ) (at : ℕ) → IsChain image extended chain → ComesToBad image extended at → ⊥
none_bad image extended chain at is comes =
    bad_ends image extended comes.0 chain at comes.1 comes.2 is.begins (goes_on image extended chain comes.0 at is comes.1)

-- and not too far
pub none_too_far : (image : List ℕ) (extended : Slot) (chain : List ℕ) (at : ℕ) → IsChain image extended chain → ComesTooFar image extended at → ⊥
none_too_far image extended chain at is comes =
    too_far_ends image extended comes.0 chain at comes.2 is.begins (goes_on image extended chain comes.0 at is comes.1)

-- two beginnings of which none goes on behind the other lead to one place
record AreSame (a b : List ℕ) (at place : ℕ) : Type 0 where
  lists : a ≡ b
  places : at ≡ place

same_end : (image : List ℕ) (extended : Slot) (a b : List ℕ) (at place : ℕ) → LeadsTo image extended a at → LeadsTo image extended b place
    → (length a < length b → ⊥) → (length b < length a → ⊥) → AreSame a b at place
same_end image extended a b at place a-leads b-leads not_a not_b =
    let long : length a ≡ length b = elim (cases_lt (length a) (length b)) [
      | inl lt ↦ absurd (not_a lt)
      | inr ge ↦ elim (cases_lt (length b) (length a)) [
        | inl lt ↦ absurd (not_b lt)
        | inr le ↦ omega arith
      ]
    ] in
    let lists : a ≡ b = ext_get_or 0 a b long (λ i lt. same_places image extended a b a-leads.begins b-leads.begins i lt (omega arith)) in
    let due : due_at image extended a (length a) ≡ due_at image extended b (length b) = ap (λ (l : List ℕ). due_at image extended l (length l)) lists in
    let first = a-leads.due in
    let second = b-leads.due in
    record { lists = lists; places = cc }

-- a chain comes to one bad place
pub one_bad : (image : List ℕ) (extended : Slot) (at place : ℕ) → ComesToBad image extended at → ComesToBad image extended place → at ≡ place
one_bad image extended at place a b =
    (same_end image extended a.0 b.0 at place a.1 b.1 (bad_ends image extended a.0 b.0 at a.1 a.2 b.1.begins)
    (bad_ends image extended b.0 a.0 place b.1 b.2 a.1.begins)).places

pub one_too_far : (image : List ℕ) (extended : Slot) (at place : ℕ) → ComesTooFar image extended at → ComesTooFar image extended place → at ≡ place
one_too_far image extended at place a b =
    (same_end image extended a.0 b.0 at place a.1 b.1 (too_far_ends image extended a.0 b.0 at a.2 b.1.begins)
    (too_far_ends image extended b.0 a.0 place b.2 a.1.begins)).places

-- or too far, and not both
pub not_both : (image : List ℕ) (extended : Slot) (at place : ℕ) → ComesToBad image extended at → ComesTooFar image extended place → ⊥
not_both image extended at place a b =
    let same : AreSame a.0 b.0 at place =
    same_end image extended a.0 b.0 at place a.1 b.1 (bad_ends image extended a.0 b.0 at a.1 a.2 b.1.begins)
    (too_far_ends image extended b.0 a.0 place b.2 a.1.begins) in
    let many : IsOneTooMany extended a.0 at =
    subst (λ (l : List ℕ). IsOneTooMany extended l at) (sym same.lists) (subst (IsOneTooMany extended b.0) (sym same.places) b.2) in
    elim a.2 [
      | inl outside ↦ outside many.inside
      | inr (inl came) ↦ many.new came
      | inr (inr none) ↦ omega (arith, none.0, many.sixty)
    ]
