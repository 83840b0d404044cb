-- What settling the part that takes or gives up leaves as it is, and how the lengths follow it.
use Rattle.std.proofs.Common.{◌≡◌, ℕ, ◌≤◌, ◌==◌, ◌&&◌, ◌||◌, Bool, true, not, List, [], ◌∷◌, refl, ◌∙◌, ap, inl, inr, arith, Option, Some, None}
use Rattle.std.specs.List.{list_any}
use Rattle.std.proofs.lemmas.Bool.{cases_Bool}
use Rattle.std.proofs.lemmas.List.Elements.{filter_agree}
use Rattle.layout_plan.specs.declared.part.Part.{Part}
use Rattle.layout_plan.specs.declared.wish.What.{What}
use Rattle.layout_plan.specs.declared.wish.What.TheVariants.{Expand, Shrink, Resize, Force, Delete, Ignore}
use Rattle.layout_plan.specs.declared.wish.Wish.{Wish}
use Rattle.layout_plan.specs.Roles.{is_extended_role, is_logical}
use Rattle.layout_plan.specs.Wishes.{asked_length, is_delete, is_deleted, is_flexible_wish, is_gone, keeps_logical, remaining, settle_what, settled, wanted, wish_of}

-- what is wished of a part, settled
abbrev pub settled_wish : ℕ → Option What → Option What
settled_wish sectors None = None
settled_wish sectors (Some what) = Some (settle_what sectors what)

-- the first wish that names a part stays the first
pub wish_settled : (sectors number : ℕ) (wishes : List Wish) → wish_of (settled sectors wishes) number ≡ settled_wish sectors (wish_of wishes number)
wish_settled sectors number [] = refl
wish_settled sectors number (wish ∷ wishes) =
    elim (cases_Bool (wish.part == number)) [
      | inl here ↦ rw here refl
      | inr other ↦ rw other (wish_settled sectors number wishes)
    ]

delete_stays : (sectors : ℕ) (what : Option What) → is_delete (settled_wish sectors what) ≡ is_delete what
delete_stays sectors None = refl
delete_stays sectors (Some Expand) = refl
delete_stays sectors (Some Shrink) = refl
delete_stays sectors (Some (Resize size)) = refl
delete_stays sectors (Some (Force size)) = refl
delete_stays sectors (Some Delete) = refl
delete_stays sectors (Some Ignore) = refl

pub deleted_stays : (sectors : ℕ) (wishes : List Wish) (part : Part) → is_deleted (settled sectors wishes) part ≡ is_deleted wishes part
deleted_stays sectors wishes part = ap is_delete (wish_settled sectors part.number wishes) ∙ delete_stays sectors (wish_of wishes part.number)

logical_stays : (sectors : ℕ) (wishes : List Wish) (parts : List Part)
    → list_any (λ (part : Part). is_logical part.role && not (is_deleted (settled sectors wishes) part)) parts ≡ list_any (λ (part : Part). is_logical part.role && not (is_deleted wishes part)) parts
logical_stays sectors wishes [] = refl
logical_stays sectors wishes (part ∷ parts) =
    let Any : Bool → Bool → Bool = λ gone rest. is_logical part.role && not gone || rest in
    ap (λ gone. Any gone (list_any (λ (one : Part). is_logical one.role && not (is_deleted (settled sectors wishes) one)) parts)) (deleted_stays sectors wishes part)
    ∙ ap (λ rest. Any (is_deleted wishes part) rest) (logical_stays sectors wishes parts)

pub keeps_stays : (sectors : ℕ) (wishes : List Wish) (parts : List Part) → keeps_logical (settled sectors wishes) parts ≡ keeps_logical wishes parts
unfolding keeps_logical
keeps_stays sectors wishes parts = logical_stays sectors wishes parts

-- the same parts aren't made
pub gone_stays : (sectors : ℕ) (wishes : List Wish) (parts : List Part) (part : Part) → is_gone (settled sectors wishes) parts part ≡ is_gone wishes parts part
gone_stays sectors wishes parts part =
    let Gone : Bool → Bool → Bool = λ deleted keeps. deleted || is_extended_role part.role && not keeps in
    ap (λ deleted. Gone deleted (keeps_logical (settled sectors wishes) parts)) (deleted_stays sectors wishes part)
    ∙ ap (λ keeps. Gone (is_deleted wishes part) keeps) (keeps_stays sectors wishes parts)

-- the same parts remain
pub remaining_stays : (sectors : ℕ) (wishes : List Wish) (parts : List Part) → remaining (settled sectors wishes) parts ≡ remaining wishes parts
remaining_stays sectors wishes parts =
    filter_agree (λ (part : Part). not (is_gone (settled sectors wishes) parts part)) (λ (part : Part). not (is_gone wishes parts part))
    (λ part. ap (λ gone. not gone) (gone_stays sectors wishes parts part)) parts

-- the lengths of the other parts stay, and that of this one rises
asked_rises : (low high : ℕ) (what : Option What) (old : ℕ) → low ≤ high → asked_length (settled_wish low what) old ≤ asked_length (settled_wish high what) old
asked_rises low high None old less = omega arith
asked_rises low high (Some Expand) old less = omega arith
asked_rises low high (Some Shrink) old less = omega arith
asked_rises low high (Some (Resize size)) old less = omega arith
asked_rises low high (Some (Force size)) old less = omega arith
asked_rises low high (Some Delete) old less = omega arith
asked_rises low high (Some Ignore) old less = omega arith

pub wanted_rises : (low high : ℕ) (wishes : List Wish) (part : Part) → low ≤ high → wanted (settled low wishes) part ≤ wanted (settled high wishes) part
wanted_rises low high wishes part less =
    rw (wish_settled low part.number wishes, wish_settled high part.number wishes) (asked_rises low high (wish_of wishes part.number) part.count less)

asked_is : (sectors : ℕ) (what : Option What) (old : ℕ) → is_flexible_wish what ≡ true → asked_length (settled_wish sectors what) old ≡ sectors
asked_is sectors None old flexible = absurd (cc flexible)
asked_is sectors (Some Expand) old flexible = omega arith
asked_is sectors (Some Shrink) old flexible = omega arith
asked_is sectors (Some (Resize size)) old flexible = absurd (cc flexible)
asked_is sectors (Some (Force size)) old flexible = absurd (cc flexible)
asked_is sectors (Some Delete) old flexible = absurd (cc flexible)
asked_is sectors (Some Ignore) old flexible = absurd (cc flexible)

pub wanted_is : (sectors : ℕ) (wishes : List Wish) (part : Part) → is_flexible_wish (wish_of wishes part.number) ≡ true → wanted (settled sectors wishes) part ≡ sectors
wanted_is sectors wishes part flexible = rw (wish_settled sectors part.number wishes) (asked_is sectors (wish_of wishes part.number) part.count flexible)
