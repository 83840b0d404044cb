-- The first of lists that are joined, and of the volumes that must be read and can't.
use Rattle.std.proofs.Common.{◌≡◌, ℕ, suc, ◌+◌, ◌<◌, List, [], ◌∷◌, ◌++◌, length, get_or, drop, cond, refl, ap, sym, ◌∙◌, add-one}
use Rattle.std.specs.Prelude.{Some, None, slice_get}
use Rattle.std.specs.List.{flat_map}
use Rattle.std.proofs.lemmas.List.{at_drop_more}
use Rattle.group_content.specs.declared.types.GroupVolume.{GroupVolume}
use Rattle.guest_view.specs.declared.guest.GuestPart.{GuestPart}
use Rattle.volume_choice.specs.Unread.{is_spared_logical, unread_in, unread_inner, unread_logicals}
use Rattle.volume_choice.specs.declared.chosen.Choices.{Choices}
use Rattle.volume_choice.specs.declared.fault.UnreadVolume.{UnreadVolume}

pub first_here : {X : Type 0} (xs ys : List X) (x : X) → slice_get xs 0 ≡ Some x → slice_get (xs ++ ys) 0 ≡ Some x
first_here [] ys x e = absurd (cc)
first_here (z ∷ xs) ys x e = e

pub first_behind : {X : Type 0} (xs ys : List X) → slice_get xs 0 ≡ None → slice_get (xs ++ ys) 0 ≡ slice_get ys 0
first_behind [] ys e = refl
first_behind (z ∷ xs) ys e = absurd (cc)

pub none_without_first : {X : Type 0} (xs : List X) → slice_get xs 0 ≡ None → xs ≡ []
none_without_first [] e = refl
none_without_first (z ∷ xs) e = absurd (cc)

pub first_joined : {X : Type 0} (whole xs ys : List X) (x : X) → whole ≡ xs ++ ys → Some x ≡ slice_get xs 0 → Some x ≡ slice_get whole 0
first_joined {X} whole xs ys x e is = sym (ap (λ (l : List X). slice_get l 0) e ∙ first_here xs ys x (sym is))

pub first_left : {X : Type 0} (whole xs ys : List X) → whole ≡ xs ++ ys → None ≡ slice_get xs 0 → slice_get ys 0 ≡ slice_get whole 0
first_left {X} whole xs ys e is = sym (ap (λ (l : List X). slice_get l 0) e ∙ first_behind xs ys (sym is))

abbrev pub own_logical : Choices → List GuestPart → ℕ → ℕ → GroupVolume → List UnreadVolume
own_logical choices parts holder lv volume =
    cond (is_spared_logical choices parts holder lv volume) [] (unread_inner holder lv volume.inner)

pub logicals_step : (choices : Choices) (parts : List GuestPart) (holder : ℕ) (volumes : List GroupVolume) (lv i : ℕ) (volume : GroupVolume)
    → i < length volumes → volume ≡ get_or volumes i volume
    → unread_logicals choices parts holder lv (drop i volumes)
    ≡ own_logical choices parts holder lv volume ++ unread_logicals choices parts holder (lv + 1) (drop (i + 1) volumes)
logicals_step choices parts holder volumes lv i volume lt is =
    at_drop_more (unread_logicals choices parts holder lv) volumes i volume lt
    ∙ ap (λ (v : GroupVolume). own_logical choices parts holder lv v ++ unread_logicals choices parts holder (suc lv) (drop (i + 1) volumes)) (sym is)
    ∙ ap (λ (k : ℕ). own_logical choices parts holder lv volume ++ unread_logicals choices parts holder k (drop (i + 1) volumes)) (sym (add-one lv))

pub parts_step : (choices : Choices) (all parts : List GuestPart) (i : ℕ) (part : GuestPart)
    → i < length parts → part ≡ get_or parts i part
    → flat_map (unread_in choices all) (drop i parts)
    ≡ unread_in choices all part ++ flat_map (unread_in choices all) (drop (i + 1) parts)
parts_step choices all parts i part lt is =
    at_drop_more (flat_map (unread_in choices all)) parts i part lt
    ∙ ap (λ (p : GuestPart). unread_in choices all p ++ flat_map (unread_in choices all) (drop (i + 1) parts)) (sym is)
