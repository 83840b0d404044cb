-- The innermost frame.
use Rattle.std.proofs.Common.{◌≡◌, List, [], ◌∷◌, ◌++◌, Option, Some, None, refl, ap, subst}
use Rattle.lvm_text.specs.declared.machine.Frame.{Frame}
use Rattle.lvm_text.specs.inside.Machine.{parted, put_first}

pub parted_none : parted [] ≡ None
unfolding parted
parted_none = refl

pub parted_last : (frames : List Frame) (frame : Frame) → parted (frames ++ frame ∷ []) ≡ Some (frames, frame)
unfolding parted
parted_last [] frame = refl
parted_last (f ∷ frames) frame = ap (put_first f) (parted_last frames frame)

parted_some_in : (f : Frame) (frames : List Frame) (r : Option (List Frame × Frame)) (p : List Frame × Frame) → ((q : List Frame × Frame) → r ≡ Some q → frames ≡ q.0 ++ q.1 ∷ []) → (r ≡ None → frames ≡ []) → put_first f r ≡ Some p → f ∷ frames ≡ p.0 ++ p.1 ∷ []
parted_some_in f frames None p some none h =
    let same : ([], f) ≡ p = cc in
    subst (λ (x : List Frame × Frame). f ∷ frames ≡ x.0 ++ x.1 ∷ []) same (ap (λ (x : List Frame). f ∷ x) (none refl))
parted_some_in f frames (Some q) p some none h =
    let same : (f ∷ q.0, q.1) ≡ p = cc in
    subst (λ (x : List Frame × Frame). f ∷ frames ≡ x.0 ++ x.1 ∷ []) same (ap (λ (x : List Frame). f ∷ x) (some q refl))

parted_cons : (f : Frame) (frames : List Frame) (r : Option (List Frame × Frame)) → put_first f r ≡ None → ⊥
parted_cons f frames None h = absurd cc
parted_cons f frames (Some q) h = absurd cc

pub parted_nothing : (frames : List Frame) → parted frames ≡ None → frames ≡ []
unfolding parted
parted_nothing [] h = refl
parted_nothing (f ∷ frames) h = absurd (parted_cons f frames (parted frames) h)

pub parted_some : (frames : List Frame) (p : List Frame × Frame) → parted frames ≡ Some p → frames ≡ p.0 ++ p.1 ∷ []
unfolding parted
parted_some [] p h = absurd cc
parted_some (f ∷ frames) p h = parted_some_in f frames (parted frames) p (λ q e. parted_some frames q e) (λ e. parted_nothing frames e) h
