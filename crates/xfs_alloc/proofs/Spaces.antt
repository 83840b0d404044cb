-- The value that is answered.
use Rattle.std.proofs.Common.{◌≡◌, ℕ, ◌%◌, List, [], ◌∷◌, ◌++◌, map, sym, ap, ◌∙◌}
use Rattle.std.proofs.lemmas.List.{map_push}
use Rattle.xfs_alloc.specs.FreeSpace.{FreeSpace, in_group}

-- one more level
pub group_more : (agblocks : ℕ) (done more : List (List ℕ)) (read next : List (List ℕ)) (x : List ℕ) (y : List ℕ) → done ≡ in_group agblocks read → more ≡ done ++ y ∷ [] → next ≡ read ++ x ∷ []
    → y ≡ map (λ n. n % agblocks) x → more ≡ in_group agblocks next
group_more agblocks done more read next x y so_far made step is =
    made ∙ ap (λ (l : List (List ℕ)). l ++ y ∷ []) so_far ∙ ap (λ (l : List ℕ). in_group agblocks read ++ l ∷ []) is
    ∙ sym (map_push (λ (l : List ℕ). map (λ n. n % agblocks) l) read x) ∙ ap (λ (l : List (List ℕ)). in_group agblocks l) (sym step)

pub space_is : (f : FreeSpace) (runs : List (ℕ × ℕ)) (starts counts : List (List ℕ)) → f.runs ≡ runs → f.starts ≡ starts → f.counts ≡ counts → f ≡ record { runs = runs; starts = starts; counts = counts }
space_is f runs starts counts p q r =
    ap (λ (l : List (ℕ × ℕ)). record { runs = l; starts = f.starts; counts = f.counts }) p
    ∙ ap (λ (l : List (List ℕ)). record { runs = runs; starts = l; counts = f.counts }) q
    ∙ ap (λ (l : List (List ℕ)). record { runs = runs; starts = starts; counts = l }) r
