-- What is written, piece by piece.
use Rattle.std.proofs.Common.{◌≡◌, ℕ, ◌+◌, ◌<◌, List, [], ◌∷◌, ◌++◌, length, take, get_or, refl, sym, ap, ◌∙◌, append_assoc, rules, ◌==◌, ◌||◌, inl, inr}
use Rattle.std.proofs.lemmas.List.{append-nil, take_more}
use Rattle.lvm_text.specs.declared.tree.Item.{Item, out-Item, the_lemmas}
use Rattle.lvm_text.specs.declared.tree.Item.TheVariants as item
use Rattle.lvm_text.specs.declared.tree.Item.TheOpen.{Item-F}
use Rattle.lvm_text.specs.declared.tree.Tree.{Tree, the_lemmas as tree_lemmas}
use Rattle.lvm_text.specs.declared.tree.Value.{Value}
use Rattle.lvm_text.specs.declared.tree.Scalar.{Scalar}
use Rattle.lvm_text.specs.Tree.{items_in}
use Rattle.lvm_text.specs.Tokens.{escaped}
use Rattle.lvm_text.specs.Written.{scalar_bytes, more_bytes, layer_bytes, item_bytes, tree_bytes, item_lines}
use Rattle.lvm_text.proofs.Scanning.{cases}
use Rattle.lvm_text.proofs.Trees.{section_is, value_is}

pub tree_lines : (tree : Tree) → tree_bytes tree ≡ item_lines (items_in tree)
tree_lines tree = search (rules, tree_lemmas)

section_bytes : (name : List ℕ) (tree : Tree) → item_bytes (item.Section name tree) ≡ layer_bytes (Item-F.Section name (tree_bytes tree))
section_bytes name tree = search (rules, the_lemmas)

value_item_bytes : (name : List ℕ) (v : Value) → item_bytes (item.Value name v) ≡ layer_bytes (Item-F.Value name v)
value_item_bytes name v = search (rules, the_lemmas)

pub section_lines : (it : Item) (name : List ℕ) (tree : Tree) → out-Item it ≡ Item-F.Section name tree → item_bytes it ≡ layer_bytes (Item-F.Section name (tree_bytes tree))
section_lines it name tree e = ap item_bytes (section_is it name tree e) ∙ section_bytes name tree

pub value_lines : (it : Item) (name : List ℕ) (v : Value) → out-Item it ≡ Item-F.Value name v → item_bytes it ≡ layer_bytes (Item-F.Value name v)
value_lines it name v e = ap item_bytes (value_is it name v e) ∙ value_item_bytes name v

escaped_last : (xs : List ℕ) (b : ℕ) → escaped (xs ++ b ∷ []) ≡ escaped xs ++ escaped (b ∷ [])
unfolding escaped
escaped_last [] b = refl
escaped_last (x ∷ xs) b = elim (cases (x == 34 || x == 92)) [
  | inl e ↦
      let k : escaped (x ∷ (xs ++ b ∷ [])) ≡ 92 ∷ x ∷ escaped (xs ++ b ∷ []) = rw (e, escaped) refl in
      let l : escaped (x ∷ xs) ≡ 92 ∷ x ∷ escaped xs = rw (e, escaped) refl in
      k ∙ ap (λ (y : List ℕ). 92 ∷ x ∷ y) (escaped_last xs b) ∙ ap (λ (y : List ℕ). y ++ escaped (b ∷ [])) (sym l)
  | inr e ↦
      let k : escaped (x ∷ (xs ++ b ∷ [])) ≡ x ∷ escaped (xs ++ b ∷ []) = rw (e, escaped) refl in
      let l : escaped (x ∷ xs) ≡ x ∷ escaped xs = rw (e, escaped) refl in
      k ∙ ap (λ (y : List ℕ). x ∷ y) (escaped_last xs b) ∙ ap (λ (y : List ℕ). y ++ escaped (b ∷ [])) (sym l)
]

pub text_begun : (old new : List ℕ) → new ≡ old ++ 34 ∷ [] → new ≡ old ++ 34 ∷ escaped []
unfolding escaped
text_begun old new e = e

pub text_more : (old xs : List ℕ) (i : ℕ) (was now : List ℕ) → i < length xs → was ≡ old ++ 34 ∷ escaped (take i xs) → now ≡ was ++ escaped (get_or xs i 0 ∷ []) → now ≡ old ++ 34 ∷ escaped (take (i + 1) xs)
text_more old xs i was now lt e f =
    f ∙ ap (λ (x : List ℕ). x ++ escaped (get_or xs i 0 ∷ [])) e ∙ append_assoc old (34 ∷ escaped (take i xs)) (escaped (get_or xs i 0 ∷ []))
    ∙ ap (λ (x : List ℕ). old ++ 34 ∷ x) (sym (escaped_last (take i xs) (get_or xs i 0)) ∙ ap escaped (sym (take_more xs i 0 lt)))

more_last : (xs : List Scalar) (s : Scalar) → more_bytes (xs ++ s ∷ []) ≡ more_bytes xs ++ 44 ∷ 32 ∷ scalar_bytes s
more_last [] s = ap (λ (y : List ℕ). 44 ∷ 32 ∷ y) (append-nil (scalar_bytes s))
more_last (x ∷ xs) s = ap (λ (y : List ℕ). 44 ∷ 32 ∷ (scalar_bytes x ++ y)) (more_last xs s) ∙ ap (λ (y : List ℕ). 44 ∷ 32 ∷ y) (sym (append_assoc (scalar_bytes x) (more_bytes xs) (44 ∷ 32 ∷ scalar_bytes s)))

pub more_put : (old : List ℕ) (xs : List Scalar) (i : ℕ) (s : Scalar) (was mid now : List ℕ) → i < length xs → s ≡ get_or xs i s → was ≡ old ++ more_bytes (take i xs) → mid ≡ was ++ 44 ∷ 32 ∷ [] → now ≡ mid ++ scalar_bytes s
    → now ≡ old ++ more_bytes (take (i + 1) xs)
more_put old xs i s was mid now lt is e f g =
    g ∙ ap (λ (x : List ℕ). x ++ scalar_bytes s) (f ∙ ap (λ (x : List ℕ). x ++ 44 ∷ 32 ∷ []) e)
    ∙ append_assoc (old ++ more_bytes (take i xs)) (44 ∷ 32 ∷ []) (scalar_bytes s)
    ∙ append_assoc old (more_bytes (take i xs)) (44 ∷ 32 ∷ scalar_bytes s)
    ∙ ap (λ (x : List ℕ). old ++ x) (sym (more_last (take i xs) s) ∙ ap more_bytes (ap (λ (x : Scalar). take i xs ++ x ∷ []) is ∙ sym (take_more xs i s lt)))

lines_last : (xs : List Item) (it : Item) → item_lines (xs ++ it ∷ []) ≡ item_lines xs ++ item_bytes it
lines_last [] it = append-nil (item_bytes it)
lines_last (x ∷ xs) it = ap (λ (y : List ℕ). item_bytes x ++ y) (lines_last xs it) ∙ sym (append_assoc (item_bytes x) (item_lines xs) (item_bytes it))

pub line_put : (old : List ℕ) (xs : List Item) (i : ℕ) (it : Item) (was now : List ℕ) → i < length xs → it ≡ get_or xs i it → was ≡ old ++ item_lines (take i xs) → now ≡ was ++ item_bytes it → now ≡ old ++ item_lines (take (i + 1) xs)
line_put old xs i it was now lt is e f =
    f ∙ ap (λ (x : List ℕ). x ++ item_bytes it) e ∙ append_assoc old (item_lines (take i xs)) (item_bytes it)
    ∙ ap (λ (x : List ℕ). old ++ x) (sym (lines_last (take i xs) it) ∙ ap item_lines (ap (λ (x : Item). take i xs ++ x ∷ []) is ∙ sym (take_more xs i it lt)))
