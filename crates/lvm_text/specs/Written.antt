-- How a tree is written: each item on lines of its own, without indentation, `NAME {`, the items, `}` or `NAME = VALUE`.
use Rattle.std.specs.Prelude.{◌≡◌, ℕ, zero, suc, ◌≤◌, ◌<◌, true, List, [], ◌∷◌, ◌++◌, length, ℤ, pos, negsuc, codes, map}
use Rattle.std.specs.List.{list_all}
use Rattle.std.specs.Fmt.{signed_decimal}
use Rattle.lvm_text.specs.declared.token.Token.TheVariants.{Text}
use Rattle.lvm_text.specs.declared.tree.Item.{Item, out-Item, fold-Item}
use Rattle.lvm_text.specs.declared.tree.Item.TheOpen.{Item-F}
use Rattle.lvm_text.specs.declared.tree.Tree.{Tree, Tree-F, fold-Tree}
use Rattle.lvm_text.specs.declared.tree.Value.{Value}
use Rattle.lvm_text.specs.declared.tree.Value.TheVariants as value
use Rattle.lvm_text.specs.declared.tree.Scalar.{Scalar}
use Rattle.lvm_text.specs.declared.tree.Scalar.TheVariants as scalar
use Rattle.lvm_text.specs.Tree.{items_in, Layer}
use Rattle.lvm_text.specs.Tokens.{is_word_byte, token_bytes}
use Rattle.lvm_text.specs.Grammar.{greatest_size}

-- ---- what can be written

-- a name has a byte, and only word bytes
pub record IsName (name : List ℕ) : Type 0 where
  pub some : 0 < length name
  pub each : list_all is_word_byte name ≡ true

-- a number's size is in the range
abbrev pub InRange : ℤ → Type 0
InRange (pos n) = n ≤ greatest_size
InRange (negsuc n) = n < greatest_size

-- its numbers are in the range: of a scalar, of scalars, of a value
abbrev pub FitsScalar : Scalar → Type 0
FitsScalar (scalar.Number n) = InRange n
FitsScalar (scalar.Text text) = Unit {0}

abbrev pub FitScalars : List Scalar → Type 0
FitScalars [] = Unit {0}
FitScalars (s ∷ ss) = FitsScalar s × FitScalars ss

abbrev pub FitsValue : Value → Type 0
FitsValue (value.Number n) = InRange n
FitsValue (value.Text text) = Unit {0}
FitsValue (value.Many ss) = FitScalars ss

-- an item, and items, with their names, where Inner says what a section may hold
abbrev pub FitsLayer : (List Item → Type 0) → Layer → Type 0
FitsLayer Inner (Item-F.Section name tree) = IsName name × Inner (items_in tree)
FitsLayer Inner (Item-F.Value name v) = IsName name × FitsValue v

abbrev pub FitBy : (List Item → Type 0) → List Item → Type 0
FitBy Inner [] = Unit {0}
FitBy Inner (it ∷ items) = FitsLayer Inner (out-Item it) × FitBy Inner items

-- names, numbers and texts can be spelled, and sections lie in one another at most so many levels deep
unfoldable pub Fit : ℕ → List Item → Type 0
Fit zero = FitBy (λ items. ⊥)
Fit (suc levels) = FitBy (Fit levels)

-- ---- the bytes

-- a scalar, without a space
abbrev pub scalar_bytes : Scalar → List ℕ
scalar_bytes (scalar.Number n) = signed_decimal n
scalar_bytes (scalar.Text text) = token_bytes (Text text)

-- scalars, each behind a comma and a space
abbrev pub more_bytes : List Scalar → List ℕ
more_bytes [] = []
more_bytes (s ∷ ss) = 44 ∷ 32 ∷ (scalar_bytes s ++ more_bytes ss)

-- scalars with a comma and a space between
abbrev pub scalars_bytes : List Scalar → List ℕ
scalars_bytes [] = []
scalars_bytes (s ∷ ss) = scalar_bytes s ++ more_bytes ss

-- a list in brackets
abbrev pub value_bytes : Value → List ℕ
value_bytes (value.Number n) = signed_decimal n
value_bytes (value.Text text) = token_bytes (Text text)
value_bytes (value.Many ss) = 91 ∷ (scalars_bytes ss ++ 93 ∷ [])

-- pieces, one after the other
abbrev pub joined_bytes : List (List ℕ) → List ℕ
joined_bytes [] = []
joined_bytes (x ∷ xs) = x ++ joined_bytes xs

-- the lines of an item, of whose tree the lines are given
abbrev pub layer_bytes : Item-F (List ℕ) (List ℕ) → List ℕ
layer_bytes (Item-F.Section name inner) = name ++ codes " {\n" ++ inner ++ codes "}\n"
layer_bytes (Item-F.Value name v) = name ++ codes " = " ++ value_bytes v ++ codes "\n"

-- the lines of a tree, of whose items the lines are given
abbrev pub tree_layer_bytes : Tree-F (List ℕ) (List ℕ) → List ℕ
tree_layer_bytes tree = joined_bytes tree.items

-- the lines of an item
abbrev pub item_bytes : Item → List ℕ
item_bytes = fold-Item (List ℕ) (List ℕ) layer_bytes tree_layer_bytes

-- the lines of a tree
abbrev pub tree_bytes : Tree → List ℕ
tree_bytes = fold-Tree (List ℕ) (List ℕ) layer_bytes tree_layer_bytes

-- the lines of items
abbrev pub item_lines : List Item → List ℕ
item_lines items = joined_bytes (map item_bytes items)
