-- What is read can be written.
use Rattle.std.proofs.Common.{ℕ, zero, suc, ◌≤◌, Bool, true, false, List, [], ◌∷◌, ◌++◌, ℤ, refl, sym, subst, arith}
use Rattle.lvm_text.specs.declared.token.Token.{Token}
use Rattle.lvm_text.specs.declared.token.Token.TheVariants.{Open, Close, BeginList, EndList, Comma, Equals, Word, Text}
use Rattle.lvm_text.specs.declared.tree.Item.{Item, out-Item}
use Rattle.lvm_text.specs.declared.tree.Item.TheOpen.{Item-F}
use Rattle.lvm_text.specs.declared.tree.Tree.{Tree}
use Rattle.lvm_text.specs.declared.tree.Value.{Value}
use Rattle.lvm_text.specs.declared.tree.Value.TheVariants as value
use Rattle.lvm_text.specs.declared.tree.Scalar.{Scalar}
use Rattle.lvm_text.specs.declared.tree.Scalar.TheVariants as scalar
use Rattle.lvm_text.specs.Tree.{items_in, Layer}
use Rattle.lvm_text.specs.Tokens.{CanStand, Reads}
use Rattle.lvm_text.specs.Grammar.{is_negative, size_of_word, signed, greatest_size, IsNumber, IsScalar, AreMore, AreScalars, IsValue, IsItem, AreItems, Spell}
use Rattle.lvm_text.specs.Faults.{Spells}
use Rattle.lvm_text.specs.Written.{IsName, InRange, FitsScalar, FitScalars, FitsValue, FitsLayer, FitBy, Fit}

-- each word among the tokens is a name
abbrev NameIn : Token → Type 0
NameIn Open = Unit {0}
NameIn Close = Unit {0}
NameIn BeginList = Unit {0}
NameIn EndList = Unit {0}
NameIn Comma = Unit {0}
NameIn Equals = Unit {0}
NameIn (Word word) = IsName word
NameIn (Text text) = Unit {0}

abbrev NamesIn : List Token → Type 0
NamesIn [] = Unit {0}
NamesIn (t ∷ tokens) = NameIn t × NamesIn tokens

name_in : (t : Token) (more : List ℕ) → CanStand t more → NameIn t
name_in Open more h = tt
name_in Close more h = tt
name_in BeginList more h = tt
name_in EndList more h = tt
name_in Comma more h = tt
name_in Equals more h = tt
name_in (Word word) more h = record { some = h.some; each = h.each }
name_in (Text text) more h = tt

names_in : (bytes : List ℕ) (tokens : List Token) (rest : List ℕ) → Reads bytes tokens rest → NamesIn tokens
names_in bytes [] rest h = tt
names_in bytes (t ∷ tokens) rest h = (name_in t h.0 h.1.stands, names_in h.0 tokens rest h.2)

front_names : (xs ys : List Token) → NamesIn (xs ++ ys) → NamesIn xs
front_names [] ys h = tt
front_names (x ∷ xs) ys h = (h.0, front_names xs ys h.1)

back_names : (xs ys : List Token) → NamesIn (xs ++ ys) → NamesIn ys
back_names [] ys h = h
back_names (x ∷ xs) ys h = back_names xs ys h.1

signed_fits : (negative : Bool) (n : ℕ) → n ≤ greatest_size → InRange (signed negative n)
signed_fits false n h = h
signed_fits true zero h = omega arith
signed_fits true (suc n) h = omega arith

number_fits : (word : List ℕ) (n : ℤ) → IsNumber true word n → InRange n
number_fits word n h = subst InRange (sym h.value) (signed_fits (is_negative word) (size_of_word word) (h.size refl))

scalar_fits : (t : Token) (s : Scalar) → IsScalar true t s → FitsScalar s
scalar_fits Open s h = elim h [ ]
scalar_fits Close s h = elim h [ ]
scalar_fits BeginList s h = elim h [ ]
scalar_fits EndList s h = elim h [ ]
scalar_fits Comma s h = elim h [ ]
scalar_fits Equals s h = elim h [ ]
scalar_fits (Word word) (scalar.Number n) h = number_fits word n h
scalar_fits (Word word) (scalar.Text text) h = elim h [ ]
scalar_fits (Text text) (scalar.Number n) h = elim h [ ]
scalar_fits (Text text) (scalar.Text held) h = tt

more_fit : (tokens : List Token) (ss : List Scalar) → AreMore true tokens ss → FitScalars ss
more_fit tokens [] h = tt
more_fit tokens (s ∷ ss) h = (scalar_fits h.0 s h.3, more_fit h.1 ss h.4)

scalars_fit : (tokens : List Token) (ss : List Scalar) → AreScalars true tokens ss → FitScalars ss
scalars_fit tokens [] h = tt
scalars_fit tokens (s ∷ ss) h = (scalar_fits h.0 s h.3, more_fit h.1 ss h.4)

value_fits : (tokens : List Token) (v : Value) → IsValue true tokens v → FitsValue v
value_fits tokens (value.Number n) h = number_fits h.0 n h.2
value_fits tokens (value.Text text) h = tt
value_fits tokens (value.Many ss) h = scalars_fit h.0 ss h.2

layer_fits : (Inner : List Item → Type 0) (IsSub : List Token → List Item → Type 0) → ((tokens : List Token) (items : List Item) → NamesIn tokens → IsSub tokens items → Inner items)
    → (tokens : List Token) (layer : Layer) → NamesIn tokens → IsItem true IsSub tokens layer → FitsLayer Inner layer
layer_fits Inner IsSub sub tokens (Item-F.Section name tree) n h =
    let k = subst NamesIn h.1 n in
    (k.0, sub h.0 (items_in tree) (front_names h.0 (Close ∷ []) k.1.1) h.2)
layer_fits Inner IsSub sub tokens (Item-F.Value name v) n h = let k = subst NamesIn h.1 n in (k.0, value_fits h.0 v h.2)

items_fit : (Inner : List Item → Type 0) (IsSub : List Token → List Item → Type 0) → ((tokens : List Token) (items : List Item) → NamesIn tokens → IsSub tokens items → Inner items)
    → (tokens : List Token) (items : List Item) → NamesIn tokens → AreItems true IsSub tokens items → FitBy Inner items
items_fit Inner IsSub sub tokens [] n h = tt
items_fit Inner IsSub sub tokens (it ∷ items) n h =
    let k = subst NamesIn h.2 n in
    (layer_fits Inner IsSub sub h.0 (out-Item it) (front_names h.0 h.1 k) h.3, items_fit Inner IsSub sub h.1 items (back_names h.0 h.1 k) h.4)

spelled_fit : (levels : ℕ) (tokens : List Token) (items : List Item) → NamesIn tokens → Spell true levels tokens items → Fit levels items
unfolding Spell Fit
spelled_fit zero tokens items n h = items_fit (λ xs. ⊥) (λ inner xs. ⊥) (λ us xs k none. none) tokens items n h
spelled_fit (suc levels) tokens items n h = items_fit (Fit levels) (Spell true levels) (λ us xs k is. spelled_fit levels us xs k is) tokens items n h

pub read_fits : (bytes : List ℕ) (tree : Tree) → Spells bytes tree → Fit 8 (items_in tree)
read_fits bytes tree h = spelled_fit 8 h.0 (items_in tree) (names_in bytes h.0 [] h.1) h.2
