-- What is spelled is taken: the machine goes from state to state over the tokens of items.
use Rattle.std.proofs.Common.{◌≡◌, ℕ, zero, suc, ◌+◌, ◌<◌, ◌≤◌, ◌&&◌, Bool, true, false, nat_le, nat_lt, List, [], ◌∷◌, ◌++◌, length, Ok, ℤ, refl, sym, ap, ◌∙◌, append_assoc, arith, length-append}
use Rattle.std.proofs.lemmas.Bool.Decides.{nat_tests}
use Rattle.std.proofs.lemmas.List.{append-nil}
use Rattle.lvm_text.specs.declared.token.Token.{Token}
use Rattle.lvm_text.specs.declared.token.Token.TheVariants.{Open, Close, BeginList, EndList, Comma, Equals, Word, Text}
use Rattle.lvm_text.specs.declared.tree.Item.{Item, out-Item}
use Rattle.lvm_text.specs.declared.tree.Item.TheVariants as item
use Rattle.lvm_text.specs.declared.tree.Item.TheOpen.{Item-F}
use Rattle.lvm_text.specs.declared.tree.Tree.{Tree}
use Rattle.lvm_text.specs.declared.tree.Value.{Value}
use Rattle.lvm_text.specs.declared.tree.Value.TheVariants as value
use Rattle.lvm_text.specs.declared.tree.Scalar.{Scalar}
use Rattle.lvm_text.specs.declared.tree.Scalar.TheVariants as scalar
use Rattle.lvm_text.specs.declared.machine.Frame.{Frame}
use Rattle.lvm_text.specs.declared.machine.State.{State}
use Rattle.lvm_text.specs.declared.machine.Due.{Due}
use Rattle.lvm_text.specs.declared.machine.Due.TheVariants as due
use Rattle.lvm_text.specs.Tree.{items_in, tree_of, Layer}
use Rattle.lvm_text.specs.Grammar.{size_of_word, greatest_size, IsNumber, IsScalar, AreMore, AreScalars, IsValue, IsItem, AreItems, Spell}
use Rattle.lvm_text.specs.inside.Machine.{frame_of, number_at, scalar_at, is_list_begin, is_list_end, run, begun, whole}
use Rattle.lvm_text.proofs.Trees.{tree_of_items, section_is, value_is}
use Rattle.lvm_text.proofs.Frames.{parted_last}

abbrev pub at : List Frame → List Item → Due → State
at frames here due = record { frames = frames; here = here; due = due }

-- ---- numbers and scalars

within : (limited : Bool) (n : ℕ) → (limited ≡ true → n ≤ greatest_size) → (limited && nat_lt greatest_size n) ≡ false
within true n h = let k = h refl in grind (arith, nat_tests)
within false n h = refl

number_taken : (limited : Bool) (word : List ℕ) (n : ℤ) → IsNumber limited word n → number_at limited word ≡ Ok (scalar.Number n)
unfolding number_at
number_taken limited word n h = rw (h.form, within limited (size_of_word word) h.size) (ap (λ (x : ℤ). Ok (scalar.Number x)) (sym h.value))

pub scalar_taken : (limited : Bool) (t : Token) (s : Scalar) → IsScalar limited t s → scalar_at limited t ≡ Ok s
scalar_taken limited Open s h = elim h [ ]
scalar_taken limited Close s h = elim h [ ]
scalar_taken limited BeginList s h = elim h [ ]
scalar_taken limited EndList s h = elim h [ ]
scalar_taken limited Comma s h = elim h [ ]
scalar_taken limited Equals s h = elim h [ ]
scalar_taken limited (Word word) (scalar.Number n) h = number_taken limited word n h
scalar_taken limited (Word word) (scalar.Text text) h = elim h [ ]
scalar_taken limited (Text text) (scalar.Number n) h = elim h [ ]
scalar_taken limited (Text text) (scalar.Text held) h = ap (λ (x : List ℕ). Ok (scalar.Text x)) (sym h)

no_begin : (limited : Bool) (t : Token) (s : Scalar) → IsScalar limited t s → is_list_begin t ≡ false
no_begin limited Open s h = refl
no_begin limited Close s h = refl
no_begin limited BeginList s h = elim h [ ]
no_begin limited EndList s h = refl
no_begin limited Comma s h = refl
no_begin limited Equals s h = refl
no_begin limited (Word word) s h = refl
no_begin limited (Text text) s h = refl

no_end : (limited : Bool) (t : Token) (s : Scalar) → IsScalar limited t s → is_list_end t ≡ false
no_end limited Open s h = refl
no_end limited Close s h = refl
no_end limited BeginList s h = refl
no_end limited EndList s h = elim h [ ]
no_end limited Comma s h = refl
no_end limited Equals s h = refl
no_end limited (Word word) s h = refl
no_end limited (Text text) s h = refl

-- ---- values

abbrev after_value : List Frame → List Item → List ℕ → Value → State
after_value frames here name v = at frames (here ++ item.Value name v ∷ []) due.Name

more_taken : (limited : Bool) (frames : List Frame) (here : List Item) (name : List ℕ) (before : List Scalar) (tokens : List Token) (ss : List Scalar) (rest : List Token)
    → AreMore limited tokens ss → run limited (at frames here (due.Comma name before)) (tokens ++ EndList ∷ rest) ≡ run limited (after_value frames here name (value.Many (before ++ ss))) rest
unfolding run
more_taken limited frames here name before tokens [] rest h =
    ap (λ (x : List Token). run limited (at frames here (due.Comma name before)) (x ++ EndList ∷ rest)) h
    ∙ ap (λ (x : List Scalar). run limited (after_value frames here name (value.Many x)) rest) (sym (append-nil before))
more_taken limited frames here name before tokens (s ∷ ss) rest h =
    let t = h.0 in
    let one : run limited (at frames here (due.Comma name before)) (Comma ∷ t ∷ (h.1 ++ EndList ∷ rest)) ≡ run limited (at frames here (due.Comma name (before ++ s ∷ []))) (h.1 ++ EndList ∷ rest) = rw (scalar_taken limited t s h.3) refl in
    ap (λ (x : List Token). run limited (at frames here (due.Comma name before)) (x ++ EndList ∷ rest)) h.2
    ∙ one ∙ more_taken limited frames here name (before ++ s ∷ []) h.1 ss rest h.4
    ∙ ap (λ (x : List Scalar). run limited (after_value frames here name (value.Many x)) rest) (append_assoc before (s ∷ []) ss)

list_taken : (limited : Bool) (frames : List Frame) (here : List Item) (name : List ℕ) (tokens : List Token) (ss : List Scalar) (rest : List Token)
    → AreScalars limited tokens ss → run limited (at frames here (due.First name)) (tokens ++ EndList ∷ rest) ≡ run limited (after_value frames here name (value.Many ss)) rest
unfolding run
list_taken limited frames here name tokens [] rest h = ap (λ (x : List Token). run limited (at frames here (due.First name)) (x ++ EndList ∷ rest)) h
list_taken limited frames here name tokens (s ∷ ss) rest h =
    let t = h.0 in
    let one : run limited (at frames here (due.First name)) (t ∷ (h.1 ++ EndList ∷ rest)) ≡ run limited (at frames here (due.Comma name (s ∷ []))) (h.1 ++ EndList ∷ rest) = rw (no_end limited t s h.3, scalar_taken limited t s h.3) refl in
    ap (λ (x : List Token). run limited (at frames here (due.First name)) (x ++ EndList ∷ rest)) h.2
    ∙ one ∙ more_taken limited frames here name (s ∷ []) h.1 ss rest h.4

value_taken : (limited : Bool) (frames : List Frame) (here : List Item) (name : List ℕ) (tokens : List Token) (v : Value) (rest : List Token)
    → IsValue limited tokens v → run limited (at frames here (due.Value name)) (tokens ++ rest) ≡ run limited (after_value frames here name v) rest
unfolding run
value_taken limited frames here name tokens (value.Number n) rest h =
    let one : run limited (at frames here (due.Value name)) (Word h.0 ∷ rest) ≡ run limited (after_value frames here name (value.Number n)) rest = rw (number_taken limited h.0 n h.2) refl in
    ap (λ (x : List Token). run limited (at frames here (due.Value name)) (x ++ rest)) h.1 ∙ one
value_taken limited frames here name tokens (value.Text text) rest h = ap (λ (x : List Token). run limited (at frames here (due.Value name)) (x ++ rest)) h
value_taken limited frames here name tokens (value.Many ss) rest h =
    ap (λ (x : List Token). run limited (at frames here (due.Value name)) (x ++ rest)) h.1
    ∙ ap (run limited (at frames here (due.First name))) (append_assoc h.0 (EndList ∷ []) rest)
    ∙ list_taken limited frames here name h.0 ss rest h.2

-- ---- items

abbrev Subs : Bool → (List Token → List Item → Type 0) → ℕ → Type 0
Subs limited IsSub levels = (frames : List Frame) (inner : List Token) (xs : List Item) (rest : List Token) → IsSub inner xs → (limited ≡ true → length frames + levels ≤ 8)
    → run limited (at frames [] due.Name) (inner ++ rest) ≡ run limited (at frames xs due.Name) rest

room_left : (limited : Bool) (n : ℕ) → (limited ≡ true → n < 8) → (limited && nat_le 8 n) ≡ false
room_left true n h = let k = h refl in grind (arith, nat_tests)
room_left false n h = refl

layer_taken : (limited : Bool) (IsSub : List Token → List Item → Type 0) (levels : ℕ) (sub : Subs limited IsSub levels) (frames : List Frame) (here : List Item) (it : Item) (layer : Layer) (first rest : List Token)
    → out-Item it ≡ layer → IsItem limited IsSub first layer → ((inner : List Token) (xs : List Item) → IsSub inner xs → limited ≡ true → length frames + suc levels ≤ 8)
    → run limited (at frames here due.Name) (first ++ rest) ≡ run limited (at frames (here ++ it ∷ []) due.Name) rest
unfolding run
layer_taken limited IsSub levels sub frames here it (Item-F.Section name tree) first rest e h room =
    let inner = h.0 in
    let f = frame_of here name in
    let deep = room inner (items_in tree) h.2 in
    let deeper : List Frame = frames ++ f ∷ [] in
    let a : run limited (at frames here due.Name) (Word name ∷ Open ∷ ((inner ++ Close ∷ []) ++ rest)) ≡ run limited (at deeper [] due.Name) ((inner ++ Close ∷ []) ++ rest) = rw (room_left limited (length frames) (λ y. let k = deep y in omega arith)) refl in
    let d : run limited (at deeper (items_in tree) due.Name) (Close ∷ rest) ≡ run limited (at frames (here ++ item.Section name (tree_of (items_in tree)) ∷ []) due.Name) rest = rw (parted_last frames f) refl in
    ap (λ (x : List Token). run limited (at frames here due.Name) (x ++ rest)) h.1
    ∙ a ∙ ap (run limited (at deeper [] due.Name)) (append_assoc inner (Close ∷ []) rest)
    ∙ sub deeper inner (items_in tree) (Close ∷ rest) h.2 (λ y. let k = deep y in omega (arith, length-append frames (f ∷ [])))
    ∙ d ∙ ap (λ (x : Tree). run limited (at frames (here ++ item.Section name x ∷ []) due.Name) rest) (tree_of_items tree)
    ∙ ap (λ (x : Item). run limited (at frames (here ++ x ∷ []) due.Name) rest) (sym (section_is it name tree e))
layer_taken limited IsSub levels sub frames here it (Item-F.Value name v) first rest e h room =
    ap (λ (x : List Token). run limited (at frames here due.Name) (x ++ rest)) h.1
    ∙ value_taken limited frames here name h.0 v rest h.2
    ∙ ap (λ (x : Item). run limited (at frames (here ++ x ∷ []) due.Name) rest) (sym (value_is it name v e))

items_taken_by : (limited : Bool) (IsSub : List Token → List Item → Type 0) (levels : ℕ) (sub : Subs limited IsSub levels) (frames : List Frame) (here : List Item) (tokens : List Token) (items : List Item) (rest : List Token)
    → AreItems limited IsSub tokens items → ((inner : List Token) (xs : List Item) → IsSub inner xs → limited ≡ true → length frames + suc levels ≤ 8)
    → run limited (at frames here due.Name) (tokens ++ rest) ≡ run limited (at frames (here ++ items) due.Name) rest
items_taken_by limited IsSub levels sub frames here tokens [] rest h room =
    ap (λ (x : List Token). run limited (at frames here due.Name) (x ++ rest)) h
    ∙ ap (λ (x : List Item). run limited (at frames x due.Name) rest) (sym (append-nil here))
items_taken_by limited IsSub levels sub frames here tokens (it ∷ items) rest h room =
    ap (λ (x : List Token). run limited (at frames here due.Name) (x ++ rest)) h.2
    ∙ ap (run limited (at frames here due.Name)) (append_assoc h.0 h.1 rest)
    ∙ layer_taken limited IsSub levels sub frames here it (out-Item it) h.0 (h.1 ++ rest) refl h.3 room
    ∙ items_taken_by limited IsSub levels sub frames (here ++ it ∷ []) h.1 items rest h.4 room
    ∙ ap (λ (x : List Item). run limited (at frames x due.Name) rest) (append_assoc here (it ∷ []) items)

pub items_taken : (limited : Bool) (levels : ℕ) (frames : List Frame) (here : List Item) (tokens : List Token) (items : List Item) (rest : List Token)
    → Spell limited levels tokens items → (limited ≡ true → length frames + levels ≤ 8)
    → run limited (at frames here due.Name) (tokens ++ rest) ≡ run limited (at frames (here ++ items) due.Name) rest
unfolding Spell
items_taken limited zero frames here tokens items rest h room =
    items_taken_by limited (λ inner xs. ⊥) 0 (λ fs inner xs r none l. absurd none) frames here tokens items rest h (λ inner xs none. absurd none)
items_taken limited (suc levels) frames here tokens items rest h room =
    items_taken_by limited (Spell limited levels) levels (λ fs inner xs r is l. items_taken limited levels fs [] inner xs r is l) frames here tokens items rest h (λ inner xs is. room)

pub all_taken : (limited : Bool) (levels : ℕ) (tokens : List Token) (items : List Item) → Spell limited levels tokens items → (limited ≡ true → levels ≤ 8) → run limited begun tokens ≡ Ok (whole items)
unfolding run
all_taken limited levels tokens items h room =
    ap (run limited begun) (sym (append-nil tokens)) ∙ items_taken limited levels [] [] tokens items [] h (λ y. let k = room y in omega arith)
