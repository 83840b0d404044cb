-- What is taken was spelled: the tokens so far are those of what the state holds.
use Rattle.std.proofs.Common.{◌≡◌, ℕ, zero, suc, ◌+◌, ◌<◌, ◌≤◌, ◌&&◌, Bool, true, false, nat_le, nat_lt, List, [], ◌∷◌, ◌++◌, length, Option, Some, None, Result, Ok, Err, refl, sym, ap, subst, ◌∙◌, append_assoc, arith, length-append, inl, inr}
use Rattle.std.proofs.lemmas.Bool.Decides.{nat_tests}
use Rattle.std.proofs.lemmas.List.{append-nil}
use Rattle.lvm_text.specs.declared.token.Token.{Token}
use Rattle.lvm_text.specs.declared.token.Token.TheVariants.{Open, Close, BeginList, EndList, Comma, Equals, Word, Text}
use Rattle.lvm_text.specs.declared.tree.Item.{Item, out-Item}
use Rattle.lvm_text.specs.declared.tree.Item.TheVariants as item
use Rattle.lvm_text.specs.declared.tree.Item.TheOpen.{Item-F}
use Rattle.lvm_text.specs.declared.tree.Value.{Value}
use Rattle.lvm_text.specs.declared.tree.Value.TheVariants as value
use Rattle.lvm_text.specs.declared.tree.Scalar.{Scalar}
use Rattle.lvm_text.specs.declared.tree.Scalar.TheVariants as scalar
use Rattle.lvm_text.specs.declared.machine.Wrong.{Wrong}
use Rattle.lvm_text.specs.declared.machine.Wrong.TheVariants.{Shape, Number, Depth}
use Rattle.lvm_text.specs.declared.machine.Frame.{Frame}
use Rattle.lvm_text.specs.declared.machine.State.{State}
use Rattle.lvm_text.specs.declared.machine.Due.{Due}
use Rattle.lvm_text.specs.declared.machine.Due.TheVariants as due
use Rattle.lvm_text.specs.Tree.{tree_of, Layer}
use Rattle.lvm_text.specs.Grammar.{are_digit_bytes, digits_in, size_of_word, number_of_word, greatest_size, IsScalar, AreMore, AreScalars, IsValue, IsItem, AreItems, Spell}
use Rattle.lvm_text.specs.inside.Machine.{◌>>=◌, next, frame_of, parted, closed, number_at, scalar_at, value_of_scalar, with_value, step, step_due, run, begun, whole, at_name, at_mark, at_comma, at_value, at_first, at_scalar}
use Rattle.lvm_text.proofs.Trees.{items_of_tree, out_section, out_value}
use Rattle.lvm_text.proofs.Frames.{parted_some}
use Rattle.lvm_text.proofs.Scanning.{cases}
use Rattle.lvm_text.proofs.Taking.{at}

-- ---- items, one after another

items_then : (limited : Bool) (IsSub : List Token → List Item → Type 0) (xs ys : List Token) (us bs : List Item)
    → AreItems limited IsSub xs us → AreItems limited IsSub ys bs → AreItems limited IsSub (xs ++ ys) (us ++ bs)
items_then limited IsSub xs ys [] bs h k = subst (λ (x : List Token). AreItems limited IsSub (x ++ ys) bs) (sym h) k
items_then limited IsSub xs ys (a ∷ us) bs h k =
    (h.0, h.1 ++ ys, ap (λ (x : List Token). x ++ ys) h.2 ∙ append_assoc h.0 h.1 ys, h.3, items_then limited IsSub h.1 ys us bs h.4 k)

spell_then : (limited : Bool) (levels : ℕ) (xs ys : List Token) (us bs : List Item) → Spell limited levels xs us → Spell limited levels ys bs → Spell limited levels (xs ++ ys) (us ++ bs)
unfolding Spell
spell_then limited zero xs ys us bs h k = items_then limited (λ inner items. ⊥) xs ys us bs h k
spell_then limited (suc levels) xs ys us bs h k = items_then limited (Spell limited levels) xs ys us bs h k

one_item : (limited : Bool) (IsSub : List Token → List Item → Type 0) (xs : List Token) (it : Item) (layer : Layer) → out-Item it ≡ layer → IsItem limited IsSub xs layer → AreItems limited IsSub xs (it ∷ [])
one_item limited IsSub xs it layer e h = (xs, [], sym (append-nil xs), subst (IsItem limited IsSub xs) (sym e) h, refl)

one_value : (limited : Bool) (levels : ℕ) (name : List ℕ) (v : Value) (spelled : List Token) → IsValue limited spelled v → Spell limited levels (Word name ∷ Equals ∷ spelled) (item.Value name v ∷ [])
unfolding Spell
one_value limited zero name v spelled h = one_item limited (λ inner items. ⊥) (Word name ∷ Equals ∷ spelled) (item.Value name v) (Item-F.Value name v) (out_value name v) (spelled, refl, h)
one_value limited (suc levels) name v spelled h = one_item limited (Spell limited levels) (Word name ∷ Equals ∷ spelled) (item.Value name v) (Item-F.Value name v) (out_value name v) (spelled, refl, h)

one_section : (limited : Bool) (levels : ℕ) (name : List ℕ) (inner : List Token) (here : List Item) → Spell limited levels inner here → Spell limited (suc levels) (Word name ∷ Open ∷ (inner ++ Close ∷ [])) (item.Section name (tree_of here) ∷ [])
unfolding Spell
one_section limited levels name inner here h =
    one_item limited (Spell limited levels) (Word name ∷ Open ∷ (inner ++ Close ∷ [])) (item.Section name (tree_of here)) (Item-F.Section name (tree_of here)) (out_section name (tree_of here))
    (inner, refl, subst (Spell limited levels inner) (sym (items_of_tree here)) h)

nothing : (limited : Bool) (levels : ℕ) → Spell limited levels [] []
unfolding Spell
nothing limited zero = refl
nothing limited (suc levels) = refl

-- ---- the open sections and what they hold

pub Under : Bool → ℕ → List Frame → List Item → List Token → Type 0
Under limited levels [] here front = Spell limited levels front here
Under limited zero (f ∷ frames) here front = ⊥
Under limited (suc levels) (f ∷ frames) here front =
    (outer : List Token) × (inner : List Token) × (front ≡ outer ++ Word f.name ∷ Open ∷ inner) × Spell limited (suc levels) outer f.before × Under limited levels frames here inner

under_more : (limited : Bool) (levels : ℕ) (frames : List Frame) (here : List Item) (front piece : List Token) (it : Item)
    → Under limited levels frames here front → ((n : ℕ) → Spell limited n piece (it ∷ [])) → Under limited levels frames (here ++ it ∷ []) (front ++ piece)
unfolding Under
under_more limited levels [] here front piece it h k = spell_then limited levels front piece here (it ∷ []) h (k levels)
under_more limited zero (f ∷ frames) here front piece it h k = absurd h
under_more limited (suc levels) (f ∷ frames) here front piece it h k =
    (h.0, h.1 ++ piece, ap (λ (x : List Token). x ++ piece) h.2 ∙ append_assoc h.0 (Word f.name ∷ Open ∷ h.1) piece, h.3, under_more limited levels frames here h.1 piece it h.4 k)

under_open : (limited : Bool) (levels : ℕ) (frames : List Frame) (here : List Item) (front : List Token) (name : List ℕ)
    → Under limited levels frames here front → length frames < levels → Under limited levels (frames ++ frame_of here name ∷ []) [] (front ++ Word name ∷ Open ∷ [])
unfolding Under
under_open limited zero frames here front name h lt = absurd (omega arith)
under_open limited (suc levels) [] here front name h lt = (front, [], refl, h, nothing limited levels)
under_open limited (suc levels) (f ∷ frames) here front name h lt =
    (h.0, h.1 ++ Word name ∷ Open ∷ [], ap (λ (x : List Token). x ++ Word name ∷ Open ∷ []) h.2 ∙ append_assoc h.0 (Word f.name ∷ Open ∷ h.1) (Word name ∷ Open ∷ []), h.3, under_open limited levels frames here h.1 name h.4 (omega arith))

under_close : (limited : Bool) (levels : ℕ) (frames : List Frame) (f : Frame) (here : List Item) (front : List Token)
    → Under limited levels (frames ++ f ∷ []) here front → Under limited levels frames (f.before ++ item.Section f.name (tree_of here) ∷ []) (front ++ Close ∷ [])
unfolding Under
under_close limited zero [] f here front h = absurd h
under_close limited (suc levels) [] f here front h =
    let parts : front ++ Close ∷ [] ≡ h.0 ++ Word f.name ∷ Open ∷ (h.1 ++ Close ∷ []) = ap (λ (x : List Token). x ++ Close ∷ []) h.2 ∙ append_assoc h.0 (Word f.name ∷ Open ∷ h.1) (Close ∷ []) in
    subst (λ (x : List Token). Spell limited (suc levels) x (f.before ++ item.Section f.name (tree_of here) ∷ [])) (sym parts)
    (spell_then limited (suc levels) h.0 (Word f.name ∷ Open ∷ (h.1 ++ Close ∷ [])) f.before (item.Section f.name (tree_of here) ∷ []) h.3 (one_section limited levels f.name h.1 here h.4))
under_close limited zero (g ∷ frames) f here front h = absurd h
under_close limited (suc levels) (g ∷ frames) f here front h =
    (h.0, h.1 ++ Close ∷ [], ap (λ (x : List Token). x ++ Close ∷ []) h.2 ∙ append_assoc h.0 (Word g.name ∷ Open ∷ h.1) (Close ∷ []), h.3, under_close limited levels frames f here h.1 h.4)

-- ---- what has come of an item

more_then : (limited : Bool) (xs : List Token) (t : Token) (ss : List Scalar) (s : Scalar) → AreMore limited xs ss → IsScalar limited t s → AreMore limited (xs ++ Comma ∷ t ∷ []) (ss ++ s ∷ [])
more_then limited xs t [] s h k = (t, [], ap (λ (x : List Token). x ++ Comma ∷ t ∷ []) h, k, refl)
more_then limited xs t (r ∷ ss) s h k = (h.0, h.1 ++ Comma ∷ t ∷ [], ap (λ (x : List Token). x ++ Comma ∷ t ∷ []) h.2, h.3, more_then limited h.1 t ss s h.4 k)

-- scalars of which there is at least one
pub record Some_scalars (limited : Bool) (tokens : List Token) (ss : List Scalar) : Type 0 where
  pub some : 0 < length ss
  pub are : AreScalars limited tokens ss

scalars_then : (limited : Bool) (xs : List Token) (t : Token) (ss : List Scalar) (s : Scalar) → Some_scalars limited xs ss → IsScalar limited t s → Some_scalars limited (xs ++ Comma ∷ t ∷ []) (ss ++ s ∷ [])
scalars_then limited xs t [] s h k = absurd (let n = h.some in omega arith)
scalars_then limited xs t (r ∷ ss) s h k =
    let a = h.are in
    record { some = omega arith; are = (a.0, a.1 ++ Comma ∷ t ∷ [], ap (λ (x : List Token). x ++ Comma ∷ t ∷ []) a.2, a.3, more_then limited a.1 t ss s a.4 k) }

pub Pending : Bool → Due → List Token → Type 0
Pending limited due.Name tokens = tokens ≡ []
Pending limited (due.Mark name) tokens = tokens ≡ Word name ∷ []
Pending limited (due.Value name) tokens = tokens ≡ Word name ∷ Equals ∷ []
Pending limited (due.First name) tokens = tokens ≡ Word name ∷ Equals ∷ BeginList ∷ []
Pending limited (due.Scalar name ss) tokens = (inner : List Token) × (tokens ≡ Word name ∷ Equals ∷ BeginList ∷ (inner ++ Comma ∷ [])) × Some_scalars limited inner ss
Pending limited (due.Comma name ss) tokens = (inner : List Token) × (tokens ≡ Word name ∷ Equals ∷ BeginList ∷ inner) × Some_scalars limited inner ss

pub record Reached (limited : Bool) (levels : ℕ) (s : State) (front : List Token) : Type 0 where
  pub done : List Token
  pub pending : List Token
  pub parts : front ≡ done ++ pending
  pub under : Under limited levels s.frames s.here done
  pub rest : Pending limited s.due pending

-- ---- one step

sized : (limited : Bool) (n : ℕ) → (limited && nat_lt greatest_size n) ≡ false → limited ≡ true → n ≤ greatest_size
sized true n h e = grind (arith, nat_tests)
sized false n h e = absurd cc

number_spelled : (limited : Bool) (word : List ℕ) (s : Scalar) → number_at limited word ≡ Ok s → IsScalar limited (Word word) s
unfolding number_at
number_spelled limited word s h = elim (cases (are_digit_bytes (digits_in word))) [
  | inl e ↦ elim (cases (limited && nat_lt greatest_size (size_of_word word))) [
    | inl f ↦ absurd (let g : Err Number ≡ Ok s = rw (e, f) at h in cc)
    | inr f ↦
        let g : Ok (scalar.Number (number_of_word word)) ≡ Ok s = rw (e, f) at h in
        let same : scalar.Number (number_of_word word) ≡ s = cc in
        subst (IsScalar limited (Word word)) same (record { form = e; value = refl; size = sized limited (size_of_word word) f })
  ]
  | inr e ↦ absurd (let g : Err Shape ≡ Ok s = rw e at h in cc)
]

scalar_spelled : (limited : Bool) (t : Token) (s : Scalar) → scalar_at limited t ≡ Ok s → IsScalar limited t s
scalar_spelled limited Open s h = absurd cc
scalar_spelled limited Close s h = absurd cc
scalar_spelled limited BeginList s h = absurd cc
scalar_spelled limited EndList s h = absurd cc
scalar_spelled limited Comma s h = absurd cc
scalar_spelled limited Equals s h = absurd cc
scalar_spelled limited (Word word) s h = number_spelled limited word s h
scalar_spelled limited (Text text) s h = let same : scalar.Text text ≡ s = cc in subst (IsScalar limited (Text text)) same refl

value_spelled : (limited : Bool) (t : Token) (s : Scalar) → IsScalar limited t s → IsValue limited (t ∷ []) (value_of_scalar s)
value_spelled limited Open s h = elim h [ ]
value_spelled limited Close s h = elim h [ ]
value_spelled limited BeginList s h = elim h [ ]
value_spelled limited EndList s h = elim h [ ]
value_spelled limited Comma s h = elim h [ ]
value_spelled limited Equals s h = elim h [ ]
value_spelled limited (Word word) (scalar.Number n) h = (word, refl, h)
value_spelled limited (Word word) (scalar.Text text) h = elim h [ ]
value_spelled limited (Text text) (scalar.Number n) h = elim h [ ]
value_spelled limited (Text text) (scalar.Text held) h = ap (λ (x : List ℕ). Text x ∷ []) (sym h)

-- a scalar that came
record Came (limited : Bool) (t : Token) (f : Scalar → Result State Wrong) (u : State) : Type 0 where
  pub s : Scalar
  pub is : IsScalar limited t s
  pub gives : f s ≡ Ok u

came_of : (limited : Bool) (t : Token) (r : Result Scalar Wrong) (f : Scalar → Result State Wrong) (u : State) → scalar_at limited t ≡ r → (r >>= f) ≡ Ok u → Came limited t f u
came_of limited t (Ok s) f u e h = record { s = s; is = scalar_spelled limited t s e; gives = h }
came_of limited t (Err wrong) f u e h = absurd cc

-- what the limits leave: 8 levels, or as many as there are tokens
abbrev pub Room : Bool → ℕ → ℕ → Type 0
Room true levels n = levels ≡ 8
Room false levels n = n ≤ levels

pub record Stepped (limited : Bool) (levels : ℕ) (s u : State) (front : List Token) : Type 0 where
  pub reached : Reached limited levels u front
  pub deeper : length u.frames ≤ suc (length s.frames)

-- the state where the tokens so far are whole items
at_item : (limited : Bool) (levels : ℕ) (frames : List Frame) (here : List Item) (front : List Token) → Under limited levels frames here front → Reached limited levels (at frames here due.Name) front
unfolding Pending
at_item limited levels frames here front h = record { done = front; pending = []; parts = sym (append-nil front); under = h; rest = refl }

ended : (limited : Bool) (levels : ℕ) (frames : List Frame) (here : List Item) (was : Due) (done pending piece front : List Token) (t : Token) (name : List ℕ) (v : Value) (u : State)
    → Under limited levels frames here done → front ≡ done ++ pending → pending ++ t ∷ [] ≡ Word name ∷ Equals ∷ piece → IsValue limited piece v → with_value frames here name v ≡ Ok u
    → Stepped limited levels (at frames here was) u (front ++ t ∷ [])
ended limited levels frames here was done pending piece front t name v u under parts spelled is h =
    let same : at frames (here ++ item.Value name v ∷ []) due.Name ≡ u = cc in
    let all : front ++ t ∷ [] ≡ done ++ Word name ∷ Equals ∷ piece = ap (λ (x : List Token). x ++ t ∷ []) parts ∙ append_assoc done pending (t ∷ []) ∙ ap (λ (x : List Token). done ++ x) spelled in
    let k = at_item limited levels frames (here ++ item.Value name v ∷ []) (done ++ Word name ∷ Equals ∷ piece) (under_more limited levels frames here done (Word name ∷ Equals ∷ piece) (item.Value name v) under (λ n. one_value limited n name v piece is)) in
    subst (λ (x : State). Stepped limited levels (at frames here was) x (front ++ t ∷ [])) same
    (record { reached = subst (Reached limited levels (at frames (here ++ item.Value name v ∷ []) due.Name)) (sym all) k; deeper = omega arith })

-- the state where the item isn't whole
waits : (limited : Bool) (levels : ℕ) (frames : List Frame) (here : List Item) (was now : Due) (done pending after front : List Token) (t : Token) (u : State)
    → Under limited levels frames here done → front ≡ done ++ pending → pending ++ t ∷ [] ≡ after → Pending limited now after → next frames here now ≡ Ok u
    → Stepped limited levels (at frames here was) u (front ++ t ∷ [])
waits limited levels frames here was now done pending after front t u under parts spelled is h =
    let same : at frames here now ≡ u = cc in
    let all : front ++ t ∷ [] ≡ done ++ after = ap (λ (x : List Token). x ++ t ∷ []) parts ∙ append_assoc done pending (t ∷ []) ∙ ap (λ (x : List Token). done ++ x) spelled in
    subst (λ (x : State). Stepped limited levels (at frames here was) x (front ++ t ∷ [])) same
    (record { reached = record { done = done; pending = after; parts = all; under = under; rest = is }; deeper = omega arith })

steps_close : (limited : Bool) (levels : ℕ) (frames : List Frame) (here : List Item) (done : List Token) (r : Option (List Frame × Frame)) (u : State)
    → parted frames ≡ r → Under limited levels frames here done → closed here r ≡ Ok u → Stepped limited levels (at frames here due.Name) u (done ++ Close ∷ [])
steps_close limited levels frames here done None u e under h = absurd cc
steps_close limited levels frames here done (Some p) u e under h =
    let is = parted_some frames p e in
    let after : List Item = p.1.before ++ item.Section p.1.name (tree_of here) ∷ [] in
    let same : at p.0 after due.Name ≡ u = cc in
    let k = at_item limited levels p.0 after (done ++ Close ∷ []) (under_close limited levels p.0 p.1 here done (subst (λ (x : List Frame). Under limited levels x here done) is under)) in
    subst (λ (x : State). Stepped limited levels (at frames here due.Name) x (done ++ Close ∷ [])) same
    (record { reached = k; deeper = rw is (omega (arith, length-append p.0 (p.1 ∷ []))) })

steps_name : (limited : Bool) (levels : ℕ) (frames : List Frame) (here : List Item) (t : Token) (u : State) (front : List Token)
    → Reached limited levels (at frames here due.Name) front → at_name frames here t ≡ Ok u → Stepped limited levels (at frames here due.Name) u (front ++ t ∷ [])
unfolding Pending
steps_name limited levels frames here Open u front r h = absurd cc
steps_name limited levels frames here Close u front r h =
    let all : front ≡ r.done = r.parts ∙ ap (λ (x : List Token). r.done ++ x) r.rest ∙ append-nil r.done in
    subst (λ (x : List Token). Stepped limited levels (at frames here due.Name) u (x ++ Close ∷ [])) (sym all) (steps_close limited levels frames here r.done (parted frames) u refl r.under h)
steps_name limited levels frames here BeginList u front r h = absurd cc
steps_name limited levels frames here EndList u front r h = absurd cc
steps_name limited levels frames here Comma u front r h = absurd cc
steps_name limited levels frames here Equals u front r h = absurd cc
steps_name limited levels frames here (Word word) u front r h =
    waits limited levels frames here due.Name (due.Mark word) r.done r.pending (Word word ∷ []) front (Word word) u r.under r.parts (ap (λ (x : List Token). x ++ Word word ∷ []) r.rest) refl h
steps_name limited levels frames here (Text text) u front r h = absurd cc

room_for : (limited : Bool) (levels n k : ℕ) → (limited && nat_le 8 n) ≡ false → Room limited levels (n + suc k) → n < levels
room_for true levels n k e room = let le : n < 8 = grind (arith, nat_tests) in omega (arith, room)
room_for false levels n k e room = omega (arith, room)

steps_mark : (limited : Bool) (levels k : ℕ) (frames : List Frame) (here : List Item) (name : List ℕ) (t : Token) (u : State) (front : List Token)
    → Reached limited levels (at frames here (due.Mark name)) front → Room limited levels (length frames + suc k) → at_mark limited frames here name t ≡ Ok u → Stepped limited levels (at frames here (due.Mark name)) u (front ++ t ∷ [])
unfolding Pending
steps_mark limited levels k frames here name Open u front r room h = elim (cases (limited && nat_le 8 (length frames))) [
  | inl e ↦ absurd (let g : Err Depth ≡ Ok u = rw e at h in cc)
  | inr e ↦
      let g : next (frames ++ frame_of here name ∷ []) [] due.Name ≡ Ok u = rw e at h in
      let same : at (frames ++ frame_of here name ∷ []) [] due.Name ≡ u = cc in
      let all : front ++ Open ∷ [] ≡ r.done ++ Word name ∷ Open ∷ [] = ap (λ (x : List Token). x ++ Open ∷ []) r.parts ∙ append_assoc r.done r.pending (Open ∷ []) ∙ ap (λ (x : List Token). r.done ++ (x ++ Open ∷ [])) r.rest in
      let reached = at_item limited levels (frames ++ frame_of here name ∷ []) [] (r.done ++ Word name ∷ Open ∷ []) (under_open limited levels frames here r.done name r.under (room_for limited levels (length frames) k e room)) in
      subst (λ (x : State). Stepped limited levels (at frames here (due.Mark name)) x (front ++ Open ∷ [])) same
      (record { reached = subst (Reached limited levels (at (frames ++ frame_of here name ∷ []) [] due.Name)) (sym all) reached; deeper = omega (arith, length-append frames (frame_of here name ∷ [])) })
]
steps_mark limited levels k frames here name Close u front r room h = absurd cc
steps_mark limited levels k frames here name BeginList u front r room h = absurd cc
steps_mark limited levels k frames here name EndList u front r room h = absurd cc
steps_mark limited levels k frames here name Comma u front r room h = absurd cc
steps_mark limited levels k frames here name Equals u front r room h =
    waits limited levels frames here (due.Mark name) (due.Value name) r.done r.pending (Word name ∷ Equals ∷ []) front Equals u r.under r.parts (ap (λ (x : List Token). x ++ Equals ∷ []) r.rest) refl h
steps_mark limited levels k frames here name (Word word) u front r room h = absurd cc
steps_mark limited levels k frames here name (Text text) u front r room h = absurd cc

value_came : (limited : Bool) (levels : ℕ) (frames : List Frame) (here : List Item) (name : List ℕ) (t : Token) (u : State) (front : List Token)
    → Reached limited levels (at frames here (due.Value name)) front → (scalar_at limited t >>= λ s. with_value frames here name (value_of_scalar s)) ≡ Ok u → Stepped limited levels (at frames here (due.Value name)) u (front ++ t ∷ [])
unfolding Pending
value_came limited levels frames here name t u front r h =
    let c = came_of limited t (scalar_at limited t) (λ s. with_value frames here name (value_of_scalar s)) u refl h in
    ended limited levels frames here (due.Value name) r.done r.pending (t ∷ []) front t name (value_of_scalar c.s) u r.under r.parts (ap (λ (x : List Token). x ++ t ∷ []) r.rest) (value_spelled limited t c.s c.is) c.gives

steps_value : (limited : Bool) (levels : ℕ) (frames : List Frame) (here : List Item) (name : List ℕ) (t : Token) (u : State) (front : List Token)
    → Reached limited levels (at frames here (due.Value name)) front → at_value limited frames here name t ≡ Ok u → Stepped limited levels (at frames here (due.Value name)) u (front ++ t ∷ [])
unfolding Pending
steps_value limited levels frames here name Open u front r h = absurd cc
steps_value limited levels frames here name Close u front r h = absurd cc
steps_value limited levels frames here name BeginList u front r h =
    waits limited levels frames here (due.Value name) (due.First name) r.done r.pending (Word name ∷ Equals ∷ BeginList ∷ []) front BeginList u r.under r.parts (ap (λ (x : List Token). x ++ BeginList ∷ []) r.rest) refl h
steps_value limited levels frames here name EndList u front r h = absurd cc
steps_value limited levels frames here name Comma u front r h = absurd cc
steps_value limited levels frames here name Equals u front r h = absurd cc
steps_value limited levels frames here name (Word word) u front r h = value_came limited levels frames here name (Word word) u front r h
steps_value limited levels frames here name (Text text) u front r h = value_came limited levels frames here name (Text text) u front r h

steps_scalar : (limited : Bool) (levels : ℕ) (frames : List Frame) (here : List Item) (name : List ℕ) (ss : List Scalar) (t : Token) (u : State) (front : List Token)
    → Reached limited levels (at frames here (due.Scalar name ss)) front → at_scalar limited frames here name ss t ≡ Ok u → Stepped limited levels (at frames here (due.Scalar name ss)) u (front ++ t ∷ [])
unfolding Pending
steps_scalar limited levels frames here name ss t u front r h =
    let c = came_of limited t (scalar_at limited t) (λ s. next frames here (due.Comma name (ss ++ s ∷ []))) u refl h in
    let inner = r.rest.0 in
    let after : List Token = Word name ∷ Equals ∷ BeginList ∷ (inner ++ Comma ∷ t ∷ []) in
    let spelled : r.pending ++ t ∷ [] ≡ after = ap (λ (x : List Token). x ++ t ∷ []) r.rest.1 ∙ ap (λ (x : List Token). Word name ∷ Equals ∷ BeginList ∷ x) (append_assoc inner (Comma ∷ []) (t ∷ [])) in
    waits limited levels frames here (due.Scalar name ss) (due.Comma name (ss ++ c.s ∷ [])) r.done r.pending after front t u r.under r.parts spelled (inner ++ Comma ∷ t ∷ [], refl, scalars_then limited inner t ss c.s r.rest.2 c.is) c.gives

first_came : (limited : Bool) (levels : ℕ) (frames : List Frame) (here : List Item) (name : List ℕ) (t : Token) (u : State) (front : List Token)
    → Reached limited levels (at frames here (due.First name)) front → at_scalar limited frames here name [] t ≡ Ok u → Stepped limited levels (at frames here (due.First name)) u (front ++ t ∷ [])
unfolding Pending
first_came limited levels frames here name t u front r h =
    let c = came_of limited t (scalar_at limited t) (λ s. next frames here (due.Comma name ([] ++ s ∷ []))) u refl h in
    waits limited levels frames here (due.First name) (due.Comma name (c.s ∷ [])) r.done r.pending (Word name ∷ Equals ∷ BeginList ∷ t ∷ []) front t u r.under r.parts (ap (λ (x : List Token). x ++ t ∷ []) r.rest)
    (t ∷ [], refl, record { some = omega arith; are = (t, [], refl, c.is, refl) }) c.gives

steps_first : (limited : Bool) (levels : ℕ) (frames : List Frame) (here : List Item) (name : List ℕ) (t : Token) (u : State) (front : List Token)
    → Reached limited levels (at frames here (due.First name)) front → at_first limited frames here name t ≡ Ok u → Stepped limited levels (at frames here (due.First name)) u (front ++ t ∷ [])
unfolding Pending
steps_first limited levels frames here name Open u front r h = absurd cc
steps_first limited levels frames here name Close u front r h = absurd cc
steps_first limited levels frames here name BeginList u front r h = absurd cc
steps_first limited levels frames here name EndList u front r h =
    ended limited levels frames here (due.First name) r.done r.pending (BeginList ∷ EndList ∷ []) front EndList name (value.Many []) u r.under r.parts (ap (λ (x : List Token). x ++ EndList ∷ []) r.rest) ([], refl, refl) h
steps_first limited levels frames here name Comma u front r h = absurd cc
steps_first limited levels frames here name Equals u front r h = absurd cc
steps_first limited levels frames here name (Word word) u front r h = first_came limited levels frames here name (Word word) u front r h
steps_first limited levels frames here name (Text text) u front r h = first_came limited levels frames here name (Text text) u front r h

steps_comma : (limited : Bool) (levels : ℕ) (frames : List Frame) (here : List Item) (name : List ℕ) (ss : List Scalar) (t : Token) (u : State) (front : List Token)
    → Reached limited levels (at frames here (due.Comma name ss)) front → at_comma frames here name ss t ≡ Ok u → Stepped limited levels (at frames here (due.Comma name ss)) u (front ++ t ∷ [])
unfolding Pending
steps_comma limited levels frames here name ss Open u front r h = absurd cc
steps_comma limited levels frames here name ss Close u front r h = absurd cc
steps_comma limited levels frames here name ss BeginList u front r h = absurd cc
steps_comma limited levels frames here name ss EndList u front r h =
    ended limited levels frames here (due.Comma name ss) r.done r.pending (BeginList ∷ (r.rest.0 ++ EndList ∷ [])) front EndList name (value.Many ss) u r.under r.parts (ap (λ (x : List Token). x ++ EndList ∷ []) r.rest.1) (r.rest.0, refl, r.rest.2.are) h
steps_comma limited levels frames here name ss Comma u front r h =
    waits limited levels frames here (due.Comma name ss) (due.Scalar name ss) r.done r.pending (Word name ∷ Equals ∷ BeginList ∷ (r.rest.0 ++ Comma ∷ [])) front Comma u r.under r.parts (ap (λ (x : List Token). x ++ Comma ∷ []) r.rest.1) (r.rest.0, refl, r.rest.2) h
steps_comma limited levels frames here name ss Equals u front r h = absurd cc
steps_comma limited levels frames here name ss (Word word) u front r h = absurd cc
steps_comma limited levels frames here name ss (Text text) u front r h = absurd cc

steps : (limited : Bool) (levels k : ℕ) (frames : List Frame) (here : List Item) (d : Due) (t : Token) (u : State) (front : List Token)
    → Reached limited levels (at frames here d) front → Room limited levels (length frames + suc k) → step_due limited frames here d t ≡ Ok u → Stepped limited levels (at frames here d) u (front ++ t ∷ [])
steps limited levels k frames here due.Name t u front r room h = steps_name limited levels frames here t u front r h
steps limited levels k frames here (due.Mark name) t u front r room h = steps_mark limited levels k frames here name t u front r room h
steps limited levels k frames here (due.Value name) t u front r room h = steps_value limited levels frames here name t u front r h
steps limited levels k frames here (due.First name) t u front r room h = steps_first limited levels frames here name t u front r h
steps limited levels k frames here (due.Scalar name ss) t u front r room h = steps_scalar limited levels frames here name ss t u front r h
steps limited levels k frames here (due.Comma name ss) t u front r room h = steps_comma limited levels frames here name ss t u front r h

-- ---- a run

room_less : (limited : Bool) (levels m n : ℕ) → m ≤ n → Room limited levels n → Room limited levels m
room_less true levels m n le room = room
room_less false levels m n le room = omega (arith, room)

runs_on : (limited : Bool) (levels : ℕ) (s : State) (t : Token) (tokens : List Token) (u : State) (front : List Token) (r : Result State Wrong)
    → ((v : State) → Reached limited levels v (front ++ t ∷ []) → Room limited levels (length v.frames + length tokens) → run limited v tokens ≡ Ok u → Reached limited levels u ((front ++ t ∷ []) ++ tokens))
    → step limited s t ≡ r → Reached limited levels s front → Room limited levels (length s.frames + suc (length tokens)) → (r >>= λ v. run limited v tokens) ≡ Ok u → Reached limited levels u (front ++ t ∷ tokens)
runs_on limited levels s t tokens u front (Ok v) ih e reached room h =
    let k = steps limited levels (length tokens) s.frames s.here s.due t v front reached room e in
    let less : length v.frames + length tokens ≤ length s.frames + suc (length tokens) = let d = k.deeper in omega arith in
    subst (Reached limited levels u) (append_assoc front (t ∷ []) tokens) (ih v k.reached (room_less limited levels (length v.frames + length tokens) (length s.frames + suc (length tokens)) less room) h)
runs_on limited levels s t tokens u front (Err wrong) ih e reached room h = absurd cc

reaches : (limited : Bool) (levels : ℕ) (tokens : List Token) (s u : State) (front : List Token)
    → Reached limited levels s front → Room limited levels (length s.frames + length tokens) → run limited s tokens ≡ Ok u → Reached limited levels u (front ++ tokens)
unfolding run
reaches limited levels [] s u front reached room h =
    let same : s ≡ u = cc in
    subst (λ (x : State). Reached limited levels x (front ++ [])) same (subst (Reached limited levels s) (sym (append-nil front)) reached)
reaches limited levels (t ∷ tokens) s u front reached room h =
    runs_on limited levels s t tokens u front (step limited s t) (λ v r k e. reaches limited levels tokens v u (front ++ t ∷ []) r k e) refl reached room h

pub all_spelled : (limited : Bool) (levels : ℕ) (tokens : List Token) (items : List Item) → Room limited levels (length tokens) → run limited begun tokens ≡ Ok (whole items) → Spell limited levels tokens items
unfolding Pending Under
all_spelled limited levels tokens items room h =
    let r = reaches limited levels tokens begun (whole items) [] (at_item limited levels [] [] [] (nothing limited levels)) (room_less limited levels (0 + length tokens) (length tokens) (omega arith) room) h in
    let all : tokens ≡ r.done = r.parts ∙ ap (λ (x : List Token). r.done ++ x) r.rest ∙ append-nil r.done in
    subst (λ (x : List Token). Spell limited levels x items) (sym all) r.under
