-- Where tokens may go on, and what the limits change.
use Rattle.std.proofs.Common.{◌≡◌, ℕ, zero, suc, ◌<◌, Bool, true, false, nat_le, nat_lt, List, [], ◌∷◌, ◌++◌, length, Option, Some, None, Result, Ok, Err, refl, sym, ap, subst, ◌∙◌, append_assoc, arith, length-append, inl, inr}
use Rattle.lvm_text.specs.declared.token.Token.{Token}
use Rattle.lvm_text.specs.declared.token.Token.TheVariants.{Open, Close, BeginList, EndList, Comma, Equals, Word, Text}
use Rattle.lvm_text.specs.declared.tree.Item.{Item}
use Rattle.lvm_text.specs.declared.tree.Item.TheVariants as item
use Rattle.lvm_text.specs.declared.tree.Value.TheVariants as value
use Rattle.lvm_text.specs.declared.tree.Scalar.{Scalar}
use Rattle.lvm_text.specs.declared.tree.Scalar.TheVariants as scalar
use Rattle.lvm_text.specs.declared.machine.Wrong.{Wrong}
use Rattle.lvm_text.specs.declared.machine.Wrong.TheVariants.{Shape, Number, Depth}
use Rattle.lvm_text.specs.declared.machine.Frame.{Frame}
use Rattle.lvm_text.specs.declared.machine.State.{State}
use Rattle.lvm_text.specs.declared.machine.Due.{Due}
use Rattle.lvm_text.specs.declared.machine.Due.TheVariants as due
use Rattle.lvm_text.specs.Tree.{tree_of}
use Rattle.lvm_text.specs.Grammar.{are_digit_bytes, digits_in, size_of_word, number_of_word, greatest_size}
use Rattle.lvm_text.specs.Faults.{Allowed, Formed}
use Rattle.lvm_text.specs.inside.Machine.{◌>>=◌, frame_of, parted, closed, number_at, scalar_at, value_of_scalar, is_list_begin, is_list_end, step, step_due, run, begun, whole, at_name, at_mark, at_comma, at_value, at_first, at_scalar}
use Rattle.lvm_text.proofs.Frames.{parted_some, parted_nothing}
use Rattle.lvm_text.proofs.Scanning.{cases}
use Rattle.lvm_text.proofs.Taking.{at, all_taken}
use Rattle.lvm_text.proofs.Reaching.{all_spelled}

-- ---- a run in two parts

bind_then : (limited : Bool) (xs ys : List Token) (r : Result State Wrong) → ((s : State) → run limited s (xs ++ ys) ≡ (run limited s xs >>= λ t. run limited t ys))
    → (r >>= λ t. run limited t (xs ++ ys)) ≡ ((r >>= λ t. run limited t xs) >>= λ t. run limited t ys)
bind_then limited xs ys (Ok t) ih = ih t
bind_then limited xs ys (Err wrong) ih = refl

pub run_then : (limited : Bool) (s : State) (xs ys : List Token) → run limited s (xs ++ ys) ≡ (run limited s xs >>= λ t. run limited t ys)
unfolding run
run_then limited s [] ys = refl
run_then limited s (x ∷ xs) ys = bind_then limited xs ys (step limited s x) (λ t. run_then limited t xs ys)

pub run_more : (limited : Bool) (s t : State) (xs ys : List Token) → run limited s xs ≡ Ok t → run limited s (xs ++ ys) ≡ run limited t ys
run_more limited s t xs ys h = run_then limited s xs ys ∙ ap (λ (r : Result State Wrong). r >>= λ u. run limited u ys) h

pub one_more : (limited : Bool) (s : State) (t : Token) (u : State) → step limited s t ≡ Ok u → run limited s (t ∷ []) ≡ Ok u
unfolding run
one_more limited s t u h = rw h refl

one_less : (limited : Bool) (s : State) (t : Token) (wrong : Wrong) (more : List Token) → step limited s t ≡ Err wrong → run limited s (t ∷ more) ≡ Err wrong
unfolding run
one_less limited s t wrong more h = rw h refl

-- ---- each state can be brought to an end

pub record Completes (limited : Bool) (s : State) : Type 0 where
  pub more : List Token
  pub items : List Item
  pub ends : run limited s more ≡ Ok (whole items)

lead : (limited : Bool) (s : State) (t : Token) (u : State) → step limited s t ≡ Ok u → Completes limited u → Completes limited s
unfolding run
lead limited s t u h c = record { more = t ∷ c.more; items = c.items; ends = rw h c.ends }

closes_in : (limited : Bool) (n : ℕ) (frames : List Frame) (here : List Item) (r : Option (List Frame × Frame)) → ((fs : List Frame) (xs : List Item) → length fs < length frames → Completes limited (at fs xs due.Name)) → parted frames ≡ r → Completes limited (at frames here due.Name)
unfolding run
closes_in limited n frames here None ih e =
    subst (λ (x : List Frame). Completes limited (at x here due.Name)) (sym (parted_nothing frames e)) (record { more = []; items = here; ends = refl })
closes_in limited n frames here (Some p) ih e =
    let is = parted_some frames p e in
    let after : List Item = p.1.before ++ item.Section p.1.name (tree_of here) ∷ [] in
    let less : length p.0 < length frames = rw is (omega (arith, length-append p.0 (p.1 ∷ []))) in
    lead limited (at frames here due.Name) Close (at p.0 after due.Name) (ap (closed here) e) (ih p.0 after less)

closes : (limited : Bool) (n : ℕ) (frames : List Frame) (here : List Item) → length frames < n → Completes limited (at frames here due.Name)
closes limited zero frames here lt = absurd (omega arith)
closes limited (suc n) frames here lt = closes_in limited n frames here (parted frames) (λ fs xs less. closes limited n fs xs (omega arith)) refl

closing : (limited : Bool) (frames : List Frame) (here : List Item) → Completes limited (at frames here due.Name)
closing limited frames here = closes limited (suc (length frames)) frames here (omega arith)

due_completes_comma : (limited : Bool) (frames : List Frame) (here : List Item) (name : List ℕ) (ss : List Scalar) → Completes limited (at frames here (due.Comma name ss))
due_completes_comma limited frames here name ss =
    lead limited (at frames here (due.Comma name ss)) EndList (at frames (here ++ item.Value name (value.Many ss) ∷ []) due.Name) refl (closing limited frames (here ++ item.Value name (value.Many ss) ∷ []))

due_completes_value : (limited : Bool) (frames : List Frame) (here : List Item) (name : List ℕ) → Completes limited (at frames here (due.Value name))
due_completes_value limited frames here name =
    lead limited (at frames here (due.Value name)) (Text []) (at frames (here ++ item.Value name (value.Text []) ∷ []) due.Name) refl (closing limited frames (here ++ item.Value name (value.Text []) ∷ []))

due_completes : (limited : Bool) (frames : List Frame) (here : List Item) (d : Due) → Completes limited (at frames here d)
due_completes limited frames here due.Name = closing limited frames here
due_completes limited frames here (due.Mark name) =
    lead limited (at frames here (due.Mark name)) Equals (at frames here (due.Value name)) refl (due_completes_value limited frames here name)
due_completes limited frames here (due.Value name) = due_completes_value limited frames here name
due_completes limited frames here (due.First name) =
    lead limited (at frames here (due.First name)) EndList (at frames (here ++ item.Value name (value.Many []) ∷ []) due.Name) refl (closing limited frames (here ++ item.Value name (value.Many []) ∷ []))
due_completes limited frames here (due.Scalar name ss) =
    lead limited (at frames here (due.Scalar name ss)) (Text []) (at frames here (due.Comma name (ss ++ scalar.Text [] ∷ []))) refl (due_completes_comma limited frames here name (ss ++ scalar.Text [] ∷ []))
due_completes limited frames here (due.Comma name ss) = due_completes_comma limited frames here name ss

pub completes : (limited : Bool) (s : State) → Completes limited s
completes limited s = due_completes limited s.frames s.here s.due

-- ---- what the limits change

unfoldable pub Relaxed : Result State Wrong → Result State Wrong → Token → Type 0
Relaxed (Ok u) r t = r ≡ Ok u
Relaxed (Err Shape) r t = r ≡ Err Shape
Relaxed (Err Number) r t = (word : List ℕ) × (u : State) × (t ≡ Word word) × (r ≡ Ok u)
Relaxed (Err Depth) r t = (u : State) × (t ≡ Open) × (r ≡ Ok u)

-- the same of a scalar
Relaxed_scalar : Result Scalar Wrong → Result Scalar Wrong → Token → Type 0
Relaxed_scalar (Ok s) r t = r ≡ Ok s
Relaxed_scalar (Err Shape) r t = r ≡ Err Shape
Relaxed_scalar (Err Number) r t = (word : List ℕ) × (s : Scalar) × (t ≡ Word word) × (r ≡ Ok s)
Relaxed_scalar (Err Depth) r t = ⊥

number_relaxed : (word : List ℕ) → Relaxed_scalar (number_at true word) (number_at false word) (Word word)
unfolding number_at Relaxed_scalar
number_relaxed word = elim (cases (are_digit_bytes (digits_in word))) [
  | inl e ↦ elim (cases (nat_lt greatest_size (size_of_word word))) [
    | inl f ↦ rw (e, f) (word, scalar.Number (number_of_word word), refl, refl)
    | inr f ↦ rw (e, f) refl
  ]
  | inr e ↦ rw e refl
]

scalar_relaxed : (t : Token) → Relaxed_scalar (scalar_at true t) (scalar_at false t) t
unfolding Relaxed_scalar
scalar_relaxed Open = refl
scalar_relaxed Close = refl
scalar_relaxed BeginList = refl
scalar_relaxed EndList = refl
scalar_relaxed Comma = refl
scalar_relaxed Equals = refl
scalar_relaxed (Word word) = number_relaxed word
scalar_relaxed (Text text) = refl

bind_relaxed : (t : Token) (f : Scalar → State) (r q : Result Scalar Wrong) → Relaxed_scalar r q t → Relaxed (r >>= λ s. Ok (f s)) (q >>= λ s. Ok (f s)) t
unfolding Relaxed Relaxed_scalar
bind_relaxed t f (Ok s) q h = ap (λ (x : Result Scalar Wrong). x >>= λ s. Ok (f s)) h
bind_relaxed t f (Err Shape) q h = ap (λ (x : Result Scalar Wrong). x >>= λ s. Ok (f s)) h
bind_relaxed t f (Err Number) q h = (h.0, f h.1, h.2, ap (λ (x : Result Scalar Wrong). x >>= λ s. Ok (f s)) h.3)
bind_relaxed t f (Err Depth) q h = elim h [ ]

same_relaxed : (t : Token) (r : Result State Wrong) → ((wrong : Wrong) → r ≡ Err wrong → wrong ≡ Shape) → Relaxed r r t
unfolding Relaxed
same_relaxed t (Ok u) h = refl
same_relaxed t (Err Shape) h = refl
same_relaxed t (Err Number) h = absurd (let e = h Number refl in cc)
same_relaxed t (Err Depth) h = absurd (let e = h Depth refl in cc)

closed_shape : (here : List Item) (r : Option (List Frame × Frame)) (wrong : Wrong) → closed here r ≡ Err wrong → wrong ≡ Shape
closed_shape here None wrong h = cc
closed_shape here (Some p) wrong h = absurd cc

name_shape : (frames : List Frame) (here : List Item) (t : Token) (wrong : Wrong) → at_name frames here t ≡ Err wrong → wrong ≡ Shape
name_shape frames here Open wrong h = cc
name_shape frames here Close wrong h = closed_shape here (parted frames) wrong h
name_shape frames here BeginList wrong h = cc
name_shape frames here EndList wrong h = cc
name_shape frames here Comma wrong h = cc
name_shape frames here Equals wrong h = cc
name_shape frames here (Word word) wrong h = absurd cc
name_shape frames here (Text text) wrong h = cc

comma_shape : (frames : List Frame) (here : List Item) (name : List ℕ) (ss : List Scalar) (t : Token) (wrong : Wrong) → at_comma frames here name ss t ≡ Err wrong → wrong ≡ Shape
comma_shape frames here name ss Open wrong h = cc
comma_shape frames here name ss Close wrong h = cc
comma_shape frames here name ss BeginList wrong h = cc
comma_shape frames here name ss EndList wrong h = absurd cc
comma_shape frames here name ss Comma wrong h = absurd cc
comma_shape frames here name ss Equals wrong h = cc
comma_shape frames here name ss (Word word) wrong h = cc
comma_shape frames here name ss (Text text) wrong h = cc

mark_relaxed : (frames : List Frame) (here : List Item) (name : List ℕ) (t : Token) → Relaxed (at_mark true frames here name t) (at_mark false frames here name t) t
unfolding Relaxed
mark_relaxed frames here name Open = elim (cases (nat_le 8 (length frames))) [
  | inl e ↦ rw e (at (frames ++ frame_of here name ∷ []) [] due.Name, refl, refl)
  | inr e ↦ rw e refl
]
mark_relaxed frames here name Close = refl
mark_relaxed frames here name BeginList = refl
mark_relaxed frames here name EndList = refl
mark_relaxed frames here name Comma = refl
mark_relaxed frames here name Equals = refl
mark_relaxed frames here name (Word word) = refl
mark_relaxed frames here name (Text text) = refl

value_relaxed : (frames : List Frame) (here : List Item) (name : List ℕ) (t : Token) (b : Bool) → is_list_begin t ≡ b → Relaxed (at_value true frames here name t) (at_value false frames here name t) t
unfolding Relaxed
value_relaxed frames here name t true e = rw e refl
value_relaxed frames here name t false e = rw e (bind_relaxed t (λ s. at frames (here ++ item.Value name (value_of_scalar s) ∷ []) due.Name) (scalar_at true t) (scalar_at false t) (scalar_relaxed t))

scalar_due_relaxed : (frames : List Frame) (here : List Item) (name : List ℕ) (ss : List Scalar) (t : Token) → Relaxed (at_scalar true frames here name ss t) (at_scalar false frames here name ss t) t
scalar_due_relaxed frames here name ss t = bind_relaxed t (λ s. at frames here (due.Comma name (ss ++ s ∷ []))) (scalar_at true t) (scalar_at false t) (scalar_relaxed t)

first_relaxed : (frames : List Frame) (here : List Item) (name : List ℕ) (t : Token) (b : Bool) → is_list_end t ≡ b → Relaxed (at_first true frames here name t) (at_first false frames here name t) t
unfolding Relaxed
first_relaxed frames here name t true e = rw e refl
first_relaxed frames here name t false e = rw e (scalar_due_relaxed frames here name [] t)

due_relaxed : (frames : List Frame) (here : List Item) (d : Due) (t : Token) → Relaxed (step_due true frames here d t) (step_due false frames here d t) t
due_relaxed frames here due.Name t = same_relaxed t (at_name frames here t) (name_shape frames here t)
due_relaxed frames here (due.Mark name) t = mark_relaxed frames here name t
due_relaxed frames here (due.Value name) t = value_relaxed frames here name t (is_list_begin t) refl
due_relaxed frames here (due.First name) t = first_relaxed frames here name t (is_list_end t) refl
due_relaxed frames here (due.Scalar name ss) t = scalar_due_relaxed frames here name ss t
due_relaxed frames here (due.Comma name ss) t = same_relaxed t (at_comma frames here name ss t) (comma_shape frames here name ss t)

pub relaxed : (s : State) (t : Token) → Relaxed (step true s t) (step false s t) t
relaxed s t = due_relaxed s.frames s.here s.due t

relax_on : (s : State) (t : Token) (tokens : List Token) (u : State) (r : Result State Wrong) → ((v : State) → run true v tokens ≡ Ok u → run false v tokens ≡ Ok u)
    → Relaxed r (step false s t) t → (r >>= λ v. run true v tokens) ≡ Ok u → (step false s t >>= λ v. run false v tokens) ≡ Ok u
unfolding Relaxed
relax_on s t tokens u (Ok v) ih h k = rw h (ih v k)
relax_on s t tokens u (Err wrong) ih h k = absurd cc

pub run_relaxed : (tokens : List Token) (s u : State) → run true s tokens ≡ Ok u → run false s tokens ≡ Ok u
unfolding run
run_relaxed [] s u h = h
run_relaxed (t ∷ tokens) s u h = relax_on s t tokens u (step true s t) (λ v k. run_relaxed tokens v u k) (relaxed s t) h

-- ---- what may go on

pub allowed : (tokens : List Token) (s : State) → run true begun tokens ≡ Ok s → Allowed tokens
allowed tokens s h =
    let c = completes true s in
    (c.more, c.items, all_spelled true 8 (tokens ++ c.more) c.items refl (run_more true begun s tokens c.more h ∙ c.ends))

pub formed : (tokens : List Token) (s : State) → run false begun tokens ≡ Ok s → Formed tokens
formed tokens s h =
    let c = completes false s in
    (length (tokens ++ c.more), c.more, c.items, all_spelled false (length (tokens ++ c.more)) (tokens ++ c.more) c.items (omega arith) (run_more false begun s tokens c.more h ∙ c.ends))

abbrev stuck : (limited : Bool) (tokens : List Token) → Type 0
stuck limited tokens = (more : List Token) → (wrong : Wrong) × (run limited begun (tokens ++ more) ≡ Err wrong)

stuck_at : (limited : Bool) (tokens : List Token) (s : State) (t : Token) (wrong : Wrong) → run limited begun tokens ≡ Ok s → step limited s t ≡ Err wrong → stuck limited (tokens ++ t ∷ [])
stuck_at limited tokens s t wrong h k more =
    (wrong, ap (run limited begun) (append_assoc tokens (t ∷ []) more) ∙ run_more limited begun s tokens (t ∷ more) h ∙ one_less limited s t wrong more k)

pub not_allowed : (tokens : List Token) (s : State) (t : Token) (wrong : Wrong) → run true begun tokens ≡ Ok s → step true s t ≡ Err wrong → Allowed (tokens ++ t ∷ []) → ⊥
not_allowed tokens s t wrong h k a =
    let fails = stuck_at true tokens s t wrong h k a.0 in
    let goes = all_taken true 8 ((tokens ++ t ∷ []) ++ a.0) a.1 a.2 (λ _. omega arith) in
    let e = fails.1 in
    cc

pub not_formed : (tokens : List Token) (s : State) (t : Token) (wrong : Wrong) → run false begun tokens ≡ Ok s → step false s t ≡ Err wrong → Formed (tokens ++ t ∷ []) → ⊥
not_formed tokens s t wrong h k a =
    let fails = stuck_at false tokens s t wrong h k a.1 in
    let goes = all_taken false a.0 ((tokens ++ t ∷ []) ++ a.1) a.2 a.3 (λ e. absurd cc) in
    let e = fails.1 in
    cc
