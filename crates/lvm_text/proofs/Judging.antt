-- A run over the bytes, and what it says of them.
use Rattle.std.proofs.Common.{◌≡◌, ◌≢◌, ℕ, ◌+◌, ◌<◌, ◌==◌, Bool, true, false, List, [], ◌∷◌, ◌++◌, length, Option, Some, None, Result, Ok, Err, refl, sym, ap, subst, ◌∙◌, append_assoc, arith, inl, inr}
use Rattle.std.specs.Prelude.{MatchResult, IfOk, IfErr}
use Rattle.std.proofs.lemmas.List.{append-nil, nil_from_length}
use Rattle.std.proofs.lemmas.Bool.{eqb-true}
use Rattle.lvm_text.specs.declared.token.Token.{Token}
use Rattle.lvm_text.specs.declared.token.Token.TheVariants as token
use Rattle.lvm_text.specs.declared.tree.Item.{Item}
use Rattle.lvm_text.specs.declared.tree.Tree.{Tree}
use Rattle.lvm_text.specs.declared.fault.TextFault.{TextFault}
use Rattle.lvm_text.specs.declared.fault.TextFault.TheVariants as fault
use Rattle.lvm_text.specs.declared.machine.Wrong.{Wrong}
use Rattle.lvm_text.specs.declared.machine.Wrong.TheVariants.{Shape, Number, Depth}
use Rattle.lvm_text.specs.declared.machine.Frame.{Frame}
use Rattle.lvm_text.specs.declared.machine.State.{State}
use Rattle.lvm_text.specs.declared.machine.Due.{Due}
use Rattle.lvm_text.specs.declared.machine.Due.TheVariants as due
use Rattle.lvm_text.specs.Tree.{items_in, tree_of}
use Rattle.lvm_text.specs.Tokens.{skipped, BeginsWith, Reads}
use Rattle.lvm_text.specs.inside.Scan.{token_at}
use Rattle.lvm_text.specs.Grammar.{Spell}
use Rattle.lvm_text.specs.inside.Machine.{step, run, begun, whole}
use Rattle.lvm_text.specs.inside.Ahead.{FailsAt, behind_step, behind_token, ahead, finished_in, finished_due, finished}
use Rattle.lvm_text.specs.Faults.{Spells, Allowed, Formed, StopsAt, NoToken, EndsEarly, Exceeds, IsTextFault}
use Rattle.lvm_text.proofs.Trees.{items_of_tree, tree_of_items}
use Rattle.lvm_text.proofs.Scanning.{token_again, token_is}
use Rattle.lvm_text.proofs.Readings.{no_token, one_token, reads_more, begins_shorter, Goes, continues}
use Rattle.lvm_text.proofs.Scanning.{behind_shorter}
use Rattle.lvm_text.proofs.Taking.{at, all_taken}
use Rattle.lvm_text.proofs.Reaching.{all_spelled}
use Rattle.lvm_text.proofs.Going.{run_more, one_more, Relaxed, relaxed, run_relaxed, allowed, formed, not_allowed, not_formed}

-- the bytes so far are tokens that lead to the state
pub record Led (bytes : List ℕ) (s : State) (rest : List ℕ) : Type 0 where
  pub tokens : List Token
  pub reads : Reads bytes tokens rest
  pub ran : run true begun tokens ≡ Ok s

pub led_first : (bytes : List ℕ) → Led bytes begun (skipped bytes)
unfolding run
led_first bytes = record { tokens = []; reads = refl; ran = refl }

-- ---- one token further

pub record Further (bytes : List ℕ) (rest : List ℕ) (x : State × List ℕ) : Type 0 where
  pub led : Led bytes x.0 x.1
  pub shorter : length x.1 < length rest

further_step : (place : ℕ) (bytes : List ℕ) (s : State) (rest : List ℕ) (t : Token) (more : List ℕ) (x : State × List ℕ) (r : Result State Wrong)
    → Led bytes s rest → BeginsWith rest t more → step true s t ≡ r → behind_step place r more ≡ Ok x → Further bytes rest x
further_step place bytes s rest t more x (Ok u) led begins e h =
    let same : (u, skipped more) ≡ x = cc in
    subst (Further bytes rest) same (record {
      led = record { tokens = led.tokens ++ t ∷ []; reads = reads_more bytes led.tokens rest t more led.reads begins; ran = run_more true begun s led.tokens (t ∷ []) led.ran ∙ one_more true s t u e };
      shorter = omega (arith, behind_shorter false more, begins_shorter rest t more begins);
    })
further_step place bytes s rest t more x (Err wrong) led begins e h = absurd cc

further_token : (place : ℕ) (bytes : List ℕ) (s : State) (rest : List ℕ) (x : State × List ℕ) (r : Option (Token × List ℕ))
    → Led bytes s rest → token_at rest ≡ r → behind_token place s r ≡ Ok x → Further bytes rest x
further_token place bytes s rest x None led e h = absurd cc
further_token place bytes s rest x (Some p) led e h = further_step place bytes s rest p.0 p.1 x (step true s p.0) led (token_is rest p.0 p.1 e) refl h

pub further : (place : ℕ) (bytes : List ℕ) (s : State) (rest : List ℕ) (x : State × List ℕ) → Led bytes s rest → ahead place s rest ≡ Ok x → Further bytes rest x
further place bytes s rest x led h = further_token place bytes s rest x (token_at rest) led refl h

-- ---- faults

stops : (bytes : List ℕ) (s : State) (rest : List ℕ) (place : ℕ) (led : Led bytes s rest) → place + length rest ≡ length bytes → StopsAt bytes place led.tokens rest
stops bytes s rest place led e = record { reads = led.reads; place = e; allowed = allowed led.tokens s led.ran }

exceeds : (bytes : List ℕ) (s : State) (rest : List ℕ) (t u : Token) (more : List ℕ) (v : State) (wrong : Wrong) (led : Led bytes s rest)
    → BeginsWith rest t more → t ≡ u → step true s t ≡ Err wrong → step false s t ≡ Ok v → Exceeds led.tokens rest u
exceeds bytes s rest t u more v wrong led begins same e f =
    subst (λ (x : Token). Exceeds led.tokens rest x) same (record {
      more = more;
      begins = begins;
      formed = formed (led.tokens ++ t ∷ []) v (run_more false begun s led.tokens (t ∷ []) (run_relaxed led.tokens begun s led.ran) ∙ one_more false s t v f);
      limited = not_allowed led.tokens s t wrong led.ran e;
    })

fails_step : (place : ℕ) (bytes : List ℕ) (s : State) (rest : List ℕ) (t : Token) (more : List ℕ) (f : TextFault) (r : Result State Wrong) (led : Led bytes s rest)
    → place + length rest ≡ length bytes → BeginsWith rest t more → step true s t ≡ r → Relaxed r (step false s t) t → behind_step place r more ≡ Err f → IsTextFault bytes f
unfolding Relaxed
fails_step place bytes s rest t more f (Ok u) led e begins is rel h = absurd cc
fails_step place bytes s rest t more f (Err Shape) led e begins is rel h =
    let same : fault.Shape place ≡ f = cc in
    subst (IsTextFault bytes) same (led.tokens, rest, stops bytes s rest place led e, inr (record { t = t; more = more; begins = begins; unformed = not_formed led.tokens s t Shape (run_relaxed led.tokens begun s led.ran) rel }))
fails_step place bytes s rest t more f (Err Number) led e begins is rel h =
    let same : fault.Number place ≡ f = cc in
    subst (IsTextFault bytes) same (led.tokens, rest, stops bytes s rest place led e, (rel.0, exceeds bytes s rest t (token.Word rel.0) more rel.1 Number led begins rel.2 is rel.3))
fails_step place bytes s rest t more f (Err Depth) led e begins is rel h =
    let same : fault.Depth place ≡ f = cc in
    subst (IsTextFault bytes) same (led.tokens, rest, stops bytes s rest place led e, exceeds bytes s rest t token.Open more rel.0 Depth led begins rel.1 is rel.2)

fails_token : (place : ℕ) (bytes : List ℕ) (s : State) (rest : List ℕ) (f : TextFault) (r : Option (Token × List ℕ)) (led : Led bytes s rest)
    → place + length rest ≡ length bytes → rest ≢ [] → token_at rest ≡ r → behind_token place s r ≡ Err f → IsTextFault bytes f
fails_token place bytes s rest f None led e some is h =
    let same : fault.Token place ≡ f = cc in
    subst (IsTextFault bytes) same (led.tokens, rest, stops bytes s rest place led e, record { some = some; none = λ t more b. let k = token_again rest t more b in cc })
fails_token place bytes s rest f (Some p) led e some is h =
    fails_step place bytes s rest p.0 p.1 f (step true s p.0) led e (token_is rest p.0 p.1 is) refl (relaxed s p.0) h

fails : (place : ℕ) (bytes : List ℕ) (s : State) (rest : List ℕ) (f : TextFault) → Led bytes s rest → place + length rest ≡ length bytes → rest ≢ [] → ahead place s rest ≡ Err f → IsTextFault bytes f
fails place bytes s rest f led e some h = fails_token place bytes s rest f (token_at rest) led e some refl h

pub fails_at : (place : ℕ) (bytes : List ℕ) (s : State) (rest : List ℕ) (f : TextFault) → Led bytes s rest → place + length rest ≡ length bytes → rest ≢ [] → FailsAt f (ahead place s rest) → IsTextFault bytes f
fails_at place bytes s rest (fault.Token n) led e some h = fails place bytes s rest (fault.Token n) led e some h
fails_at place bytes s rest (fault.Shape n) led e some h = fails place bytes s rest (fault.Shape n) led e some h
fails_at place bytes s rest (fault.Number n) led e some h = fails place bytes s rest (fault.Number n) led e some h
fails_at place bytes s rest (fault.Depth n) led e some h = fails place bytes s rest (fault.Depth n) led e some h
fails_at place bytes s rest fault.Memory led e some h = tt

-- ---- the end

record Whole (place : ℕ) (s : State) (tree : Tree) : Type 0 where
  pub items : List Item
  pub is : s ≡ whole items
  pub tree_is : tree_of items ≡ tree

whole_in : (place : ℕ) (frames : List Frame) (here : List Item) (tree : Tree) → finished_in place frames here ≡ Ok tree → Whole place (at frames here due.Name) tree
whole_in place [] here tree h = record { items = here; is = refl; tree_is = cc }
whole_in place (f ∷ frames) here tree h = absurd cc

whole_due : (place : ℕ) (frames : List Frame) (here : List Item) (d : Due) (tree : Tree) → finished_due place frames here d ≡ Ok tree → Whole place (at frames here d) tree
whole_due place frames here due.Name tree h = whole_in place frames here tree h
whole_due place frames here (due.Mark name) tree h = absurd cc
whole_due place frames here (due.Value name) tree h = absurd cc
whole_due place frames here (due.First name) tree h = absurd cc
whole_due place frames here (due.Scalar name ss) tree h = absurd cc
whole_due place frames here (due.Comma name ss) tree h = absurd cc

pub spelled : (place : ℕ) (bytes : List ℕ) (s : State) (tree : Tree) → Led bytes s [] → finished place s ≡ Ok tree → Spells bytes tree
spelled place bytes s tree led h =
    let w = whole_due place s.frames s.here s.due tree h in
    let k = all_spelled true 8 led.tokens w.items refl (led.ran ∙ ap (λ (x : State). Ok x) w.is) in
    subst (Spells bytes) w.tree_is (led.tokens, led.reads, subst (Spell true 8 led.tokens) (sym (items_of_tree w.items)) k)

early_in : (place : ℕ) (frames : List Frame) (here : List Item) (f : TextFault) → finished_in place frames here ≡ Err f → fault.Shape place ≡ f
early_in place [] here f h = absurd cc
early_in place (g ∷ frames) here f h = cc

early_due : (place : ℕ) (frames : List Frame) (here : List Item) (d : Due) (f : TextFault) → finished_due place frames here d ≡ Err f → fault.Shape place ≡ f
early_due place frames here due.Name f h = early_in place frames here f h
early_due place frames here (due.Mark name) f h = cc
early_due place frames here (due.Value name) f h = cc
early_due place frames here (due.First name) f h = cc
early_due place frames here (due.Scalar name ss) f h = cc
early_due place frames here (due.Comma name ss) f h = cc

unfinished : (place : ℕ) (tokens : List Token) (s : State) (f : TextFault) → run true begun tokens ≡ Ok s → finished place s ≡ Err f → (items : List Item) → Spell true 8 tokens items → ⊥
unfinished place tokens s f ran h items is =
    let all = all_taken true 8 tokens items is (λ _. omega arith) in
    let same : s ≡ whole items = cc in
    let good : finished place s ≡ Ok (tree_of items) = ap (finished place) same in
    cc

pub ends_early : (place : ℕ) (bytes : List ℕ) (s : State) (f : TextFault) → Led bytes s [] → place ≡ length bytes → finished place s ≡ Err f → IsTextFault bytes f
ends_early place bytes s f led e h =
    let same = early_due place s.frames s.here s.due f h in
    subst (IsTextFault bytes) same (led.tokens, [], stops bytes s [] place led (omega arith), inl (record { ended = refl; unfinished = unfinished place led.tokens s f led.ran h }))

-- ---- one tree, and no fault beside it

-- tokens that a text which spells a tree goes on with
record Ahead_of (bytes : List ℕ) (tokens : List Token) (rest : List ℕ) (tree : Tree) : Type 0 where
  pub more : List Token
  pub goes : Goes rest more
  pub spell : Spell true 8 (tokens ++ more) (items_in tree)

ahead_of : (bytes : List ℕ) (tokens : List Token) (rest : List ℕ) (tree : Tree) → Reads bytes tokens rest → Spells bytes tree → Ahead_of bytes tokens rest tree
ahead_of bytes tokens rest tree h k =
    let c = continues bytes tokens k.0 rest h k.1 in
    record { more = c.more; goes = c.goes; spell = subst (λ (x : List Token). Spell true 8 x (items_in tree)) c.parts k.2 }

none_goes : (rest : List ℕ) (more : List Token) → NoToken rest → Goes rest more → ⊥
none_goes rest [] n h = n.some h
none_goes rest (t ∷ more) n h = n.none t h.0 h.1

early_goes : (tokens : List Token) (rest : List ℕ) (more : List Token) (items : List Item) → EndsEarly tokens rest → Goes rest more → Spell true 8 (tokens ++ more) items → ⊥
early_goes tokens rest [] items n h k = n.unfinished items (subst (λ (x : List Token). Spell true 8 x items) (append-nil tokens) k)
early_goes tokens rest (t ∷ more) items n h k = no_token t h.0 (subst (λ (x : List ℕ). BeginsWith x t h.0) n.ended h.1)

-- where a token begins, the text goes on with it
goes_with : (tokens : List Token) (rest : List ℕ) (t : Token) (after : List ℕ) (more : List Token) (items : List Item) → BeginsWith rest t after → Goes rest more → Spell true 8 (tokens ++ more) items → Allowed (tokens ++ t ∷ [])
goes_with tokens rest t after [] items b h k = absurd (no_token t after (subst (λ (x : List ℕ). BeginsWith x t after) h b))
goes_with tokens rest t after (u ∷ more) items b h k =
    let same : u ≡ t = ap (λ (p : Token × List ℕ). p.0) (one_token rest u t h.0 after h.1 b) in
    (more, items, subst (λ (x : List Token). Spell true 8 x items) (ap (λ (x : Token). tokens ++ x ∷ more) same ∙ sym (append_assoc tokens (t ∷ []) more)) k)

pub allowed_formed : (tokens : List Token) → Allowed tokens → Formed tokens
allowed_formed tokens a =
    let all = all_taken true 8 (tokens ++ a.0) a.1 a.2 (λ _. omega arith) in
    (length (tokens ++ a.0), a.0, a.1, all_spelled false (length (tokens ++ a.0)) (tokens ++ a.0) a.1 (omega arith) (run_relaxed (tokens ++ a.0) begun (whole a.1) all))

pub no_tree : (bytes : List ℕ) (f : TextFault) (tree : Tree) → f ≢ fault.Memory → IsTextFault bytes f → Spells bytes tree → ⊥
no_tree bytes (fault.Token n) tree g h k =
    let a = ahead_of bytes h.0 h.1 tree h.2.reads k in
    none_goes h.1 a.more h.3 a.goes
no_tree bytes (fault.Shape n) tree g h k =
    let a = ahead_of bytes h.0 h.1 tree h.2.reads k in
    elim (h.3) [
      | inl early ↦ early_goes h.0 h.1 a.more (items_in tree) early a.goes a.spell
      | inr cant ↦ cant.unformed (allowed_formed (h.0 ++ cant.t ∷ []) (goes_with h.0 h.1 cant.t cant.more a.more (items_in tree) cant.begins a.goes a.spell))
    ]
no_tree bytes (fault.Number n) tree g h k =
    let a = ahead_of bytes h.0 h.1 tree h.2.reads k in
    h.3.1.limited (goes_with h.0 h.1 (token.Word h.3.0) h.3.1.more a.more (items_in tree) h.3.1.begins a.goes a.spell)
no_tree bytes (fault.Depth n) tree g h k =
    let a = ahead_of bytes h.0 h.1 tree h.2.reads k in
    h.3.limited (goes_with h.0 h.1 token.Open h.3.more a.more (items_in tree) h.3.begins a.goes a.spell)
no_tree bytes fault.Memory tree g h k = g refl

ends_there : (tokens us more : List Token) → us ≡ tokens ++ more → Goes [] more → us ≡ tokens
ends_there tokens us [] e h = e ∙ append-nil tokens
ends_there tokens us (t ∷ more) e h = absurd (no_token t h.0 h.1)

same_items : (bytes : List ℕ) (tokens us : List Token) → Reads bytes tokens [] → Reads bytes us [] → us ≡ tokens
same_items bytes tokens us h k = let c = continues bytes tokens us [] h k in ends_there tokens us c.more c.parts c.goes

pub one_tree : (bytes : List ℕ) (a b : Tree) → Spells bytes a → Spells bytes b → a ≡ b
one_tree bytes a b h k =
    let same = same_items bytes h.0 k.0 h.1 k.1 in
    let x = all_taken true 8 h.0 (items_in a) h.2 (λ _. omega arith) in
    let y = all_taken true 8 h.0 (items_in b) (subst (λ (u : List Token). Spell true 8 u (items_in b)) same k.2) (λ _. omega arith) in
    let w : whole (items_in a) ≡ whole (items_in b) = cc in
    sym (tree_of_items a) ∙ ap (λ (s : State). tree_of s.here) w ∙ tree_of_items b

-- what reading answers where the bytes spell a tree
pub only_tree : (bytes : List ℕ) (r : Result Tree TextFault) (tree : Tree) → IfOk r (Spells bytes) → IfErr r (IsTextFault bytes) → Spells bytes tree → MatchResult r (λ found. found ≡ tree) (λ f. f ≡ fault.Memory)
only_tree bytes (Ok found) tree h k is = one_tree bytes found tree h is
only_tree bytes (Err (fault.Token n)) tree h k is = absurd (no_tree bytes (fault.Token n) tree (λ e. cc) k is)
only_tree bytes (Err (fault.Shape n)) tree h k is = absurd (no_tree bytes (fault.Shape n) tree (λ e. cc) k is)
only_tree bytes (Err (fault.Number n)) tree h k is = absurd (no_tree bytes (fault.Number n) tree (λ e. cc) k is)
only_tree bytes (Err (fault.Depth n)) tree h k is = absurd (no_tree bytes (fault.Depth n) tree (λ e. cc) k is)
only_tree bytes (Err fault.Memory) tree h k is = refl

-- ---- the loop

pub some_left : (rest : List ℕ) (b : Bool) → b ≡ (length rest == 0) → b ≡ false → rest ≢ []
some_left rest b e f g = let k : (length rest == 0) ≡ true = ap (λ (x : List ℕ). length x == 0) g in cc

none_left : (rest : List ℕ) (b : Bool) → b ≡ (length rest == 0) → b ≡ true → rest ≡ []
none_left rest b e f = nil_from_length rest (eqb-true (length rest) 0 (sym e ∙ f))

pub at_end : (bytes : List ℕ) (s : State) (rest : List ℕ) (b : Bool) → Led bytes s rest → b ≡ (length rest == 0) → b ≡ true → Led bytes s []
at_end bytes s rest b led e f = subst (Led bytes s) (none_left rest b e f) led

pub found_at_end : (place : ℕ) (bytes : List ℕ) (s : State) (r : Result Tree TextFault) → Led bytes s [] → r ≡ finished place s → IfOk r (Spells bytes)
found_at_end place bytes s (Ok tree) led h = spelled place bytes s tree led (sym h)
found_at_end place bytes s (Err f) led h = tt

pub fault_at_end : (place : ℕ) (bytes : List ℕ) (s : State) (r : Result Tree TextFault) → Led bytes s [] → place ≡ length bytes → r ≡ finished place s → IfErr r (IsTextFault bytes)
fault_at_end place bytes s (Ok tree) led e h = tt
fault_at_end place bytes s (Err f) led e h = ends_early place bytes s f led e (sym h)
