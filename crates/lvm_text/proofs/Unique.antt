-- A text has one fault at most.
use Rattle.std.proofs.Common.{◌≡◌, ◌≢◌, ℕ, true, List, [], ◌∷◌, ◌++◌, length, refl, sym, ap, subst, ◌∙◌, append_assoc, arith, inl, inr, ◌⊎◌}
use Rattle.lvm_text.specs.declared.token.Token.{Token}
use Rattle.lvm_text.specs.declared.token.Token.TheVariants as token
use Rattle.lvm_text.specs.declared.fault.TextFault.{TextFault}
use Rattle.lvm_text.specs.declared.fault.TextFault.TheVariants as fault
use Rattle.lvm_text.specs.Tokens.{skipped, BeginsWith, Reads}
use Rattle.lvm_text.specs.Grammar.{Spell}
use Rattle.lvm_text.specs.Faults.{Allowed, Formed, StopsAt, NoToken, EndsEarly, CantCome, Exceeds, IsTextFault}
use Rattle.lvm_text.proofs.Readings.{no_token, one_token}
use Rattle.lvm_text.proofs.Judging.{allowed_formed}

-- the fault, with its tokens and its rest
Wrong_at : List Token → List ℕ → TextFault → Type 0
Wrong_at tokens rest (fault.Token n) = NoToken rest
Wrong_at tokens rest (fault.Shape n) = EndsEarly tokens rest ⊎ CantCome tokens rest
Wrong_at tokens rest (fault.Number n) = (word : List ℕ) × Exceeds tokens rest (token.Word word)
Wrong_at tokens rest (fault.Depth n) = Exceeds tokens rest token.Open
Wrong_at tokens rest fault.Memory = ⊥

abbrev place_of : TextFault → ℕ
place_of (fault.Token n) = n
place_of (fault.Shape n) = n
place_of (fault.Number n) = n
place_of (fault.Depth n) = n
place_of fault.Memory = 0

record Stopped (bytes : List ℕ) (f : TextFault) : Type 0 where
  pub tokens : List Token
  pub rest : List ℕ
  pub stops : StopsAt bytes (place_of f) tokens rest
  pub wrong : Wrong_at tokens rest f

stopped : (bytes : List ℕ) (f : TextFault) → f ≢ fault.Memory → IsTextFault bytes f → Stopped bytes f
unfolding Wrong_at
stopped bytes (fault.Token n) g h = record { tokens = h.0; rest = h.1; stops = h.2; wrong = h.3 }
stopped bytes (fault.Shape n) g h = record { tokens = h.0; rest = h.1; stops = h.2; wrong = h.3 }
stopped bytes (fault.Number n) g h = record { tokens = h.0; rest = h.1; stops = h.2; wrong = h.3 }
stopped bytes (fault.Depth n) g h = record { tokens = h.0; rest = h.1; stops = h.2; wrong = h.3 }
stopped bytes fault.Memory g h = absurd (g refl)

-- nothing goes on from where something is wrong
wrong_token : (tokens : List Token) (rest : List ℕ) (f : TextFault) (t : Token) (after : List ℕ) → Wrong_at tokens rest f → BeginsWith rest t after → Allowed (tokens ++ t ∷ []) → ⊥
unfolding Wrong_at
wrong_token tokens rest (fault.Token n) t after h b a = h.none t after b
wrong_token tokens rest (fault.Shape n) t after h b a = elim h [
  | inl early ↦ no_token t after (subst (λ (x : List ℕ). BeginsWith x t after) early.ended b)
  | inr cant ↦
      let same : t ≡ cant.t = ap (λ (p : Token × List ℕ). p.0) (one_token rest t cant.t after cant.more b cant.begins) in
      cant.unformed (allowed_formed (tokens ++ cant.t ∷ []) (subst (λ (x : Token). Allowed (tokens ++ x ∷ [])) same a))
]
wrong_token tokens rest (fault.Number n) t after h b a =
    let same : t ≡ token.Word h.0 = ap (λ (p : Token × List ℕ). p.0) (one_token rest t (token.Word h.0) after h.1.more b h.1.begins) in
    h.1.limited (subst (λ (x : Token). Allowed (tokens ++ x ∷ [])) same a)
wrong_token tokens rest (fault.Depth n) t after h b a =
    let same : t ≡ token.Open = ap (λ (p : Token × List ℕ). p.0) (one_token rest t token.Open after h.more b h.begins) in
    h.limited (subst (λ (x : Token). Allowed (tokens ++ x ∷ [])) same a)
wrong_token tokens rest fault.Memory t after h b a = h

-- of two fronts of a text, one goes on to the other
record Longer (xs ys : List Token) (rest : List ℕ) : Type 0 where
  pub t : Token
  pub after : List ℕ
  pub more : List Token
  pub parts : ys ≡ xs ++ t ∷ more
  pub begins : BeginsWith rest t after

record Same (xs ys : List Token) (xrest yrest : List ℕ) : Type 0 where
  pub tokens : xs ≡ ys
  pub rests : xrest ≡ yrest

data Compared (xs ys : List Token) (xrest yrest : List ℕ) : Type 0 where
  is_same : Same xs ys xrest yrest → Compared xs ys xrest yrest
  is_shorter : Longer xs ys xrest → Compared xs ys xrest yrest
  is_longer : Longer ys xs yrest → Compared xs ys xrest yrest

compared_on : (t u : Token) (xs ys : List Token) (xrest yrest : List ℕ) → t ≡ u → Compared xs ys xrest yrest → Compared (t ∷ xs) (u ∷ ys) xrest yrest
compared_on t u xs ys xrest yrest e (is_same s) = is_same (record { tokens = ap (λ (x : Token). x ∷ xs) e ∙ ap (λ (x : List Token). u ∷ x) s.tokens; rests = s.rests })
compared_on t u xs ys xrest yrest e (is_shorter l) =
    is_shorter (record { t = l.t; after = l.after; more = l.more; parts = ap (λ (x : List Token). u ∷ x) l.parts ∙ ap (λ (x : Token). x ∷ (xs ++ l.t ∷ l.more)) (sym e); begins = l.begins })
compared_on t u xs ys xrest yrest e (is_longer l) =
    is_longer (record { t = l.t; after = l.after; more = l.more; parts = ap (λ (x : List Token). t ∷ x) l.parts ∙ ap (λ (x : Token). x ∷ (ys ++ l.t ∷ l.more)) e; begins = l.begins })

compared : (bytes : List ℕ) (xs ys : List Token) (xrest yrest : List ℕ) → Reads bytes xs xrest → Reads bytes ys yrest → Compared xs ys xrest yrest
compared bytes [] [] xrest yrest h k = is_same (record { tokens = refl; rests = sym h ∙ k })
compared bytes [] (u ∷ ys) xrest yrest h k = is_shorter (record { t = u; after = k.0; more = ys; parts = refl; begins = subst (λ (x : List ℕ). BeginsWith x u k.0) h k.1 })
compared bytes (t ∷ xs) [] xrest yrest h k = is_longer (record { t = t; after = h.0; more = xs; parts = refl; begins = subst (λ (x : List ℕ). BeginsWith x t h.0) k h.1 })
compared bytes (t ∷ xs) (u ∷ ys) xrest yrest h k =
    let same = one_token (skipped bytes) t u h.0 k.0 h.1 k.1 in
    let first : t ≡ u = ap (λ (p : Token × List ℕ). p.0) same in
    let behind : k.0 ≡ h.0 = sym (ap (λ (p : Token × List ℕ). p.1) same) in
    compared_on t u xs ys xrest yrest first (compared h.0 xs ys xrest yrest h.2 (subst (λ (x : List ℕ). Reads x ys yrest) behind k.2))

-- a front of what is allowed is allowed
front_allowed : (xs ys : List Token) (t : Token) (more : List Token) → ys ≡ xs ++ t ∷ more → Allowed ys → Allowed (xs ++ t ∷ [])
front_allowed xs ys t more e a =
    (more ++ a.0, a.1, subst (λ (x : List Token). Spell true 8 x a.1) (ap (λ (x : List Token). x ++ a.0) e ∙ append_assoc xs (t ∷ more) a.0 ∙ sym (append_assoc xs (t ∷ []) (more ++ a.0))) a.2)

shorter_wrong : (bytes : List ℕ) (f : TextFault) (s : Stopped bytes f) (ys : List Token) → Allowed ys → Longer s.tokens ys s.rest → ⊥
shorter_wrong bytes f s ys a l = wrong_token s.tokens s.rest f l.t l.after s.wrong l.begins (front_allowed s.tokens ys l.t l.more l.parts a)

-- which fault it is, where the tokens, the rest and the place are the same
token_begins : (tokens : List Token) (rest : List ℕ) → EndsEarly tokens rest ⊎ CantCome tokens rest → NoToken rest → ⊥
token_begins tokens rest (inl early) n = n.some early.ended
token_begins tokens rest (inr cant) n = n.none cant.t cant.more cant.begins

shape_exceeds : (tokens : List Token) (rest : List ℕ) (t : Token) → EndsEarly tokens rest ⊎ CantCome tokens rest → Exceeds tokens rest t → ⊥
shape_exceeds tokens rest t (inl early) x = no_token t x.more (subst (λ (y : List ℕ). BeginsWith y t x.more) early.ended x.begins)
shape_exceeds tokens rest t (inr cant) x =
    let same : t ≡ cant.t = ap (λ (p : Token × List ℕ). p.0) (one_token rest t cant.t x.more cant.more x.begins cant.begins) in
    cant.unformed (subst (λ (y : Token). Formed (tokens ++ y ∷ [])) same x.formed)

word_open : (tokens : List Token) (rest : List ℕ) (word : List ℕ) → Exceeds tokens rest (token.Word word) → Exceeds tokens rest token.Open → ⊥
word_open tokens rest word x y =
    let same : token.Word word ≡ token.Open = ap (λ (p : Token × List ℕ). p.0) (one_token rest (token.Word word) token.Open x.more y.more x.begins y.begins) in
    cc

same_kind : (tokens : List Token) (rest : List ℕ) (e f : TextFault) → place_of e ≡ place_of f → Wrong_at tokens rest e → Wrong_at tokens rest f → e ≡ f
unfolding Wrong_at
same_kind tokens rest (fault.Token m) (fault.Token n) p h k = ap (λ (x : ℕ). fault.Token x) p
same_kind tokens rest (fault.Token m) (fault.Shape n) p h k = absurd (token_begins tokens rest k h)
same_kind tokens rest (fault.Token m) (fault.Number n) p h k = absurd (h.none (token.Word k.0) k.1.more k.1.begins)
same_kind tokens rest (fault.Token m) (fault.Depth n) p h k = absurd (h.none token.Open k.more k.begins)
same_kind tokens rest (fault.Token m) fault.Memory p h k = absurd k
same_kind tokens rest (fault.Shape m) (fault.Token n) p h k = absurd (token_begins tokens rest h k)
same_kind tokens rest (fault.Shape m) (fault.Shape n) p h k = ap (λ (x : ℕ). fault.Shape x) p
same_kind tokens rest (fault.Shape m) (fault.Number n) p h k = absurd (shape_exceeds tokens rest (token.Word k.0) h k.1)
same_kind tokens rest (fault.Shape m) (fault.Depth n) p h k = absurd (shape_exceeds tokens rest token.Open h k)
same_kind tokens rest (fault.Shape m) fault.Memory p h k = absurd k
same_kind tokens rest (fault.Number m) (fault.Token n) p h k = absurd (k.none (token.Word h.0) h.1.more h.1.begins)
same_kind tokens rest (fault.Number m) (fault.Shape n) p h k = absurd (shape_exceeds tokens rest (token.Word h.0) k h.1)
same_kind tokens rest (fault.Number m) (fault.Number n) p h k = ap (λ (x : ℕ). fault.Number x) p
same_kind tokens rest (fault.Number m) (fault.Depth n) p h k = absurd (word_open tokens rest h.0 h.1 k)
same_kind tokens rest (fault.Number m) fault.Memory p h k = absurd k
same_kind tokens rest (fault.Depth m) (fault.Token n) p h k = absurd (k.none token.Open h.more h.begins)
same_kind tokens rest (fault.Depth m) (fault.Shape n) p h k = absurd (shape_exceeds tokens rest token.Open k h)
same_kind tokens rest (fault.Depth m) (fault.Number n) p h k = absurd (word_open tokens rest k.0 k.1 h)
same_kind tokens rest (fault.Depth m) (fault.Depth n) p h k = ap (λ (x : ℕ). fault.Depth x) p
same_kind tokens rest (fault.Depth m) fault.Memory p h k = absurd k
same_kind tokens rest fault.Memory f p h k = absurd h

same_fault : (bytes : List ℕ) (e f : TextFault) (x : Stopped bytes e) (y : Stopped bytes f) → Same x.tokens y.tokens x.rest y.rest → e ≡ f
same_fault bytes e f x y s =
    let place : place_of e ≡ place_of f = let a = x.stops.place in let b = y.stops.place in let c = ap length s.rests in omega arith in
    same_kind y.tokens y.rest e f place (subst (λ (us : List Token). Wrong_at us y.rest e) s.tokens (subst (λ (r : List ℕ). Wrong_at x.tokens r e) s.rests x.wrong)) y.wrong

decided : (bytes : List ℕ) (e f : TextFault) (x : Stopped bytes e) (y : Stopped bytes f) → Compared x.tokens y.tokens x.rest y.rest → e ≡ f
decided bytes e f x y (is_same s) = same_fault bytes e f x y s
decided bytes e f x y (is_shorter l) = absurd (shorter_wrong bytes e x y.tokens y.stops.allowed l)
decided bytes e f x y (is_longer l) = absurd (shorter_wrong bytes f y x.tokens x.stops.allowed l)

pub one_fault : (bytes : List ℕ) (e f : TextFault) → e ≢ fault.Memory → f ≢ fault.Memory → IsTextFault bytes e → IsTextFault bytes f → e ≡ f
one_fault bytes e f g k he hf =
    let x = stopped bytes e g he in
    let y = stopped bytes f k hf in
    decided bytes e f x y (compared bytes x.tokens y.tokens x.rest y.rest x.stops.reads y.stops.reads)
