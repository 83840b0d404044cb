-- Bytes are read as one list of tokens.
use Rattle.std.proofs.Common.{◌≡◌, ℕ, ◌<◌, ◌≤◌, false, List, [], ◌∷◌, ◌++◌, length, refl, sym, ap, subst, ◌∙◌, arith, length-append}
use Rattle.lvm_text.specs.declared.token.Token.{Token}
use Rattle.lvm_text.specs.declared.token.Token.TheVariants.{Open, Close, BeginList, EndList, Comma, Equals, Word, Text}
use Rattle.lvm_text.specs.Tokens.{skipped, token_bytes, CanStand, BeginsWith, Reads}
use Rattle.lvm_text.proofs.Scanning.{token_again, behind_shorter}

some_bytes : (t : Token) (more : List ℕ) → CanStand t more → 0 < length (token_bytes t)
some_bytes Open more h = omega arith
some_bytes Close more h = omega arith
some_bytes BeginList more h = omega arith
some_bytes EndList more h = omega arith
some_bytes Comma more h = omega arith
some_bytes Equals more h = omega arith
some_bytes (Word word) more h = h.some
some_bytes (Text text) more h = omega arith

pub begins_shorter : (bytes : List ℕ) (t : Token) (more : List ℕ) → BeginsWith bytes t more → length more < length bytes
begins_shorter bytes t more h = rw h.parts (omega (arith, length-append (token_bytes t) more, some_bytes t more h.stands))

pub no_token : (t : Token) (more : List ℕ) → BeginsWith [] t more → ⊥
no_token t more h = let e = begins_shorter [] t more h in omega arith

abbrev pair : Token → List ℕ → Token × List ℕ
pair t more = (t, more)

pub one_token : (bytes : List ℕ) (t u : Token) (more rest : List ℕ) → BeginsWith bytes t more → BeginsWith bytes u rest → pair t more ≡ pair u rest
one_token bytes t u more rest h k =
    let a = token_again bytes t more h in
    let b = token_again bytes u rest k in
    cc

-- one token more
pub reads_more : (bytes : List ℕ) (tokens : List Token) (rest : List ℕ) (t : Token) (more : List ℕ) → Reads bytes tokens rest → BeginsWith rest t more → Reads bytes (tokens ++ t ∷ []) (skipped more)
reads_more bytes [] rest t more h k = (more, subst (λ (x : List ℕ). BeginsWith x t more) (sym h) k, refl)
reads_more bytes (u ∷ tokens) rest t more h k = (h.0, h.1, reads_more h.0 tokens rest t more h.2 k)

pub reads_shorter : (bytes : List ℕ) (tokens : List Token) (rest : List ℕ) → Reads bytes tokens rest → length rest ≤ length bytes
reads_shorter bytes [] rest h = rw (← h) (behind_shorter false bytes)
reads_shorter bytes (t ∷ tokens) rest h = omega (arith, behind_shorter false bytes, begins_shorter (skipped bytes) t h.0 h.1, reads_shorter h.0 tokens rest h.2)

-- what comes next, if tokens come from the rest
abbrev pub Goes : List ℕ → List Token → Type 0
Goes rest [] = rest ≡ []
Goes rest (t ∷ tokens) = (more : List ℕ) × BeginsWith rest t more

pub record Continues (tokens all : List Token) (rest : List ℕ) : Type 0 where
  pub more : List Token
  pub parts : all ≡ tokens ++ more
  pub goes : Goes rest more

goes_on : (bytes : List ℕ) (all : List Token) → Reads bytes all [] → Goes (skipped bytes) all
goes_on bytes [] h = h
goes_on bytes (t ∷ all) h = (h.0, h.1)

pub continues : (bytes : List ℕ) (tokens all : List Token) (rest : List ℕ) → Reads bytes tokens rest → Reads bytes all [] → Continues tokens all rest
continues bytes [] all rest h k = record { more = all; parts = refl; goes = subst (λ (x : List ℕ). Goes x all) h (goes_on bytes all k) }
continues bytes (t ∷ tokens) [] rest h k = absurd (no_token t h.0 (subst (λ (x : List ℕ). BeginsWith x t h.0) k h.1))
continues bytes (t ∷ tokens) (u ∷ all) rest h k =
    let same = one_token (skipped bytes) t u h.0 k.0 h.1 k.1 in
    let first : t ≡ u = ap (λ (p : Token × List ℕ). p.0) same in
    let behind : h.0 ≡ k.0 = ap (λ (p : Token × List ℕ). p.1) same in
    let c = continues h.0 tokens all rest h.2 (subst (λ (x : List ℕ). Reads x all []) (sym behind) k.2) in
    record { more = c.more; parts = ap (λ (x : List Token). u ∷ x) c.parts ∙ ap (λ (x : Token). x ∷ (tokens ++ c.more)) (sym first); goes = c.goes }
