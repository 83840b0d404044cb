-- What the bytes of a text spell, and the first place where they stop spelling anything.
use Rattle.std.specs.Prelude.{◌≡◌, ◌≢◌, ℕ, ◌+◌, true, false, List, [], ◌∷◌, ◌++◌, length, ◌⊎◌, Result, MatchResult}
use Rattle.lvm_text.specs.declared.token.Token.{Token}
use Rattle.lvm_text.specs.declared.token.Token.TheVariants as token
use Rattle.lvm_text.specs.declared.tree.Item.{Item}
use Rattle.lvm_text.specs.declared.tree.Tree.{Tree}
use Rattle.lvm_text.specs.declared.fault.TextFault.{TextFault}
use Rattle.lvm_text.specs.declared.fault.TextFault.TheVariants.{Token as TokenAt, Shape, Number, Depth, Memory}
use Rattle.lvm_text.specs.Tree.{items_in}
use Rattle.lvm_text.specs.Tokens.{BeginsWith, Reads}
use Rattle.lvm_text.specs.Grammar.{Spell}

-- the bytes spell the tree: with sections at most 8 deep, and numbers in their range
abbrev pub Spells : List ℕ → Tree → Type 0
Spells bytes tree = (tokens : List Token) × Reads bytes tokens [] × Spell true 8 tokens (items_in tree)

-- tokens with which some text begins that spells a tree
abbrev pub Allowed : List Token → Type 0
Allowed tokens = (more : List Token) × (items : List Item) × Spell true 8 (tokens ++ more) items

-- the same, if neither depth nor numbers were limited
abbrev pub Formed : List Token → Type 0
Formed tokens = (levels : ℕ) × (more : List Token) × (items : List Item) × Spell false levels (tokens ++ more) items

-- up to the place, the bytes are tokens with which a text may begin
pub record StopsAt (bytes : List ℕ) (at : ℕ) (tokens : List Token) (rest : List ℕ) : Type 0 where
  pub reads : Reads bytes tokens rest
  pub place : at + length rest ≡ length bytes
  pub allowed : Allowed tokens

-- no token begins there
pub record NoToken (rest : List ℕ) : Type 0 where
  pub some : rest ≢ []
  pub none : (t : Token) → (more : List ℕ) → BeginsWith rest t more → ⊥

-- the text ends there, and spells no tree
pub record EndsEarly (tokens : List Token) (rest : List ℕ) : Type 0 where
  pub ended : rest ≡ []
  pub unfinished : (items : List Item) → Spell true 8 tokens items → ⊥

-- a token begins there with which no text goes on
pub record CantCome (tokens : List Token) (rest : List ℕ) : Type 0 where
  pub t : Token
  pub more : List ℕ
  pub begins : BeginsWith rest t more
  pub unformed : Formed (tokens ++ t ∷ []) → ⊥

-- this token begins there, and only the limits keep a text from going on with it
pub record Exceeds (tokens : List Token) (rest : List ℕ) (t : Token) : Type 0 where
  pub more : List ℕ
  pub begins : BeginsWith rest t more
  pub formed : Formed (tokens ++ t ∷ [])
  pub limited : Allowed (tokens ++ t ∷ []) → ⊥

-- at the place, the tokens before it and the bytes from it on are related so
abbrev pub StopsFor : List ℕ → ℕ → (List Token → List ℕ → Type 0) → Type 0
StopsFor bytes at Why = (tokens : List Token) × (rest : List ℕ) × StopsAt bytes at tokens rest × Why tokens rest

-- a number begins there that is beyond the range
abbrev pub ExceedsAsNumber : List Token → List ℕ → Type 0
ExceedsAsNumber tokens rest = (word : List ℕ) × Exceeds tokens rest (token.Word word)

-- the first fault by place
abbrev pub IsTextFault : List ℕ → TextFault → Type 0
IsTextFault bytes (TokenAt at) = StopsFor bytes at (λ tokens rest. NoToken rest)
IsTextFault bytes (Shape at) = StopsFor bytes at (λ tokens rest. EndsEarly tokens rest ⊎ CantCome tokens rest)
IsTextFault bytes (Number at) = StopsFor bytes at ExceedsAsNumber
IsTextFault bytes (Depth at) = StopsFor bytes at (λ tokens rest. Exceeds tokens rest token.Open)
IsTextFault bytes Memory = Unit {0}

-- the tree is read, unless memory runs out
abbrev pub IsReadAs : Tree → Result Tree TextFault → Type 0
IsReadAs tree result = MatchResult result (λ found. found ≡ tree) (λ fault. fault ≡ Memory)

-- ---- laws

-- a text spells one tree at most
abbrev pub OneTree : Type 0
OneTree = (bytes : List ℕ) (a b : Tree) → Spells bytes a → Spells bytes b → a ≡ b

-- it has one fault at most
abbrev pub OneTextFault : Type 0
OneTextFault =
    (bytes : List ℕ) (e f : TextFault) → e ≢ Memory → f ≢ Memory → IsTextFault bytes e → IsTextFault bytes f → e ≡ f

-- and none beside a tree
abbrev pub TreeOrFault : Type 0
TreeOrFault = (bytes : List ℕ) (f : TextFault) (tree : Tree) → f ≢ Memory → IsTextFault bytes f → Spells bytes tree → ⊥
