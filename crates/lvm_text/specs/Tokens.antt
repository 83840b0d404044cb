-- Bytes as tokens. Spaces and comments may stand before each token and at the end.
use Rattle.std.specs.Prelude.{◌≡◌, ℕ, ◌<◌, Bool, true, false, not, ◌||◌, ◌&&◌, List, [], ◌∷◌, ◌++◌, length, ◌==◌, nat_le}
use Rattle.std.specs.List.{list_all}
use Rattle.lvm_text.specs.declared.token.Token.{Token}
use Rattle.lvm_text.specs.declared.token.Token.TheVariants.{Open, Close, BeginList, EndList, Comma, Equals, Word, Text}

-- a space, a tab, a line feed or a carriage return
abbrev pub is_space : ℕ → Bool
is_space b = b == 32 || b == 9 || b == 10 || b == 13

-- `0` to `9`
abbrev pub is_digit_byte : ℕ → Bool
is_digit_byte b = nat_le 48 b && nat_le b 57

-- letters, digits, `_`, `.`, `+` and `-`
abbrev pub is_word_byte : ℕ → Bool
is_word_byte b =
    is_digit_byte b || nat_le 65 b && nat_le b 90 || nat_le 97 b && nat_le b 122 || b == 95 || b == 46 || b == 43 || b == 45

-- what stands behind spaces and comments: a comment runs from `#` to the next line feed or the end.
-- The flag says whether a comment is open
unfoldable pub behind : Bool → List ℕ → List ℕ
behind commented [] = []
behind true (b ∷ bytes) = behind (not (b == 10)) bytes
behind false (b ∷ bytes) = elim (is_space b) [
  | true ↦ behind false bytes
  | false ↦ elim (b == 35) [ true ↦ behind true bytes | false ↦ b ∷ bytes ]
]

-- the bytes without the spaces and comments at their front
abbrev pub skipped : List ℕ → List ℕ
skipped bytes = behind false bytes

-- a quote or a backslash stands behind a backslash, and every other byte for itself
unfoldable pub escaped : List ℕ → List ℕ
escaped [] = []
escaped (b ∷ bytes) = elim (b == 34 || b == 92) [ true ↦ 92 ∷ b ∷ escaped bytes | false ↦ b ∷ escaped bytes ]

-- how a token is spelled
abbrev pub token_bytes : Token → List ℕ
token_bytes Open = 123 ∷ []
token_bytes Close = 125 ∷ []
token_bytes BeginList = 91 ∷ []
token_bytes EndList = 93 ∷ []
token_bytes Comma = 44 ∷ []
token_bytes Equals = 61 ∷ []
token_bytes (Word word) = word
token_bytes (Text text) = 34 ∷ (escaped text ++ 34 ∷ [])

-- no word byte comes next
abbrev pub BeginsNoWord : List ℕ → Type 0
BeginsNoWord [] = Unit {0}
BeginsNoWord (b ∷ bytes) = is_word_byte b ≡ false

-- a word has a byte, only word bytes, and ends where no further one comes
pub record IsWord (word more : List ℕ) : Type 0 where
  pub some : 0 < length word
  pub each : list_all is_word_byte word ≡ true
  pub ends : BeginsNoWord more

-- the token ends where this follows: of words alone more is asked than their bytes
abbrev pub CanStand : Token → List ℕ → Type 0
CanStand Open more = Unit {0}
CanStand Close more = Unit {0}
CanStand BeginList more = Unit {0}
CanStand EndList more = Unit {0}
CanStand Comma more = Unit {0}
CanStand Equals more = Unit {0}
CanStand (Word word) more = IsWord word more
CanStand (Text text) more = Unit {0}

-- the bytes begin with this token, and more stands behind it
pub record BeginsWith (bytes : List ℕ) (token : Token) (more : List ℕ) : Type 0 where
  pub parts : bytes ≡ token_bytes token ++ more
  pub stands : CanStand token more

-- the bytes are these tokens with spaces and comments between them, and then the rest, which begins with neither
abbrev pub Reads : List ℕ → List Token → List ℕ → Type 0
Reads bytes [] rest = skipped bytes ≡ rest
Reads bytes (token ∷ tokens) rest = (more : List ℕ) × BeginsWith (skipped bytes) token more × Reads more tokens rest
