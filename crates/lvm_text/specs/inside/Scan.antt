-- The token at the front of bytes, as functions that the code computes.
use Rattle.std.specs.Prelude.{ℕ, Bool, true, false, ◌||◌, List, [], ◌∷◌, ◌==◌, if◌then◌else◌, Option, Some, None, take, drop, suc}
use Rattle.lvm_text.specs.declared.token.Token.{Token}
use Rattle.lvm_text.specs.declared.token.Token.TheVariants.{Open, Close, BeginList, EndList, Comma, Equals, Word, Text}
use Rattle.lvm_text.specs.Tokens.{is_word_byte}

abbrev pub mark_of : ℕ → Option Token
mark_of b =
    if b == 123 then Some Open else
    if b == 125 then Some Close else
    if b == 91 then Some BeginList else
    if b == 93 then Some EndList else
    if b == 44 then Some Comma else
    if b == 61 then Some Equals else
    None

unfoldable pub word_len : List ℕ → ℕ
word_len [] = 0
word_len (b ∷ bytes) = elim (is_word_byte b) [ true ↦ suc (word_len bytes) | false ↦ 0 ]

abbrev pub in_front : ℕ → Option (List ℕ × List ℕ) → Option (List ℕ × List ℕ)
in_front b None = None
in_front b (Some p) = Some (b ∷ p.0, p.1)

-- the text up to its closing quote, and what stands behind that. The flag says whether a backslash stands before
unfoldable pub text_at : Bool → List ℕ → Option (List ℕ × List ℕ)
text_at escape [] = None
text_at true (b ∷ bytes) = elim (b == 34 || b == 92) [ true ↦ in_front b (text_at false bytes) | false ↦ None ]
text_at false (b ∷ bytes) = elim (b == 34) [
  | true ↦ Some ([], bytes)
  | false ↦ elim (b == 92) [ true ↦ text_at true bytes | false ↦ in_front b (text_at false bytes) ]
]

abbrev pub text_token : Option (List ℕ × List ℕ) → Option (Token × List ℕ)
text_token None = None
text_token (Some p) = Some (Text p.0, p.1)

abbrev pub word_token : List ℕ → ℕ → Option (Token × List ℕ)
word_token bytes n = if n == 0 then None else Some (Word (take n bytes), drop n bytes)

-- the token at the front, and what stands behind it
unfoldable pub token_at : List ℕ → Option (Token × List ℕ)
token_at [] = None
token_at (b ∷ bytes) = elim (mark_of b) [
  | Some mark ↦ Some (mark, bytes)
  | None ↦ elim (b == 34) [
    | true ↦ text_token (text_at false bytes)
    | false ↦ word_token (b ∷ bytes) (word_len (b ∷ bytes))
  ]
]
