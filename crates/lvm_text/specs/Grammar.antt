-- The trees that tokens spell.
use Rattle.std.specs.Prelude.{◌≡◌, ℕ, zero, suc, ℤ, pos, negsuc, ◌+◌, ◌-◌, ◌*◌, ◌≤◌, Bool, true, false, ◌&&◌, List, [], ◌∷◌, ◌++◌, length, drop, ◌==◌, nat_lt, if◌then◌else◌}
use Rattle.std.specs.List.{list_all}
use Rattle.lvm_text.specs.declared.token.Token.{Token}
use Rattle.lvm_text.specs.declared.token.Token.TheVariants.{Open, Close, BeginList, EndList, Comma, Equals, Word, Text}
use Rattle.lvm_text.specs.declared.tree.Item.{Item, out-Item}
use Rattle.lvm_text.specs.declared.tree.Item.TheOpen.{Item-F}
use Rattle.lvm_text.specs.declared.tree.Value.{Value}
use Rattle.lvm_text.specs.declared.tree.Value.TheVariants as value
use Rattle.lvm_text.specs.declared.tree.Scalar.{Scalar}
use Rattle.lvm_text.specs.declared.tree.Scalar.TheVariants as scalar
use Rattle.lvm_text.specs.Tree.{items_in, Layer}
use Rattle.lvm_text.specs.Tokens.{is_digit_byte}

-- ---- numbers

-- the number that digits spell behind those that spelled n
abbrev pub digits_from : ℕ → List ℕ → ℕ
digits_from n [] = n
digits_from n (b ∷ bytes) = digits_from (10 * n + (b - 48)) bytes

-- one digit or more
abbrev pub are_digit_bytes : List ℕ → Bool
are_digit_bytes bytes = nat_lt 0 (length bytes) && list_all is_digit_byte bytes

-- a `-` stands at the front
abbrev pub is_negative : List ℕ → Bool
is_negative [] = false
is_negative (b ∷ bytes) = b == 45

-- the word without a `-` at its front
abbrev pub digits_in : List ℕ → List ℕ
digits_in word = if is_negative word then drop 1 word else word

-- a number is an optional `-` and digits
abbrev pub is_number : List ℕ → Bool
is_number word = are_digit_bytes (digits_in word)

-- the size of the number that a word spells, and the number
abbrev pub size_of_word : List ℕ → ℕ
size_of_word word = digits_from 0 (digits_in word)

-- the number of that size, negative or not
abbrev pub signed : Bool → ℕ → ℤ
signed false n = pos n
signed true zero = pos 0
signed true (suc n) = negsuc n

abbrev pub number_of_word : List ℕ → ℤ
number_of_word word = signed (is_negative word) (size_of_word word)

-- the greatest size of a number: 2^63 − 1
abbrev pub greatest_size : ℕ
greatest_size = 9223372036854775807

-- the word spells the number. The flag says whether its size is limited
pub record IsNumber (limited : Bool) (word : List ℕ) (n : ℤ) : Type 0 where
  pub form : is_number word ≡ true
  pub value : n ≡ number_of_word word
  pub size : limited ≡ true → size_of_word word ≤ greatest_size

-- ---- scalars and values

-- the token spells a number or a text
abbrev pub IsScalar : Bool → Token → Scalar → Type 0
IsScalar limited (Word word) (scalar.Number n) = IsNumber limited word n
IsScalar limited (Text text) (scalar.Text held) = held ≡ text
IsScalar limited token s = ⊥

-- scalars, each behind a comma
abbrev pub AreMore : Bool → List Token → List Scalar → Type 0
AreMore limited tokens [] = tokens ≡ []
AreMore limited tokens (s ∷ ss) =
    (token : Token) × (rest : List Token) × (tokens ≡ Comma ∷ token ∷ rest) ×
    IsScalar limited token s × AreMore limited rest ss

-- scalars with commas between
abbrev pub AreScalars : Bool → List Token → List Scalar → Type 0
AreScalars limited tokens [] = tokens ≡ []
AreScalars limited tokens (s ∷ ss) =
    (token : Token) × (rest : List Token) × (tokens ≡ token ∷ rest) ×
    IsScalar limited token s × AreMore limited rest ss

-- the tokens spell a number, a text, or a list of such
abbrev pub IsValue : Bool → List Token → Value → Type 0
IsValue limited tokens (value.Number n) = (word : List ℕ) × (tokens ≡ Word word ∷ []) × IsNumber limited word n
IsValue limited tokens (value.Text text) = tokens ≡ Text text ∷ []
IsValue limited tokens (value.Many scalars) =
    (inner : List Token) × (tokens ≡ BeginList ∷ (inner ++ EndList ∷ [])) × AreScalars limited inner scalars

-- ---- items, where IsSub says what a section may hold

-- a name, `{`, a section's items, `}`; or a name, `=`, a value
abbrev pub IsItem : Bool → (List Token → List Item → Type 0) → List Token → Layer → Type 0
IsItem limited IsSub tokens (Item-F.Section name tree) =
    (inner : List Token) × (tokens ≡ Word name ∷ Open ∷ (inner ++ Close ∷ [])) × IsSub inner (items_in tree)
IsItem limited IsSub tokens (Item-F.Value name v) =
    (spelled : List Token) × (tokens ≡ Word name ∷ Equals ∷ spelled) × IsValue limited spelled v

-- items, one after the other
abbrev pub AreItems : Bool → (List Token → List Item → Type 0) → List Token → List Item → Type 0
AreItems limited IsSub tokens [] = tokens ≡ []
AreItems limited IsSub tokens (item ∷ items) =
    (first : List Token) × (rest : List Token) × (tokens ≡ first ++ rest) ×
    IsItem limited IsSub first (out-Item item) × AreItems limited IsSub rest items

-- the tokens spell these items, with sections in one another at most so many levels deep
unfoldable pub Spell : Bool → ℕ → List Token → List Item → Type 0
Spell limited zero = AreItems limited (λ inner items. ⊥)
Spell limited (suc levels) = AreItems limited (Spell limited levels)
