-- What is written spells the tree.
use Rattle.std.proofs.Common.{◌≡◌, ℕ, zero, suc, ◌+◌, ◌%◌, ◌^◌, ◌<◌, ◌≤◌, ◌==◌, ◌&&◌, Bool, true, false, nat_lt, List, [], ◌∷◌, ◌++◌, length, ℤ, pos, negsuc, refl, sym, ap, subst, ◌∙◌, append_assoc, arith, length-append, inl, inr}
use Rattle.std.specs.Prelude.{codes}
use Rattle.std.specs.List.{list_all}
use Rattle.std.specs.Fmt.{decimal, signed_decimal}
use Rattle.std.proofs.lemmas.Fmt.{decimal_by_steps}
use Rattle.std.proofs.lemmas.Bool.{eqb-true}
use Rattle.std.proofs.lemmas.Bool.Decides.{nat_tests}
use Rattle.std.proofs.lemmas.List.{append-nil}
use Rattle.std.proofs.lemmas.List.Folds.{list_all-append}
use Rattle.lvm_text.specs.declared.token.Token.{Token}
use Rattle.lvm_text.specs.declared.token.Token.TheVariants.{Open, Close, BeginList, EndList, Comma, Equals, Word, Text}
use Rattle.lvm_text.specs.declared.tree.Item.{Item, out-Item}
use Rattle.lvm_text.specs.declared.tree.Item.TheOpen.{Item-F}
use Rattle.lvm_text.specs.declared.tree.Tree.{Tree}
use Rattle.lvm_text.specs.declared.tree.Value.{Value}
use Rattle.lvm_text.specs.declared.tree.Value.TheVariants as value
use Rattle.lvm_text.specs.declared.tree.Scalar.{Scalar}
use Rattle.lvm_text.specs.declared.tree.Scalar.TheVariants as scalar
use Rattle.lvm_text.specs.Tree.{items_in, Layer}
use Rattle.lvm_text.specs.Tokens.{behind, skipped, is_digit_byte, is_word_byte, is_space, token_bytes, CanStand, BeginsNoWord, Reads}
use Rattle.lvm_text.specs.Grammar.{digits_from, are_digit_bytes, is_negative, digits_in, size_of_word, signed, greatest_size, IsNumber, IsScalar, AreMore, AreScalars, IsValue, IsItem, AreItems, Spell}
use Rattle.lvm_text.specs.Faults.{Spells}
use Rattle.lvm_text.specs.Written.{IsName, InRange, FitsScalar, FitScalars, FitsValue, FitsLayer, FitBy, Fit, scalar_bytes, more_bytes, scalars_bytes, value_bytes, layer_bytes, item_bytes, item_lines}
use Rattle.lvm_text.proofs.Scanning.{cases, other_byte}
use Rattle.lvm_text.proofs.Digits.{digits_last}
use Rattle.lvm_text.proofs.Lines.{tree_lines, section_lines, value_lines}

-- ---- numbers

record IsDecimal (n : ℕ) (ds : List ℕ) : Type 0 where
  pub each : list_all is_digit_byte ds ≡ true
  pub value : digits_from 0 ds ≡ n
  pub some : 0 < length ds

one_digit : (n : ℕ) → n < 10 → is_digit_byte (48 + n) ≡ true
one_digit n lt = grind (arith, nat_tests)

decimal_is : (n : ℕ) → n < 2 ^ 64 → IsDecimal n (decimal n)
decimal_is n lt = decimal_by_steps IsDecimal
    (λ k less. record { each = rw (one_digit k less) refl; value = omega arith; some = omega arith })
    (λ k ds more h. record {
      each = list_all-append is_digit_byte ds ((48 + k % 10) ∷ []) ∙ rw (h.each, one_digit (k % 10) (omega arith)) refl;
      value = digits_last 0 ds (48 + k % 10) ∙ rw h.value (omega arith);
      some = omega (arith, length-append ds ((48 + k % 10) ∷ []));
    })
    n lt

digit_unsigned : (b : ℕ) → is_digit_byte b ≡ true → (b == 45) ≡ false
digit_unsigned b h = elim (cases (b == 45)) [
  | inl e ↦ absurd (let k = ap is_digit_byte (eqb-true b 45 e) in cc)
  | inr e ↦ e
]

and_first : (a b : Bool) → (a && b) ≡ true → a ≡ true
and_first true b h = refl
and_first false b h = h

rest_true : (a b : Bool) → (a && b) ≡ true → b ≡ true
rest_true true b h = h
rest_true false b h = absurd cc

unsigned : (ds : List ℕ) → list_all is_digit_byte ds ≡ true → is_negative ds ≡ false
unsigned [] h = refl
unsigned (d ∷ ds) h = digit_unsigned d (and_first (is_digit_byte d) (list_all is_digit_byte ds) h)

are : (ds : List ℕ) → list_all is_digit_byte ds ≡ true → 0 < length ds → are_digit_bytes ds ≡ true
are ds h some = let k : nat_lt 0 (length ds) ≡ true = grind (arith, nat_tests) in rw (k, h) refl

unsigned_is : (n : ℕ) (ds : List ℕ) → IsDecimal n ds → n ≤ greatest_size → IsNumber true ds (pos n)
unsigned_is n ds d h =
    let u = unsigned ds d.each in
    let same : digits_in ds ≡ ds = rw u refl in
    let size : size_of_word ds ≡ n = ap (digits_from 0) same ∙ d.value in
    record {
      form = ap are_digit_bytes same ∙ are ds d.each d.some;
      value = sym (ap (λ (b : Bool). signed b (size_of_word ds)) u ∙ ap (signed false) size);
      size = λ _. subst (λ (x : ℕ). x ≤ greatest_size) (sym size) h;
    }

negative_is : (n : ℕ) (ds : List ℕ) → IsDecimal (suc n) ds → n < greatest_size → IsNumber true (45 ∷ ds) (negsuc n)
negative_is n ds d h = record {
  form = are ds d.each d.some;
  value = sym (ap (signed true) d.value);
  size = λ _. subst (λ (x : ℕ). x ≤ greatest_size) (sym d.value) (omega arith);
}

number_is : (n : ℤ) → InRange n → IsNumber true (signed_decimal n) n
number_is (pos n) h = unsigned_is n (decimal n) (decimal_is n (omega arith)) h
number_is (negsuc n) h = negative_is n (decimal (suc n)) (decimal_is (suc n) (omega arith)) h

digit_word : (b : ℕ) → is_digit_byte b ≡ true → is_word_byte b ≡ true
digit_word b h = rw h refl

digits_word : (ds : List ℕ) → list_all is_digit_byte ds ≡ true → list_all is_word_byte ds ≡ true
digits_word [] h = refl
digits_word (d ∷ ds) h = rw (digit_word d (and_first (is_digit_byte d) (list_all is_digit_byte ds) h)) (digits_word ds (rest_true (is_digit_byte d) (list_all is_digit_byte ds) h))

number_name : (n : ℤ) → InRange n → IsName (signed_decimal n)
number_name (pos n) h = let d = decimal_is n (omega arith) in record { some = d.some; each = digits_word (decimal n) d.each }
number_name (negsuc n) h = let d = decimal_is (suc n) (omega arith) in record { some = omega arith; each = digits_word (decimal (suc n)) d.each }

-- ---- the tokens that are written

scalar_token : Scalar → Token
scalar_token (scalar.Number n) = Word (signed_decimal n)
scalar_token (scalar.Text text) = Text text

more_tokens : List Scalar → List Token
more_tokens [] = []
more_tokens (s ∷ ss) = Comma ∷ scalar_token s ∷ more_tokens ss

scalars_tokens : List Scalar → List Token
scalars_tokens [] = []
scalars_tokens (s ∷ ss) = scalar_token s ∷ more_tokens ss

value_tokens : Value → List Token
value_tokens (value.Number n) = Word (signed_decimal n) ∷ []
value_tokens (value.Text text) = Text text ∷ []
value_tokens (value.Many ss) = BeginList ∷ (scalars_tokens ss ++ EndList ∷ [])

abbrev layer_tokens : (List Item → List Token) → Layer → List Token
layer_tokens inner (Item-F.Section name tree) = Word name ∷ Open ∷ (inner (items_in tree) ++ Close ∷ [])
layer_tokens inner (Item-F.Value name v) = Word name ∷ Equals ∷ value_tokens v

abbrev tokens_by : (List Item → List Token) → List Item → List Token
tokens_by inner [] = []
tokens_by inner (it ∷ items) = layer_tokens inner (out-Item it) ++ tokens_by inner items

tokens_in : ℕ → List Item → List Token
tokens_in zero = tokens_by (λ items. [])
tokens_in (suc levels) = tokens_by (tokens_in levels)

-- ---- they spell the items

scalar_is : (s : Scalar) → FitsScalar s → IsScalar true (scalar_token s) s
unfolding scalar_token
scalar_is (scalar.Number n) h = number_is n h
scalar_is (scalar.Text text) h = refl

more_are : (ss : List Scalar) → FitScalars ss → AreMore true (more_tokens ss) ss
unfolding more_tokens
more_are [] h = refl
more_are (s ∷ ss) h = (scalar_token s, more_tokens ss, refl, scalar_is s h.0, more_are ss h.1)

scalars_are : (ss : List Scalar) → FitScalars ss → AreScalars true (scalars_tokens ss) ss
unfolding scalars_tokens
scalars_are [] h = refl
scalars_are (s ∷ ss) h = (scalar_token s, more_tokens ss, refl, scalar_is s h.0, more_are ss h.1)

value_are : (v : Value) → FitsValue v → IsValue true (value_tokens v) v
unfolding value_tokens
value_are (value.Number n) h = (signed_decimal n, refl, number_is n h)
value_are (value.Text text) h = refl
value_are (value.Many ss) h = (scalars_tokens ss, refl, scalars_are ss h)

layer_is : (Inner : List Item → Type 0) (IsSub : List Token → List Item → Type 0) (inner : List Item → List Token) → ((items : List Item) → Inner items → IsSub (inner items) items) → (layer : Layer) → FitsLayer Inner layer → IsItem true IsSub (layer_tokens inner layer) layer
layer_is Inner IsSub inner sub (Item-F.Section name tree) h = (inner (items_in tree), refl, sub (items_in tree) h.1)
layer_is Inner IsSub inner sub (Item-F.Value name v) h = (value_tokens v, refl, value_are v h.1)

items_are : (Inner : List Item → Type 0) (IsSub : List Token → List Item → Type 0) (inner : List Item → List Token) → ((items : List Item) → Inner items → IsSub (inner items) items) → (items : List Item) → FitBy Inner items → AreItems true IsSub (tokens_by inner items) items
items_are Inner IsSub inner sub [] h = refl
items_are Inner IsSub inner sub (it ∷ items) h = (layer_tokens inner (out-Item it), tokens_by inner items, refl, layer_is Inner IsSub inner sub (out-Item it) h.0, items_are Inner IsSub inner sub items h.1)

spell_them : (levels : ℕ) (items : List Item) → Fit levels items → Spell true levels (tokens_in levels items) items
unfolding tokens_in Spell Fit
spell_them zero items h = items_are (λ xs. ⊥) (λ inner xs. ⊥) (λ xs. []) (λ xs none. none) items h
spell_them (suc levels) items h = items_are (Fit levels) (Spell true levels) (tokens_in levels) (λ xs k. spell_them levels xs k) items h

-- ---- and they are read

space_first : (bytes : List ℕ) (tokens : List Token) → Reads bytes tokens [] → Reads (32 ∷ bytes) tokens []
unfolding behind
space_first bytes [] h = h
space_first bytes (t ∷ tokens) h = h

line_first : (bytes : List ℕ) (tokens : List Token) → Reads bytes tokens [] → Reads (10 ∷ bytes) tokens []
unfolding behind
line_first bytes [] h = h
line_first bytes (t ∷ tokens) h = h

word_stays : (b : ℕ) (bytes : List ℕ) → is_word_byte b ≡ true → skipped (b ∷ bytes) ≡ b ∷ bytes
unfolding behind
word_stays b bytes h =
    let no_space : is_space b ≡ false = rw (other_byte 32 refl b h, other_byte 9 refl b h, other_byte 10 refl b h, other_byte 13 refl b h) refl in
    rw (no_space, other_byte 35 refl b h, behind) refl

stays : (t : Token) (more : List ℕ) → CanStand t more → skipped (token_bytes t ++ more) ≡ token_bytes t ++ more
unfolding behind
stays Open more h = refl
stays Close more h = refl
stays BeginList more h = refl
stays EndList more h = refl
stays Comma more h = refl
stays Equals more h = refl
stays (Word []) more h = absurd (let n = h.some in omega arith)
stays (Word (b ∷ word)) more h = word_stays b (word ++ more) (and_first (is_word_byte b) (list_all is_word_byte word) h.each)
stays (Text text) more h = refl

token_first : (t : Token) (more : List ℕ) (tokens : List Token) → CanStand t more → Reads more tokens [] → Reads (token_bytes t ++ more) (t ∷ tokens) []
token_first t more tokens can h = (more, record { parts = stays t more can; stands = can }, h)

word_first : (word : List ℕ) (more : List ℕ) (tokens : List Token) → IsName word → BeginsNoWord more → Reads more tokens [] → Reads (word ++ more) (Word word ∷ tokens) []
word_first word more tokens h no_more k = token_first (Word word) more tokens (record { some = h.some; each = h.each; ends = no_more }) k

scalar_first : (s : Scalar) (more : List ℕ) (tokens : List Token) → FitsScalar s → BeginsNoWord more → Reads more tokens [] → Reads (scalar_bytes s ++ more) (scalar_token s ∷ tokens) []
unfolding scalar_token
scalar_first (scalar.Number n) more tokens h no_more k = word_first (signed_decimal n) more tokens (number_name n h) no_more k
scalar_first (scalar.Text text) more tokens h no_more k = token_first (Text text) more tokens tt k

no_word_more : (ss : List Scalar) (rest : List ℕ) → BeginsNoWord (more_bytes ss ++ 93 ∷ rest)
no_word_more [] rest = refl
no_word_more (s ∷ ss) rest = refl

more_first : (ss : List Scalar) (rest : List ℕ) (tokens : List Token) → FitScalars ss → Reads (93 ∷ rest) tokens [] → Reads (more_bytes ss ++ 93 ∷ rest) (more_tokens ss ++ tokens) []
unfolding more_tokens
more_first [] rest tokens h k = k
more_first (s ∷ ss) rest tokens h k =
    let tail = more_first ss rest tokens h.1 k in
    let one = scalar_first s (more_bytes ss ++ 93 ∷ rest) (more_tokens ss ++ tokens) h.0 (no_word_more ss rest) tail in
    let all = token_first Comma (32 ∷ (scalar_bytes s ++ (more_bytes ss ++ 93 ∷ rest))) (scalar_token s ∷ (more_tokens ss ++ tokens)) tt (space_first (scalar_bytes s ++ (more_bytes ss ++ 93 ∷ rest)) (scalar_token s ∷ (more_tokens ss ++ tokens)) one) in
    subst (λ (x : List ℕ). Reads (44 ∷ 32 ∷ x) (Comma ∷ scalar_token s ∷ (more_tokens ss ++ tokens)) []) (sym (append_assoc (scalar_bytes s) (more_bytes ss) (93 ∷ rest))) all

scalars_first : (ss : List Scalar) (rest : List ℕ) (tokens : List Token) → FitScalars ss → Reads (93 ∷ rest) tokens [] → Reads (scalars_bytes ss ++ 93 ∷ rest) (scalars_tokens ss ++ tokens) []
unfolding scalars_tokens
scalars_first [] rest tokens h k = k
scalars_first (s ∷ ss) rest tokens h k =
    let one = scalar_first s (more_bytes ss ++ 93 ∷ rest) (more_tokens ss ++ tokens) h.0 (no_word_more ss rest) (more_first ss rest tokens h.1 k) in
    subst (λ (x : List ℕ). Reads x (scalar_token s ∷ (more_tokens ss ++ tokens)) []) (sym (append_assoc (scalar_bytes s) (more_bytes ss) (93 ∷ rest))) one

value_first : (v : Value) (more : List ℕ) (tokens : List Token) → FitsValue v → Reads more tokens [] → Reads (value_bytes v ++ 10 ∷ more) (value_tokens v ++ tokens) []
unfolding value_tokens
value_first (value.Number n) more tokens h k = word_first (signed_decimal n) (10 ∷ more) tokens (number_name n h) refl (line_first more tokens k)
value_first (value.Text text) more tokens h k = token_first (Text text) (10 ∷ more) tokens tt (line_first more tokens k)
value_first (value.Many ss) more tokens h k =
    let last = token_first EndList (10 ∷ more) tokens tt (line_first more tokens k) in
    let all = token_first BeginList (scalars_bytes ss ++ 93 ∷ 10 ∷ more) (scalars_tokens ss ++ EndList ∷ tokens) tt (scalars_first ss (10 ∷ more) (EndList ∷ tokens) h last) in
    let bytes : scalars_bytes ss ++ 93 ∷ 10 ∷ more ≡ (scalars_bytes ss ++ 93 ∷ []) ++ 10 ∷ more = sym (append_assoc (scalars_bytes ss) (93 ∷ []) (10 ∷ more)) in
    let both : scalars_tokens ss ++ EndList ∷ tokens ≡ (scalars_tokens ss ++ EndList ∷ []) ++ tokens = sym (append_assoc (scalars_tokens ss) (EndList ∷ []) tokens) in
    subst (λ (x : List ℕ). Reads (91 ∷ x) (BeginList ∷ ((scalars_tokens ss ++ EndList ∷ []) ++ tokens)) []) bytes (subst (λ (x : List Token). Reads (91 ∷ (scalars_bytes ss ++ 93 ∷ 10 ∷ more)) (BeginList ∷ x) []) both all)

-- the lines of the items of a section are read, whatever follows
abbrev InnerReads : (List Item → Type 0) → (List Item → List Token) → Type 0
InnerReads Inner inner = (items : List Item) (more : List ℕ) (tokens : List Token) → Inner items → Reads more tokens [] → Reads (item_lines items ++ more) (inner items ++ tokens) []

layer_first : (Inner : List Item → Type 0) (inner : List Item → List Token) → InnerReads Inner inner → (it : Item) (layer : Layer) (more : List ℕ) (tokens : List Token) → out-Item it ≡ layer → FitsLayer Inner layer → Reads more tokens [] → Reads (item_bytes it ++ more) (layer_tokens inner layer ++ tokens) []
layer_first Inner inner sub it (Item-F.Section name tree) more tokens e h k =
    let body = item_lines (items_in tree) in
    let held = inner (items_in tree) in
    let close = token_first Close (10 ∷ more) tokens tt (line_first more tokens k) in
    let within = sub (items_in tree) (125 ∷ 10 ∷ more) (Close ∷ tokens) h.1 close in
    let open_it = token_first Open (10 ∷ (body ++ 125 ∷ 10 ∷ more)) (held ++ Close ∷ tokens) tt (line_first (body ++ 125 ∷ 10 ∷ more) (held ++ Close ∷ tokens) within) in
    let all = word_first name (32 ∷ 123 ∷ 10 ∷ (body ++ 125 ∷ 10 ∷ more)) (Open ∷ (held ++ Close ∷ tokens)) h.0 refl (space_first (123 ∷ 10 ∷ (body ++ 125 ∷ 10 ∷ more)) (Open ∷ (held ++ Close ∷ tokens)) open_it) in
    let bytes : item_bytes it ++ more ≡ name ++ 32 ∷ 123 ∷ 10 ∷ (body ++ 125 ∷ 10 ∷ more) =
    ap (λ (x : List ℕ). x ++ more) (section_lines it name tree e) ∙ ap (λ (x : List ℕ). layer_bytes (Item-F.Section name x) ++ more) (tree_lines tree)
    ∙ append_assoc ((name ++ codes " {\n") ++ body) (codes "}\n") more ∙ append_assoc (name ++ codes " {\n") body (125 ∷ 10 ∷ more) ∙ append_assoc name (codes " {\n") (body ++ 125 ∷ 10 ∷ more) in
    let both : held ++ Close ∷ tokens ≡ (held ++ Close ∷ []) ++ tokens = sym (append_assoc held (Close ∷ []) tokens) in
    subst (λ (x : List ℕ). Reads x (layer_tokens inner (Item-F.Section name tree) ++ tokens) []) (sym bytes) (subst (λ (x : List Token). Reads (name ++ 32 ∷ 123 ∷ 10 ∷ (body ++ 125 ∷ 10 ∷ more)) (Word name ∷ Open ∷ x) []) both all)
layer_first Inner inner sub it (Item-F.Value name v) more tokens e h k =
    let behind_it = value_first v more tokens h.1 k in
    let equals = token_first Equals (32 ∷ (value_bytes v ++ 10 ∷ more)) (value_tokens v ++ tokens) tt (space_first (value_bytes v ++ 10 ∷ more) (value_tokens v ++ tokens) behind_it) in
    let all = word_first name (32 ∷ 61 ∷ 32 ∷ (value_bytes v ++ 10 ∷ more)) (Equals ∷ (value_tokens v ++ tokens)) h.0 refl (space_first (61 ∷ 32 ∷ (value_bytes v ++ 10 ∷ more)) (Equals ∷ (value_tokens v ++ tokens)) equals) in
    let bytes : item_bytes it ++ more ≡ name ++ 32 ∷ 61 ∷ 32 ∷ (value_bytes v ++ 10 ∷ more) =
    ap (λ (x : List ℕ). x ++ more) (value_lines it name v e)
    ∙ append_assoc ((name ++ codes " = ") ++ value_bytes v) (codes "\n") more ∙ append_assoc (name ++ codes " = ") (value_bytes v) (10 ∷ more) ∙ append_assoc name (codes " = ") (value_bytes v ++ 10 ∷ more) in
    subst (λ (x : List ℕ). Reads x (layer_tokens inner (Item-F.Value name v) ++ tokens) []) (sym bytes) all

items_first : (Inner : List Item → Type 0) (inner : List Item → List Token) → InnerReads Inner inner → (items : List Item) (more : List ℕ) (tokens : List Token) → FitBy Inner items → Reads more tokens [] → Reads (item_lines items ++ more) (tokens_by inner items ++ tokens) []
items_first Inner inner sub [] more tokens h k = k
items_first Inner inner sub (it ∷ items) more tokens h k =
    let tail = items_first Inner inner sub items more tokens h.1 k in
    let one = layer_first Inner inner sub it (out-Item it) (item_lines items ++ more) (tokens_by inner items ++ tokens) refl h.0 tail in
    subst (λ (x : List ℕ). Reads x (tokens_by inner (it ∷ items) ++ tokens) []) (sym (append_assoc (item_bytes it) (item_lines items) more))
    (subst (λ (x : List Token). Reads (item_bytes it ++ (item_lines items ++ more)) x []) (sym (append_assoc (layer_tokens inner (out-Item it)) (tokens_by inner items) tokens)) one)

read_them : (levels : ℕ) (items : List Item) (more : List ℕ) (tokens : List Token) → Fit levels items → Reads more tokens [] → Reads (item_lines items ++ more) (tokens_in levels items ++ tokens) []
unfolding tokens_in Fit
read_them zero items more tokens h k = items_first (λ xs. ⊥) (λ xs. []) (λ xs m us none r. absurd none) items more tokens h k
read_them (suc levels) items more tokens h k = items_first (Fit levels) (tokens_in levels) (λ xs m us f r. read_them levels xs m us f r) items more tokens h k

nothing_left : Reads [] [] []
unfolding behind
nothing_left = refl

pub written_spells : (tree : Tree) (bytes : List ℕ) → Fit 8 (items_in tree) → bytes ≡ item_lines (items_in tree) → Spells bytes tree
written_spells tree bytes fit is =
    let items = items_in tree in
    let tokens = tokens_in 8 items in
    let reads = read_them 8 items [] [] fit nothing_left in
    let all : Reads (item_lines items) tokens [] = subst (λ (x : List ℕ). Reads x tokens []) (append-nil (item_lines items)) (subst (λ (x : List Token). Reads (item_lines items ++ []) x []) (append-nil tokens) reads) in
    (tokens, subst (λ (x : List ℕ). Reads x tokens []) (sym is) all, spell_them 8 items fit)
