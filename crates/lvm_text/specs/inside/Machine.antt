-- Reading tokens from left to right: what stands so far, and what may come next. The flag says whether
-- depth and numbers are limited.
use Rattle.std.specs.Prelude.{◌≡◌, ℕ, min, Bool, true, false, ◌&&◌, List, [], ◌∷◌, ◌++◌, length, nat_le, nat_lt, if◌then◌else◌, Option, Some, None, Result, Ok, Err}
use Rattle.lvm_text.specs.declared.token.Token.{Token}
use Rattle.lvm_text.specs.declared.token.Token.TheVariants.{Open, Close, BeginList, EndList, Comma, Equals, Word, Text}
use Rattle.lvm_text.specs.declared.tree.Item.{Item}
use Rattle.lvm_text.specs.declared.tree.Item.TheVariants as item
use Rattle.lvm_text.specs.declared.tree.Value.{Value}
use Rattle.lvm_text.specs.declared.tree.Value.TheVariants as value
use Rattle.lvm_text.specs.declared.tree.Scalar.{Scalar}
use Rattle.lvm_text.specs.declared.tree.Scalar.TheVariants as scalar
use Rattle.lvm_text.specs.declared.machine.Wrong.{Wrong}
use Rattle.lvm_text.specs.declared.machine.Wrong.TheVariants.{Shape, Number, Depth}
use Rattle.lvm_text.specs.declared.machine.Stop.{Stop}
use Rattle.lvm_text.specs.declared.machine.Stop.TheVariants as stops
use Rattle.lvm_text.specs.declared.machine.Frame.{Frame}
use Rattle.lvm_text.specs.declared.machine.State.{State}
use Rattle.lvm_text.specs.declared.machine.Due.{Due}
use Rattle.lvm_text.specs.declared.machine.Due.TheVariants as due
use Rattle.lvm_text.specs.Tree.{tree_of}
use Rattle.lvm_text.specs.Grammar.{are_digit_bytes, digits_from, digits_in, is_negative, signed, greatest_size}

infixl 10 ◌>>=◌
abbrev pub ◌>>=◌ : {A B : Type 0} → Result A Wrong → (A → Result B Wrong) → Result B Wrong
(Ok x) >>= f = f x
(Err e) >>= f = Err e

-- what a function returned is what reading gives, unless memory ran out
abbrev pub Gives : {A : Type 0} → Result A Stop → Result A Wrong → Type 0
Gives (Ok x) read = read ≡ Ok x
Gives (Err (stops.Wrong e)) read = read ≡ Err e
Gives (Err stops.Memory) read = Unit {0}

abbrev pub next : List Frame → List Item → Due → Result State Wrong
next frames here due = Ok (record { frames = frames; here = here; due = due })

abbrev pub frame_of : List Item → List ℕ → Frame
frame_of before name = record { before = before; name = name }

-- the frames without the innermost, and the innermost
abbrev pub put_first : Frame → Option (List Frame × Frame) → Option (List Frame × Frame)
put_first frame None = Some ([], frame)
put_first frame (Some p) = Some (frame ∷ p.0, p.1)

unfoldable pub parted : List Frame → Option (List Frame × Frame)
parted [] = None
parted (frame ∷ frames) = put_first frame (parted frames)

abbrev pub closed : List Item → Option (List Frame × Frame) → Result State Wrong
closed here None = Err Shape
closed here (Some p) = next p.0 (p.1.before ++ item.Section p.1.name (tree_of here) ∷ []) due.Name

abbrev pub at_name : List Frame → List Item → Token → Result State Wrong
at_name frames here Open = Err Shape
at_name frames here Close = closed here (parted frames)
at_name frames here BeginList = Err Shape
at_name frames here EndList = Err Shape
at_name frames here Comma = Err Shape
at_name frames here Equals = Err Shape
at_name frames here (Word word) = next frames here (due.Mark word)
at_name frames here (Text text) = Err Shape

abbrev pub opened : Bool → List Frame → List Item → List ℕ → Result State Wrong
opened limited frames here name =
    if limited && nat_le 8 (length frames) then Err Depth else next (frames ++ frame_of here name ∷ []) [] due.Name

abbrev pub at_mark : Bool → List Frame → List Item → List ℕ → Token → Result State Wrong
at_mark limited frames here name Open = opened limited frames here name
at_mark limited frames here name Close = Err Shape
at_mark limited frames here name BeginList = Err Shape
at_mark limited frames here name EndList = Err Shape
at_mark limited frames here name Comma = Err Shape
at_mark limited frames here name Equals = next frames here (due.Value name)
at_mark limited frames here name (Word word) = Err Shape
at_mark limited frames here name (Text text) = Err Shape

-- the number that digits spell, or `most` where it is greater
abbrev pub SpellUpTo : ℕ → List ℕ → ℕ → Type 0
SpellUpTo most digits n = (are_digit_bytes digits ≡ true) × (n ≡ min (digits_from 0 digits) most)

-- the number that digits spell, with its sign
abbrev pub number_with : Bool → Bool → List ℕ → Result Scalar Wrong
number_with limited negative digits =
    if are_digit_bytes digits then (
    if limited && nat_lt greatest_size (digits_from 0 digits) then Err Number else
    Ok (scalar.Number (signed negative (digits_from 0 digits)))
    ) else Err Shape

unfoldable pub number_at : Bool → List ℕ → Result Scalar Wrong
number_at limited word = number_with limited (is_negative word) (digits_in word)

abbrev pub scalar_at : Bool → Token → Result Scalar Wrong
scalar_at limited Open = Err Shape
scalar_at limited Close = Err Shape
scalar_at limited BeginList = Err Shape
scalar_at limited EndList = Err Shape
scalar_at limited Comma = Err Shape
scalar_at limited Equals = Err Shape
scalar_at limited (Word word) = number_at limited word
scalar_at limited (Text text) = Ok (scalar.Text text)

abbrev pub value_of_scalar : Scalar → Value
value_of_scalar (scalar.Number n) = value.Number n
value_of_scalar (scalar.Text text) = value.Text text

abbrev pub with_value : List Frame → List Item → List ℕ → Value → Result State Wrong
with_value frames here name v = next frames (here ++ item.Value name v ∷ []) due.Name

abbrev pub is_list_begin : Token → Bool
is_list_begin Open = false
is_list_begin Close = false
is_list_begin BeginList = true
is_list_begin EndList = false
is_list_begin Comma = false
is_list_begin Equals = false
is_list_begin (Word word) = false
is_list_begin (Text text) = false

abbrev pub is_list_end : Token → Bool
is_list_end Open = false
is_list_end Close = false
is_list_end BeginList = false
is_list_end EndList = true
is_list_end Comma = false
is_list_end Equals = false
is_list_end (Word word) = false
is_list_end (Text text) = false

abbrev pub at_value : Bool → List Frame → List Item → List ℕ → Token → Result State Wrong
at_value limited frames here name token =
    if is_list_begin token then next frames here (due.First name) else
    (scalar_at limited token >>= λ s. with_value frames here name (value_of_scalar s))

abbrev pub at_scalar : Bool → List Frame → List Item → List ℕ → List Scalar → Token → Result State Wrong
at_scalar limited frames here name scalars token =
    scalar_at limited token >>= λ s. next frames here (due.Comma name (scalars ++ s ∷ []))

abbrev pub at_first : Bool → List Frame → List Item → List ℕ → Token → Result State Wrong
at_first limited frames here name token =
    if is_list_end token then with_value frames here name (value.Many []) else
    at_scalar limited frames here name [] token

abbrev pub at_comma : List Frame → List Item → List ℕ → List Scalar → Token → Result State Wrong
at_comma frames here name scalars Open = Err Shape
at_comma frames here name scalars Close = Err Shape
at_comma frames here name scalars BeginList = Err Shape
at_comma frames here name scalars EndList = with_value frames here name (value.Many scalars)
at_comma frames here name scalars Comma = next frames here (due.Scalar name scalars)
at_comma frames here name scalars Equals = Err Shape
at_comma frames here name scalars (Word word) = Err Shape
at_comma frames here name scalars (Text text) = Err Shape

abbrev pub step_due : Bool → List Frame → List Item → Due → Token → Result State Wrong
step_due limited frames here due.Name token = at_name frames here token
step_due limited frames here (due.Mark name) token = at_mark limited frames here name token
step_due limited frames here (due.Value name) token = at_value limited frames here name token
step_due limited frames here (due.First name) token = at_first limited frames here name token
step_due limited frames here (due.Scalar name scalars) token = at_scalar limited frames here name scalars token
step_due limited frames here (due.Comma name scalars) token = at_comma frames here name scalars token

-- the state after one more token
abbrev pub step : Bool → State → Token → Result State Wrong
step limited s token = step_due limited s.frames s.here s.due token

-- the state after more tokens
unfoldable pub run : Bool → State → List Token → Result State Wrong
run limited s [] = Ok s
run limited s (token ∷ tokens) = step limited s token >>= λ t. run limited t tokens

abbrev pub begun : State
begun = record { frames = []; here = []; due = due.Name }

abbrev pub whole : List Item → State
whole items = record { frames = []; here = items; due = due.Name }
