-- A job that words ask for is one that can be planned.
use Rattle.std.proofs.Common.{◌≡◌, ◌≢◌, ℕ, ◌+◌, ◌-◌, ◌*◌, ◌≤◌, ◌&&◌, List, [], ◌∷◌, length, fold, arith, refl, sym, ap, ◌∙◌, Bool, true, false, Option, Some, None, option_and_then, unwrap_or, if◌then◌else◌, nat_le, nat_lt, ◌==◌, Result, Ok, Err, slice_get}
use Rattle.std.proofs.lemmas.Bool.{false≢true}
use Rattle.std.proofs.lemmas.Slice.Eq.{bytes_eq-Decides}
use Rattle.std.specs.List.{list_all}
use Rattle.std.specs.Str.{bytes_eq}
use Rattle.words.specs.declared.items.Item.{Item}
use Rattle.words.specs.declared.usage.Usage.{Usage}
use Rattle.words.specs.declared.usage.Usage.TheVariants.{Same, Missing}
use Rattle.words.specs.declared.options.Choice.TheVariants.{Alignment}
use Rattle.words.specs.JobOf.{both_of, both_operands, layout_of, resize_job_of, setting, value_of}
use Rattle.words.specs.Numbers.{are_digits, digits_of, is_digit, spelled_number, whole_number_of, with_digit}
use Rattle.words.specs.Plannable.{IsPlannable}
use Rattle.words.specs.Spelling.{alignment_of}
use Rattle.words.specs.Usage.{operands}

-- digits behind a number that isn't 0
behind_number : (digits : List ℕ) (n : ℕ) → 1 ≤ n → 1 ≤ fold with_digit n digits
behind_number [] n some = some
behind_number (digit ∷ digits) n some = behind_number digits (with_digit n digit) (omega (arith, some))

-- what an `if` gives
given_else : {A : Type 0} (b : Bool) (o : Option A) (x : A) → (if b then None else o) ≡ Some x → (b ≡ false) × (o ≡ Some x)
given_else true o x is = absurd (cc is)
given_else false o x is = (refl, is)

given_then : {A : Type 0} (b : Bool) (y x : A) → (if b then Some y else None) ≡ Some x → (b ≡ true) × (y ≡ x)
given_then true y x is = (refl, cc is)
given_then false y x is = absurd (cc is)

given_and_then : {A B : Type 0} (f : A → Option B) (o : Option A) (y : B) → option_and_then f o ≡ Some y → (x : A) × (o ≡ Some x) × (f x ≡ Some y)
given_and_then f None y is = absurd (cc is)
given_and_then f (Some x) y is = (x, refl, is)

both_true : (a b : Bool) → (a && b) ≡ true → (a ≡ true) × (b ≡ true)
both_true true b is = (refl, is)
both_true false b is = absurd (cc is)

-- digits begin with a digit
digit_first : (most byte : ℕ) (bytes : List ℕ) → are_digits most (byte ∷ bytes) ≡ true → is_digit byte ≡ true
digit_first most byte bytes digits = (both_true (is_digit byte) (list_all is_digit bytes) (both_true _ (list_all is_digit (byte ∷ bytes)) digits).1).0

-- digits of which the first isn't 0
first_digit : (most byte : ℕ) (bytes : List ℕ) → (byte == 48) ≡ false → are_digits most (byte ∷ bytes) ≡ true → 1 ≤ spelled_number (byte ∷ bytes)
first_digit most byte bytes other digits =
    let is : is_digit byte ≡ true = digit_first most byte bytes digits in
    behind_number bytes (with_digit 0 byte) (grind (arith, other, is))

-- a whole number is 1 or more
some_number : (most : ℕ) (bytes : List ℕ) (n : ℕ) → whole_number_of most bytes ≡ Some n → 1 ≤ n
unfolding whole_number_of digits_of
some_number most [] n is = absurd (cc is)
some_number most (byte ∷ bytes) n is =
    let behind = given_else (byte == 48) (if are_digits most (byte ∷ bytes) then Some (spelled_number (byte ∷ bytes)) else None) n is in
    let digits = given_then (are_digits most (byte ∷ bytes)) (spelled_number (byte ∷ bytes)) n behind.1 in
    rw (sym digits.1) (first_digit most byte bytes behind.0 digits.0)

-- an alignment lies in its range
is_alignment : (bytes : List ℕ) (n : ℕ) → alignment_of bytes ≡ Some n → (1 ≤ n) × (n ≤ 1048576)
unfolding alignment_of
is_alignment bytes n is =
    let number = given_and_then (λ (number : ℕ). if nat_le number 1048576 then Some number else None) (whole_number_of 7 bytes) n is in
    let few = given_then (nat_le number.0 1048576) number.0 n number.2 in
    (rw (sym few.1) (some_number 7 bytes number.0 number.1), rw (sym few.1) (grind (arith, few.0)))

set_alignment : (given : Option ℕ) → ((n : ℕ) → given ≡ Some n → (1 ≤ n) × (n ≤ 1048576)) → (1 ≤ unwrap_or given 128) × (unwrap_or given 128 ≤ 1048576)
set_alignment None each = (omega arith, omega arith)
set_alignment (Some n) each = each n refl

aligned : (value : Option (List ℕ)) → (1 ≤ setting 128 alignment_of value) × (setting 128 alignment_of value ≤ 1048576)
aligned value = set_alignment (option_and_then alignment_of value) (λ n is.
    let spelled = given_and_then alignment_of value n is in
    is_alignment spelled.0 n spelled.2)

-- two operands have two names
two_texts : (b : Bool) (source target : List ℕ) (names : List ℕ × List ℕ) → (if b then Err Same else Ok (source, target)) ≡ Ok names → (b ≡ false) × ((source, target) ≡ names)
two_texts true source target names is = absurd (cc is)
two_texts false source target names is = (refl, cc is)

two_names : (one other : Option (List ℕ)) (source target : List ℕ) → both_of one other ≡ Ok (source, target) → source ≢ target
two_names None other source target is = absurd (cc is)
two_names (Some one) None source target is = absurd (cc is)
two_names (Some one) (Some other) source target is =
    let texts = two_texts (bytes_eq one other) one other (source, target) is in
    let first : one ≡ source = ap (λ (pair : List ℕ × List ℕ). pair.0) texts.1 in
    let second : other ≡ target = ap (λ (pair : List ℕ × List ℕ). pair.1) texts.1 in
    λ same. absurd (false≢true (sym texts.0 ∙ (bytes_eq-Decides one other).1 (first ∙ same ∙ sym second)))

pub plannable : (items : List Item) (source target : List ℕ) → both_operands items ≡ Ok (source, target) → IsPlannable (resize_job_of items source target)
unfolding resize_job_of layout_of
plannable items source target are =
    let range = aligned (value_of Alignment items) in
    record { some_align = range.0; small_align = range.1; two_names = two_names (slice_get (operands items) 0) (slice_get (operands items) 1) source target are }
