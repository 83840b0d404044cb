-- Digits, one more at the end.
use Rattle.std.proofs.Common.{◌≡◌, ℕ, ◌+◌, ◌-◌, ◌*◌, ◌<◌, min, true, List, [], ◌∷◌, ◌++◌, length, get_or, take, refl, ap, ◌∙◌, arith}
use Rattle.std.specs.List.{list_all}
use Rattle.std.proofs.lemmas.List.{take_more}
use Rattle.std.proofs.lemmas.List.Folds.{list_all_more}
use Rattle.lvm_text.specs.Tokens.{is_digit_byte}
use Rattle.lvm_text.specs.Grammar.{digits_from}

pub digits_last : (n : ℕ) (xs : List ℕ) (b : ℕ) → digits_from n (xs ++ b ∷ []) ≡ 10 * digits_from n xs + (b - 48)
digits_last n [] b = refl
digits_last n (x ∷ xs) b = digits_last (10 * n + (x - 48)) xs b

pub size_more : (xs : List ℕ) (i n m : ℕ) → i < length xs → n ≡ min (digits_from 0 (take i xs)) 9223372036854775808 → m ≡ min (10 * n + (get_or xs i 0 - 48)) 9223372036854775808 → m ≡ min (digits_from 0 (take (i + 1) xs)) 9223372036854775808
size_more xs i n m lt was now =
    let e = ap (digits_from 0) (take_more xs i 0 lt) ∙ digits_last 0 (take i xs) (get_or xs i 0) in
    rw e (omega arith)

pub digits_more : (xs : List ℕ) (i : ℕ) → i < length xs → list_all is_digit_byte (take i xs) ≡ true → is_digit_byte (get_or xs i 0) ≡ true → list_all is_digit_byte (take (i + 1) xs) ≡ true
digits_more xs i lt h e = list_all_more is_digit_byte xs i 0 lt ∙ rw (h, e) refl
