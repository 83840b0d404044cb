-- Parts of bytes.
use Rattle.std.proofs.Common.{◌≡◌, ℕ, suc, ◌+◌, ◌<◌, ◌≤◌, List, [], ◌∷◌, ◌++◌, length, take, drop, get_or, slice_index, refl, sym, ap, ◌∙◌, arith}
use Rattle.std.proofs.lemmas.List.{take-take, drop-drop, take_at, drop_at, get_or-drop, drop_more}
use Rattle.xfs_dir.specs.Item.{field_number}
use Rattle.disk_base.specs.Image.{bytes_at}
use Rattle.disk_base.specs.Fields.{big_at}
use Rattle.disk_base.proofs.Fieldwork.{big_same}
use Rattle.disk_base.proofs.Images.{bytes_more}

-- two parts that touch
pub join_parts : (xs : List ℕ) (a b m c d : ℕ) → m ≡ a + b → d ≡ b + c → m + c ≤ length xs → bytes_at xs a b ++ bytes_at xs m c ≡ bytes_at xs a d
join_parts xs a b m c d e f h = sym (bytes_more xs a m b c d e f h)

-- a byte and the part behind it
pub join_byte : (xs : List ℕ) (a m c d : ℕ) → m ≡ a + 1 → d ≡ suc c → a < length xs → slice_index xs a ∷ bytes_at xs m c ≡ bytes_at xs a d
join_byte xs a m c d e f h =
    ap (λ (k : ℕ). slice_index xs a ∷ take c (drop k xs)) e
    ∙ ap (take (suc c)) (sym (drop_more xs a 0 h))
    ∙ ap (λ (k : ℕ). take k (drop a xs)) (sym f)

-- a number is that of its part
pub field_of_part : (n : ℕ) (xs : List ℕ) (a : ℕ) → field_number n (bytes_at xs a n) ≡ big_at n xs a
field_of_part n xs a = big_same n 0 a (bytes_at xs a n) xs (take-take n n (drop a xs) (omega arith))

pub field_of_longer : (n k : ℕ) (xs : List ℕ) (a : ℕ) → n ≤ k → field_number n (bytes_at xs a k) ≡ big_at n xs a
field_of_longer n k xs a h = big_same n 0 a (bytes_at xs a k) xs (take-take n k (drop a xs) h)

-- what stands at a place, and what behind it
pub part_at : (xs p q : List ℕ) (a n : ℕ) → drop a xs ≡ p ++ q → length p ≡ n → bytes_at xs a n ≡ p
part_at xs p q a n e l = ap (take n) e ∙ take_at p q n l

pub behind : (xs p q : List ℕ) (a n m : ℕ) → drop a xs ≡ p ++ q → length p ≡ n → m ≡ a + n → drop m xs ≡ q
behind xs p q a n m e l f = ap (λ (k : ℕ). drop k xs) f ∙ sym (drop-drop n a xs) ∙ ap (drop n) e ∙ drop_at p q n l

pub byte_at : (xs q : List ℕ) (x a : ℕ) → drop a xs ≡ x ∷ q → slice_index xs a ≡ x
byte_at xs q x a e =
    let there : get_or (drop a xs) 0 0 ≡ get_or xs (a + 0) 0 = get_or-drop a xs 0 0 in
    let place : a + 0 ≡ a = omega arith in
    ap (λ (k : ℕ). get_or xs k 0) (sym place) ∙ sym there ∙ ap (λ (zs : List ℕ). get_or zs 0 0) e

pub behind_byte : (xs q : List ℕ) (x a m : ℕ) → drop a xs ≡ x ∷ q → m ≡ a + 1 → drop m xs ≡ q
behind_byte xs q x a m e f = behind xs (x ∷ []) q a 1 m e refl f
