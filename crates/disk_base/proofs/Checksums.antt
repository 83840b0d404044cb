-- Numbers as polynomials, and how a checksum goes on by a whole byte.
use Rattle.std.proofs.Common.{◌≡◌, ℕ, zero, suc, ◌+◌, ◌*◌, ◌/◌, ◌%◌, ◌^◌, ◌<◌, ◌≤◌, inl, inr, Bool, true, false, ◌&&◌, nat_eq, List, [], ◌∷◌, ◌++◌, length, get_or, take, refl, sym, ap, subst, ◌∙◌, append_assoc, append-nil, arith, length-append, bit_and, bit_xor, eqb-true, if◌then◌else◌, lit<}
use Rattle.std.proofs.Math.Nat.{div-eq_of_lt, pow-suc}
use Rattle.std.proofs.lemmas.Bool.{cases_order}
use Rattle.std.proofs.lemmas.Nat.{shr-shr, xor_shr, xor_lt, and_mask}
use Rattle.std.specs.Int.Bits.{xor_add_and, xor_assoc as bit_xor_assoc, xor_self as bit_xor_self, xor_zero_r}
use Rattle.std.proofs.lemmas.Grind.{flat_map-append}
use Rattle.std.proofs.lemmas.List.{take_more}
use Rattle.disk_base.specs.Checksum.{xor, plus, zeros, shifted, scaled, bits, message, IsRemainder, LeavesRemainder, IsChecksum, IsCrc32, OneChecksum, rest_with, rest_after, number_of_bits, left_of, checksum_of, castagnoli, ieee_802_3}
use Rattle.disk_base.specs.inside.Tables.{IsTable}
use Rattle.disk_base.specs.declared.checksum_table.TheConstants.{CRC32, CRC32C}
use Rattle.disk_base.proofs.Polynomials.{plus-nil, plus_self, plus_comm, plus_assoc, plus_swap, plus-append, zeros_plus, zeros_zeros, length-zeros, length-plus, length-rest_with, length-rest_after, rest_after-append, dividend, xor-false, one_remainder, remainder_of_division}

-- ---- the bits of a number

bits-suc : (n x : ℕ) → bits (suc n) x ≡ nat_eq (x % 2) 1 ∷ bits n (x / 2)
unfolding bits
bits-suc n x = refl

pub length-bits : (n x : ℕ) → length (bits n x) ≡ n
unfolding bits
length-bits zero x = refl
length-bits (suc n) x = ap suc (length-bits n (x / 2))

bits-zero : (n : ℕ) → bits n 0 ≡ zeros n
unfolding bits
bits-zero zero = refl
bits-zero (suc n) = ap (λ (l : List Bool). false ∷ l) (bits-zero n)

bits-append : (m n x k : ℕ) → k ≡ m + n → bits k x ≡ bits m x ++ bits n (x / 2 ^ m)
unfolding bits
bits-append zero n x k is =
    let same : k ≡ n = omega arith in
    let one : x ≡ x / 2 ^ zero = omega arith in
    ap (λ (j : ℕ). bits j x) same ∙ ap (bits n) one
bits-append (suc m) n x zero is = absurd (omega arith)
bits-append (suc m) n x (suc k) is =
    let halves : x / 2 / 2 ^ m ≡ x / 2 ^ suc m = shr-shr x 1 m ∙ ap (λ (j : ℕ). x / 2 ^ j) (omega arith) in
    ap (λ (l : List Bool). nat_eq (x % 2) 1 ∷ l) (bits-append m n (x / 2) k (omega arith) ∙ ap (λ (y : ℕ). bits m (x / 2) ++ bits n y) halves)

-- no more bits than a number has
bits_past : (m n x k : ℕ) → k ≡ m + n → x < 2 ^ m → bits k x ≡ bits m x ++ zeros n
bits_past m n x k is small =
    bits-append m n x k is ∙ ap (λ (l : List Bool). bits m x ++ l) (ap (bits n) (div-eq_of_lt small) ∙ bits-zero n)

-- the low bits of a number
bits_low : (n a c : ℕ) → bits n (2 ^ n * a + c) ≡ bits n c
unfolding bits
bits_low zero a c = refl
bits_low (suc n) a c =
    let t : ℕ = 2 ^ n * a in
    let whole : 2 ^ suc n * a + c ≡ t * 2 + c = ap (λ (m : ℕ). m * a + c) (pow-suc 2 n) ∙ omega arith in
    let digit : (t * 2 + c) % 2 ≡ c % 2 = omega arith in
    let half : (t * 2 + c) / 2 ≡ t + c / 2 = omega arith in
    ap (bits (suc n)) whole ∙ ap (λ (d : ℕ). nat_eq d 1 ∷ bits n ((t * 2 + c) / 2)) digit
    ∙ ap (λ (l : List Bool). nat_eq (c % 2) 1 ∷ l) (ap (bits n) half ∙ bits_low n a (c / 2))

odd_sum : (a b : ℕ) → a < 2 → b < 2 → nat_eq ((a + b) % 2) 1 ≡ xor (nat_eq a 1) (nat_eq b 1)
odd_sum zero zero a-small b-small = refl
odd_sum zero (suc zero) a-small b-small = refl
odd_sum zero (suc (suc b)) a-small b-small = absurd (omega arith)
odd_sum (suc zero) zero a-small b-small = refl
odd_sum (suc zero) (suc zero) a-small b-small = refl
odd_sum (suc zero) (suc (suc b)) a-small b-small = absurd (omega arith)
odd_sum (suc (suc a)) b a-small b-small = absurd (omega arith)

pub bits-xor : (n a b : ℕ) → bits n (bit_xor a b) ≡ plus (bits n a) (bits n b)
unfolding bits plus
bits-xor zero a b = refl
bits-xor (suc n) a b =
    let digit : bit_xor a b % 2 ≡ (a % 2 + b % 2) % 2 = omega (arith, xor_add_and a b) in
    let head : nat_eq (bit_xor a b % 2) 1 ≡ xor (nat_eq (a % 2) 1) (nat_eq (b % 2) 1) =
    ap (λ (d : ℕ). nat_eq d 1) digit ∙ odd_sum (a % 2) (b % 2) (omega arith) (omega arith) in
    let half : bit_xor a b / 2 ≡ bit_xor (a / 2) (b / 2) = xor_shr a b 1 in
    ap (λ (h : Bool). h ∷ bits n (bit_xor a b / 2)) head
    ∙ ap (λ (l : List Bool). xor (nat_eq (a % 2) 1) (nat_eq (b % 2) 1) ∷ l) (ap (bits n) half ∙ bits-xor n (a / 2) (b / 2))

same_digit : (a b : ℕ) → a < 2 → b < 2 → nat_eq a 1 ≡ nat_eq b 1 → a ≡ b
same_digit zero zero a-small b-small same = refl
same_digit zero (suc zero) a-small b-small same = cc
same_digit zero (suc (suc b)) a-small b-small same = absurd (omega arith)
same_digit (suc zero) zero a-small b-small same = cc
same_digit (suc zero) (suc zero) a-small b-small same = refl
same_digit (suc zero) (suc (suc b)) a-small b-small same = absurd (omega arith)
same_digit (suc (suc a)) b a-small b-small same = absurd (omega arith)

same_heads : (x y : Bool) (xs ys : List Bool) → x ∷ xs ≡ y ∷ ys → x ≡ y
same_heads x y xs ys same = cc

same_tails : (x y : Bool) (xs ys : List Bool) → x ∷ xs ≡ y ∷ ys → xs ≡ ys
same_tails x y xs ys same = cc

pub same_bits : (n a b : ℕ) → a < 2 ^ n → b < 2 ^ n → bits n a ≡ bits n b → a ≡ b
unfolding bits
same_bits zero a b a-small b-small same = omega arith
same_bits (suc n) a b a-small b-small same =
    let digit : a % 2 ≡ b % 2 = same_digit (a % 2) (b % 2) (omega arith) (omega arith) (same_heads _ _ _ _ same) in
    let half : a / 2 ≡ b / 2 = same_bits n (a / 2) (b / 2) (omega (arith, pow-suc 2 n)) (omega (arith, pow-suc 2 n)) (same_tails _ _ _ _ same) in
    omega arith

-- ---- several bits at once

-- a message no longer than what was left may be added to it at once
plus_front : (xs ys us : List Bool) → length ys ≤ length xs → plus (xs ++ us) ys ≡ plus xs ys ++ us
unfolding plus
plus_front xs [] us le = plus-nil (xs ++ us) ∙ ap (λ (l : List Bool). l ++ us) (sym (plus-nil xs))
plus_front [] (y ∷ ys) us le = absurd (omega arith)
plus_front (x ∷ xs) (y ∷ ys) us le = ap (λ (l : List Bool). xor x y ∷ l) (plus_front xs ys us (omega arith))

absorbed_step : (p s m : List Bool) (x b : Bool) → length m ≤ length s → plus (rest_with p (x ∷ s) b) m ≡ rest_with p (xor x b ∷ plus s m) false
unfolding rest_with
absorbed_step p s m x b le =
    let q : List Bool = scaled (xor x b) p in
    plus_assoc (s ++ false ∷ []) q m ∙ ap (plus (s ++ false ∷ [])) (plus_comm q m) ∙ sym (plus_assoc (s ++ false ∷ []) m q)
    ∙ ap (λ (l : List Bool). plus l q) (plus_front s m (false ∷ []) le)
    ∙ ap (λ (c : Bool). plus (plus s m ++ false ∷ []) (scaled c p)) (sym (xor-false (xor x b)))

absorbed : (p s m : List Bool) → length m ≤ length s → length s ≡ length p → rest_after p s m ≡ rest_after p (plus s m) (zeros (length m))
unfolding rest_after plus
absorbed p s [] le long = sym (plus-nil s)
absorbed p [] (b ∷ m) le long = absurd (omega arith)
absorbed p (x ∷ s) (b ∷ m) le long =
    absorbed p (rest_with p (x ∷ s) b) m (omega (arith, length-rest_with p (x ∷ s) b long)) (length-rest_with p (x ∷ s) b long)
    ∙ ap (λ (l : List Bool). rest_after p l (zeros (length m))) (absorbed_step p s m x b (omega arith))

-- what is left of a sum
scaled-xor : (x y : Bool) (p : List Bool) → scaled (xor x y) p ≡ plus (scaled x p) (scaled y p)
scaled-xor true true p = sym (plus_self p)
scaled-xor true false p = sym (plus_comm p (zeros (length p)) ∙ zeros_plus (length p) p (omega arith))
scaled-xor false true p = sym (zeros_plus (length p) p (omega arith))
scaled-xor false false p = sym (zeros_zeros (length p))

linear_step : (p xs ys : List Bool) → length xs ≡ length p → length ys ≡ length p → rest_with p (plus xs ys) false ≡ plus (rest_with p xs false) (rest_with p ys false)
unfolding rest_with plus
linear_step p [] [] long long' = refl
linear_step p [] (y ∷ ys) long long' = absurd (omega arith)
linear_step p (x ∷ xs) [] long long' = absurd (omega arith)
linear_step p (x ∷ xs) (y ∷ ys) long long' =
    ap (λ (c : Bool). plus (plus xs ys ++ false ∷ []) (scaled c p)) (xor-false (xor x y))
    ∙ ap (plus (plus xs ys ++ false ∷ [])) (scaled-xor x y p)
    ∙ ap (λ (l : List Bool). plus l (plus (scaled x p) (scaled y p))) (sym (plus-append xs (false ∷ []) ys (false ∷ []) (omega arith)))
    ∙ plus_swap (xs ++ false ∷ []) (ys ++ false ∷ []) (scaled x p) (scaled y p)
    ∙ ap (λ (c : Bool). plus (plus (xs ++ false ∷ []) (scaled c p)) (plus (ys ++ false ∷ []) (scaled y p))) (sym (xor-false x))
    ∙ ap (λ (c : Bool). plus (plus (xs ++ false ∷ []) (scaled (xor x false) p)) (plus (ys ++ false ∷ []) (scaled c p))) (sym (xor-false y))

linear : (p xs ys : List Bool) (k : ℕ) → length xs ≡ length p → length ys ≡ length p → rest_after p (plus xs ys) (zeros k) ≡ plus (rest_after p xs (zeros k)) (rest_after p ys (zeros k))
unfolding rest_after
linear p xs ys zero long long' = refl
linear p xs ys (suc k) long long' =
    ap (λ (l : List Bool). rest_after p l (zeros k)) (linear_step p xs ys long long')
    ∙ linear p (rest_with p xs false) (rest_with p ys false) k (length-rest_with p xs false long) (length-rest_with p ys false long')

-- leading zeros go one by one
moved_up : (p xs : List Bool) (k : ℕ) → length xs + k ≡ length p → rest_after p (zeros k ++ xs) (zeros k) ≡ xs ++ zeros k
unfolding rest_after rest_with
moved_up p xs zero long = sym (append-nil xs)
moved_up p xs (suc k) long =
    let all : List Bool = (zeros k ++ xs) ++ false ∷ [] in
    let size : length all ≡ length p = omega (arith, length-append (zeros k ++ xs) (false ∷ []), length-append (zeros k) xs, length-zeros k) in
    let same : plus all (zeros (length p)) ≡ zeros k ++ (xs ++ false ∷ []) =
    plus_comm all (zeros (length p)) ∙ zeros_plus (length p) all (omega arith) ∙ append_assoc (zeros k) xs (false ∷ []) in
    ap (λ (l : List Bool). rest_after p l (zeros k)) same
    ∙ moved_up p (xs ++ false ∷ []) k (omega (arith, length-append xs (false ∷ [])))
    ∙ append_assoc xs (false ∷ []) (zeros k)

-- ---- a whole byte

left_of_run : (polynomial start : ℕ) (bytes : List ℕ)
    → IsRemainder (plus (shifted (message bytes) 32) (shifted (bits 32 start) (length (message bytes)))) (true ∷ bits 32 polynomial) (rest_after (bits 32 polynomial) (bits 32 start) (message bytes))
unfolding dividend
left_of_run polynomial start bytes =
    let p : List Bool = bits 32 polynomial in
    let s : List Bool = bits 32 start in
    let m : List Bool = message bytes in
    let long : length p ≡ 32 = length-bits 32 polynomial in
    let same : length s ≡ length p = length-bits 32 start ∙ sym long in
    let whole : IsRemainder (plus (shifted m (length p)) (shifted s (length m))) (true ∷ p) (rest_after p s m) = remainder_of_division p s m (omega arith) same in
    subst (λ (n : ℕ). IsRemainder (plus (shifted m n) (shifted s (length m))) (true ∷ p) (rest_after p s m)) long whole

pub leaves_run : (polynomial start : ℕ) (bytes : List ℕ) (rest : ℕ) → bits 32 rest ≡ rest_after (bits 32 polynomial) (bits 32 start) (message bytes) → LeavesRemainder polynomial start bytes rest
leaves_run polynomial start bytes rest is =
    subst (λ (r : List Bool). IsRemainder (plus (shifted (message bytes) 32) (shifted (bits 32 start) (length (message bytes)))) (true ∷ bits 32 polynomial) r) (sym is) (left_of_run polynomial start bytes)

-- what is left is one number
pub run_leaves : (polynomial start : ℕ) (bytes : List ℕ) (rest : ℕ) → LeavesRemainder polynomial start bytes rest → bits 32 rest ≡ rest_after (bits 32 polynomial) (bits 32 start) (message bytes)
run_leaves polynomial start bytes rest leaves =
    let p : List Bool = bits 32 polynomial in
    let s : List Bool = bits 32 start in
    let m : List Bool = message bytes in
    let long : length p ≡ 32 = length-bits 32 polynomial in
    let same : length s ≡ length p = length-bits 32 start ∙ sym long in
    one_remainder (plus (shifted m 32) (shifted s (length m))) p (bits 32 rest) (rest_after p s m) leaves (left_of_run polynomial start bytes)

-- a byte is the low bits of what was left and of the byte, by a word of the table, and the high bits one byte on
byte_run : (p lo hi m : List Bool) → length p ≡ 32 → length lo ≡ 8 → length hi ≡ 24 → length m ≡ 8
    → rest_after p (lo ++ hi) m ≡ plus (rest_after p (plus lo m ++ zeros 24) (zeros 8)) (hi ++ zeros 8)
byte_run p lo hi m p-long lo-long hi-long m-long =
    let w : List Bool = plus lo m in
    let w-long : length w ≡ 8 = length-plus lo m (lo-long ∙ sym m-long) ∙ lo-long in
    let all : length (lo ++ hi) ≡ 32 = omega (arith, length-append lo hi) in
    let low : plus (lo ++ hi) m ≡ w ++ hi = ap (plus (lo ++ hi)) (sym (append-nil m)) ∙ plus-append lo hi m [] (lo-long ∙ sym m-long) ∙ ap (λ (l : List Bool). w ++ l) (plus-nil hi) in
    let a : List Bool = w ++ zeros 24 in
    let b : List Bool = zeros 8 ++ hi in
    let parts : w ++ hi ≡ plus a b =
    sym (plus-append w (zeros 24) (zeros 8) hi (w-long ∙ sym (length-zeros 8))
    ∙ ap (λ (l : List Bool). l ++ plus (zeros 24) hi) (plus_comm w (zeros 8) ∙ zeros_plus 8 w (omega arith))
    ∙ ap (λ (l : List Bool). w ++ l) (zeros_plus 24 hi (omega arith))) in
    let a-long : length a ≡ length p = omega (arith, length-append w (zeros 24), length-zeros 24) in
    let b-long : length b ≡ length p = omega (arith, length-append (zeros 8) hi, length-zeros 8) in
    absorbed p (lo ++ hi) m (omega arith) (all ∙ sym p-long)
    ∙ ap (λ (l : List Bool). rest_after p l (zeros (length m))) (low ∙ parts)
    ∙ ap (λ (k : ℕ). rest_after p (plus a b) (zeros k)) m-long
    ∙ linear p a b 8 a-long b-long
    ∙ ap (plus (rest_after p a (zeros 8))) (moved_up p hi 8 (omega arith))

byte_alone : (polynomial v : ℕ) → rest_after (bits 32 polynomial) (bits 32 0) (message (v ∷ [])) ≡ rest_after (bits 32 polynomial) (bits 8 v ++ zeros 24) (zeros 8)
byte_alone polynomial v =
    let p : List Bool = bits 32 polynomial in
    let w : List Bool = bits 8 v in
    let w-long : length w ≡ 8 = length-bits 8 v in
    let one : message (v ∷ []) ≡ w = append-nil w in
    let empty : bits 32 0 ≡ zeros 32 = bits-zero 32 in
    let added : plus (zeros 32) w ≡ w ++ zeros 24 =
    ap (plus (zeros 32)) (sym (append-nil w)) ∙ plus-append (zeros 8) (zeros 24) w [] (length-zeros 8 ∙ sym w-long)
    ∙ ap (λ (l : List Bool). l ++ plus (zeros 24) []) (zeros_plus 8 w (omega arith)) ∙ ap (λ (l : List Bool). w ++ l) (plus-nil (zeros 24)) in
    ap (rest_after p (bits 32 0)) one
    ∙ ap (λ (s : List Bool). rest_after p s w) empty
    ∙ absorbed p (zeros 32) w (omega (arith, length-zeros 32)) (length-zeros 32 ∙ sym (length-bits 32 polynomial))
    ∙ ap (λ (s : List Bool). rest_after p s (zeros (length w))) added
    ∙ ap (λ (k : ℕ). rest_after p (w ++ zeros 24) (zeros k)) w-long

-- a word of the table is what a byte alone leaves
word_run : (polynomial v word : ℕ) → LeavesRemainder polynomial 0 (v ∷ []) word → bits 32 word ≡ rest_after (bits 32 polynomial) (bits 8 v ++ zeros 24) (zeros 8)
word_run polynomial v word leaves = run_leaves polynomial 0 (v ∷ []) word leaves ∙ byte_alone polynomial v

pub one_byte : (polynomial rest byte v word : ℕ) → rest < 2 ^ 32 → v ≡ bit_and (bit_xor rest byte) 255 → LeavesRemainder polynomial 0 (v ∷ []) word
    → bits 32 (bit_xor word (rest / 256)) ≡ rest_after (bits 32 polynomial) (bits 32 rest) (bits 8 byte)
one_byte polynomial rest byte v word small v-is leaves =
    let p : List Bool = bits 32 polynomial in
    let lo : List Bool = bits 8 rest in
    let hi : List Bool = bits 24 (rest / 256) in
    let m : List Bool = bits 8 byte in
    let whole : bits 32 rest ≡ lo ++ hi = bits-append 8 24 rest 32 refl in
    let y : ℕ = bit_xor rest byte in
    let y-is : y ≡ 2 ^ 8 * (y / 256) + v = omega (arith, and_mask y 8) in
    let low : bits 8 v ≡ plus lo m = sym (ap (bits 8) y-is ∙ bits_low 8 (y / 256) v) ∙ bits-xor 8 rest byte in
    let high : bits 32 (rest / 256) ≡ hi ++ zeros 8 = bits_past 24 8 (rest / 256) 32 refl (omega arith) in
    bits-xor 32 word (rest / 256)
    ∙ ap (plus (bits 32 word)) high
    ∙ ap (λ (l : List Bool). plus l (hi ++ zeros 8)) (word_run polynomial v word leaves ∙ ap (λ (l : List Bool). rest_after p (l ++ zeros 24) (zeros 8)) low)
    ∙ sym (byte_run p lo hi m (length-bits 32 polynomial) (length-bits 8 rest) (length-bits 24 (rest / 256)) (length-bits 8 byte))
    ∙ ap (λ (l : List Bool). rest_after p l m) (sym whole)

-- one byte more of a message
pub byte_more : (polynomial start : ℕ) (bytes table : List ℕ) (i rest word byte : ℕ) → i < length bytes → rest < 2 ^ 32 → IsTable polynomial table
    → byte ≡ get_or bytes i 0 → word ≡ get_or table (bit_and (bit_xor rest byte) 255) 0
    → bits 32 rest ≡ rest_after (bits 32 polynomial) (bits 32 start) (message (take i bytes))
    → bits 32 (bit_xor word (rest / 256)) ≡ rest_after (bits 32 polynomial) (bits 32 start) (message (take (i + 1) bytes))
byte_more polynomial start bytes table i rest word byte lt small sound byte-is word-is so_far =
    let p : List Bool = bits 32 polynomial in
    let s : List Bool = bits 32 start in
    let v : ℕ = bit_and (bit_xor rest byte) 255 in
    let leaves : LeavesRemainder polynomial 0 (v ∷ []) word = subst (λ (w : ℕ). LeavesRemainder polynomial 0 (v ∷ []) w) (sym word-is) (sound v (omega (arith, and_mask (bit_xor rest byte) 8))) in
    let more : message (take (i + 1) bytes) ≡ message (take i bytes) ++ bits 8 byte =
    ap message (take_more bytes i 0 lt) ∙ flat_map-append (bits 8) (take i bytes) (get_or bytes i 0 ∷ [])
    ∙ ap (λ (l : List Bool). message (take i bytes) ++ l) (append-nil (bits 8 (get_or bytes i 0)) ∙ ap (bits 8) (sym byte-is)) in
    one_byte polynomial rest byte v word small refl leaves
    ∙ ap (λ (r : List Bool). rest_after p r (bits 8 byte)) so_far
    ∙ sym (rest_after-append p s (message (take i bytes)) (bits 8 byte))
    ∙ ap (rest_after p s) (sym more)

-- ---- the table

half : ℕ → ℕ → ℕ
half p x = bit_xor (x / 2) (if nat_eq (x % 2) 1 then p else 0)

scaled-bits : (c : Bool) (n p : ℕ) → scaled c (bits n p) ≡ bits n (if c then p else 0)
scaled-bits true n p = refl
scaled-bits false n p = ap zeros (length-bits n p) ∙ sym (bits-zero n)

half_step : (n p x : ℕ) → x < 2 ^ suc n → bits (suc n) (half p x) ≡ rest_with (bits (suc n) p) (bits (suc n) x) false
unfolding half rest_with
half_step n p x small =
    let odd : Bool = nat_eq (x % 2) 1 in
    let first : bits (suc n) x ≡ odd ∷ bits n (x / 2) = bits-suc n x in
    let more : bits (suc n) (x / 2) ≡ bits n (x / 2) ++ false ∷ [] = bits_past n 1 (x / 2) (suc n) (omega arith) (omega (arith, pow-suc 2 n)) in
    bits-xor (suc n) (x / 2) (if odd then p else 0)
    ∙ ap (λ (l : List Bool). plus l (bits (suc n) (if odd then p else 0))) more
    ∙ ap (plus (bits n (x / 2) ++ false ∷ [])) (sym (ap (λ (c : Bool). scaled c (bits (suc n) p)) (xor-false odd) ∙ scaled-bits odd (suc n) p))
    ∙ ap (λ (l : List Bool). rest_with (bits (suc n) p) l false) (sym first)

half_small : (p x : ℕ) → p < 2 ^ 32 → x < 2 ^ 32 → half p x < 2 ^ 32
unfolding half
half_small p x p-small small = xor_lt 32 (x / 2) _ (omega arith) (elim (nat_eq (x % 2) 1) as (λ c. (if c then p else 0) < 2 ^ 32) [ true ↦ p-small | false ↦ omega arith ])

halves : ℕ → ℕ → ℕ → ℕ
halves p zero x = x
halves p (suc k) x = halves p k (half p x)

halves_run : (p k x : ℕ) → p < 2 ^ 32 → x < 2 ^ 32 → bits 32 (halves p k x) ≡ rest_after (bits 32 p) (bits 32 x) (zeros k)
unfolding halves rest_after
halves_run p zero x p-small small = refl
halves_run p (suc k) x p-small small =
    halves_run p k (half p x) p-small (half_small p x p-small small) ∙ ap (λ (l : List Bool). rest_after (bits 32 p) l (zeros k)) (half_step 31 p x small)

word_leaves : (p v word : ℕ) → p < 2 ^ 32 → v < 256 → word ≡ halves p 8 v → LeavesRemainder p 0 (v ∷ []) word
word_leaves p v word p-small small is =
    let w : List Bool = bits 8 v in
    let wide : bits 32 v ≡ w ++ zeros 24 = bits_past 8 24 v 32 refl small in
    leaves_run p 0 (v ∷ []) word
    (ap (bits 32) is ∙ halves_run p 8 v p-small (omega arith) ∙ ap (λ (l : List Bool). rest_after (bits 32 p) l (zeros 8)) wide ∙ sym (byte_alone p v))

-- a fact of each number below n, by computation
upto : (ℕ → Bool) → ℕ → Bool
upto test zero = true
upto test (suc n) = test n && upto test n

both : (a b : Bool) → (a && b) ≡ true → (a ≡ true) × (b ≡ true)
both true b h = (refl, h)
both false b h = cc

upto_sound : (test : ℕ → Bool) (n : ℕ) → upto test n ≡ true → (i : ℕ) → i < n → test i ≡ true
unfolding upto
upto_sound test zero h i lt = absurd (omega arith)
upto_sound test (suc n) h i lt =
    let parts = both (test n) (upto test n) h in
    elim (cases_order i n) [
      | inl same ↦ subst (λ (k : ℕ). test k ≡ true) (sym same) parts.0
      | inr (inl less) ↦ upto_sound test n parts.1 i less
      | inr (inr more) ↦ absurd (omega arith)
    ]

table_sound : (p : ℕ) (table : List ℕ) → p < 2 ^ 32 → upto (λ v. nat_eq (get_or table v 0) (halves p 8 v)) 256 ≡ true → IsTable p table
table_sound p table p-small tested v small =
    word_leaves p v _ p-small small (eqb-true _ _ (upto_sound (λ v. nat_eq (get_or table v 0) (halves p 8 v)) 256 tested v small))

pub crc32_table : IsTable ieee_802_3 CRC32
unfolding upto halves half
crc32_table = table_sound ieee_802_3 CRC32 (lit< tt) refl

pub crc32c_table : IsTable castagnoli CRC32C
unfolding upto halves half
crc32c_table = table_sound castagnoli CRC32C (lit< tt) refl

-- ---- one checksum

undone : (a b : ℕ) → bit_xor (bit_xor a b) b ≡ a
undone a b = bit_xor_assoc a b b ∙ ap (bit_xor a) (bit_xor_self b) ∙ xor_zero_r a

pub as_checksum : (polynomial start inversion : ℕ) (bytes : List ℕ) (rest : ℕ) → rest < 2 ^ 32 → inversion < 2 ^ 32
    → LeavesRemainder polynomial start bytes rest → IsChecksum polynomial start inversion bytes (bit_xor rest inversion)
as_checksum polynomial start inversion bytes rest fits small leaves = record {
  fits = xor_lt 32 rest inversion fits small;
  left = subst (λ (r : ℕ). LeavesRemainder polynomial start bytes r) (sym (undone rest inversion)) leaves;
}

pub one_checksum : (polynomial start inversion : ℕ) (bytes : List ℕ) (a b : ℕ) → inversion < 2 ^ 32
    → IsChecksum polynomial start inversion bytes a → IsChecksum polynomial start inversion bytes b → a ≡ b
one_checksum polynomial start inversion bytes a b small is is' =
    let same : bit_xor a inversion ≡ bit_xor b inversion =
    same_bits 32 _ _ (xor_lt 32 a inversion is.fits small) (xor_lt 32 b inversion is'.fits small)
    (run_leaves polynomial start bytes _ is.left ∙ sym (run_leaves polynomial start bytes _ is'.left)) in
    sym (undone a inversion) ∙ ap (λ (x : ℕ). bit_xor x inversion) same ∙ undone b inversion

pub one_crc32 : (bytes : List ℕ) (a b : ℕ) → IsCrc32 bytes a → IsCrc32 bytes b → a ≡ b
one_crc32 bytes a b is is' = one_checksum ieee_802_3 0xFFFFFFFF 0xFFFFFFFF bytes a b (lit< tt) is is'

-- ---- the checksums as functions

number_bits : (bs : List Bool) → bits (length bs) (number_of_bits bs) ≡ bs
unfolding bits number_of_bits
number_bits [] = refl
number_bits (true ∷ bs) =
    let odd : (1 + 2 * number_of_bits bs) % 2 ≡ 1 = omega arith in
    let half : (1 + 2 * number_of_bits bs) / 2 ≡ number_of_bits bs = omega arith in
    ap (λ (d : ℕ). nat_eq d 1 ∷ bits (length bs) ((1 + 2 * number_of_bits bs) / 2)) odd
    ∙ ap (λ (x : ℕ). true ∷ bits (length bs) x) half ∙ ap (λ (l : List Bool). true ∷ l) (number_bits bs)
number_bits (false ∷ bs) =
    let even : (0 + 2 * number_of_bits bs) % 2 ≡ 0 = omega arith in
    let half : (0 + 2 * number_of_bits bs) / 2 ≡ number_of_bits bs = omega arith in
    ap (λ (d : ℕ). nat_eq d 1 ∷ bits (length bs) ((0 + 2 * number_of_bits bs) / 2)) even
    ∙ ap (λ (x : ℕ). false ∷ bits (length bs) x) half ∙ ap (λ (l : List Bool). false ∷ l) (number_bits bs)

number_small : (bs : List Bool) → number_of_bits bs < 2 ^ length bs
unfolding number_of_bits
number_small [] = omega arith
number_small (true ∷ bs) = omega (arith, number_small bs, pow-suc 2 (length bs))
number_small (false ∷ bs) = omega (arith, number_small bs, pow-suc 2 (length bs))

number_back : (n x : ℕ) → x < 2 ^ n → number_of_bits (bits n x) ≡ x
number_back n x small =
    let long : length (bits n x) ≡ n = length-bits n x in
    let back : bits n (number_of_bits (bits n x)) ≡ bits n x = ap (λ (m : ℕ). bits m (number_of_bits (bits n x))) (sym long) ∙ number_bits (bits n x) in
    same_bits n _ x (subst (λ (m : ℕ). number_of_bits (bits n x) < 2 ^ m) long (number_small (bits n x))) small back

length-left : (polynomial start : ℕ) (bytes : List ℕ) → length (rest_after (bits 32 polynomial) (bits 32 start) (message bytes)) ≡ 32
length-left polynomial start bytes =
    length-rest_after (bits 32 polynomial) (bits 32 start) (message bytes) (length-bits 32 start ∙ sym (length-bits 32 polynomial)) ∙ length-bits 32 polynomial

pub left_small : (polynomial start : ℕ) (bytes : List ℕ) → left_of polynomial start bytes < 2 ^ 32
unfolding left_of
left_small polynomial start bytes =
    subst (λ (m : ℕ). left_of polynomial start bytes < 2 ^ m) (length-left polynomial start bytes) (number_small (rest_after (bits 32 polynomial) (bits 32 start) (message bytes)))

left_bits : (polynomial start : ℕ) (bytes : List ℕ) → bits 32 (left_of polynomial start bytes) ≡ rest_after (bits 32 polynomial) (bits 32 start) (message bytes)
unfolding left_of
left_bits polynomial start bytes =
    ap (λ (m : ℕ). bits m (left_of polynomial start bytes)) (sym (length-left polynomial start bytes)) ∙ number_bits (rest_after (bits 32 polynomial) (bits 32 start) (message bytes))

pub left_is : (polynomial start : ℕ) (bytes : List ℕ) (rest : ℕ) → rest < 2 ^ 32 → bits 32 rest ≡ rest_after (bits 32 polynomial) (bits 32 start) (message bytes)
    → rest ≡ left_of polynomial start bytes
unfolding left_of
left_is polynomial start bytes rest small is = sym (number_back 32 rest small) ∙ ap number_of_bits is

-- a message in two parts
pub left_more : (polynomial start : ℕ) (xs ys : List ℕ) → left_of polynomial start (xs ++ ys) ≡ left_of polynomial (left_of polynomial start xs) ys
unfolding left_of
left_more polynomial start xs ys =
    let p : List Bool = bits 32 polynomial in
    ap (λ (m : List Bool). number_of_bits (rest_after p (bits 32 start) m)) (flat_map-append (bits 8) xs ys)
    ∙ ap number_of_bits (rest_after-append p (bits 32 start) (message xs) (message ys))
    ∙ ap (λ (s : List Bool). number_of_bits (rest_after p s (message ys))) (sym (left_bits polynomial start xs))

pub checksum_is : (polynomial start inversion : ℕ) (bytes : List ℕ) → inversion < 2 ^ 32
    → IsChecksum polynomial start inversion bytes (checksum_of polynomial start inversion bytes)
unfolding checksum_of
checksum_is polynomial start inversion bytes small =
    as_checksum polynomial start inversion bytes (left_of polynomial start bytes) (left_small polynomial start bytes) small
    (leaves_run polynomial start bytes _ (left_bits polynomial start bytes))

pub all_checksums : OneChecksum
all_checksums polynomial start inversion bytes small = (
  checksum_is polynomial start inversion bytes small,
  λ other is. one_checksum polynomial start inversion bytes other _ small is (checksum_is polynomial start inversion bytes small),
)

-- what is left, with the inversion added
pub inverted : (polynomial start inversion : ℕ) (bytes : List ℕ) (rest : ℕ) → rest ≡ left_of polynomial start bytes
    → bit_xor rest inversion ≡ checksum_of polynomial start inversion bytes
unfolding checksum_of
inverted polynomial start inversion bytes rest is = ap (λ (r : ℕ). bit_xor r inversion) is

-- nothing is added
pub not_inverted : (polynomial start : ℕ) (bytes : List ℕ) (rest : ℕ) → rest ≡ left_of polynomial start bytes → rest ≡ checksum_of polynomial start 0 bytes
unfolding checksum_of
not_inverted polynomial start bytes rest is = is ∙ sym (xor_zero_r (left_of polynomial start bytes))
