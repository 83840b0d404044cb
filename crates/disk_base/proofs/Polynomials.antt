-- Division of polynomials over two elements: bit by bit from the highest power on, with one remainder alone.
use Rattle.std.proofs.Common.{◌≡◌, ℕ, zero, suc, ◌+◌, ◌≤◌, Bool, true, false, List, [], ◌∷◌, ◌++◌, length, refl, sym, ap, ◌∙◌, append_assoc, append-nil, arith, length-append}
use Rattle.std.proofs.lemmas.List.{length-replicate}
use Rattle.disk_base.specs.Checksum.{xor, plus, zeros, shifted, scaled, times, IsRemainder, rest_with, rest_after}

-- ---- coefficients

pub xor_comm : (a b : Bool) → xor a b ≡ xor b a
xor_comm true true = refl
xor_comm true false = refl
xor_comm false true = refl
xor_comm false false = refl

pub xor_assoc : (a b c : Bool) → xor (xor a b) c ≡ xor a (xor b c)
xor_assoc true true true = refl
xor_assoc true true false = refl
xor_assoc true false true = refl
xor_assoc true false false = refl
xor_assoc false true true = refl
xor_assoc false true false = refl
xor_assoc false false true = refl
xor_assoc false false false = refl

pub xor_self : (a : Bool) → xor a a ≡ false
xor_self true = refl
xor_self false = refl

pub xor-false : (a : Bool) → xor a false ≡ a
xor-false true = refl
xor-false false = refl

-- ---- sums

pub plus-nil : (xs : List Bool) → plus xs [] ≡ xs
unfolding plus
plus-nil [] = refl
plus-nil (x ∷ xs) = refl

pub plus-cons : (x y : Bool) (xs ys : List Bool) → plus (x ∷ xs) (y ∷ ys) ≡ xor x y ∷ plus xs ys
unfolding plus
plus-cons x y xs ys = refl

pub plus_comm : (xs ys : List Bool) → plus xs ys ≡ plus ys xs
unfolding plus
plus_comm [] [] = refl
plus_comm [] (y ∷ ys) = refl
plus_comm (x ∷ xs) [] = refl
plus_comm (x ∷ xs) (y ∷ ys) = rw (xor_comm x y, plus_comm xs ys) refl

pub plus_assoc : (xs ys zs : List Bool) → plus (plus xs ys) zs ≡ plus xs (plus ys zs)
unfolding plus
plus_assoc [] ys zs = refl
plus_assoc (x ∷ xs) [] [] = refl
plus_assoc (x ∷ xs) [] (z ∷ zs) = refl
plus_assoc (x ∷ xs) (y ∷ ys) [] = refl
plus_assoc (x ∷ xs) (y ∷ ys) (z ∷ zs) = rw (xor_assoc x y z, plus_assoc xs ys zs) refl

pub plus_self : (xs : List Bool) → plus xs xs ≡ zeros (length xs)
unfolding plus
plus_self [] = refl
plus_self (x ∷ xs) = rw (xor_self x, plus_self xs) refl

pub zeros_plus : (n : ℕ) (xs : List Bool) → n ≤ length xs → plus (zeros n) xs ≡ xs
unfolding plus
zeros_plus zero xs le = refl
zeros_plus (suc n) [] le = absurd (omega arith)
zeros_plus (suc n) (x ∷ xs) le = rw (zeros_plus n xs (omega arith)) refl

pub length-plus : (xs ys : List Bool) → length xs ≡ length ys → length (plus xs ys) ≡ length xs
unfolding plus
length-plus [] [] same = refl
length-plus [] (y ∷ ys) same = absurd (omega arith)
length-plus (x ∷ xs) [] same = refl
length-plus (x ∷ xs) (y ∷ ys) same = ap suc (length-plus xs ys (omega arith))

pub plus-append : (xs us ys vs : List Bool) → length xs ≡ length ys → plus (xs ++ us) (ys ++ vs) ≡ plus xs ys ++ plus us vs
unfolding plus
plus-append [] us [] vs same = refl
plus-append [] us (y ∷ ys) vs same = absurd (omega arith)
plus-append (x ∷ xs) us [] vs same = absurd (omega arith)
plus-append (x ∷ xs) us (y ∷ ys) vs same = ap (λ (l : List Bool). xor x y ∷ l) (plus-append xs us ys vs (omega arith))

-- what is added twice is gone
pub gone : (xs ys : List Bool) → length xs ≤ length ys → plus xs (plus xs ys) ≡ ys
gone xs ys le = sym (plus_assoc xs xs ys) ∙ ap (λ l. plus l ys) (plus_self xs) ∙ zeros_plus (length xs) ys le

pub cancel : (xs ys zs : List Bool) → length xs ≤ length ys → length xs ≤ length zs → plus xs ys ≡ plus xs zs → ys ≡ zs
cancel xs ys zs le le' same = sym (gone xs ys le) ∙ ap (plus xs) same ∙ gone xs zs le'

-- two pairs are added in either order
pub plus_swap : (a b c d : List Bool) → plus (plus a b) (plus c d) ≡ plus (plus a c) (plus b d)
plus_swap a b c d =
    plus_assoc a b (plus c d) ∙ ap (plus a) (sym (plus_assoc b c d) ∙ ap (λ l. plus l d) (plus_comm b c) ∙ plus_assoc c b d) ∙ sym (plus_assoc a c (plus b d))

pub length-zeros : (n : ℕ) → length (zeros n) ≡ n
length-zeros n = length-replicate n false

pub zeros_zeros : (n : ℕ) → plus (zeros n) (zeros n) ≡ zeros n
zeros_zeros n = zeros_plus n (zeros n) (omega (arith, length-zeros n))

-- ---- one rest_with of a division

length-scaled : (c : Bool) (xs : List Bool) → length (scaled c xs) ≡ length xs
length-scaled true xs = refl
length-scaled false xs = length-zeros (length xs)

scaled-cons : (c : Bool) (xs : List Bool) → scaled c (true ∷ xs) ≡ c ∷ scaled c xs
scaled-cons true xs = refl
scaled-cons false xs = refl

pub length-rest_with : (p s : List Bool) (b : Bool) → length s ≡ length p → length (rest_with p s b) ≡ length p
unfolding rest_with
length-rest_with p [] b same = same
length-rest_with p (s ∷ ss) b same =
    let long : length (ss ++ false ∷ []) ≡ length p = omega (arith, length-append ss (false ∷ [])) in
    length-plus _ _ (long ∙ sym (length-scaled (xor s b) p)) ∙ long

pub length-rest_after : (p s m : List Bool) → length s ≡ length p → length (rest_after p s m) ≡ length p
unfolding rest_after
length-rest_after p s [] same = same
length-rest_after p s (b ∷ m) same = length-rest_after p (rest_with p s b) m (length-rest_with p s b same)

pub rest_after-append : (p s m n : List Bool) → rest_after p s (m ++ n) ≡ rest_after p (rest_after p s m) n
unfolding rest_after
rest_after-append p s [] n = refl
rest_after-append p s (b ∷ m) n = rest_after-append p (rest_with p s b) m n

pub length-times : (q g : List Bool) (x : Bool) → length (times q (x ∷ g)) ≡ length q + length g
unfolding times
length-times [] g x = length-zeros (length g) ∙ omega arith
length-times (c ∷ q) g x =
    let ih : length (times q (x ∷ g)) ≡ length q + length g = length-times q g x in
    let front : length (scaled c (x ∷ g) ++ zeros (length q)) ≡ suc (length q + length g) =
    omega (arith, length-append (scaled c (x ∷ g)) (zeros (length q)), length-scaled c (x ∷ g), length-zeros (length q)) in
    length-plus _ _ (omega arith) ∙ omega arith

-- ---- a division to the end

-- what was divided: the message times a power, and the start in front of it
unfoldable pub dividend : List Bool → List Bool → ℕ → List Bool
dividend s m n = plus (shifted m n) (shifted s (length m))

pub record Divided (p s m : List Bool) : Type 0 where
  pub quotient : List Bool
  pub width : length quotient ≡ length m
  pub divides : dividend s m (length p) ≡ plus (times quotient (true ∷ p)) (zeros (length quotient) ++ rest_after p s m)

shuffle : (x m s : List Bool) → length x ≤ length (plus m s) → plus x (plus m (plus s x)) ≡ plus m s
shuffle x m s le =
    ap (plus x) (sym (plus_assoc m s x) ∙ plus_comm (plus m s) x) ∙ gone x (plus m s) le

-- one rest_with more, in front of a division to the end
divided_more : (p s m q r : List Bool) (c b : Bool) → length s + 1 ≡ length p → length q ≡ length m
    → dividend (plus (s ++ false ∷ []) (scaled c p)) m (length p) ≡ plus (times q (true ∷ p)) (zeros (length q) ++ r)
    → plus (m ++ zeros (length p)) (s ++ zeros (suc (length m))) ≡ plus (plus (scaled c p ++ zeros (length q)) (times q (true ∷ p))) (zeros (length q) ++ r)
unfolding dividend
divided_more p s m q r c b long same ih =
    let x : List Bool = scaled c p ++ zeros (length m) in
    let low : List Bool = m ++ zeros (length p) in
    let high : List Bool = (s ++ false ∷ []) ++ zeros (length m) in
    let s-long : length (s ++ false ∷ []) ≡ length (scaled c p) = omega (arith, length-append s (false ∷ []), length-scaled c p) in
    let high-is : s ++ zeros (suc (length m)) ≡ high = sym (append_assoc s (false ∷ []) (zeros (length m))) in
    let front : plus (s ++ false ∷ []) (scaled c p) ++ zeros (length m) ≡ plus high x =
    ap (λ (l : List Bool). plus (s ++ false ∷ []) (scaled c p) ++ l) (sym (zeros_zeros (length m))) ∙ sym (plus-append (s ++ false ∷ []) (zeros (length m)) (scaled c p) (zeros (length m)) s-long) in
    let low-long : length low ≡ length m + length p = omega (arith, length-append m (zeros (length p)), length-zeros (length p)) in
    let high-long : length high ≡ length m + length p = omega (arith, length-append (s ++ false ∷ []) (zeros (length m)), length-append s (false ∷ []), length-zeros (length m)) in
    let x-long : length x ≡ length m + length p = omega (arith, length-append (scaled c p) (zeros (length m)), length-scaled c p, length-zeros (length m)) in
    let sum-long : length (plus low high) ≡ length low = length-plus low high (omega arith) in
    let rest : plus low (plus high x) ≡ plus (times q (true ∷ p)) (zeros (length q) ++ r) = ap (plus low) (sym front) ∙ ih in
    ap (plus low) high-is
    ∙ sym (shuffle x low high (omega arith))
    ∙ ap (plus x) rest
    ∙ sym (plus_assoc x (times q (true ∷ p)) (zeros (length q) ++ r))
    ∙ ap (λ (k : ℕ). plus (plus (scaled c p ++ zeros k) (times q (true ∷ p))) (zeros (length q) ++ r)) (sym same)

head_and_tail : (p s m q r : List Bool) (x b : Bool)
    → plus (m ++ zeros (length p)) (s ++ zeros (suc (length m))) ≡ plus (plus (scaled (xor x b) p ++ zeros (length q)) (times q (true ∷ p))) (zeros (length q) ++ r)
    → dividend (x ∷ s) (b ∷ m) (length p) ≡ plus (times (xor x b ∷ q) (true ∷ p)) (zeros (length (xor x b ∷ q)) ++ r)
unfolding dividend times plus
head_and_tail p s m q r x b tail =
    let first : xor b x ≡ xor (xor (xor x b) false) false = xor_comm b x ∙ sym (xor-false (xor x b)) ∙ sym (xor-false (xor (xor x b) false)) in
    rw (scaled-cons (xor x b) p) (ap (λ (h : Bool). h ∷ plus (m ++ zeros (length p)) (s ++ zeros (suc (length m)))) first ∙ ap (λ (l : List Bool). xor (xor (xor x b) false) false ∷ l) tail)

pub divided : (p s m : List Bool) → 1 ≤ length p → length s ≡ length p → Divided p s m
unfolding dividend rest_after rest_with times
divided p s [] some long = record {
  quotient = [];
  width = refl;
  divides = ap (plus (zeros (length p))) (append-nil s);
}
divided p [] (b ∷ m) some long = absurd (omega arith)
divided p (x ∷ s) (b ∷ m) some long =
    let c : Bool = xor x b in
    let ih = divided p (plus (s ++ false ∷ []) (scaled c p)) m some (length-rest_with p (x ∷ s) b long) in
    let tail = divided_more p s m ih.quotient (rest_after p (plus (s ++ false ∷ []) (scaled c p)) m) c b (omega arith) ih.width ih.divides in
    record {
      quotient = c ∷ ih.quotient;
      width = ap suc ih.width;
      divides = head_and_tail p s m ih.quotient (rest_after p (plus (s ++ false ∷ []) (scaled c p)) m) x b tail;
    }

-- ---- there is one remainder

same_heads : (x y : Bool) (xs ys : List Bool) → x ∷ xs ≡ y ∷ ys → x ≡ y
same_heads x y xs ys same = cc

same_tails : (x y : Bool) (xs ys : List Bool) → x ∷ xs ≡ y ∷ ys → xs ≡ ys
same_tails x y xs ys same = cc

-- the first coefficient, and those behind it, of a product and a remainder
product_first : (p q r : List Bool) (c : Bool)
    → plus (times (c ∷ q) (true ∷ p)) (zeros (length (c ∷ q)) ++ r) ≡ c ∷ plus (scaled c p ++ zeros (length q)) (plus (times q (true ∷ p)) (zeros (length q) ++ r))
unfolding times plus
product_first p q r c =
    rw (scaled-cons c p) (ap (λ (h : Bool). h ∷ plus (plus (scaled c p ++ zeros (length q)) (times q (true ∷ p))) (zeros (length q) ++ r)) (xor-false (xor c false) ∙ xor-false c)
    ∙ ap (λ (l : List Bool). c ∷ l) (plus_assoc (scaled c p ++ zeros (length q)) (times q (true ∷ p)) (zeros (length q) ++ r)))

length-product : (p q r : List Bool) → length r ≡ length p → length (plus (times q (true ∷ p)) (zeros (length q) ++ r)) ≡ length q + length p
length-product p q r long =
    let t : length (times q (true ∷ p)) ≡ length q + length p = length-times q p true in
    length-plus _ _ (omega (arith, length-append (zeros (length q)) r, length-zeros (length q))) ∙ t

one_rest : (p q q' r r' : List Bool) → length r ≡ length p → length r' ≡ length p → length q ≡ length q'
    → plus (times q (true ∷ p)) (zeros (length q) ++ r) ≡ plus (times q' (true ∷ p)) (zeros (length q') ++ r') → r ≡ r'
unfolding times
one_rest p [] [] r r' long long' wide same = cancel (zeros (length p)) r r' (omega (arith, length-zeros (length p))) (omega (arith, length-zeros (length p))) same
one_rest p [] (c ∷ q') r r' long long' wide same = absurd (omega arith)
one_rest p (c ∷ q) [] r r' long long' wide same = absurd (omega arith)
one_rest p (c ∷ q) (d ∷ q') r r' long long' wide same =
    let wide' : length q ≡ length q' = omega arith in
    let both = sym (product_first p q r c) ∙ same ∙ product_first p q' r' d in
    let first : c ≡ d = same_heads _ _ _ _ both in
    let left : List Bool = scaled d p ++ zeros (length q') in
    let rest = ap (λ (x : Bool). plus (scaled x p ++ zeros (length q)) (plus (times q (true ∷ p)) (zeros (length q) ++ r))) (sym first) ∙ same_tails _ _ _ _ both in
    let rest' = ap (λ (k : ℕ). plus (scaled d p ++ zeros k) (plus (times q (true ∷ p)) (zeros (length q) ++ r))) (sym wide') ∙ rest in
    let left-long : length left ≡ length q' + length p = omega (arith, length-append (scaled d p) (zeros (length q')), length-scaled d p, length-zeros (length q')) in
    one_rest p q q' r r' long long' wide'
    (cancel left _ _ (omega (arith, length-product p q r long)) (omega (arith, length-product p q' r' long')) rest')

pub one_remainder : (n p r r' : List Bool) → IsRemainder n (true ∷ p) r → IsRemainder n (true ∷ p) r' → r ≡ r'
one_remainder n p r r' is is' =
    one_rest p is.quotient is'.quotient r r' (omega (arith, is.smaller)) (omega (arith, is'.smaller)) (omega (arith, is.width, is'.width, is.smaller, is'.smaller))
    (sym is.divides ∙ is'.divides)

pub remainder_of_division : (p s m : List Bool) → 1 ≤ length p → length s ≡ length p → IsRemainder (dividend s m (length p)) (true ∷ p) (rest_after p s m)
unfolding dividend
remainder_of_division p s m some long =
    let d = divided p s m some long in
    let left : length (rest_after p s m) ≡ length p = length-rest_after p s m long in
    let low : length (m ++ zeros (length p)) ≡ length m + length p = omega (arith, length-append m (zeros (length p)), length-zeros (length p)) in
    let high : length (s ++ zeros (length m)) ≡ length m + length p = omega (arith, length-append s (zeros (length m)), length-zeros (length m)) in
    record {
      quotient = d.quotient;
      width = omega (arith, d.width, length-plus (m ++ zeros (length p)) (s ++ zeros (length m)) (omega arith));
      smaller = ap suc left;
      divides = d.divides;
    }
