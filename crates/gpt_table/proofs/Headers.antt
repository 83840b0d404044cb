-- The bytes of a header.
use Rattle.std.proofs.Common.{◌≡◌, ℕ, ◌+◌, Bool, List, ◌++◌, length, take, drop, replicate, refl, sym, ap, ◌∙◌, append_assoc, append-nil, arith, length-take, length-append}
use Rattle.std.proofs.lemmas.List.{take_at, drop_all}
use Rattle.disk_base.specs.Image.{bytes_at, with_bytes}
use Rattle.disk_base.proofs.Images.{length-bytes_at}
use Rattle.gpt_table.specs.Header.{summed, start_bytes, rest_bytes, header_bytes}

two_parts : (xs ys : List ℕ) → length xs ≡ 16 → length ys ≡ 72 → with_bytes (with_bytes (replicate 92 0) 0 xs) 20 ys ≡ xs ++ replicate 4 0 ++ ys
two_parts xs ys xs-long ys-long =
    let zero : List ℕ = replicate 92 0 in
    let first : with_bytes zero 0 xs ≡ (xs ++ replicate 4 0) ++ replicate 72 0 =
    ap (λ (k : ℕ). xs ++ drop (0 + k) zero) xs-long ∙ sym (append_assoc xs (replicate 4 0) (replicate 72 0)) in
    let front : length (xs ++ replicate 4 0) ≡ 20 = omega (arith, length-append xs (replicate 4 0)) in
    let whole : length ((xs ++ replicate 4 0) ++ replicate 72 0) ≡ 92 = omega (arith, length-append (xs ++ replicate 4 0) (replicate 72 0)) in
    ap (λ (l : List ℕ). with_bytes l 20 ys) first
    ∙ ap (λ (l : List ℕ). l ++ ys ++ drop (20 + length ys) ((xs ++ replicate 4 0) ++ replicate 72 0)) (take_at (xs ++ replicate 4 0) (replicate 72 0) 20 front)
    ∙ ap (λ (l : List ℕ). ((xs ++ replicate 4 0) ++ ys) ++ l) (drop_all (20 + length ys) ((xs ++ replicate 4 0) ++ replicate 72 0) (omega arith))
    ∙ append-nil ((xs ++ replicate 4 0) ++ ys)

pub summed_put : (sector a b : List ℕ) → length sector ≡ 512 → a ≡ with_bytes (replicate 92 0) 0 (take 16 sector) → b ≡ with_bytes a 20 (bytes_at sector 20 72) → b ≡ summed sector
unfolding summed
summed_put sector a b long a-is b-is =
    b-is ∙ ap (λ (l : List ℕ). with_bytes l 20 (bytes_at sector 20 72)) a-is
    ∙ two_parts (take 16 sector) (bytes_at sector 20 72) (omega (arith, length-take 16 sector)) (length-bytes_at sector 20 72 (omega arith))

pub length-start_bytes : (sectors : ℕ) (backup : Bool) (checksum : ℕ) → length (start_bytes sectors backup checksum) ≡ 40
unfolding start_bytes
length-start_bytes sectors backup checksum = refl

pub length-rest_bytes : (disk : List ℕ) (sectors : ℕ) (backup : Bool) (array : ℕ) → length (rest_bytes disk sectors backup array) ≡ 52
unfolding rest_bytes
length-rest_bytes disk sectors backup array = refl

pub length-header_bytes : (disk : List ℕ) (sectors : ℕ) (backup : Bool) (array checksum : ℕ) → length (header_bytes disk sectors backup array checksum) ≡ 92
length-header_bytes disk sectors backup array checksum =
    length-append (start_bytes sectors backup checksum) (rest_bytes disk sectors backup array)
    ∙ omega (arith, length-start_bytes sectors backup checksum, length-rest_bytes disk sectors backup array)
