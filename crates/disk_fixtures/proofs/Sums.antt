-- A checksum that is put into its place is that of the bytes which then stand there.
use Rattle.std.proofs.Common.{rules, ◌≡◌, ℕ, ◌+◌, ◌<◌, ◌≤◌, ◌^◌, List, length, replicate, refl, sym, ap, ◌∙◌, arith}
use Rattle.std.proofs.lemmas.List.{same_lists, places}
use Rattle.byteorder.specs.Endian.{little_bytes}
use Rattle.byteorder.specs.Numbers.{length-bytes_low_first}
use Rattle.disk_base.proofs.Fieldwork.{little_there}
use Rattle.disk_base.proofs.Images.{bytes_of_write}
use Rattle.disk_base.specs.Checksum.{crc32c_of, crc32c_without_of}
use Rattle.disk_base.specs.Image.{with_bytes}
use Rattle.disk_fixtures.specs.Sums.{IsSummed}

-- of two writes of one length to one place the second one stays
with_other : (image : List ℕ) (at n : ℕ) (xs ys : List ℕ) → length xs ≡ n → length ys ≡ n → at + n ≤ length image
    → with_bytes (with_bytes image at xs) at ys ≡ with_bytes image at ys
with_other image at n xs ys long other fits = same_lists _ _ (search (rules, places)) (λ k d h. grind (arith, places))

pub summed : (bytes : List ℕ) (at sum : ℕ) → at + 4 ≤ length bytes → sum < 256 ^ 4 → sum ≡ crc32c_without_of bytes at
    → IsSummed at (with_bytes bytes at (little_bytes 4 sum))
summed bytes at sum fits small is =
    let long : length (little_bytes 4 sum) ≡ 4 = length-bytes_low_first 0 4 sum in
    little_there 4 sum at (with_bytes bytes at (little_bytes 4 sum)) small (bytes_of_write bytes at 4 (little_bytes 4 sum) (sym long) fits)
    ∙ is ∙ ap (λ (l : List ℕ). crc32c_of l) (sym (with_other bytes at 4 (little_bytes 4 sum) (replicate 4 0) long refl fits))
