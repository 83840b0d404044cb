-- First pages whose sector 2 was written with another last page.
use Rattle.std.proofs.Common.{◌≡◌, ℕ, ◌+◌, ◌*◌, ◌^◌, ◌<◌, ◌≤◌, List, length, arith, refl, sym, ap, ◌∙◌, inl, inr, ◌⊎◌}
use Rattle.byteorder.specs.Endian.{little_bytes}
use Rattle.disk_base.specs.Fields.{little_at}
use Rattle.disk_base.specs.Image.{bytes_at, sector}
use Rattle.disk_base.proofs.Images.{length-bytes_at, range_in_range, bytes_before, bytes_behind, bytes_of_write}
use Rattle.disk_base.proofs.Fieldwork.{little_same, little_there}
use Rattle.swap_area.specs.declared.header.Swap.{Swap}
use Rattle.swap_area.specs.Header.{IsSwap, swap_in, with_last_page}
use Rattle.swap_area.specs.Laws.{HasLastPage, DiffersInLastPage}

in_sector : (page : List ℕ) (k at n from : ℕ) → at ≡ 512 * k + from → from + n ≤ 512 → 512 * k + 512 ≤ length page → bytes_at page at n ≡ bytes_at (sector page k) from n
in_sector page k at n from is inside fits = sym (range_in_range page (512 * k) 512 from n at is inside fits)

same_swap : (last bad bad' : ℕ) (uuid uuid' label label' : List ℕ) (swap : Swap)
    → swap ≡ record { last_page = last; bad = bad; uuid = uuid; label = label } → bad ≡ bad' → uuid ≡ uuid' → label ≡ label'
    → swap ≡ record { last_page = last; bad = bad'; uuid = uuid'; label = label' }
same_swap last bad bad' uuid uuid' label label' swap is p q r = rw (sym p, sym q, sym r) is

module _ (last : ℕ) (old new : List ℕ) (small : last < 2 ^ 32) (h : HasLastPage last old new) where
  lengthened : length new ≡ 4096
  lengthened = h.same_length ∙ h.long

  -- the last sector, and sector 2 outside its bytes 4 to 7, stay
  ending : bytes_at new 4086 10 ≡ bytes_at old 4086 10
  ending =
      in_sector new 7 4086 10 502 (omega arith) (omega arith) (omega (arith, lengthened))
      ∙ ap (λ (s : List ℕ). bytes_at s 502 10) (h.others 7 (omega arith))
      ∙ sym (in_sector old 7 4086 10 502 (omega arith) (omega arith) (omega (arith, h.long)))

  four : length (little_bytes 4 last) ≡ 4
  four = refl

  whole : length (sector old 2) ≡ 512
  whole = length-bytes_at old (512 * 2) 512 (omega (arith, h.long))

  stays : (from at n : ℕ) → at ≡ 1024 + from → from + n ≤ 512 → ((from + n ≤ 4) ⊎ (8 ≤ from)) → bytes_at new at n ≡ bytes_at old at n
  stays from at n is inside apart =
      let written : bytes_at (with_last_page (sector old 2) last) from n ≡ bytes_at (sector old 2) from n = elim apart [
        | inl before ↦ bytes_before (sector old 2) 4 (little_bytes 4 last) from n before (omega (arith, whole, four))
        | inr behind ↦ bytes_behind (sector old 2) 4 (little_bytes 4 last) from n (omega (arith, behind, four)) (omega (arith, whole, four))
      ] in
      in_sector new 2 at n from (omega (arith, is)) inside (omega (arith, lengthened))
      ∙ ap (λ (s : List ℕ). bytes_at s from n) h.written
      ∙ written
      ∙ sym (in_sector old 2 at n from (omega (arith, is)) inside (omega (arith, h.long)))

  new_last : little_at 4 new 1028 ≡ last
  new_last =
      little_there 4 last 1028 new small
      (in_sector new 2 1028 4 4 (omega arith) (omega arith) (omega (arith, lengthened))
      ∙ ap (λ (s : List ℕ). bytes_at s 4 4) h.written
      ∙ bytes_of_write (sector old 2) 4 4 (little_bytes 4 last) (sym four) (omega (arith, whole)))

  same_version : little_at 4 new 1024 ≡ little_at 4 old 1024
  same_version = little_same 4 1024 1024 new old (stays 0 1024 4 (omega arith) (omega arith) (inl (omega arith)))

  same_bad : little_at 4 new 1032 ≡ little_at 4 old 1032
  same_bad = little_same 4 1032 1032 new old (stays 8 1032 4 (omega arith) (omega arith) (inr (omega arith)))

  pub differs_in_last_page : DiffersInLastPage last old new
  differs_in_last_page = record {
    signature = ending;
    version = same_version;
    swap =
        same_swap last (little_at 4 new 1032) (little_at 4 old 1032) (bytes_at new 1036 16) (bytes_at old 1036 16) (bytes_at new 1052 16) (bytes_at old 1052 16) (swap_in new)
        (ap (λ (n : ℕ). record { last_page = n; bad = little_at 4 new 1032; uuid = bytes_at new 1036 16; label = bytes_at new 1052 16 }) new_last) same_bad
        (stays 12 1036 16 (omega arith) (omega arith) (inr (omega arith))) (stays 28 1052 16 (omega arith) (omega arith) (inr (omega arith)));
  }

  pub grown_is_swap : (sectors room : ℕ) → IsSwap old sectors → 1 ≤ last → (last + 1) * 8 ≤ room → IsSwap new room
  grown_is_swap sectors room was some fits =
      record { signature = ending ∙ was.signature; version = same_version ∙ was.version; some = omega (arith, new_last, some); fits = omega (arith, new_last, fits) }
