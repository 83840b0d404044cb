-- Where the headers of a group stand.
use Rattle.std.proofs.Common.{◌≡◌, ℕ, ◌+◌, ◌-◌, ◌*◌, ◌/◌, ◌%◌, ◌≤◌, inl, inr, true, eqb, List, take, drop, sym, ap, ◌∙◌, arith, subst}
use Rattle.std.proofs.lemmas.Bool.{or_cases, eqb-true}
use Rattle.std.proofs.lemmas.List.{drop-take, take-take, drop-drop}
use Rattle.disk_base.specs.Image.{bytes_at}
use Rattle.xfs_super.specs.Geometry.{Geometry, is_sector_size, header_sector, header_seen}
use Rattle.block_claims.specs.Agreement.{block}

-- a range of a range
range_of_range : (image : List ℕ) (from n at m : ℕ) → at + m ≤ n → bytes_at (bytes_at image from n) at m ≡ bytes_at image (from + at) m
range_of_range image from n at m inside =
    let more : at + (n - at) ≡ n = omega arith in
    ap (λ k. take m (drop at (take k (drop from image)))) (sym more)
    ∙ ap (take m) (drop-take at (n - at) (drop from image))
    ∙ take-take m (n - at) (drop at (drop from image)) (omega arith)
    ∙ ap (take m) (drop-drop at from image)

-- a header of sectors of that size lies in one block, and begins there
abbrev StandsAt : ℕ → ℕ → ℕ → Type 0
StandsAt b k s = (k * s % 4096 + s ≤ 4096) × (512 * (8 * (b + 0) + k * (s / 512)) ≡ 4096 * (b + k * s / 4096) + k * s % 4096)

small_stands : (b k : ℕ) → k ≤ 3 → StandsAt b k 512
small_stands b k few = (omega arith, omega arith)

large_stands : (b k : ℕ) → StandsAt b k 4096
large_stands b k = (omega arith, omega arith)

pub header_stands : (image : List ℕ) (g : Geometry) (group k : ℕ) → is_sector_size g.sectsize ≡ true → k ≤ 3
    → bytes_at image (512 * header_sector g group k) g.sectsize ≡ header_seen g (block image) group k
header_stands image g group k size few =
    let s : ℕ = g.sectsize in
    let b : ℕ = group * g.agblocks in
    let h : StandsAt b k s =
    elim (or_cases (eqb s 512) (eqb s 4096) size) [
      | inl small ↦ subst (StandsAt b k) (sym (eqb-true s 512 small)) (small_stands b k few)
      | inr large ↦ subst (StandsAt b k) (sym (eqb-true s 4096 large)) (large_stands b k)
    ]
    in ap (λ at. bytes_at image at s) h.1 ∙ sym (range_of_range image (4096 * (b + k * s / 4096)) 4096 (k * s % 4096) s h.0)
