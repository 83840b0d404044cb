-- What the first bytes of an image say.
use Rattle.std.proofs.Common.{◌≡◌, ℕ, ◌≤◌, true, false, ◌==◌, List, [], ◌∷◌, length, drop, refl, sym, ap, ◌∙◌, subst, arith}
use Rattle.std.proofs.lemmas.List.{take-take}
use Rattle.block_claims.specs.Agreement.{block}
use Rattle.disk_base.proofs.Fieldwork.{big_same}
use Rattle.disk_base.specs.Fields.{big_at}
use Rattle.disk_base.specs.Image.{bytes_at}
use Rattle.volume_content.specs.Inner.{has_xfs_magic}
use Rattle.xfs_check.proofs.Frames.{seen_superblock}
use Rattle.xfs_check.specs.Frame.{volume_on}
use Rattle.xfs_check.specs.Valid.{IsValidVolume}
use Rattle.xfs_super.specs.Superblock.{IsSuperblock, superblock_in}

-- a number in the first bytes is one in the first bytes of each range from the beginning on
pub first_number : (n : ℕ) (image : List ℕ) → 4 ≤ n → big_at 4 (bytes_at image 0 n) 0 ≡ big_at 4 image 0
first_number n image fits = big_same 4 0 0 (bytes_at image 0 n) image (take-take 4 n (drop 0 image) fits)

pub magic_read : (image bytes : List ℕ) → bytes ≡ bytes_at image 0 512 → (big_at 4 bytes 0 == 0x58465342) ≡ has_xfs_magic image
magic_read image bytes is = ap (λ (n : ℕ). n == 0x58465342) (ap (λ (b : List ℕ). big_at 4 b 0) is ∙ first_number 512 image (omega arith))

pub no_magic : (image : List ℕ) → length image ≡ 0 → has_xfs_magic image ≡ false
unfolding big_at
no_magic [] none = refl
no_magic (x ∷ xs) none = absurd (omega (arith, none))

pub same_magic : (image other : List ℕ) → block other 0 ≡ block image 0 → has_xfs_magic other ≡ has_xfs_magic image
same_magic image other same =
    ap (λ (n : ℕ). n == 0x58465342)
    (sym (first_number 4096 other (omega arith)) ∙ ap (λ (b : List ℕ). big_at 4 b 0) same ∙ first_number 4096 image (omega arith))

pub magic_of_valid : (sectors : ℕ) (image : List ℕ) → IsValidVolume sectors (volume_on image) → has_xfs_magic image ≡ true
unfolding superblock_in
magic_of_valid sectors image valid =
    let sound : IsSuperblock sectors (block image 0) = subst (IsSuperblock sectors) (seen_superblock (block image)) valid.superblock in
    subst (λ (n : ℕ). (n == 0x58465342) ≡ true) (first_number 4096 image (omega arith)) sound.magic
