-- A content depends on what isn't free in it alone.
use Rattle.std.proofs.Common.{◌≡◌, ℕ, List, [], refl, sym, ap, ◌∙◌, subst}
use Rattle.std.proofs.lemmas.Grind.{same_number_lists}
use Rattle.block_claims.proofs.Agreements.{outside_of}
use Rattle.block_claims.specs.Agreement.{DiffersIn, block}
use Rattle.swap_area.proofs.Ranges.{first_page_stays}
use Rattle.swap_area.specs.Header.{HasSwapSignature, IsSwap, swap_free, swap_in}
use Rattle.swap_area.specs.declared.header.Swap.{Swap as SwapHeader}
use Rattle.volume_content.proofs.Firsts.{magic_of_valid, same_magic}
use Rattle.volume_content.specs.Inner.{IsInner, inner_free}
use Rattle.volume_content.specs.declared.content.Inner.{Inner}
use Rattle.volume_content.specs.declared.content.Inner.TheVariants.{Xfs, Swap, Unread}
use Rattle.xfs_check.proofs.Frames.{frame}
use Rattle.xfs_check.specs.Frame.{volume_on}
use Rattle.xfs_check.specs.Parts.{volume_free}
use Rattle.xfs_check.specs.Volume.{VolumeSpace, volume_space}

xfs_stays : (sectors : ℕ) (image other : List ℕ) (volume : VolumeSpace) → IsInner sectors image (Xfs volume) → DiffersIn (volume_free (volume_on image)) image other → IsInner sectors other (Xfs volume)
xfs_stays sectors image other volume is differs =
    let same = frame sectors image is.1 other differs in
    (magic_of_valid sectors other same.valid, same.valid, is.2 ∙ ap volume_space (sym same.seen))

swap_stays : (sectors : ℕ) (image other : List ℕ) (swap : SwapHeader) → IsInner sectors image (Swap swap) → DiffersIn (swap_free swap) image other → IsInner sectors other (Swap swap)
swap_stays sectors image other swap is differs =
    let same : block other 0 ≡ block image 0 = first_page_stays swap (block image) (block other) (outside_of (swap_free swap) image other differs) in (
      same_magic image other same ∙ is.0,
      is.1,
      subst HasSwapSignature (sym same) is.2,
      subst (λ (page : List ℕ). IsSwap page sectors) (sym same) is.3,
      is.4 ∙ ap swap_in (sym same),
    )

same_image : (image other : List ℕ) → DiffersIn [] image other → other ≡ image
same_image image other differs = same_number_lists other image differs.same_length (λ i k. differs.same i refl)

pub content_stays : (sectors : ℕ) (image other : List ℕ) (content : Inner) → IsInner sectors image content → DiffersIn (inner_free image content) image other → IsInner sectors other content
content_stays sectors image other (Xfs volume) is differs = xfs_stays sectors image other volume is differs
content_stays sectors image other (Swap swap) is differs = swap_stays sectors image other swap is differs
content_stays sectors image other (Unread cause) is differs =
    subst (λ (l : List ℕ). IsInner sectors l (Unread cause)) (sym (same_image image other differs)) is
