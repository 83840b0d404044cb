-- A content is the same on any disk that begins with its blocks and has room for them.
use Rattle.std.proofs.Common.{◌≡◌, ℕ, ◌+◌, ◌-◌, ◌*◌, ◌<◌, ◌≤◌, ◌&&◌, nat_le, List, arith, sym, ap, subst, ◌∙◌}
use Rattle.std.proofs.lemmas.Bool.{and_parts, leb-true}
use Rattle.block_claims.specs.Agreement.{block}
use Rattle.swap_area.specs.Header.{HasSwapSignature, IsSwap, swap_in}
use Rattle.swap_area.specs.declared.header.Swap.{Swap as SwapHeader}
use Rattle.volume_content.proofs.Firsts.{magic_of_valid, same_magic}
use Rattle.volume_content.specs.Inner.{IsInner}
use Rattle.volume_content.specs.Laws.{InnerStays, StaysInner}
use Rattle.volume_content.specs.declared.content.Inner.TheVariants.{Xfs, Swap, Unread}
use Rattle.xfs_check.proofs.Bounds.{stays as volume_stays}
use Rattle.xfs_check.specs.Frame.{BeginAlike, HasSameFiles, volume_on}
use Rattle.xfs_check.specs.Seen.{geometry_seen}
use Rattle.xfs_check.specs.Volume.{VolumeSpace, volume_space}
use Rattle.xfs_super.proofs.Laid.{groups_from_test}
use Rattle.xfs_super.specs.Geometry.{are_groups, is_log_place}
use Rattle.xfs_super.specs.Superblock.{fits_volume, geometry_from, has_places, has_sizes, superblock_in}

xfs_elsewhere : (sectors more : ℕ) (image other : List ℕ) (volume : VolumeSpace) → IsInner sectors image (Xfs volume) → 8 * volume.geometry.dblocks ≤ more
    → BeginAlike volume.geometry.dblocks image other → StaysInner more image other (Xfs volume)
xfs_elsewhere sectors more image other volume is room begin =
    let count : volume.geometry.dblocks ≡ (geometry_seen (volume_on image)).dblocks = ap (λ (v : VolumeSpace). v.geometry.dblocks) is.2 in
    let same : HasSameFiles more (volume_on image) (volume_on other) =
    volume_stays sectors image is.1 more other (subst (λ (n : ℕ). 8 * n ≤ more) count room) (subst (λ (n : ℕ). BeginAlike n image other) count begin) in
    ((magic_of_valid more other same.valid, same.valid, is.2 ∙ ap volume_space (sym same.seen)), same)

swap_elsewhere : (sectors more : ℕ) (image other : List ℕ) (swap : SwapHeader) → IsInner sectors image (Swap swap) → 8 * (swap.last_page + 1) ≤ more
    → BeginAlike (swap.last_page + 1) image other → StaysInner more image other (Swap swap)
swap_elsewhere sectors more image other swap is room begin =
    let same : block other 0 ≡ block image 0 = begin 0 (omega arith) in
    let page : IsSwap (block image 0) sectors = is.3 in
    let last : swap.last_page ≡ (swap_in (block image 0)).last_page = ap (λ (s : SwapHeader). s.last_page) is.4 in
    let fits : IsSwap (block image 0) more =
    record { signature = page.signature; version = page.version; some = page.some; fits = omega (arith, room, last) } in (
      same_magic image other same ∙ is.0,
      omega (arith, room, last, page.some),
      subst HasSwapSignature (sym same) is.2,
      subst (λ (l : List ℕ). IsSwap l more) (sym same) fits,
      is.4 ∙ ap swap_in (sym same),
    )

pub inner_stays : InnerStays
inner_stays sectors more image other (Xfs volume) is room begin = xfs_elsewhere sectors more image other volume is room begin
inner_stays sectors more image other (Swap swap) is room begin = swap_elsewhere sectors more image other swap is room begin
inner_stays sectors more image other (Unread cause) is room begin = tt

-- a volume with a valid XFS volume has the sectors of a block
pub valid_some : (sectors : ℕ) (image : List ℕ) (volume : VolumeSpace) → IsInner sectors image (Xfs volume) → 8 ≤ sectors
valid_some sectors image volume is =
    let s = superblock_in (volume_on image).superblock in
    let laid = and_parts (has_sizes s && fits_volume sectors s) (has_places s) is.1.superblock.geometry in
    let sized = and_parts (has_sizes s) (fits_volume sectors s) laid.0 in
    let room = and_parts (nat_le 8 sectors) (nat_le (8 * s.dblocks) sectors) sized.1 in
    leb-true 8 sectors room.0

-- it has blocks, which lie in its sectors
pub valid_blocks : (sectors : ℕ) (image : List ℕ) (volume : VolumeSpace) → IsInner sectors image (Xfs volume)
    → (1 ≤ volume.geometry.dblocks) × (8 * volume.geometry.dblocks ≤ sectors)
valid_blocks sectors image volume is =
    let s = superblock_in (volume_on image).superblock in
    let laid = and_parts (has_sizes s && fits_volume sectors s) (has_places s) is.1.superblock.geometry in
    let sized = and_parts (has_sizes s) (fits_volume sectors s) laid.0 in
    let room = and_parts (nat_le 8 sectors) (nat_le (8 * s.dblocks) sectors) sized.1 in
    let places = and_parts (are_groups s.dblocks s.agblocks s.agcount s.agblklog) (is_log_place (geometry_from s)) laid.1 in
    let groups = groups_from_test s.dblocks s.agblocks s.agcount s.agblklog places.0 in
    let last : (s.agcount - 1) * s.agblocks + 64 ≤ s.dblocks = groups.last in
    let count : volume.geometry.dblocks ≡ s.dblocks = ap (λ (v : VolumeSpace). v.geometry.dblocks) is.2 in
    (omega (arith, count, last), omega (arith, count, leb-true (8 * s.dblocks) sectors room.1))

pub swap_pages : (sectors : ℕ) (image : List ℕ) (swap : SwapHeader) → IsInner sectors image (Swap swap) → (1 ≤ swap.last_page) × ((swap.last_page + 1) * 8 ≤ sectors)
swap_pages sectors image swap is =
    let page : IsSwap (block image 0) sectors = is.3 in
    let last : swap.last_page ≡ (swap_in (block image 0)).last_page = ap (λ (s : SwapHeader). s.last_page) is.4 in
    (omega (arith, last, page.some), omega (arith, last, page.fits))
