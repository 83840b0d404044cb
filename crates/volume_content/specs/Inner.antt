-- What a volume that stands alone holds: an XFS volume where its first bytes are the magic number of XFS, else a swap area
-- where its first page of 4096 bytes ends in the signature of one, else what isn't known.
use Rattle.std.specs.Prelude.{◌≡◌, ℕ, ◌+◌, ◌*◌, ◌<◌, ◌≤◌, ◌⊎◌, Bool, true, false, ◌==◌, List, []}
use Rattle.block_claims.specs.Agreement.{block}
use Rattle.disk_base.specs.Fields.{big_at}
use Rattle.swap_area.specs.Header.{HasSwapSignature, IsSwap, swap_free, swap_in}
use Rattle.volume_content.specs.declared.content.Inner.{Inner}
use Rattle.volume_content.specs.declared.content.Inner.TheVariants.{Xfs, Swap, Unread}
use Rattle.volume_content.specs.declared.content.Why.{Why}
use Rattle.volume_content.specs.declared.content.Why.TheVariants as why
use Rattle.xfs_check.specs.Frame.{volume_on}
use Rattle.xfs_check.specs.Parts.{volume_free}
use Rattle.xfs_check.specs.Valid.{IsValidVolume, SpeaksAgainstVolume}
use Rattle.xfs_check.specs.Volume.{volume_space}

-- the first bytes are `XFSB`
abbrev pub has_xfs_magic : List ℕ → Bool
has_xfs_magic image = big_at 4 image 0 == 0x58465342

-- a volume of that many sectors isn't read, and why: of several reasons against an XFS volume any. That it is a physical
-- volume of LVM2 is no cause for one that stands alone
abbrev pub IsUnread : ℕ → List ℕ → Why → Type 0
IsUnread sectors image why.Other =
    (has_xfs_magic image ≡ false) × ((sectors < 8) ⊎ (HasSwapSignature (block image 0) → ⊥))
IsUnread sectors image (why.Xfs reason) =
    (has_xfs_magic image ≡ true) × SpeaksAgainstVolume sectors (volume_on image) reason
IsUnread sectors image why.Swap =
    (has_xfs_magic image ≡ false) × (8 ≤ sectors) × HasSwapSignature (block image 0)
    × (IsSwap (block image 0) sectors → ⊥)
IsUnread sectors image why.NoGroup = ⊥
IsUnread sectors image (why.Ring fault) = ⊥
IsUnread sectors image (why.Text fault) = ⊥
IsUnread sectors image (why.Group fault) = ⊥

-- what it holds
abbrev pub IsInner : ℕ → List ℕ → Inner → Type 0
IsInner sectors image (Xfs volume) =
    (has_xfs_magic image ≡ true) × IsValidVolume sectors (volume_on image) × (volume ≡ volume_space (volume_on image))
IsInner sectors image (Swap swap) =
    (has_xfs_magic image ≡ false) × (8 ≤ sectors) × HasSwapSignature (block image 0) × IsSwap (block image 0) sectors
    × (swap ≡ swap_in (block image 0))
IsInner sectors image (Unread cause) = IsUnread sectors image cause

-- the blocks of 4096 bytes that carry nothing
abbrev pub inner_free : List ℕ → Inner → List ℕ
inner_free image (Xfs volume) = volume_free (volume_on image)
inner_free image (Swap swap) = swap_free swap
inner_free image (Unread cause) = []

-- its blocks or pages, as many as it says that it has, lie in so many sectors
abbrev pub InnerFits : ℕ → Inner → Type 0
InnerFits sectors (Xfs volume) = 8 * volume.geometry.dblocks ≤ sectors
InnerFits sectors (Swap swap) = (1 ≤ swap.last_page) × ((swap.last_page + 1) * 8 ≤ sectors)
InnerFits sectors (Unread cause) = Unit {0}
