-- What holds of every content.
use Rattle.std.specs.Prelude.{◌≡◌, ℕ, ◌+◌, ◌*◌, ◌≤◌, List}
use Rattle.block_claims.specs.Agreement.{DiffersIn}
use Rattle.volume_content.specs.Inner.{IsInner, inner_free}
use Rattle.volume_content.specs.declared.content.Inner.{Inner}
use Rattle.volume_content.specs.declared.content.Inner.TheVariants.{Xfs, Swap, Unread}
use Rattle.volume_content.specs.declared.content.Why.TheVariants as why
use Rattle.xfs_check.specs.Frame.{BeginAlike, HasSameFiles, volume_on}

-- whatever the blocks hold that carry nothing, the volume holds the same
abbrev pub FreeOfInnerCarriesNothing : Type 0
FreeOfInnerCarriesNothing =
    (sectors : ℕ) (image other : List ℕ) (content : Inner) → IsInner sectors image content
    → DiffersIn (inner_free image content) image other → IsInner sectors other content

-- the second content is the first one; of XFS volumes that aren't valid the reasons may differ
abbrev pub IsAlike : Inner → Inner → Type 0
IsAlike (Unread (why.Xfs reason)) (Unread (why.Xfs reason')) = Unit {0}
IsAlike one other = other ≡ one

-- a volume holds one content
abbrev pub OneKind : Type 0
OneKind =
    (sectors : ℕ) (image : List ℕ) (one other : Inner)
    → IsInner sectors image one → IsInner sectors image other → IsAlike one other

-- how many blocks of 4096 bytes a content says that it has; one that isn't read says nothing
abbrev pub inner_blocks : Inner → ℕ
inner_blocks (Xfs volume) = volume.geometry.dblocks
inner_blocks (Swap swap) = swap.last_page + 1
inner_blocks (Unread cause) = 0

-- the second image holds the same content: an XFS volume with the same file at every path, or the same swap area
abbrev pub StaysInner : ℕ → List ℕ → List ℕ → Inner → Type 0
StaysInner sectors image other (Xfs volume) =
    IsInner sectors other (Xfs volume) × HasSameFiles sectors (volume_on image) (volume_on other)
StaysInner sectors image other (Swap swap) = IsInner sectors other (Swap swap)
StaysInner sectors image other (Unread cause) = Unit {0}

-- a content is the same on any disk that begins with its blocks and has room for them
abbrev pub InnerStays : Type 0
InnerStays =
    (sectors more : ℕ) (image other : List ℕ) (content : Inner) → IsInner sectors image content
    → 8 * inner_blocks content ≤ more → BeginAlike (inner_blocks content) image other
    → StaysInner more image other content
