-- What holds of all that is found.
use Rattle.std.specs.Prelude.{◌≡◌, ℕ, ◌*◌, ◌<◌, ◌≤◌, List, length}
use Rattle.disk_base.specs.Image.{sector}
use Rattle.volume_content.specs.Laws.{IsAlike}
use Rattle.partition_content.specs.Found.{FoundFits, IsFoundIn}
use Rattle.partition_content.specs.declared.found.Found.{Found}
use Rattle.partition_content.specs.declared.found.Found.TheVariants as found
use Rattle.volume_content.specs.declared.content.Inner.TheVariants as inner
use Rattle.xfs_check.specs.Frame.{HasSameFiles, volume_on}

-- the second find is the first one; of an XFS volume that isn't valid the reasons may differ
abbrev pub IsAlikeFound : Found → Found → Type 0
IsAlikeFound (found.Inner one) (found.Inner other) = IsAlike one other
IsAlikeFound (found.Inner one) (found.Physical physical) = found.Physical physical ≡ found.Inner one
IsAlikeFound (found.Physical physical) other = other ≡ found.Physical physical

-- a partition holds one thing
abbrev pub OneFind : Type 0
OneFind =
    (sectors : ℕ) (image : List ℕ) (one other : Found)
    → IsFoundIn sectors image one → IsFoundIn sectors image other → IsAlikeFound one other

-- two images have so many sectors at least, and the first ones are the same
pub record ShareSectors (count : ℕ) (image other : List ℕ) : Type 0 where
  pub long : 512 * count ≤ length image
  pub other_long : 512 * count ≤ length other
  pub same : (k : ℕ) → k < count → sector other k ≡ sector image k

-- the second image holds what is found in the first: a physical volume with the same label and the same texts, an XFS
-- volume with the same file at every path, or the same swap area
abbrev pub StaysFound : ℕ → List ℕ → List ℕ → Found → Type 0
StaysFound sectors image other (found.Physical physical) = IsFoundIn sectors other (found.Physical physical)
StaysFound sectors image other (found.Inner (inner.Xfs volume)) =
    IsFoundIn sectors other (found.Inner (inner.Xfs volume)) × HasSameFiles sectors (volume_on image) (volume_on other)
StaysFound sectors image other (found.Inner (inner.Swap swap)) = IsFoundIn sectors other (found.Inner (inner.Swap swap))
StaysFound sectors image other (found.Inner (inner.Unread cause)) = Unit {0}

-- what is found is the same on any disk that begins with as many of its sectors as it says that it has
abbrev pub FoundStays : Type 0
FoundStays =
    (sectors count more : ℕ) (image other : List ℕ) (one : Found) → IsFoundIn sectors image one → 4 ≤ count
    → FoundFits count one → count ≤ more → ShareSectors count image other → StaysFound more image other one
