-- The files of a volume, and that what is free in it carries none of them.
use Rattle.std.specs.Prelude.{◌≡◌, ℕ, ◌*◌, ◌<◌, ◌≤◌, Option, List}
use Rattle.block_claims.specs.Agreement.{block, DiffersIn}
use Rattle.xfs_check.specs.Seen.{SeenVolume, geometry_seen, inodes_of_groups, volume_seen}
use Rattle.xfs_check.specs.Parts.{volume_free}
use Rattle.xfs_check.specs.Valid.{IsValidVolume}
use Rattle.xfs_files.specs.File.{File, file_at_path}

-- the volume that an image holds
abbrev pub volume_on : List ℕ → SeenVolume
volume_on image = volume_seen (block image)

-- the file at a path of names, from the root on
abbrev pub file_at : SeenVolume → List (List ℕ) → Option File
file_at s path = file_at_path (geometry_seen s) (inodes_of_groups s.groups) path

-- the other volume is valid, is laid out alike, with the same names and identity, has the same blocks free, and has the same
-- file at each path: all that is seen of it is the same
pub record HasSameFiles (sectors : ℕ) (s other : SeenVolume) : Type 0 where
  pub seen : other ≡ s
  pub valid : IsValidVolume sectors other
  pub geometry : geometry_seen other ≡ geometry_seen s
  pub free : volume_free other ≡ volume_free s
  pub files : (path : List (List ℕ)) → file_at other path ≡ file_at s path

-- whatever the free blocks of a volume hold, it has the same files
abbrev pub FreeCarriesNoFile : ℕ → List ℕ → Type 0
FreeCarriesNoFile sectors image =
    (other : List ℕ) → DiffersIn (volume_free (volume_on image)) image other
    → HasSameFiles sectors (volume_on image) (volume_on other)

-- the first blocks of two images, so many, are the same
abbrev pub BeginAlike : ℕ → List ℕ → List ℕ → Type 0
BeginAlike count image other = (n : ℕ) → n < count → block other n ≡ block image n

-- on any disk that begins with the blocks of the volume and has room for them, there is the same volume
abbrev pub StaysOnOtherDisk : List ℕ → Type 0
StaysOnOtherDisk image =
    (sectors : ℕ) (other : List ℕ) → 8 * (geometry_seen (volume_on image)).dblocks ≤ sectors
    → BeginAlike (geometry_seen (volume_on image)).dblocks image other
    → HasSameFiles sectors (volume_on image) (volume_on other)
