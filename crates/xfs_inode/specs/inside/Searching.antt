-- A search by halves for the extent that covers a block of a file, and a buffer that is filled piece by piece.
use Rattle.std.specs.Prelude.{◌≡◌, ℕ, ◌+◌, ◌<◌, ◌≤◌, IsTrue, List, slice_index, slice_index_or, length}
use Rattle.xfs_super.specs.Geometry.{Geometry}
use Rattle.xfs_tree.specs.Records.{by_file}
use Rattle.xfs_tree.specs.Tree.{IsBeforeNext}
use Rattle.xfs_tree.specs.declared.extent.Extent.{Extent}
use Rattle.xfs_inode.specs.Content.{file_byte}

-- each ends where the later ones begin, or before
abbrev pub AreApartInFile : List Extent → Type 0
AreApartInFile extents =
    (i j : ℕ) (d : Extent) → i < j → j < length extents
    → (slice_index_or extents i d).file + (slice_index_or extents i d).count ≤ (slice_index_or extents j d).file

-- extent `i` has a block, lies in its group, and ends where the next one begins, or before
pub record IsSoundAt (geo : Geometry) (extents : List Extent) (i : ℕ) : Type 0 where
  pub some : (d : Extent) → 0 < (slice_index_or extents i d).count
  pub inside : (d : Extent) → IsTrue (by_file.inside geo 0 (slice_index_or extents i d))
  pub order : i + 1 < length extents → IsBeforeNext by_file extents i

-- extents before a place end at or before the block, and those from one on end behind it
abbrev pub EndBefore : ℕ → List Extent → ℕ → Type 0
EndBefore block extents at =
    (k : ℕ) (d : Extent) → k < at → (slice_index_or extents k d).file + (slice_index_or extents k d).count ≤ block

abbrev pub EndBehind : ℕ → List Extent → ℕ → Type 0
EndBehind block extents at =
    (k : ℕ) (d : Extent) → at ≤ k → k < length extents
    → block < (slice_index_or extents k d).file + (slice_index_or extents k d).count

-- the place at which the block parts them
pub record IsPartedAt (block : ℕ) (extents : List Extent) (at : ℕ) : Type 0 where
  pub within : at ≤ length extents
  pub before : EndBefore block extents at
  pub behind : EndBehind block extents at

-- a search for that place has come between `low` and `high`
pub record IsNarrowed (block : ℕ) (extents : List Extent) (low high : ℕ) : Type 0 where
  pub rising : low ≤ high
  pub within : high ≤ length extents
  pub before : EndBefore block extents low
  pub behind : EndBehind block extents high

-- `n` bytes stand in front of a buffer: those of a file from byte `offset` on
pub record FillsFile (volume : ℕ → List ℕ) (geo : Geometry) (extents : List Extent) (offset n : ℕ) (old new : List ℕ) : Type 0 where
  pub same_length : length new ≡ length old
  pub given : (k : ℕ) → k < n → slice_index new k ≡ file_byte volume geo extents (offset + k)
  pub others : (k : ℕ) → n ≤ k → slice_index new k ≡ slice_index old k
