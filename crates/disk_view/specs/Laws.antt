-- What holds of joins.
use Rattle.std.specs.Prelude.{◌≡◌, ℕ, ◌+◌, ◌*◌, ◌/◌, ◌<◌, ◌≤◌, List, [], ◌∷◌, length, take, slice_index_or, All, AllPairs}
use Rattle.disk_base.specs.Image.{bytes_at, sector}
use Rattle.disk_base.specs.Run.{IsWithin, AreApart}
use Rattle.disk_base.specs.declared.run.Run.{Run}
use Rattle.block_claims.specs.Agreement.{times_in, DiffersIn}
use Rattle.disk_view.specs.Join.{joined_runs, total, place, IsInOne}

-- a join has as many sectors as its runs together
abbrev pub JoinIsTheSum : Type 0
JoinIsTheSum =
    (image : List ℕ) (size : ℕ) (runs : List Run)
    → length image ≡ 512 * size → All (IsWithin size) runs → length (joined_runs image runs) ≡ 512 * total runs

-- a join of one run is that range of the disk
abbrev pub LoneRunIsARange : Type 0
LoneRunIsARange =
    (image : List ℕ) (run : Run)
    → joined_runs image (run ∷ []) ≡ bytes_at image (512 * run.start) (512 * run.count)

-- each sector of a join is that of the disk at its place
abbrev pub JoinIsOfTheDisk : Type 0
JoinIsOfTheDisk =
    (image : List ℕ) (size : ℕ) (runs : List Run) (k : ℕ)
    → length image ≡ 512 * size → All (IsWithin size) runs → k < total runs
    → sector (joined_runs image runs) k ≡ sector image (place runs k)

-- places lie in the runs, and so on the disk that has the runs
abbrev pub PlacesLieInRuns : Type 0
PlacesLieInRuns = (runs : List Run) (k : ℕ) → k < total runs → IsInOne runs (place runs k)

abbrev pub PlacesLieOnDisk : Type 0
PlacesLieOnDisk = (size : ℕ) (runs : List Run) (k : ℕ) → All (IsWithin size) runs → k < total runs → place runs k < size

-- they follow the runs: sector `j` of a run stands behind all sectors of the runs before it
abbrev pub PlacesFollowRuns : Type 0
PlacesFollowRuns =
    (runs : List Run) (i j : ℕ) (default : Run)
    → i < length runs → j < (slice_index_or runs i default).count
    → place runs (total (take i runs) + j) ≡ (slice_index_or runs i default).start + j

-- where the runs lie apart, no two sectors of the join have one place
abbrev pub PlacesDiffer : Type 0
PlacesDiffer =
    (runs : List Run) (k other : ℕ)
    → AllPairs AreApart runs → k < total runs → other < total runs → place runs k ≡ place runs other → k ≡ other

-- nor are there more of them than the disk has sectors
abbrev pub JoinFits : Type 0
JoinFits = (size : ℕ) (runs : List Run) → All (IsWithin size) runs → AllPairs AreApart runs → total runs ≤ size

-- disks that are equal at the place of each sector outside the free blocks give joins that differ in free blocks alone;
-- a block is eight sectors
abbrev pub JoinDiffersInFree : Type 0
JoinDiffersInFree =
    (size : ℕ) (runs : List Run) (image other free : List ℕ)
    → length image ≡ 512 * size → length other ≡ length image → All (IsWithin size) runs
    → ((k : ℕ) → k < total runs → times_in (k / 8) free ≡ 0 → sector other (place runs k) ≡ sector image (place runs k))
    → DiffersIn free (joined_runs image runs) (joined_runs other runs)
