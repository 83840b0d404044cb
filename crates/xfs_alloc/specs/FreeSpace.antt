-- The free space of a group as a value: its runs, and the blocks of its two trees, level by level.
use Rattle.std.specs.Prelude.{ℕ, ◌-◌, ◌%◌, nat_lt, if◌then◌else◌, List, [], map, length, slice_index_or}
use Rattle.std.specs.List.{range_with_len}
use Rattle.xfs_super.specs.Geometry.{Geometry}
use Rattle.xfs_super.specs.Super.{geometry_of}
use Rattle.xfs_super.specs.declared.agf.Agf.{Agf}
use Rattle.xfs_super.specs.declared.geometry.Super.{Super}
use Rattle.xfs_tree.specs.Tree.{numbers_of}
use Rattle.xfs_alloc.specs.Free.{FreeSeen, start_runs, free_on}

-- start and count of each run; the blocks of a level by their numbers in the group, the root's level first
pub record FreeSpace : Type 0 where
  pub runs : List (ℕ × ℕ)
  pub starts : List (List ℕ)
  pub counts : List (List ℕ)

-- the numbers in their group of blocks of the volume
abbrev pub in_group : ℕ → List (List ℕ) → List (List ℕ)
in_group agblocks levels = map (λ l. map (λ n. n % agblocks) l) levels

abbrev pub free_space : Geometry → ℕ → FreeSeen → FreeSpace
free_space geo group s = record {
  runs = map (λ r. (r.start, r.count)) (start_runs geo group s);
  starts = in_group geo.agblocks (numbers_of s.starts);
  counts = in_group geo.agblocks (numbers_of s.counts);
}

abbrev pub space_on : Super → ℕ → Agf → List ℕ → FreeSpace
space_on geo group agf image = free_space (geometry_of geo) group (free_on geo group agf image)

-- the blocks of level i of a tree, where the leaves are level 0
abbrev pub level_up : List (List ℕ) → ℕ → List ℕ
level_up levels i = slice_index_or levels (length levels - 1 - i) []

-- how many blocks each of nine levels has, from the leaves up
abbrev pub level_counts : List (List ℕ) → List ℕ
level_counts levels = map (λ i. if nat_lt i (length levels) then length (level_up levels i) else 0) (range_with_len 0 9)
