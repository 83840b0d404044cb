-- Where runs of a group's physical volumes stand on a disk. `members` has the run of each physical volume on the disk,
-- in the group's order.
use Rattle.std.specs.Prelude.{◌≡◌, ℕ, ◌+◌, ◌<◌, ◌≤◌, List, length, map, flat_map, slice_index_or}
use Rattle.disk_base.specs.Run.{run_of}
use Rattle.disk_base.specs.declared.run.Run.{Run}
use Rattle.lvm_group.specs.declared.group.Group.{Group}
use Rattle.lvm_group.specs.declared.spans.Volume.{Volume}
use Rattle.lvm_group.specs.declared.types.Member.{Member}

-- the run of a physical volume
abbrev pub member_run : List Run → ℕ → Run
member_run members m = slice_index_or members m (run_of 0 0)

-- a run of a physical volume, its first sector there and its sectors, as a run of the disk
abbrev pub disk_run : List Run → ℕ × ℕ × ℕ → Run
disk_run members run = run_of ((member_run members run.0).start + run.1) run.2

abbrev pub disk_runs : List Run → List (ℕ × ℕ × ℕ) → List Run
disk_runs members = map (disk_run members)

-- such a run lies in its physical volume
pub record LiesInMember (members : List Run) (run : ℕ × ℕ × ℕ) : Type 0 where
  pub known : run.0 < length members
  pub inside : run.1 + run.2 ≤ (member_run members run.0).count

-- the runs have the lengths of the physical volumes
abbrev pub AreMemberRuns : List Member → List Run → Type 0
AreMemberRuns ms members = map (λ (run : Run). run.count) members ≡ map (λ (m : Member). m.sectors) ms

-- the runs of all volumes of a group, in order
abbrev pub runs_of_volumes : Group → List (ℕ × ℕ × ℕ)
runs_of_volumes g = flat_map (λ (volume : Volume). volume.runs) g.volumes
