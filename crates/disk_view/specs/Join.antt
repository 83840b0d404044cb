-- Runs of a disk's sectors, one behind the other: their join is a disk of its own.
use Rattle.std.specs.Prelude.{ℕ, ◌+◌, ◌-◌, ◌*◌, nat_lt, if◌then◌else◌, List, [], ◌∷◌, Contains}
use Rattle.std.specs.List.{flat_map, sum_by}
use Rattle.disk_base.specs.Image.{bytes_at}
use Rattle.disk_base.specs.Run.{IsIn}
use Rattle.disk_base.specs.declared.run.Run.{Run}

-- what the runs hold, one behind the other
abbrev pub joined_runs : List ℕ → List Run → List ℕ
joined_runs image = flat_map (λ (run : Run). bytes_at image (512 * run.start) (512 * run.count))

-- how many sectors they have
abbrev pub total : List Run → ℕ
total = sum_by (λ (run : Run). run.count)

-- where on the disk sector `k` of the join stands, for each `k` that is less than the total
abbrev pub place : List Run → ℕ → ℕ
place [] k = k
place (run ∷ later) k = if nat_lt k run.count then run.start + k else place later (k - run.count)

-- a sector of the disk that is one of some run's
pub record IsInOne (runs : List Run) (k : ℕ) : Type 0 where
  pub run : Run
  pub among : Contains runs run
  pub is_in : IsIn run k
