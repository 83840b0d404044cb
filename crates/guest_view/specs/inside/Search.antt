-- The search for two partitions that clash.
use Rattle.std.specs.Prelude.{ℕ, ◌<◌, List, length}
use Rattle.guest_view.specs.declared.partition.Partition.{Partition}
use Rattle.guest_view.specs.Partitions.{Clash}

-- partition k clashes with none of the later ones before partition l
abbrev pub ClashesWithNone : List Partition → ℕ → ℕ → Type 0
ClashesWithNone partitions k l = (j : ℕ) → k < j → j < l → Clash partitions k j → ⊥

-- partition l is the first behind partition k that clashes with it
pub record IsFirstBehind (partitions : List Partition) (k l : ℕ) : Type 0 where
  pub order : k < l
  pub within : l < length partitions
  pub clash : Clash partitions k l
  pub none_before : ClashesWithNone partitions k l
