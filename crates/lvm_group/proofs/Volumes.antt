-- How many volumes there are.
use Rattle.std.proofs.Common.{◌≡◌, ℕ, suc, List, [], ◌∷◌, length, refl, ap}
use Rattle.lvm_group.specs.declared.types.PhysicalVolume.{PhysicalVolume}
use Rattle.lvm_group.specs.declared.types.LogicalVolume.{LogicalVolume}
use Rattle.lvm_group.specs.Volumes.{volumes_with}

pub volume_count : (ps : List PhysicalVolume) (extent : ℕ) (ls : List LogicalVolume) → length (volumes_with ps extent ls) ≡ length ls
volume_count ps extent [] = refl
volume_count ps extent (l ∷ ls) = ap suc (volume_count ps extent ls)
