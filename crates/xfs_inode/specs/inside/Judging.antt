-- What is judged of an inode by its bytes alone.
use Rattle.std.specs.Prelude.{◌≡◌, ℕ, Bool, true, ◌&&◌, List}
use Rattle.xfs_super.specs.Geometry.{Geometry}
use Rattle.xfs_inode.specs.declared.core_fields.Core.{Core}
use Rattle.xfs_inode.specs.Core.{core_of}
use Rattle.xfs_inode.specs.Inode.{is_root_sound}
use Rattle.xfs_inode.specs.Seen.{spells_inode}

abbrev pub is_judged : Geometry → ℕ → List ℕ → Bool
is_judged geo ino bytes = spells_inode geo ino bytes && is_root_sound geo ino (core_of geo bytes)

-- the core of bytes that pass
pub record IsJudgedCore (geo : Geometry) (ino : ℕ) (bytes : List ℕ) (core : Core) : Type 0 where
  pub is : core ≡ core_of geo bytes
  pub passes : is_judged geo ino bytes ≡ true
