-- Some blocks of a directory as they are judged, block by block.
use Rattle.std.specs.Prelude.{◌≡◌, ℕ, List, ◌⊎◌}
use Rattle.xfs_super.specs.Geometry.{Geometry}
use Rattle.xfs_super.specs.declared.reason.CheckFault.{CheckFault}
use Rattle.xfs_super.specs.declared.reason.CheckFault.TheVariants as check
use Rattle.xfs_super.specs.declared.reason.Reason.TheVariants as why
use Rattle.xfs_files.specs.Directory.{DirectoryBlock, HasBadEntryBlock}

-- block `file` of a directory, which is block `at` of the volume and holds these bytes
abbrev pub held_block : ℕ → ℕ → List ℕ → DirectoryBlock
held_block file at bytes = record { file = file; at = at; bytes = bytes }

-- the fault names one of the blocks, which isn't sound
pub record NamesBadBlock (geo : Geometry) (ino : ℕ) (blocks : List DirectoryBlock) (fault : CheckFault) : Type 0 where
  pub file : ℕ
  pub names : fault ≡ check.Bad (why.Directory ino file)
  pub bad : HasBadEntryBlock geo ino blocks file

-- it does, or a read failed
abbrev pub IsBlocksFault : Geometry → ℕ → List DirectoryBlock → CheckFault → Type 0
IsBlocksFault geo ino blocks fault = (fault ≡ check.Device) ⊎ NamesBadBlock geo ino blocks fault
