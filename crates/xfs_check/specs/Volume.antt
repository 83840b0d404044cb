-- A valid volume as a value: what its superblock says, and of each group the headers and the free space.
use Rattle.std.specs.Prelude.{List, map}
use Rattle.xfs_alloc.specs.FreeSpace.{FreeSpace, free_space}
use Rattle.xfs_check.specs.Seen.{SeenGroup, SeenVolume, agf_seen, agi_seen, geometry_seen}
use Rattle.xfs_super.specs.Geometry.{Geometry}
use Rattle.xfs_super.specs.declared.agf.Agf.{Agf}
use Rattle.xfs_super.specs.declared.agi.Agi.{Agi}

pub record GroupSpace : Type 0 where
  pub agf : Agf
  pub agi : Agi
  pub free : FreeSpace

pub record VolumeSpace : Type 0 where
  pub geometry : Geometry
  pub groups : List GroupSpace

abbrev pub group_space : Geometry → SeenGroup → GroupSpace
group_space geo x = record { agf = agf_seen x.head; agi = agi_seen x.head; free = free_space geo x.number x.free }

abbrev pub volume_space : SeenVolume → VolumeSpace
volume_space s = record { geometry = geometry_seen s; groups = map (group_space (geometry_seen s)) s.groups }
