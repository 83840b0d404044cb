-- A superblock that passed the tests on its sizes, its groups and its log.
use Rattle.xfs_super.specs.Geometry.{AreGroups, AreSizes, IsLogPlace}
use Rattle.xfs_super.specs.declared.superblock.Superblock.{Superblock}

pub record HasLayout (s : Superblock) : Type 0 where
  pub groups : AreGroups s.dblocks s.agblocks s.agcount s.agblklog
  pub sizes : AreSizes s.sectsize s.inodesize s.inopblog
  pub log : IsLogPlace s.logstart s.logblocks s.dblocks s.agblocks s.agcount s.agblklog
