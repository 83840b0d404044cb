-- A superblock that was read, as plain data.
use Rattle.xfs_super.specs.Geometry.{Geometry}
use Rattle.xfs_super.specs.declared.geometry.Super.{Super}

abbrev pub geometry_of : Super → Geometry
geometry_of s = record {
  dblocks = s.dblocks;
  uuid = s.uuid;
  meta = s.meta;
  label = s.label;
  logstart = s.logstart;
  logblocks = s.logblocks;
  rootino = s.rootino;
  agblocks = s.agblocks;
  agcount = s.agcount;
  agblklog = s.agblklog;
  sectsize = s.sectsize;
  inodesize = s.inodesize;
  inopblog = s.inopblog;
  finobt = s.finobt;
  sparse = s.sparse;
  bigtime = s.bigtime;
  inobtcount = s.inobtcount;
  nrext64 = s.nrext64;
}
