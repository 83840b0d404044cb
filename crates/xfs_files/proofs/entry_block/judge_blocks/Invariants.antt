use Rattle.std.proofs.Common.{IsTrue, map, take}
use Rattle.std.specs.List.{All}
use Rattle.block_claims.specs.Agreement.{block}
use Rattle.xfs_super.specs.Super.{geometry_of}
use Rattle.xfs_inode.specs.Seen.{extent_seen}
use Rattle.xfs_files.specs.Directory.{IsSoundEntryBlock, entry_blocks}
use Rattle.xfs_files.proofs.entry_block.judge_blocks.Given as goal

abbrev pub invariant-loop-extent : goal.invariant-loop-extent
invariant-loop-extent g l = record {
  read : g.B.Blocks.only_read l.fn.disk l.disk;
  sound : IsTrue g.B.Blocks.tells → All (IsSoundEntryBlock (geometry_of l.geo) l.ino)
      (entry_blocks (map (extent_seen (block (g.B.Blocks.image l.fn.disk)) (geometry_of l.geo)) (take l.extent-index l.extents)));
}
