use Rattle.std.proofs.Common.{ℕ, ◌+◌, ◌<◌, IsTrue}
use Rattle.block_claims.specs.Agreement.{block}
use Rattle.xfs_super.specs.Super.{geometry_of}
use Rattle.xfs_inode.specs.Extents.{block_named}
use Rattle.xfs_files.specs.Directory.{IsSoundEntryBlock}
use Rattle.xfs_files.specs.inside.Judging.{held_block}
use Rattle.xfs_files.proofs.entry_block.judge_extent.Given as goal

abbrev pub invariant-loop-k : goal.invariant-loop-k
invariant-loop-k g l = record {
  read : g.B.Blocks.only_read l.fn.disk l.disk;
  sound : IsTrue g.B.Blocks.tells → (j : ℕ) → j < l.k
      → IsSoundEntryBlock (geometry_of l.geo) l.ino (held_block (l.extent.file + j) (block_named (geometry_of l.geo) l.extent.block + j) (block (g.B.Blocks.image l.fn.disk) (block_named (geometry_of l.geo) l.extent.block + j)));
}
