use Rattle.std.proofs.Common.{◌≡◌, ◌-◌, ◌≤◌, ℕ, List, IsTrue, length}
use Rattle.block_claims.specs.Agreement.{block}
use Rattle.xfs_super.specs.Super.{geometry_of}
use Rattle.xfs_inode.specs.inside.Searching.{FillsFile}
use Rattle.xfs_inode.proofs.content.file_at.Given as goal

pub record Kept (read told : Type 0) (old out : List ℕ) (n done : ℕ) : Type 0 where
  pub only : read
  pub within : done ≤ n
  pub long : length out ≡ length old
  pub fills : told

abbrev pub invariant-loop-done : goal.invariant-loop-done
invariant-loop-done g l =
    Kept (g.B.Blocks.only_read l.fn.disk l.disk)
    (IsTrue g.B.Blocks.tells → FillsFile (block (g.B.Blocks.image l.fn.disk)) (geometry_of l.geo) l.extents l.offset l.done l.fn.out l.out) l.fn.out l.out l.n l.done

abbrev pub decreases-loop-done : goal.decreases-loop-done
decreases-loop-done g l = l.n - l.done
