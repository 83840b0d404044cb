-- What lies before the runs so far is copied, and the rest of the runs lies ahead.
use Rattle.std.proofs.Common.{IsTrue}
use Rattle.disk_base.specs.Devices.{Used}
use Rattle.sparse_copy.proofs.Gaps.{IsCopyBelow}
use Rattle.sparse_copy.proofs.Walking.{IsAhead, Writing}
use Rattle.sparse_copy.proofs.copying.copy_kept.Given as goal

abbrev pub invariant-loop-index : goal.invariant-loop-index
invariant-loop-index g l = record {
  read : g.S.Blocks.only_read l.initial.source l.source;
  ahead : IsAhead l.low l.index (g.S.Blocks.size l.initial.source) l.runs;
  copied : IsTrue g.S.Blocks.tells → IsTrue g.T.Blocks.tells
      → IsCopyBelow l.low (g.S.Blocks.size l.initial.source) l.runs (g.S.Blocks.image l.initial.source) (g.T.Blocks.image l.target);
  writes : IsTrue g.S.Blocks.tells → IsTrue g.T.Blocks.tells
      → Writing (g.S.Blocks.image l.initial.source) l.low l.index l.runs (g.S.Blocks.size l.initial.source) (g.T.Disk.log l.initial.target) (g.T.Disk.log l.target);
  used : Used g.T.Blocks g.T.Disk l.initial.target l.target;
}
