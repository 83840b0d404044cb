-- The pieces so far were copied, and nothing else was changed.
use Rattle.std.proofs.Common.{◌*◌, min, IsTrue}
use Rattle.disk_base.specs.Devices.{Used}
use Rattle.disk_base.specs.Stops.{Follows}
use Rattle.run_copy.specs.Copies.{pieces_written, IsCopied, WritesAtMost, OnlyIn}
use Rattle.run_copy.proofs.Copies.{Goes}
use Rattle.run_copy.proofs.copying.copy_run.Given as goal

abbrev pub invariant-loop-number : goal.invariant-loop-number
invariant-loop-number g l =
    Goes (g.S.Blocks.only_read l.initial.source l.source) (Unit {0})
    (IsTrue g.S.Blocks.tells → IsTrue g.T.Blocks.tells → IsCopied l.transfer (min (2048 * l.number) l.transfer.count) (g.S.Blocks.image l.initial.source) (g.T.Blocks.image l.initial.target) (g.T.Blocks.image l.target))
    (IsTrue g.S.Blocks.tells → IsTrue g.T.Blocks.tells → WritesAtMost (pieces_written (g.S.Blocks.image l.initial.source) l.transfer l.number) (g.T.Disk.log l.initial.target) (g.T.Disk.log l.target))
    (IsTrue g.T.Blocks.tells → OnlyIn l.transfer (g.T.Blocks.image l.initial.target) (g.T.Blocks.image l.target))
    (Used g.T.Blocks g.T.Disk l.initial.target l.target)
    (IsTrue g.T.Disk.tells_stops → Follows (OnlyIn l.transfer) (g.T.Disk.stops l.initial.target) (g.T.Disk.stops l.target))
