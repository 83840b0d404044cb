-- The transfers so far were made, and nothing else was changed.
use Rattle.std.proofs.Common.{◌≤◌, IsTrue, length}
use Rattle.disk_base.specs.Devices.{Used}
use Rattle.disk_base.specs.Stops.{Follows}
use Rattle.run_copy.specs.Copies.{AreCopied, OnlyWithin}
use Rattle.run_copy.proofs.Copies.{Goes}
use Rattle.run_copy.proofs.copying.copy_all.Given as goal

abbrev pub invariant-loop-transfer : goal.invariant-loop-transfer
invariant-loop-transfer g l =
    Goes (g.S.Blocks.only_read l.initial.source l.source) (l.transfer-index ≤ length l.transfers)
    (IsTrue g.S.Blocks.tells → IsTrue g.T.Blocks.tells → AreCopied l.transfers l.transfer-index (g.S.Blocks.image l.initial.source) (g.T.Blocks.image l.initial.target) (g.T.Blocks.image l.target))
    (Unit {0})
    (IsTrue g.T.Blocks.tells → OnlyWithin l.transfers (g.T.Blocks.image l.initial.target) (g.T.Blocks.image l.target))
    (Used g.T.Blocks g.T.Disk l.initial.target l.target)
    (IsTrue g.T.Disk.tells_stops → Follows (OnlyWithin l.transfers) (g.T.Disk.stops l.initial.target) (g.T.Disk.stops l.target))
