-- The writes so far were made, and nothing else was changed.
use Rattle.std.proofs.Common.{◌≤◌, IsTrue, length}
use Rattle.disk_base.specs.Devices.{Used}
use Rattle.disk_base.specs.Stops.{Follows}
use Rattle.target_work.specs.inside.Phases.{ArePut, OnlyInWrites}
use Rattle.target_work.proofs.Putting.{Puts}
use Rattle.target_work.proofs.carrying.put_all.Given as goal

abbrev pub invariant-loop-piece : goal.invariant-loop-piece
invariant-loop-piece g l =
    Puts (l.piece-index ≤ length l.writes)
    (IsTrue g.T.Blocks.tells → ArePut l.writes l.piece-index (g.T.Blocks.image l.initial.target) (g.T.Blocks.image l.target))
    (IsTrue g.T.Blocks.tells → OnlyInWrites l.writes (g.T.Blocks.image l.initial.target) (g.T.Blocks.image l.target))
    (Used g.T.Blocks g.T.Disk l.initial.target l.target)
    (IsTrue g.T.Disk.tells_stops → Follows (OnlyInWrites l.writes) (g.T.Disk.stops l.initial.target) (g.T.Disk.stops l.target))
