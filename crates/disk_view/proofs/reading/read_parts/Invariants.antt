-- The range is what was read so far, and the rest of it in the later runs.
use Rattle.std.proofs.Common.{◌≡◌, ◌-◌, ◌*◌, ◌++◌, IsTrue, length, take, drop, All}
use Rattle.disk_base.specs.Image.{bytes_at}
use Rattle.disk_base.specs.Run.{IsWithin}
use Rattle.disk_view.specs.Join.{joined_runs, total}
use Rattle.disk_view.proofs.Joins.{Reads}
use Rattle.disk_view.proofs.reading.read_parts.Given as goal

abbrev pub invariant-loop-run : goal.invariant-loop-run
invariant-loop-run g l =
    Reads (length l.initial.out) (length l.out) l.done l.at (total (drop l.run-index l.runs)) (g.B.Blocks.only_read l.initial.disk l.disk) (All (IsWithin (g.B.Blocks.size l.initial.disk)) (drop l.run-index l.runs))
    (IsTrue g.B.Blocks.tells → bytes_at (joined_runs (g.B.Blocks.image l.initial.disk) l.runs) (512 * l.initial.at) (length l.initial.out)
    ≡ take l.done l.out ++ bytes_at (joined_runs (g.B.Blocks.image l.initial.disk) (drop l.run-index l.runs)) (512 * l.at) (length l.initial.out - l.done))
