-- One piece, and the next.
use Rattle.std.specs.Prelude.{◌≡◌, ℕ, ◌+◌, ◌*◌, ◌&&◌, Bool, if◌then◌else◌, List, IsTrue}
use Rattle.disk_base.specs.declared.device.Blocks.{Ghosts as BlocksGhosts}
use Rattle.disk_base.specs.declared.device.Disk.{Ghosts as DiskGhosts}
use Rattle.disk_base.specs.Image.{with_bytes}
use Rattle.run_copy.specs.declared.transfer.Transfer.{Transfer}
use Rattle.run_copy.specs.Copies.{all_zero, piece_of, WritesAtMost}

-- the disk after a piece was put to sector `at`, or left out
abbrev pub put_of : Bool → ℕ → List ℕ → List ℕ → List ℕ
put_of sparse at piece image = if sparse && all_zero piece then image else with_bytes image (512 * at) piece

-- the writes that it takes to put a piece: one, or none where it is left out
abbrev pub writes_of : Bool → List ℕ → ℕ
writes_of sparse piece = if sparse && all_zero piece then 0 else 1

-- the piece of that number was put to its place
abbrev pub PutNext : {S T : Type 0} → BlocksGhosts S → S → BlocksGhosts T → T → T → Transfer → ℕ → Type 0
PutNext s source t target target' transfer j =
    IsTrue s.tells → IsTrue t.tells
    → t.image target' ≡ put_of transfer.sparse (transfer.to + 2048 * j) (piece_of (s.image source) transfer j) (t.image target)

-- the piece of that number was put by so many writes
abbrev pub WritesNext : {S T : Type 0} → BlocksGhosts S → S → BlocksGhosts T → DiskGhosts T → T → T → Transfer → ℕ → Type 0
WritesNext s source t disk target target' transfer j =
    IsTrue s.tells → IsTrue t.tells → WritesAtMost (writes_of transfer.sparse (piece_of (s.image source) transfer j)) (disk.log target) (disk.log target')
