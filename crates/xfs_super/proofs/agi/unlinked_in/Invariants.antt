use Rattle.std.proofs.Common.{◌≡◌, ℕ, ◌+◌, ◌*◌, ◌<◌, length, get_or}
use Rattle.disk_base.specs.Fields.{big_at}
use Rattle.xfs_super.proofs.agi.unlinked_in.Given as goal

abbrev pub invariant-loop-i : goal.invariant-loop-i
invariant-loop-i l = (length l.out ≡ 64) × ((k : ℕ) → k < l.i → get_or l.out k 0 ≡ big_at 4 l.bytes (40 + 4 * k))
