use Rattle.std.proofs.Common.{◌≡◌, length}
use Rattle.table_tests.proofs.guests.disk_with.Given as goal

abbrev pub invariant-loop-sector : goal.invariant-loop-sector
invariant-loop-sector l = length l.image.items ≡ 204800
