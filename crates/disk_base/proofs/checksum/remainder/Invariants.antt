use Rattle.std.proofs.Common.{◌≡◌, ℕ, take}
use Rattle.disk_base.specs.Checksum.{bits, message, rest_after}
use Rattle.disk_base.specs.inside.Tables.{IsTable}
use Rattle.disk_base.proofs.checksum.remainder.Given as goal

abbrev pub invariant-loop-byte : goal.invariant-loop-byte
invariant-loop-byte l =
    (polynomial : ℕ) → IsTable polynomial l.table → bits 32 l.rest ≡ rest_after (bits 32 polynomial) (bits 32 l.start) (message (take l.byte-index l.bytes))
