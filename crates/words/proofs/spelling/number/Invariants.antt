use Rattle.std.proofs.Common.{◌≡◌, ◌≤◌, ◌+◌, ◌*◌, ◌^◌, take}
use Rattle.words.specs.Numbers.{spelled_number}
use Rattle.words.proofs.spelling.number.Given as goal

abbrev pub invariant-loop-byte : goal.invariant-loop-byte
invariant-loop-byte l = record { value : l.number ≡ spelled_number (take l.byte-index l.digits); small : l.number + 23 ≤ 23 * 10 ^ l.byte-index }
